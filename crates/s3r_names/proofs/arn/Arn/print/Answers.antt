use Rattle.std.proofs.Common.{◌≡◌, ◌∙◌, sym, ap, Bool, true, ℕ, List, String, Some, Result, Ok, Err, string_bytes}
use Rattle.std.specs.Result.{IfOk, OnOk}
use Rattle.s3r_names.specs.Arn.{arn_of, arn_text}
use Rattle.s3r_names.specs.declared.arn.Arn.{Arn}
use Rattle.s3r_names.proofs.Arns.{bucket-reads, object-reads}
use Rattle.s3r_names.proofs.arn.Arn.print.Goals as goal

print-reads : {A E : Type 0} (printed : Result (String A) E) (named : Bool) (arn self : Arn) → self ≡ arn
    → OnOk printed (named ≡ true) → IfOk printed (λ text. string_bytes text ≡ arn_text arn)
    → ((text : List ℕ) → named ≡ true → text ≡ arn_text arn → arn_of text ≡ Some arn)
    → IfOk printed (λ text. arn_of (string_bytes text) ≡ Some self)
print-reads (Ok text) named arn self is h e reads = reads (string_bytes text) h e ∙ ap (λ (a : Arn). Some a) (sym is)
print-reads (Err error) named arn self is h e reads = tt

pub returns-in-Bucket-clause-reads : goal.returns-in-Bucket-clause-reads
returns-in-Bucket-clause-reads c = print-reads c.bucket_text.result _ _ c.args.self.now c.in-Bucket.is c.bucket_text.ensures.named c.bucket_text.ensures.text
    (bucket-reads c.in-Bucket.bucket)

pub returns-in-Object-clause-reads : goal.returns-in-Object-clause-reads
returns-in-Object-clause-reads c = print-reads c.object_text.result _ _ c.args.self.now c.in-Object.is c.object_text.ensures.named c.object_text.ensures.text
    (object-reads c.in-Object.bucket c.in-Object.key)

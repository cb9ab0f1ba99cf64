use Rattle.std.proofs.Common.{◌≡◌, ℕ, List, [], ◌∷◌, ◌++◌, Result, Ok, Err, OnOk, ap, ◌∙◌, append_assoc}
use Rattle.s3r_record.specs.Fields.{flag, option_text, rule_bytes}
use Rattle.s3r_record.proofs.RuleLaws.{front_for, front_bytes, back_for, back_bytes, joined}
use Rattle.s3r_record.proofs.rule_writing.write_rule.Goals as goal

on_ok : {T E : Type 0} {P Q : Type 0} (r : Result T E) → (P → Q) → OnOk r P → OnOk r Q
on_ok (Ok x) step p = step p
on_ok (Err e) step p = tt

behind : (out front region class last : List ℕ) → (((out ++ front) ++ region) ++ class) ++ last ≡ out ++ (front ++ (region ++ class ++ last))
behind out front region class last = simp append_assoc

pub returns-clause-spelled : goal.returns-clause-spelled
returns-clause-spelled c =
    let rule = c.args.rule.now in
    let front = front_bytes (front_for rule) in
    let region = c.args.region ∷ [] in
    let class = option_text rule.class in
    let last = flag rule.replica_modifications in
    let to_region : c.push.new.self.items ≡ (c.args.out.now.items ++ front) ++ region =
    c.in_ok-push.ensures.items ∙ ap (λ (bytes : List ℕ). bytes ++ region) c.in_ok-write_front.ensures.spelled in
    let to_class : c.write_class.new.out.items ≡ ((c.args.out.now.items ++ front) ++ region) ++ class =
    c.in_ok-write_class.ensures ∙ ap (λ (bytes : List ℕ). bytes ++ class) to_region in
    let all : front ++ back_bytes (back_for (rule, c.args.region)) ≡ rule_bytes (rule, c.args.region) =
    joined (front_for rule) (back_for (rule, c.args.region)) in
    on_ok c.write_flag.result
    (λ e. e ∙ ap (λ (bytes : List ℕ). bytes ++ last) to_class ∙ behind c.args.out.now.items front region class last
    ∙ ap (λ (bytes : List ℕ). c.args.out.now.items ++ bytes) all)
    c.write_flag.ensures

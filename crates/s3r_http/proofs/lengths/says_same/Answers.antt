use Rattle.std.proofs.Common.{◌≡◌, true, ◌&&◌, sym, ◌∙◌, ap}
use Rattle.std.specs.Prelude.{◌==◌}
use Rattle.std.specs.Str.{bytes_eq}
use Rattle.s3r_http.specs.Lines.{is_number, number_of}
use Rattle.s3r_http.proofs.Numbers.{number_of-significant}
use Rattle.s3r_http.proofs.lengths.says_same.Goals as goal

pub returns-then-is_number : goal.returns-then-is_number
returns-then-is_number c =
    let first = c.args.first.now in
    let value = c.args.value.now in
    let number : is_number value ≡ true = sym c.if-is_number.ensures in
    c.eq.ensures
    ∙ (λ i. bytes_eq (c.significant.ensures i) (c.significant-then-is_number.ensures i))
    ∙ number_of-significant value first number c.requires
    ∙ sym (ap (λ b. b && (number_of value == number_of first)) number)

use Rattle.std.proofs.Common.{◌≡◌, ◌++◌, map, List, ℕ}
use Rattle.form_urlencoded.specs.Form as form
use Rattle.form_urlencoded.specs.Parse.{raw_pairs_left}
use Rattle.s3r_names.proofs.form.form_pairs.Given as goal

abbrev decoded : List ℕ × List ℕ → List ℕ × List ℕ
decoded (name, value) = (form.decode name, form.decode value)

abbrev pub invariant-loop-name : goal.invariant-loop-name
invariant-loop-name l = l.pairs.items ++ map decoded (raw_pairs_left l.name-iterator) ≡ form.parse l.fn.text

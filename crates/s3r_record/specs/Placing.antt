-- What a command holds of a configuration besides its rules.
use Rattle.std.specs.Prelude.{◌≡◌, ℕ, Bool, true, not, ◌==◌, ◌&&◌, ◌||◌, nat_le, List, [], ◌∷◌, length, IsTrue}
use Rattle.std.specs.List.{list_all, zip}
use Rattle.std.specs.Str.{bytes_eq, is_utf8}
use Rattle.s3r_rules.specs.declared.rule.Rule.{Rule}

-- rules to one bucket, each beside its region, have one region
abbrev pub have_one_region : Rule × ℕ → Rule × ℕ → Bool
have_one_region first second = not (bytes_eq first.0.bucket second.0.bucket) || first.1 == second.1

abbrev pub agree : List (Rule × ℕ) → Bool
agree [] = true
agree (placed ∷ others) = list_all (have_one_region placed) others && agree others

-- each rule's bucket is in one of eight regions
pub record IsPlaced (rules : List Rule) (beside : List ℕ) : Type 0 where
  pub count : length beside ≡ length rules
  pub regions : IsTrue (list_all (λ region. nat_le region 7) beside)
  pub agree : IsTrue (agree (zip rules beside))

-- the texts of a rule that its own rule lets be any bytes
abbrev pub has_texts : Rule → Bool
has_texts rule = is_utf8 rule.id && is_utf8 rule.prefix

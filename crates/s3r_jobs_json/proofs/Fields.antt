-- How many fields a manifest has.
use Rattle.std.proofs.Common.{◌≡◌, ◌<◌, ◌≤◌, List, [], ◌∷◌, length, None, refl, arith}
use Rattle.serde_json.specs.View.{items_view}
use Rattle.serde_json.specs.declared.value.Value.{Value}
use Rattle.s3r_jobs_json.specs.Form.{versions_in}

pub too_few : (fields : List Value) → length fields < 2 → None ≡ versions_in (items_view fields)
too_few [] few = refl
too_few (bucket ∷ []) few = refl
too_few (bucket ∷ key ∷ fields) few = absurd (omega arith)

pub too_many : (fields : List Value) → 4 ≤ length fields → None ≡ versions_in (items_view fields)
too_many [] many = absurd (omega arith)
too_many (bucket ∷ []) many = absurd (omega arith)
too_many (bucket ∷ key ∷ []) many = absurd (omega arith)
too_many (bucket ∷ key ∷ id ∷ []) many = absurd (omega arith)
too_many (bucket ∷ key ∷ id ∷ more ∷ fields) many = refl

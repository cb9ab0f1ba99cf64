-- Entries beside their statuses, as a loop goes over them.
use Rattle.std.proofs.Common.{◌≡◌, ◌⊎◌, inl, inr, Bool, List, [], ◌∷◌, ◌++◌, map, filter, zip, refl, sym, subst, ◌∙◌}
use Rattle.std.proofs.lemmas.List.{append-nil}
use Rattle.serde_json.specs.Data.{Data}
use Rattle.s3r_names.specs.declared.outcome.Status.{Status}
use Rattle.s3r_versions.specs.declared.listing.Listed.{Listed}
use Rattle.s3r_api.specs.Listings.{Shown}

-- those that pass a test, as data
abbrev pub those : (Shown → Bool) → (Shown → Data) → List Shown → List Data
those test shape all = map shape (filter test all)

none_left : (es : List Listed) (ss : List Status) → (es ≡ []) ⊎ (ss ≡ []) → zip es ss ≡ []
none_left es ss (inl over) = rw over refl
none_left [] ss (inr over) = refl
none_left (entry ∷ es) ss (inr over) = rw over refl

-- where one list is at its end, what is made so far is all
pub all_made : (test : Shown → Bool) (shape : Shown → Data) (made all : List Data) (es : List Listed) (ss : List Status) → (es ≡ []) ⊎ (ss ≡ [])
    → made ++ those test shape (zip es ss) ≡ all → made ≡ all
all_made test shape made all es ss over so_far =
    sym (append-nil made) ∙ subst (λ (left : List Shown). made ++ those test shape left ≡ all) (none_left es ss over) so_far

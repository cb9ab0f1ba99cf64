-- Lists item by item.
use Rattle.std.proofs.Common.{◌≡◌, ◌&&◌, ℕ, Bool, List, [], ◌∷◌, ◌++◌, Option, Some, None, map, refl, ap, sym, ◌∙◌, string_bytes}
use Rattle.std.specs.List.{list_any}
use Rattle.serde_json.specs.View.{members_view}
use Rattle.serde_json.proofs.Views.{Entry}
use Rattle.s3r_json.specs.Members.{is_named, are_named}
use Rattle.s3r_names.specs.declared.tags.Tag.{Tag}

-- what was read, and then what the rest gives
abbrev pub after : List Tag → Option (List Tag) → Option (List Tag)
after done None = None
after done (Some tags) = Some (done ++ tags)

pub list_any-map : {A B : Type 0} (test : B → Bool) (f : A → B) (xs : List A) → list_any test (map f xs) ≡ list_any (λ x. test (f x)) xs
list_any-map test f [] = refl
list_any-map test f (x ∷ xs) = rw (list_any-map test f xs) refl

-- whether the members are named, by the first of them
pub by_first : (names : List (List ℕ)) (entries more : List Entry) (e : Entry) (named : Bool) → entries ≡ e ∷ more → named ≡ is_named names (string_bytes e.0)
    → are_named names (members_view entries) ≡ (named && are_named names (members_view more))
by_first names entries more e named is h = ap (λ es. are_named names (members_view es)) is ∙ ap (λ b. b && are_named names (members_view more)) (sym h)

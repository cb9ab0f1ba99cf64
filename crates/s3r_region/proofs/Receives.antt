-- A version that is received.
use Rattle.std.proofs.Common.{◌≡◌, ℕ, Bool, true, false, cond, not, is_some, is_none, true≢false, List, [], ◌∷◌, Option, Some, None, Bor, option_copied, refl, sym, ap, ◌∙◌}
use Rattle.s3r_names.specs.Stamp.{is_before}
use Rattle.s3r_names.specs.declared.stamp.Stamp.{Stamp}
use Rattle.s3r_names.specs.declared.tags.Tag.{Tag}
use Rattle.s3r_names.specs.declared.version.VersionId.{VersionId}
use Rattle.s3r_record.specs.declared.effect.Effect.TheVariants as effects
use Rattle.s3r_versions.specs.Lookup.{is_version, find_version}
use Rattle.s3r_versions.specs.Contents.{with_row, on_version, with_tags, with_hold}
use Rattle.s3r_history.specs.Words.{Name}
use Rattle.s3r_history.specs.Past.{Entry, Carried}
use Rattle.s3r_history.specs.Carried.{target_of, key_of, id_of}
use Rattle.s3r_history.specs.Deeds.{version, marker, first_stamp, brought}
use Rattle.s3r_history.proofs.Receiving.{change_of, joined, taken_in, take_in}
use Rattle.s3r_region.specs.declared.bucket.Bucket.{Bucket}
use Rattle.s3r_region.specs.After.{told_by}
use Rattle.s3r_region.specs.Changes.{met, received, changed}
use Rattle.s3r_region.specs.Receives.{change_by}

-- what is found at a place is found
there : (o : Option (Bor Entry)) (f : Option Entry) → option_copied o ≡ f → is_none o ≡ false → is_none f ≡ false
there None f same some = absurd cc
there (Some b) f same some = ap is_none (sym same)

pub is-there : (o : Option (Bor Entry)) (t : Bool) → is_some o ≡ not t → t ≡ false → is_none o ≡ false
is-there None t same e = absurd (true≢false (ap not (sym e) ∙ sym same))
is-there (Some b) t same e = refl

-- a version that is there is met
pub met-there : (row : Entry) (rows : List Entry) (o : Option (Bor Entry)) → option_copied o ≡ find_version row.key row.id rows → is_none o ≡ false
    → met row rows ≡ received row rows
met-there row rows o same some = sym (ap (λ t. cond t (with_row row rows) (met row rows)) (there o (find_version row.key row.id rows) same some))

pub marker-met : (row : Entry) (rows : List Entry) → row.marker ≡ true → rows ≡ met row rows
marker-met row rows e =
    sym (ap (λ t. cond t rows (on_version row.key row.id (with_hold row.hold_stamp row.hold) (on_version row.key row.id
    (with_tags row.tags_stamp row.tags) rows))) e)

pub object-met : (row : Entry) (rows : List Entry) → row.marker ≡ false
    → on_version row.key row.id (with_hold row.hold_stamp row.hold) (on_version row.key row.id (with_tags row.tags_stamp row.tags) rows) ≡ met row rows
object-met row rows e =
    sym (ap (λ t. cond t rows (on_version row.key row.id (with_hold row.hold_stamp row.hold) (on_version row.key row.id
    (with_tags row.tags_stamp row.tags) rows))) e)

-- ---- what an effect changes

same-id : (key : Name) (id : VersionId) (f : Entry → Entry) (rows : List Entry) → ((row : Entry) → f row ≡ row) → on_version key id f rows ≡ rows
same-id key id f [] same = refl
same-id key id f (row ∷ rows) same = ap (λ r. r ∷ on_version key id f rows) (go (is_version key id row)) ∙ ap (λ rs. row ∷ rs) (same-id key id f rows same)
  where
    go : (t : Bool) → cond t (f row) row ≡ row
    go true = same row
    go false = refl

none-changed : (key : Name) (id : VersionId) (f : Entry → Entry) (rows : List Entry) → find_version key id rows ≡ None → on_version key id f rows ≡ rows
none-changed key id f [] none = refl
none-changed key id f (row ∷ rows) none = go (is_version key id row) none (none-changed key id f rows)
  where
    go : (t : Bool) → cond t (Some row) (find_version key id rows) ≡ None → (find_version key id rows ≡ None → on_version key id f rows ≡ rows)
        → cond t (f row) row ∷ on_version key id f rows ≡ row ∷ rows
    go true none ih = absurd cc
    go false none ih = ap (λ rs. row ∷ rs) (ih none)

-- tags and hold are written in one row, or one after the other in all
one-after-other : (key : Name) (id : VersionId) (s t : Stamp) (tags : List Tag) (hold : Bool) (rows : List Entry)
    → on_version key id (with_hold t hold) (on_version key id (with_tags s tags) rows)
    ≡ on_version key id (λ (row : Entry). with_hold t hold (with_tags s tags row)) rows
one-after-other key id s t tags hold [] = refl
one-after-other key id s t tags hold (row ∷ rows) =
    ap (λ r. r ∷ on_version key id (with_hold t hold) (on_version key id (with_tags s tags) rows)) (one (is_version key id row) refl)
    ∙ ap (λ rs. cond (is_version key id row) (with_hold t hold (with_tags s tags row)) row ∷ rs) (one-after-other key id s t tags hold rows)
  where
    kept : (u : Bool) → is_version key id (cond u (record row { tags = tags; tags_stamp = s }) row) ≡ is_version key id row
    kept true = refl
    kept false = refl

    one : (u : Bool) → is_version key id row ≡ u
        → cond (is_version key id (cond u (with_tags s tags row) row)) (with_hold t hold (cond u (with_tags s tags row) row)) (cond u
        (with_tags s tags row) row)
        ≡ cond u (with_hold t hold (with_tags s tags row)) row
    one true is = ap (λ v. cond v (with_hold t hold (with_tags s tags row)) (with_tags s tags row)) (kept (is_before row.tags_stamp s) ∙ is)
    one false is = ap (λ v. cond v (with_hold t hold row) row) is

-- a row that is received, and an effect's version that is met
taken : (p s : ℕ) (e : Carried) (row : Entry) (rows : List Entry) → row.key ≡ key_of e → row.id ≡ id_of e
    → ((b : Name) → brought p s e ≡ Some (record { bucket = target_of e; row = row }))
    → met row rows ≡ on_version (key_of e) (id_of e) (change_of e) rows → received row rows ≡ taken_in p s e rows
taken p s e row rows key id brings meets =
    ap (λ k. cond (is_none (find_version k row.id rows)) (with_row row rows) (met row rows)) key
    ∙ ap (λ i. cond (is_none (find_version (key_of e) i rows)) (with_row row rows) (met row rows)) id
    ∙ go (is_none (find_version (key_of e) (id_of e) rows)) refl
  where
    none : (o : Option Entry) → is_none o ≡ true → o ≡ None
    none None h = refl
    none (Some x) h = absurd cc

    go : (t : Bool) → is_none (find_version (key_of e) (id_of e) rows) ≡ t
        → cond t (with_row row rows) (met row rows) ≡ joined (cond t (brought p s e) None) (on_version (key_of e) (id_of e) (change_of e) rows)
    go true is =
        ap (with_row row) (sym (none-changed (key_of e) (id_of e) (change_of e) rows (none _ is)))
        ∙ ap (λ o. joined o (on_version (key_of e) (id_of e) (change_of e) rows)) (sym (brings []))
    go false is = meets

no-more : (p s : ℕ) (e : Carried) (rows new : List Entry) → brought p s e ≡ None → new ≡ on_version (key_of e) (id_of e) (change_of e) rows
    → new ≡ taken_in p s e rows
no-more p s e rows new none same = same ∙ go (is_none (find_version (key_of e) (id_of e) rows))
  where
    go : (t : Bool) → on_version (key_of e) (id_of e) (change_of e) rows
        ≡ joined (cond t (brought p s e) None) (on_version (key_of e) (id_of e) (change_of e) rows)
    go true = ap (λ o. joined o (on_version (key_of e) (id_of e) (change_of e) rows)) (sym none)
    go false = refl

-- what the effect changes of its bucket is what is told after it
pub takes-in : (p s : ℕ) (e : Carried) (x : Bucket) → told_by (changed (change_by p s e) x) ≡ take_in p s e (told_by x)
takes-in p s (effects.Replica from to key id n tags tags_stamp hold hold_stamp class body) x =
    ap (λ rs. record (told_by x) { rows = rs }) (taken p s (effects.Replica from to key id n tags tags_stamp hold hold_stamp class body)
    (record (version (first_stamp id n) key tags hold class body) {
      place = p;
      tags_stamp = tags_stamp;
      hold_stamp = hold_stamp;
      origin = Some (record { region = s; bucket = from });
    }) x.rows.rows refl refl (λ b. refl) (one-after-other key id tags_stamp hold_stamp tags hold x.rows.rows))
takes-in p s (effects.Marker from to key id n) x =
    ap (λ rs. record (told_by x) { rows = rs }) (taken p s (effects.Marker from to key id n)
    (record (marker (first_stamp id n) key) { place = p; origin = Some (record { region = s; bucket = from }) })
    x.rows.rows refl refl (λ b. refl) (sym (same-id key id (λ (row : Entry). row) x.rows.rows (λ row. refl))))
takes-in p s (effects.Tags from to key id tags stamp) x =
    ap (λ rs. record (told_by x) { rows = rs }) (no-more p s (effects.Tags from to key id tags stamp) x.rows.rows _ refl refl)
takes-in p s (effects.Hold from to key id hold stamp) x =
    ap (λ rs. record (told_by x) { rows = rs }) (no-more p s (effects.Hold from to key id hold stamp) x.rows.rows _ refl refl)

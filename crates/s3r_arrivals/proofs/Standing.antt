-- A version that stands in its bucket stands there until it is removed.
use Rattle.std.proofs.Common.{◌≡◌, ℕ, Bool, true, false, cond, ◌&&◌, ◌+◌, is_none, length, List, [], ◌∷◌, ◌++◌, Option, Some, None, bytes_eq, refl, sym, ap, ap₂, subst, ◌∙◌, true≢false}
use Rattle.std.specs.Prelude.{option_map, is_some}
use Rattle.std.specs.List.{list_any}
use Rattle.std.proofs.lemmas.Bool.{and_from, or_parts}
use Rattle.std.proofs.lemmas.Slice.Eq.{bytes_eq-Decides}
use Rattle.s3r_names.specs.declared.outcome.Outcome.TheVariants as outcomes
use Rattle.s3r_names.specs.declared.version.VersionId.{VersionId}
use Rattle.s3r_record.specs.declared.command.Command.{Command}
use Rattle.s3r_record.specs.declared.command.Command.TheVariants as command
use Rattle.s3r_record.specs.declared.effect.Effect.TheVariants as effects
use Rattle.s3r_versions.specs.Lookup.{id_eq, find_version}
use Rattle.s3r_versions.proofs.Versions.{names_itself}
use Rattle.s3r_history.specs.Words.{Name, History, or_else, newest}
use Rattle.s3r_history.specs.Buckets.{Birth, creates, begins_or_ends, birth, flat, is_enabled, configuration, names}
use Rattle.s3r_history.specs.Past.{Entry, Carried}
use Rattle.s3r_history.specs.Carried.{target_of, key_of, id_of, is_change, is_applied}
use Rattle.s3r_history.specs.Rows.{removes, adds_it, rows, row_at}
use Rattle.s3r_history.specs.BucketView.{BucketView, told_as}
use Rattle.s3r_history.specs.Deeds.{deeds, brought, judge}
use Rattle.s3r_history.specs.Told.{told}
use Rattle.s3r_history.specs.Judging.{judged}
use Rattle.s3r_history.specs.Accepts.{first_of_causes, of_creation, in_bucket, of_deletion, has_rows, refusal, IsLawful}
use Rattle.s3r_history.specs.declared.refusal.Refusal.TheVariants as refusals
use Rattle.s3r_history.proofs.Unwritten.{done, not_before}
use Rattle.s3r_arrivals.specs.Arrivals.{has_version}

-- the bucket was created, and not deleted since
abbrev pub is_born : History → Name → Bool
is_born h b = is_some (birth h b)

-- the bucket is there, and the version among its rows
pub record Stands (r : ℕ) (h : History) (b k : Name) (i : VersionId) : Type 0 where
  pub born : is_born h b ≡ true
  pub there : row_at (deeds r h) b k i ≡ None → ⊥

some-found : {X : Type 0} (o : Option X) → (o ≡ None → ⊥) → is_some o ≡ true
some-found None there = absurd (there refl)
some-found (Some x) there = refl

pub stands-told : (r : ℕ) (h : History) (b k : Name) (i : VersionId) → Stands r h b k i → has_version k i (told r h b) ≡ true
stands-told r h b k i stands = go (birth h b) stands.born
  where
    go : (o : Option Birth) → is_some o ≡ true
        → has_version k i (option_map (told_as (deeds r h) b)
        (option_map (λ (at : Birth). record { birth = at.place; locked = at.locked; enabled = is_enabled h b; config = configuration h b }) o)) ≡ true
    go None born = absurd (true≢false (sym born))
    go (Some at) born = some-found (row_at (deeds r h) b k i) stands.there

-- ---- one command more

-- what is told of a bucket that was born
born-told : (r : ℕ) (h : History) (b : Name) → is_born h b ≡ true → (at : BucketView) × ((told r h b ≡ Some at) × (at.rows ≡ rows (deeds r h) b))
born-told r h b born = go (birth h b) born
  where
    go : (o : Option Birth) → is_some o ≡ true → (at : BucketView) × ((option_map (told_as (deeds r h) b)
        (option_map (λ (at : Birth). record { birth = at.place; locked = at.locked; enabled = is_enabled h b; config = configuration h b }) o) ≡ Some at)
        × (at.rows ≡ rows (deeds r h) b))
    go None born = absurd (true≢false (sym born))
    go (Some at) born =
        (told_as (deeds r h) b (record { birth = at.place; locked = at.locked; enabled = is_enabled h b; config = configuration h b }), (refl, refl))

-- a bucket that is there isn't created again
not-created : (n r : ℕ) (h : History) (name b : Name) (locked : Bool) → refusal n r h (command.CreateBucket name locked) ≡ None → is_born h b ≡ true
    → bytes_eq name b ≡ false
not-created n r h name b locked ok born = go (bytes_eq name b) refl
  where
    go : (t : Bool) → bytes_eq name b ≡ t → t ≡ false
    go false e = refl
    go true e =
        let same = (bytes_eq-Decides name b).0 e in
        let there = born-told r h name (subst (λ (x : Name). is_born h x ≡ true) (sym same) born) in
        absurd (refused (told r h name) there.0 there.1.0 ok)
      where
        refused : (o : Option BucketView) (at : BucketView) → o ≡ Some at
            → first_of_causes (of_creation o (length (names h))) ≡ None → ⊥
        refused None at is ok = absurd cc
        refused (Some x) at is ok = absurd cc

-- nor is it deleted as long as it has a row
not-deleted : (n r : ℕ) (h : History) (name b k : Name) (i : VersionId) → refusal n r h (command.DeleteBucket name) ≡ None → Stands r h b k i
    → bytes_eq name b ≡ false
not-deleted n r h name b k i ok stands = go (bytes_eq name b) refl
  where
    go : (t : Bool) → bytes_eq name b ≡ t → t ≡ false
    go false e = refl
    go true e =
        let same = (bytes_eq-Decides name b).0 e in
        let there = born-told r h name (subst (λ (x : Name). is_born h x ≡ true) (sym same) stands.born) in
        let none : row_at (deeds r h) name k i ≡ None → ⊥ = subst (λ (x : Name). row_at (deeds r h) x k i ≡ None → ⊥) (sym same) stands.there in
        absurd (refused _ (told r h name) there.0 there.1.0 there.1.1 none ok)
      where
        refused : (reported : Bool) (o : Option BucketView) (at : BucketView) → o ≡ Some at → at.rows ≡ rows (deeds r h) name → (row_at (deeds r h) name k i ≡ None → ⊥)
            → first_of_causes (in_bucket (of_deletion reported) o) ≡ None → ⊥
        refused reported None at is same there ok = absurd cc
        refused reported (Some x) at is same there ok =
            let that : x ≡ at = cc in
            empty (rows (deeds r h) name) (sym same ∙ ap (λ (t : BucketView). t.rows) (sym that)) there ok
          where
            empty : (rs : List Entry) → rs ≡ x.rows → (find_version k i rs ≡ None → ⊥) → first_of_causes (of_deletion reported x) ≡ None → ⊥
            empty [] e there ok = there refl
            empty (row ∷ rs) e there ok =
                let has : first_of_causes (of_deletion reported x) ≡ Some refusals.BucketNotEmpty =
                ap (λ (xs : List Entry). first_of_causes ((has_rows xs, refusals.BucketNotEmpty) ∷ (reported, refusals.InvalidBucketState) ∷ [])) (sym e) in
                absurd cc

still-there : (r : ℕ) (h : History) (c : Command) (b k : Name) (i : VersionId) → creates b c ≡ false → removes b k i c ≡ false
    → (row_at (deeds r h) b k i ≡ None → ⊥) → row_at (deeds r (c ∷ h)) b k i ≡ None → ⊥
still-there r h c b k i goes_on stays there none = there (not_before r h c b k i goes_on stays none).0

pub stands-next : (n r : ℕ) (h : History) (c : Command) (b k : Name) (i : VersionId) → refusal n r h c ≡ None → removes b k i c ≡ false
    → Stands r h b k i → Stands r (c ∷ h) b k i
stands-next n r h (command.CreateBucket name locked) b k i ok stays stands =
    let other = not-created n r h name b locked ok stands.born in
    record {
      born = ap (λ t. is_some (flat (or_else (cond t (Some (Some (record { place = length h + 1; locked = locked }))) None)
          (newest (begins_or_ends b) h)))) other
          ∙ stands.born;
      there = still-there r h (command.CreateBucket name locked) b k i other stays stands.there;
    }
stands-next n r h (command.DeleteBucket name) b k i ok stays stands =
    let other = not-deleted n r h name b k i ok stands in
    record {
      born = ap (λ t. is_some (flat (or_else (cond t (Some None) None) (newest (begins_or_ends b) h)))) other ∙ stands.born;
      there = still-there r h (command.DeleteBucket name) b k i refl stays stands.there;
    }
stands-next n r h c b k i ok stays stands = record { born = stands.born; there = still-there r h c b k i refl stays stands.there }

-- So it stands behind further commands of which none removes it.
pub stands-later : (n r : ℕ) (later h : History) (b k : Name) (i : VersionId) → IsLawful n r (later ++ h) → list_any (removes b k i) later ≡ false
    → Stands r h b k i → Stands r (later ++ h) b k i
stands-later n r [] h b k i lawful stays stands = stands
stands-later n r (c ∷ later) h b k i lawful stays stands =
    let parts = or_parts (removes b k i c) (list_any (removes b k i) later) stays in
    stands-next n r (later ++ h) c b k i lawful.1 parts.0 (stands-later n r later h b k i lawful.2 parts.1 stands)

-- ---- an effect that is applied brings its version

applied-born : (r : ℕ) (h : History) (e : Carried) → judge r h e ≡ outcomes.Applied → is_born h (target_of e) ≡ true
applied-born r h e ok = go (birth h (target_of e)) ok
  where
    go : (o : Option Birth) → judged r (length h) e (option_map (told_as (deeds r h) (target_of e))
        (option_map (λ (at : Birth). record {
          birth = at.place;
          locked = at.locked;
          enabled = is_enabled h (target_of e);
          config = configuration h (target_of e);
        }) o)) ≡ outcomes.Applied → is_some o ≡ true
    go None ok = absurd cc
    go (Some at) ok = refl

itself : (b k : Name) (i : VersionId) → (bytes_eq b b && (bytes_eq k k && id_eq i i)) ≡ true
itself b k i = and_from _ _ ((bytes_eq-Decides b b).1 refl) (names_itself k i)

-- the version that it brings is the one that it names
brings-it : (p s : ℕ) (e : Carried) → is_change e ≡ false → adds_it (target_of e) (key_of e) (id_of e) (brought p s e) ≡ true
brings-it p s (effects.Replica from to key id n tags tags_stamp hold hold_stamp class body) brings = itself to key id
brings-it p s (effects.Marker from to key id n) brings = itself to key id
brings-it p s (effects.Tags from to key id tags stamp) brings = absurd cc
brings-it p s (effects.Hold from to key id hold stamp) brings = absurd cc

pub stands-received : (r : ℕ) (h : History) (s number : ℕ) (e : Carried) → judge r h e ≡ outcomes.Applied → is_change e ≡ false
    → Stands r (command.Receive s number e ∷ h) (target_of e) (key_of e) (id_of e)
stands-received r h s number e ok brings = record {
  born = applied-born r h e ok;
  there = λ none.
      let before = not_before r h (command.Receive s number e) (target_of e) (key_of e) (id_of e) refl refl none in
      let adds : (done r h (command.Receive s number e)).adds ≡ brought (length (deeds r h) + 1) s e =
      ap₂ (λ t u. cond (is_applied t && is_none u) (brought (length (deeds r h) + 1) s e) None) ok before.0 in
      true≢false (sym (brings-it (length (deeds r h) + 1) s e brings) ∙ ap (adds_it (target_of e) (key_of e) (id_of e)) (sym adds) ∙ before.1);
}

-- A commit to one region of several.
use Rattle.std.proofs.Common.{◌≡◌, ℕ, ◌<◌, Bool, false, List, ◌∷◌, length, Option, Some, None, IsSome, IsSomeAnd, Result, Ok, Err, slice_set, refl, sym, ◌∙◌, subst}
use Rattle.std.specs.Prelude.{slice_get}
use Rattle.s3r_world.specs.Outside.{Outside, Looks, Counts}
use Rattle.s3r_journal.proofs.Elsewhere.{left_looks, left_elsewhere}
use Rattle.s3r_record.specs.declared.command.Command.{Command}
use Rattle.s3r_history.specs.Words.{History}
use Rattle.s3r_store.specs.declared.fault.StoreFault.{StoreFault}
use Rattle.s3r_store.specs.declared.fault.StoreFault.TheVariants as store
use Rattle.s3r_store.specs.declared.loaded_region.LoadedRegion.{LoadedRegion}
use Rattle.s3r_store.specs.declared.store.Store.{Store}
use Rattle.s3r_store.specs.Knows.{Knows, Holds}
use Rattle.s3r_store.specs.Commits.{IsEither, Commits, IsCause, WhereDenied}
use Rattle.s3r_store.specs.Stores.{StoreCommits}
use Rattle.s3r_store.proofs.Committed.{stable_at, stands_for}
use Rattle.s3r_desk.specs.Events.{found, began, Events, known}
use Rattle.s3r_desk.specs.Keeping.{IsHeld, Keeps}
use Rattle.s3r_desk.specs.Responds.{CommitsOne}
use Rattle.s3r_desk.specs.Committing.{told_as}
use Rattle.s3r_desk.proofs.Places.{one_of}
use Rattle.s3r_desk.proofs.Knowing.{known_found, known_began, found_elsewhere, began_elsewhere}
use Rattle.s3r_desk.proofs.Stepping.{happens_none, happens_began, happens_committed}
use Rattle.s3r_desk.proofs.Keeps.{knows_as, keeps_set, held_left}
use Rattle.s3r_desk.proofs.Touched.{holds_held}

pub denied_so : {A : Type 0} (result : Result A StoreFault) (P Q : Type 0) → (P → Q) → WhereDenied result P → WhereDenied result Q
denied_so (Ok x) P Q f p = tt
denied_so (Err (store.Refused why)) P Q f p = f p
denied_so (Err (store.Full v)) P Q f p = f p
denied_so (Err (store.Volume v)) P Q f p = tt
denied_so (Err (store.Damaged v offset)) P Q f p = tt
denied_so (Err store.OutOfMemory) P Q f p = tt

-- the history of a store that was read
held_is : (n : ℕ) (before : Events) (r : ℕ) (h : History) (o : Option LoadedRegion) (w : Outside) → IsHeld n before r o w → known before r ≡ Some h → IsSome o
    → (held : LoadedRegion) × (o ≡ Some held) × Knows n r held h w
held_is n before r h None w was is read = absurd cc
held_is n before r h (Some held) w was is read = (held, refl, subst (λ (k : History). Knows n r held k w) (one_of (known before r) was.0 h was.1 is) was.2)

holds_some : (n v : ℕ) (o : Option LoadedRegion) (held : LoadedRegion) (h : History) (w : Outside) → o ≡ Some held → Knows n v held h w
    → IsSomeAnd o (λ x. Knows n v x h w)
holds_some n v o held h w is knows = subst (λ (x : Option LoadedRegion). IsSomeAnd x (λ y. Knows n v y h w)) (sym is) knows

module _ (before : Events) (n r : ℕ) (h : History) (c : Command) (room : ℕ) (stores : List Store) (s : Store) (old : Outside) (lt : r < length stores)
    (at : slice_get stores r ≡ Some s) (number : s.v ≡ r) (regions : s.regions ≡ n) (keeps : Keeps before stores old) (is : known before r ≡ Some h)
    (read : IsSome s.held) where
  here : (held : LoadedRegion) × (s.held ≡ Some held) × Knows n r held h old
  here = held_is n before r h s.held old (subst (λ (m : ℕ). IsHeld m before r s.held old) regions (keeps r s at)) is read

  pub holds_here : Holds s h old
  holds_here = holds_some s.regions s.v s.held here.0 h old here.1 (knows_as n s.regions r s.v here.0 h old (sym regions) (sym number) here.2)

  module _ (s' : Store) (new : Outside) (number' : s'.v ≡ r) (regions' : s'.regions ≡ n) where
    begun : (ok : Bool) → s'.held ≡ None → Commits n r h c ok old new → Keeps (began r c ∷ before) (slice_set stores r s') new
    begun ok unread did = keeps_set before (began r c ∷ before) stores r s' old new lt keeps
        (subst (λ (x : Option LoadedRegion). IsHeld s'.regions (began r c ∷ before) r x new) (sym unread) (known_began r c before))
        (λ q ne. began_elsewhere r q c before ne) (λ q ne. left_elsewhere r q (IsEither n r h c) (IsEither n r h c) old new ne did.images did.as_read)

    same : Looks old new → s'.held ≡ s.held → Keeps before (slice_set stores r s') new
    same looks is = keeps_set before before stores r s' old new lt keeps
        (subst (λ (x : Option LoadedRegion). IsHeld s'.regions before r x new) (sym is)
        (held_left s'.regions before before r s.held old new refl (left_looks r old new looks)
        (subst (λ (m : ℕ). IsHeld m before r s.held old) (regions ∙ sym regions') (keeps r s at))))
        (λ q ne. refl) (λ q ne. left_looks q old new looks)

    commits_so : (result : Result ℕ StoreFault) (a b : Counts) → StoreCommits n r h c result room s s' old new
        → WhereDenied result (Looks old new × (s'.held ≡ s.held)) → IsCause r result a b
        → CommitsOne before n r h c room (told_as result) (slice_set stores r s') old new
    commits_so (Ok index) a b told denied cause =
        let did = told.4 in
        let held = holds_held s'.regions s'.v s'.held (c ∷ h) new told.3 in (
          told.0,
          told.1,
          told.2,
          keeps_set before (found r (c ∷ h) ∷ began r c ∷ before) stores r s' old new lt keeps
              (subst (λ (x : Option LoadedRegion). IsHeld s'.regions (found r (c ∷ h) ∷ began r c ∷ before) r x new) (sym held.1)
              (c ∷ h, known_found r (c ∷ h) (began r c ∷ before), subst (λ (m : ℕ). Knows s'.regions m held.0 (c ∷ h) new) number' held.2))
              (λ q ne. found_elsewhere r q (c ∷ h) (began r c ∷ before) ne ∙ began_elsewhere r q c before ne)
              (λ q ne. left_elsewhere r q (IsEither n r h c) (IsEither n r h c) old new ne did.images did.as_read),
          happens_committed n r h c old new (stable_at r here.0.end _ old here.2.volume) (stands_for n r here.0 h old here.2) did,
        )
    commits_so (Err (store.Refused why)) a b told denied cause = (told, same denied.0 denied.1, happens_none n old new denied.0)
    commits_so (Err (store.Full v)) a b told denied cause = (cause, told.0, told.1, same denied.0 denied.1, happens_none n old new denied.0)
    commits_so (Err (store.Volume v)) a b told denied cause = (
      cause.0,
      told.0,
      told.1,
      begun false told.2 told.3,
      happens_began n r h c old new (stable_at r here.0.end _ old here.2.volume)
          (stands_for n r here.0 h old here.2) false told.3,
    )
    commits_so (Err (store.Damaged v offset)) a b told denied cause = absurd told
    commits_so (Err store.OutOfMemory) a b told denied cause = (
      told.0,
      begun false told.1 told.2,
      happens_began n r h c old new (stable_at r here.0.end _ old here.2.volume)
          (stands_for n r here.0 h old here.2) false told.2,
    )

    -- what the store says of its own number of regions
    pub commits_one : (result : Result ℕ StoreFault) (a b : Counts) → StoreCommits s.regions r h c result room s s' old new
        → WhereDenied result (Looks old new × (s'.held ≡ s.held)) → IsCause r result a b
        → CommitsOne before n r h c room (told_as result) (slice_set stores r s') old new
    commits_one result a b told = commits_so result a b (subst (λ (m : ℕ). StoreCommits m r h c result room s s' old new) regions told)

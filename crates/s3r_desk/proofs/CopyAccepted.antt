-- No command of the copier's own is refused, whatever the world tells.
use Rattle.std.proofs.Common.{◌≡◌, ◌≢◌, ℕ, ◌<◌, ◌≤◌, List, ◌∷◌, length, Option, Some, None, IfSome, IsSomeAnd, refl, sym, ◌∙◌, ap, subst, ⊎_elim, arith}
use Rattle.std.specs.Prelude.{slice_get, option_map}
use Rattle.std.specs.Option.{option_and_then}
use Rattle.std.proofs.Math.Logic.{∥∥₁_elim}
use Rattle.std.proofs.Math.Nat.{ℕ_set}
use Rattle.s3r_names.specs.declared.outcome.Outcome.{Outcome}
use Rattle.s3r_record.specs.declared.command.Command.TheVariants as command
use Rattle.s3r_record.specs.Spelling.{IsCommand, IsTask}
use Rattle.s3r_queue.specs.declared.inbox.Arrival.TheVariants as arrivals
use Rattle.s3r_queue.specs.Received.{watermark_of, arrival_of}
use Rattle.s3r_history.specs.declared.due.Due.{Due}
use Rattle.s3r_history.specs.Words.{History}
use Rattle.s3r_history.specs.Past.{Carried}
use Rattle.s3r_history.specs.Deeds.{deeds}
use Rattle.s3r_history.specs.Tasks.{sent, first, last_from}
use Rattle.s3r_region.specs.Contents.{Contents}
use Rattle.s3r_region.specs.After.{IsAfter}
use Rattle.s3r_region.proofs.Counts.{counts-are}
use Rattle.s3r_store.specs.declared.loaded_region.LoadedRegion.{LoadedRegion}
use Rattle.s3r_store.specs.declared.store.Store.{Store}
use Rattle.s3r_store.specs.Knows.{IsStoreAfter}
use Rattle.s3r_store.specs.Stores.{state_of}
use Rattle.s3r_store.proofs.Lawful.{region-of, regions-of, after-some}
use Rattle.s3r_desk.specs.Keeping.{AreNumbered}
use Rattle.s3r_desk.specs.Comparing.{pair_fault, contents_at, seen_by, seen_fault}
use Rattle.s3r_desk.specs.Copying.{due_of}
use Rattle.s3r_desk.specs.Happened.{IsReadAt, IsAcceptedAt, IsDueAt, GoesOnAt, AreLeftBut}
use Rattle.s3r_desk.proofs.Places.{get_there, one_of, same_or_other}
use Rattle.s3r_desk.proofs.Disagreeing.{same_fault}
use Rattle.s3r_desk.proofs.CopyDue.{is_first, receive_accepted, settle_accepted, attempt_accepted, next_there, first_behind, new_above, never_behind, not_past}

-- ---- of one store

-- what is held of a store that was read
held_of : (x : Store) (h : History) → IsStoreAfter x h → (held : LoadedRegion) × (x.held ≡ Some held) × IsAfter held.state h
held_of x h after = go x.held refl after
  where
    go : (o : Option LoadedRegion) → x.held ≡ o → IsSomeAnd o (λ held. IsAfter held.state h)
        → (held : LoadedRegion) × (x.held ≡ Some held) × IsAfter held.state h
    go None e after = absurd after
    go (Some held) e after = (held, e, after)

one_held : (x : Store) (a b : LoadedRegion) → x.held ≡ Some a → x.held ≡ Some b → a ≡ b
one_held x a b p q = one_of x.held a b p q

-- two histories that one state is after have the same first pending task
same_tasks : (x : Store) (d : ℕ) (h k : History) → IsStoreAfter x h → IsStoreAfter x k
    → (first h (deeds x.v h) d ≡ first k (deeds x.v k) d) × (sent (deeds x.v h) d ≡ sent (deeds x.v k) d)
same_tasks x d h k of_h of_k =
    let a = held_of x h of_h in
    let b = held_of x k of_k in
    let one : b.0 ≡ a.0 = one_held x b.0 a.0 b.1 a.1 in
    let after_k : IsAfter a.0.state k = subst (λ (held : LoadedRegion). IsAfter held.state k) one b.2 in
    let region : a.0.state.region ≡ x.v = region-of x.regions x.v a.0 (x.lawful a.0 a.1) in
    let p = counts-are a.0.state h a.2 d in
    let q = counts-are a.0.state k after_k d in (
      subst (λ (r : ℕ). first h (deeds r h) d ≡ first k (deeds r k) d) region (sym p.2 ∙ q.2),
      subst (λ (r : ℕ). sent (deeds r h) d ≡ sent (deeds r k) d) region (sym p.0 ∙ q.0),
    )

-- ---- of several

module _ (stores : List Store) (numbered : AreNumbered stores) (s d : ℕ) (ls : s < length stores) (ld : d < length stores) where
  below : (x : Store) (r : ℕ) → slice_get stores r ≡ Some x → (q : ℕ) → q < length stores → q < x.regions
  below x r get q lt = subst (λ (n : ℕ). q < n) (sym (numbered.regions r x get)) lt

  pub settle_due : (t : Due) (outcome : Outcome) → IsDueAt stores s d t → IsAcceptedAt stores s (command.Settle d t.number outcome)
  settle_due t outcome due x get h after =
      settle_accepted x.regions x.v d h t.number outcome (below x s get d ld) (is_first x.v d h t (due x get h after)).next

  pub attempt_due : (t : Due) → IsDueAt stores s d t → IsAcceptedAt stores s (command.Attempt d t.number)
  attempt_due t due x get h after =
      attempt_accepted x.regions x.v d h t.number (below x s get d ld) (is_first x.v d h t (due x get h after)).next

  pub receive_new : (y : Store) (number : ℕ) (effect : Carried) → slice_get stores d ≡ Some y → 1 ≤ number
      → ((h : History) → IsStoreAfter y h → arrivals.New ≡ arrival_of (last_from (deeds y.v h) s) number)
      → IsAcceptedAt stores d (command.Receive s number effect)
  receive_new y number effect at positive new x get h after =
      let one : y ≡ x = one_of (slice_get stores d) y x at get in
      let new' = subst (λ (z : Store). (k : History) → IsStoreAfter z k → arrivals.New ≡ arrival_of (last_from (deeds z.v k) s) number) one new in
      receive_accepted x.regions s x.v h number effect (below x d get s ls)
      (new_above (last_from (deeds x.v h) s) number positive (sym (new' h after)))

  -- the receiver isn't past a task that is due
  past_of : (x y : Store) (h k : History) → slice_get stores s ≡ Some x → slice_get stores d ≡ Some y → IsStoreAfter x h → IsStoreAfter y k
      → seen_fault stores s d ≡ None → (t : Due) → IsDueAt stores s d t → watermark_of (last_from (deeds y.v k) s) ≤ t.number
  past_of x y h k at_s at_d of_h of_k compared t due =
      let a = held_of x h of_h in
      let b = held_of y k of_k in
      let region_a : a.0.state.region ≡ s = region-of x.regions x.v a.0 (x.lawful a.0 a.1) ∙ numbered.v s x at_s in
      let region_b : b.0.state.region ≡ d = region-of y.regions y.v b.0 (y.lawful b.0 b.1) ∙ numbered.v d y at_d in
      let regions_b : b.0.state.regions ≡ length stores = regions-of y.regions y.v b.0 (y.lawful b.0 b.1) ∙ numbered.regions d y at_d in
      let seen_s : contents_at stores s ≡ Some a.0.state =
      ap (option_and_then state_of) at_s ∙ ap (option_map (λ (held : LoadedRegion). held.state)) a.1 in
      let seen_d : contents_at stores d ≡ Some b.0.state =
      ap (option_and_then state_of) at_d ∙ ap (option_map (λ (held : LoadedRegion). held.state)) b.1 in
      let none : pair_fault s d h k ≡ None =
      sym (same_fault s d a.0.state b.0.state h k a.2 b.2 region_a region_b (subst (λ (n : ℕ). s < n) (sym regions_b) ls))
      ∙ sym (ap (λ (o : Option Contents). seen_by s d o (contents_at stores d)) seen_s ∙ ap (seen_by s d (Some a.0.state)) seen_d) ∙ compared in
      let due' : due_of s d h ≡ Some t = subst (λ (v : ℕ). due_of v d h ≡ Some t) (numbered.v s x at_s) (due x at_s h of_h) in
      let le = not_past s d h k none in
      subst (λ (v : ℕ). watermark_of (last_from (deeds v k) s) ≤ t.number) (sym (numbered.v d y at_d))
      (subst (λ (n : ℕ). watermark_of (last_from (deeds d k) s) ≤ n) (sym (is_first s d h t due').first_is) le)

  pub no_task_behind : (y : Store) (m : ℕ) (t : Due) → slice_get stores d ≡ Some y → IsReadAt stores s → IsReadAt stores d → seen_fault stores s d ≡ None
      → IsDueAt stores s d t
      → ((h : History) → IsStoreAfter y h → arrivals.Behind m ≡ arrival_of (last_from (deeds y.v h) s) t.number) → ⊥
  no_task_behind y m t at_d read_s read_d compared due behind =
      let x = get_there stores s ls in
      ∥∥₁_elim (after-some x.0 (read_s x.0 x.1)) (λ p q. absurd p) (λ l.
      ∥∥₁_elim (after-some y (read_d y at_d)) (λ p q. absurd p) (λ k.
      never_behind (last_from (deeds y.v k.0) s) t.number m (past_of x.0 y l.0 k.0 x.1 at_d l.1 k.1 compared t due) (sym (behind k.0 k.1))))

  -- ---- behind the Receive

  module _ (after : List Store) (t : Due) (due : IsDueAt stores s d t) (read : IsReadAt stores s) (numbered' : AreNumbered after)
      (same : length after ≡ length stores) where
    settles_elsewhere : (d ≡ s → ⊥) → AreLeftBut d stores after → (outcome : Outcome) → IsAcceptedAt after s (command.Settle d t.number outcome)
    settles_elsewhere ne left outcome x get = settle_due t outcome due x (sym (left s (λ e. ne (sym e))) ∙ get)

    settles_here : d ≡ s → GoesOnAt stores after d (command.Receive s t.number t.effect) → (outcome : Outcome)
        → IsAcceptedAt after s (command.Settle d t.number outcome)
    settles_here e goes outcome x get h' of_h' =
        let old = get_there stores s ls in
        let at : slice_get stores d ≡ Some old.0 = subst (λ (r : ℕ). slice_get stores r ≡ Some old.0) (sym e) old.1 in
        let next = goes old.0 at x (subst (λ (r : ℕ). slice_get after r ≡ Some x) (sym e) get) in
        let v : old.0.v ≡ x.v = numbered.v s old.0 old.1 ∙ sym (numbered'.v s x get) in
        let lt : d < x.regions = subst (λ (n : ℕ). d < n) (sym (numbered'.regions s x get ∙ same)) ld in
        settle_accepted x.regions x.v d h' t.number outcome lt
        (∥∥₁_elim (after-some old.0 (read old.0 old.1)) (ℕ_set _ _) (λ l.
        let it = is_first x.v d l.0 t (subst (λ (r : ℕ). due_of r d l.0 ≡ Some t) v (due old.0 old.1 l.0 l.1)) in
        let tasks = same_tasks x d h' (command.Receive s t.number t.effect ∷ l.0) of_h' (next.1 l.0 l.1) in
        let behind = first_behind x.v s t.number d t.effect l.0 in
        next_there h' (deeds x.v h') d t.number (it.first_is ∙ sym behind.0 ∙ sym tasks.0) (omega (arith, it.to_sent, tasks.1, behind.1))))

    pub settles_after : GoesOnAt stores after d (command.Receive s t.number t.effect) → AreLeftBut d stores after → (outcome : Outcome)
        → IsAcceptedAt after s (command.Settle d t.number outcome)
    settles_after goes left outcome = ⊎_elim (λ e. settles_here e goes outcome) (λ ne. settles_elsewhere ne left outcome) (same_or_other d s)

    pub read_after : GoesOnAt stores after d (command.Receive s t.number t.effect) → AreLeftBut d stores after → IsReadAt after s
    read_after goes left x get = ⊎_elim
        (λ e.
        let old = get_there stores s ls in
        (goes old.0 (subst (λ (r : ℕ). slice_get stores r ≡ Some old.0) (sym e) old.1) x (subst (λ (r : ℕ). slice_get after r ≡ Some x) (sym e) get)).0)
        (λ ne. read x (sym (left s (λ e. ne (sym e))) ∙ get))
        (same_or_other d s)

  -- where the receiver's commit failed, which isn't the sender
  pub attempt_after : (after : List Store) (t : Due) → IsDueAt stores s d t → s ≢ d → AreLeftBut d stores after
      → IsAcceptedAt after s (command.Attempt d t.number)
  attempt_after after t due apart left x get = attempt_due t due x (sym (left s apart) ∙ get)

  pub read_left : (after : List Store) → IsReadAt stores s → s ≢ d → AreLeftBut d stores after → IsReadAt after s
  read_left after read apart left x get = read x (sym (left s apart) ∙ get)

-- ---- its fields

pub task_to : (n s d number : ℕ) (effect : Carried) → d < n → n ≤ 8 → IsCommand (command.Receive s number effect) → IsTask d number
task_to n s d number effect lt few fits = record { region = omega (arith, lt, few); above = fits.0.above; below = fits.0.below }

pub fits_at : (v s : ℕ) (o : Option Due) → v ≡ s → IfSome o (λ due. IsCommand (command.Receive v due.number due.effect))
    → IfSome o (λ due. IsCommand (command.Receive s due.number due.effect))
fits_at v s o is fits = subst (λ (r : ℕ). IfSome o (λ due. IsCommand (command.Receive r due.number due.effect))) is fits

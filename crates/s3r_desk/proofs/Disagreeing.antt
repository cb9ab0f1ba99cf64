-- What stores tell of the tasks from one to another is what the histories tell.
use Rattle.std.proofs.Common.{◌≡◌, ℕ, zero, suc, ◌+◌, ◌-◌, ◌<◌, Bool, true, false, cond, List, length, Option, Some, None, refl, sym, ap, ◌∙◌, subst, ◌≤◌, ⊎_elim, arith}
use Rattle.std.specs.Prelude.{option_map}
use Rattle.std.specs.Option.{option_and_then}
use Rattle.std.proofs.lemmas.Bool.{cases_lt}
use Rattle.std.proofs.lemmas.Bool.Decides.{nat_tests}
use Rattle.s3r_world.specs.Outside.{Outside}
use Rattle.s3r_queue.specs.Received as queue
use Rattle.s3r_queue.specs.Received.{watermark_of}
use Rattle.s3r_queue.specs.Tasks.{first_of, answered_of}
use Rattle.s3r_queue.specs.Queues.{to_region}
use Rattle.s3r_history.specs.Words.{History}
use Rattle.s3r_history.specs.Agree.{Agrees}
use Rattle.s3r_history.specs.Tasks.{sent, tasks_to, first, last_from}
use Rattle.s3r_history.specs.Deeds.{deeds}
use Rattle.s3r_history.proofs.Within as history
use Rattle.s3r_region.specs.Contents.{Contents}
use Rattle.s3r_region.specs.After.{IsAfter}
use Rattle.s3r_region.proofs.Counts.{counts-are, watermark-is}
use Rattle.s3r_store.specs.declared.loaded_region.LoadedRegion.{LoadedRegion}
use Rattle.s3r_store.specs.declared.store.Store.{Store}
use Rattle.s3r_store.specs.Stores.{state_of}
use Rattle.s3r_desk.specs.declared.fault.DeskFault.{DeskFault}
use Rattle.s3r_desk.specs.declared.fault.DeskFault.TheVariants as faults
use Rattle.s3r_desk.specs.Events.{Events, history_at}
use Rattle.s3r_desk.specs.Steps.{Histories}
use Rattle.s3r_desk.specs.Keeping.{Keeps, AreRead, AreNumbered}
use Rattle.s3r_desk.specs.Comparing.{is_within, fault_by, pair_fault, or_later, first_below, first_pair, disagreement, contents_at, seen_by, seen_fault}
use Rattle.s3r_desk.specs.Laws.{AgreeingIsNotTold}
use Rattle.s3r_desk.proofs.Places.{get_there}
use Rattle.s3r_desk.proofs.Locations.{known_at}

-- ---- the first of several

-- none is up to this one
pub none_more : {X : Type 0} (f : ℕ → Option X) (k : ℕ) → first_below f k ≡ None → f k ≡ None → first_below f (k + 1) ≡ None
none_more f k none here =
    let one : k + 1 ≡ suc k = omega arith in
    ap (first_below f) one ∙ ap (λ o. or_later o (f k)) none ∙ here

-- this one is the first
pub first_here : {X : Type 0} (f : ℕ → Option X) (k n : ℕ) (x : X) → k < n → first_below f k ≡ None → f k ≡ Some x → first_below f n ≡ Some x
first_here f k zero x lt none here = absurd (omega (arith, lt))
first_here f k (suc n) x lt none here = ⊎_elim
    (λ below. ap (λ o. or_later o (f n)) (first_here f k n x below none here))
    (λ above.
    let same : k ≡ n = omega (arith, lt, above) in
    ap (λ o. or_later o (f n)) (subst (λ m. first_below f m ≡ None) same none) ∙ subst (λ m. f m ≡ Some x) same here)
    (cases_lt k n)

-- what each has the first one has
first_has : {X : Type 0} (P : X → Type 0) (f : ℕ → Option X) (n : ℕ) (x : X) → ((k : ℕ) (y : X) → f k ≡ Some y → P y) → first_below f n ≡ Some x → P x
first_has P f zero x each is = absurd cc
first_has {X} P f (suc n) x each is = go (first_below f n) refl (first_has P f n x each) is
  where
    go : (o : Option X) → first_below f n ≡ o → (first_below f n ≡ Some x → P x) → or_later o (f n) ≡ Some x → P x
    go None over ih here = each n x here
    go (Some y) found ih here = ih (found ∙ here)

none_of : {X : Type 0} (f : ℕ → Option X) (n : ℕ) → ((k : ℕ) → k < n → f k ≡ None) → first_below f n ≡ None
none_of f zero each = refl
none_of f (suc n) each = ap (λ o. or_later o (f n)) (none_of f n (λ k lt. each k (omega (arith, lt)))) ∙ each n (omega arith)

pub first_same : {X : Type 0} (f g : ℕ → Option X) (n : ℕ) → ((k : ℕ) → k < n → f k ≡ g k) → first_below f n ≡ first_below g n
first_same f g zero same = refl
first_same f g (suc n) same =
    ap (λ o. or_later o (f n)) (first_same f g n (λ k lt. same k (omega (arith, lt)))) ∙ ap (or_later (first_below g n)) (same n (omega arith))

-- ---- it is a disagreement

abbrev pub IsDisagreement : DeskFault → Type 0
IsDisagreement (faults.Volume v) = ⊥
IsDisagreement (faults.Full v) = ⊥
IsDisagreement (faults.Damaged v offset) = ⊥
IsDisagreement (faults.Disagree from to sent last settled received) = Unit {0}
IsDisagreement faults.OutOfMemory = ⊥

by_counts : (from to sent answered settled received : ℕ) (e : DeskFault) → fault_by from to sent answered settled received ≡ Some e → IsDisagreement e
by_counts from to sent answered settled received e = go (is_within sent answered settled received)
  where
    told : DeskFault
    told = faults.Disagree from to sent answered settled received

    go : (t : Bool) → cond t None (Some told) ≡ Some e → IsDisagreement e
    go true is = absurd cc
    go false is = let same : told ≡ e = cc in subst IsDisagreement same tt

pub some_disagrees : (n : ℕ) (at : Histories) (e : DeskFault) → disagreement n at ≡ Some e → IsDisagreement e
some_disagrees n at e is =
    first_has IsDisagreement (λ s. first_below (λ d. pair_fault s d (at s) (at d)) n) n e
    (λ s x found. first_has IsDisagreement (λ d. pair_fault s d (at s) (at d)) n x
    (λ d y here. by_counts s d (sent (deeds s (at s)) d) (answered_of (tasks_to (at s) (deeds s (at s)) d)) (first (at s) (deeds s (at s)) d - 1)
    (watermark_of (last_from (deeds d (at d)) s)) y here) found) is

seen_by_counts : (s d : ℕ) (a b : Option Contents) (e : DeskFault) → seen_by s d a b ≡ Some e → IsDisagreement e
seen_by_counts s d None b e is = absurd cc
seen_by_counts s d (Some a) None e is = absurd cc
seen_by_counts s d (Some a) (Some b) e is =
    by_counts s d (length (to_region a.outbox d)) (answered_of (to_region a.outbox d)) (first_of (to_region a.outbox d) - 1)
    (watermark_of (queue.last_from b.inbox s)) e is

pub seen_disagree : (stores : List Store) (s d : ℕ) (e : DeskFault) → seen_fault stores s d ≡ Some e → IsDisagreement e
seen_disagree stores s d e is = seen_by_counts s d (contents_at stores s) (contents_at stores d) e is

pub seen_disagrees : (stores : List Store) (e : DeskFault) → first_pair (length stores) (seen_fault stores) ≡ Some e → IsDisagreement e
seen_disagrees stores e is =
    first_has IsDisagreement (λ s. first_below (seen_fault stores s) (length stores)) (length stores) e
    (λ s x found. first_has IsDisagreement (seen_fault stores s) (length stores) x
    (λ d y here. seen_by_counts s d (contents_at stores s) (contents_at stores d) y here) found) is

-- ---- regions that agree are told no disagreement

all_within : (sent answered first received : ℕ) → answered ≤ received → received ≤ first → received ≤ sent
    → is_within sent answered (first - 1) received ≡ true
all_within sent answered first received below due there = grind (arith, nat_tests, below, due, there)

pair_agrees : (s d : ℕ) (h k : History) → Agrees s d h k → pair_fault s d h k ≡ None
pair_agrees s d h k agree =
    let within = history.is_within s d h k agree in
    let ok = all_within (sent (deeds s h) d) (answered_of (tasks_to h (deeds s h) d)) (first h (deeds s h) d) (watermark_of (last_from (deeds d k) s))
    within.0 within.1 within.2 in
    ap (λ t. cond t None (Some (faults.Disagree s d (sent (deeds s h) d) (answered_of (tasks_to h (deeds s h) d)) (first h (deeds s h) d - 1)
    (watermark_of (last_from (deeds d k) s))))) ok

pub agreeing_is_not_told : AgreeingIsNotTold
agreeing_is_not_told n at agree =
    none_of (λ s. first_below (λ d. pair_fault s d (at s) (at d)) n) n
    (λ s ls. none_of (λ d. pair_fault s d (at s) (at d)) n (λ d ld. pair_agrees s d (at s) (at d) (agree s d ls ld)))

-- ---- as stores tell it

pub same_fault : (s d : ℕ) (a b : Contents) (h k : History) → IsAfter a h → IsAfter b k → a.region ≡ s → b.region ≡ d → s < b.regions
    → seen_by s d (Some a) (Some b) ≡ pair_fault s d h k
same_fault s d a b h k of_a of_b here there lt =
    let counts = counts-are a h of_a d in
    let tasks = to_region a.outbox d in
    let received = watermark_of (queue.last_from b.inbox s) in
    let sent_by = sent (deeds s h) d in
    let answered = answered_of (tasks_to h (deeds s h) d) in
    let settled = first h (deeds s h) d - 1 in
    ap (λ (x : ℕ). fault_by s d x (answered_of tasks) (first_of tasks - 1) received) (counts.0 ∙ ap (λ (r : ℕ). sent (deeds r h) d) here)
    ∙ ap (λ (x : ℕ). fault_by s d sent_by x (first_of tasks - 1) received) (counts.1 ∙ ap (λ (r : ℕ). answered_of (tasks_to h (deeds r h) d)) here)
    ∙ ap (λ (x : ℕ). fault_by s d sent_by answered (x - 1) received) (counts.2 ∙ ap (λ (r : ℕ). first h (deeds r h) d) here)
    ∙ ap (λ (x : ℕ). fault_by s d sent_by answered settled x) (watermark-is b k of_b s lt ∙ ap (λ (r : ℕ). watermark_of (last_from (deeds r k) s)) there)

module _ (events : Events) (stores : List Store) (w : Outside) (keeps : Keeps events stores w) (read : AreRead stores) (numbered : AreNumbered stores) where
  -- what is known of a region below the number of stores
  record Here (r : ℕ) : Type 0 where
    state : Contents
    contents : contents_at stores r ≡ Some state
    after : IsAfter state (history_at events r)
    region : state.region ≡ r
    regions : state.regions ≡ length stores

  here : (r : ℕ) → r < length stores → Here r
  here r lt =
      let there = get_there stores r lt in
      let known = known_at events stores w keeps read r there.0 there.1 in
      record {
        state = known.0.state;
        contents = ap (option_and_then state_of) there.1 ∙ ap (option_map (λ (held : LoadedRegion). held.state)) known.1;
        after = known.2.after;
        region = known.2.region;
        regions = known.2.regions ∙ numbered.regions r there.0 there.1;
      }

  pair_is : (s d : ℕ) → s < length stores → d < length stores → seen_fault stores s d ≡ pair_fault s d (history_at events s) (history_at events d)
  pair_is s d ls ld =
      let a = here s ls in
      let b = here d ld in
      ap (λ (o : Option Contents). seen_by s d o (contents_at stores d)) a.contents ∙ ap (seen_by s d (Some a.state)) b.contents
      ∙ same_fault s d a.state b.state (history_at events s) (history_at events d) a.after b.after a.region b.region
      (subst (λ (m : ℕ). s < m) (sym b.regions) ls)

  pub disagreement_is : first_pair (length stores) (seen_fault stores) ≡ disagreement (length stores) (history_at events)
  disagreement_is =
      first_same (λ s. first_below (seen_fault stores s) (length stores))
      (λ s. first_below (λ d. pair_fault s d (history_at events s) (history_at events d)) (length stores)) (length stores)
      (λ s ls. first_same (seen_fault stores s) (λ d. pair_fault s d (history_at events s) (history_at events d)) (length stores) (λ d ld. pair_is s d ls ld))

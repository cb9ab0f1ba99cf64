-- Many clean turns.
use Rattle.std.proofs.Common.{◌≡◌, ℕ, zero, suc, ◌+◌, ◌-◌, ◌<◌, ◌≤◌, min, true, List, length, Option, Some, None, slice_get, refl, sym, ◌∙◌, ap, subst, ⊎_elim, arith}
use Rattle.std.proofs.lemmas.Bool.{cases_lt}
use Rattle.s3r_names.specs.declared.outcome.Outcome.{Outcome}
use Rattle.s3r_queue.specs.declared.task.Task.{Task}
use Rattle.s3r_queue.specs.Tasks.{are_in_turn, with_outcome}
use Rattle.s3r_queue.proofs.InTurn.{turn-kept}
use Rattle.s3r_history.specs.declared.due.Due.{Due}
use Rattle.s3r_history.specs.Words.{History}
use Rattle.s3r_history.specs.Past.{Carried}
use Rattle.s3r_history.specs.Placed.{prescribed}
use Rattle.s3r_history.specs.Deeds.{deeds}
use Rattle.s3r_history.specs.Tasks.{sent, settled_with, attempts, tasks_to, first}
use Rattle.s3r_desk.specs.Steps.{Histories}
use Rattle.s3r_desk.specs.Copying.{due_of, outcome_at}
use Rattle.s3r_drain.specs.Drain.{turned_by, turned, turns, pending, SettlesOnly, TurnsDrain, TheFirstEnded, TheLastArePending, IsAmongFirst, HasItsTurn, TurnsSettleTheFirst, TurnsSettleNoOther, TheFirstRises}
use Rattle.s3r_drain.proofs.Counting.{in-turn-count, length-tasks, open-in-turn}
use Rattle.s3r_drain.proofs.Orderly.{orderly}
use Rattle.s3r_drain.proofs.OneTurn.{IsFirst, is-first, first-due, one_turn, tasks-turned, one_less}

pub turns_drain : TurnsDrain
turns_drain s d zero at = omega arith
turns_drain s d (suc m) at = omega (arith, one_less s d (turns s d m at), turns_drain s d m at)

-- ---- what one turn leaves

-- the number is that of the task that is due
record IsFirstNow (s d : ℕ) (at : Histories) (r to n : ℕ) : Type 0 where
  pub from : r ≡ s
  pub to_it : to ≡ d
  pub first_is : n ≡ first (at s) (deeds s (at s)) d
  pub to_sent : n ≤ sent (deeds s (at s)) d

-- a turn settles no other task, whatever is due
settles-no-other : (s d : ℕ) (at : Histories) → SettlesOnly (IsFirstNow s d at) at (turned s d at)
settles-no-other s d at = go (due_of s d (at s)) refl
  where
    go : (o : Option Due) → due_of s d (at s) ≡ o → SettlesOnly (IsFirstNow s d at) at (turned s d at)
    go None e = subst (λ (o : Option Due). SettlesOnly (IsFirstNow s d at) at (turned_by s d at o)) (sym e)
        (record { others = λ r to n other. refl; tries = λ r to n. refl; prescribes = λ r to. refl })
    go (Some t) e =
        let only = (one_turn s d at t e).2 in
        let it = is-first s d (at s) t e in
        record {
          others = λ r to n other. only.others r to n (λ w. other (record {
            from = w.0;
            to_it = w.1;
            first_is = w.2 ∙ it.first_is;
            to_sent = omega (arith, w.2, it.to_sent);
          }));
          tries = only.tries;
          prescribes = only.prescribes;
        }

turn-still : (s d : ℕ) (at : Histories) → are_in_turn (tasks_to (at s) (deeds s (at s)) d) ≡ true
    → are_in_turn (tasks_to (turned s d at s) (deeds s (turned s d at s)) d) ≡ true
turn-still s d at turn = go (due_of s d (at s)) refl
  where
    go : (o : Option Due) → due_of s d (at s) ≡ o → are_in_turn (tasks_to (turned s d at s) (deeds s (turned s d at s)) d) ≡ true
    go None e = subst (λ (o : Option Due). are_in_turn (tasks_to (turned_by s d at o s) (deeds s (turned_by s d at o s)) d) ≡ true) (sym e) turn
    go (Some t) e =
        ap (λ (l : List (Task Carried)). are_in_turn l) (tasks-turned s d at t e)
        ∙ turn-kept (with_outcome (outcome_at s d (at d) t)) (tasks_to (at s) (deeds s (at s)) d) turn

-- ---- numbers of tasks in turn

last-pending : (r d : ℕ) (h : History) → are_in_turn (tasks_to h (deeds r h) d) ≡ true → first h (deeds r h) d + pending r d h ≡ sent (deeds r h) d + 1
last-pending r d h turn = omega (arith, in-turn-count (tasks_to h (deeds r h) d) turn, length-tasks h d 1 (prescribed (deeds r h) d))

pub the_last_are_pending : TheLastArePending
the_last_are_pending n r d h lawful = last-pending r d h ((orderly n r h lawful).turn d)

pub the_first_ended : TheFirstEnded
the_first_ended n r d number h lawful from to = open-in-turn h d number (prescribed (deeds r h) d) ((orderly n r h lawful).turn d) from to

-- ---- many turns over tasks in turn

module _ (s d : ℕ) (at : Histories) (turn : are_in_turn (tasks_to (at s) (deeds s (at s)) d) ≡ true) where
  abbrev start : ℕ
  start = first (at s) (deeds s (at s)) d

  abbrev all : ℕ
  all = sent (deeds s (at s)) d

  in-turn : (m : ℕ) → are_in_turn (tasks_to (turns s d m at s) (deeds s (turns s d m at s)) d) ≡ true
  in-turn zero = turn
  in-turn (suc m) = turn-still s d (turns s d m at) (in-turn m)

  tries-same : (m r to n : ℕ) → attempts (turns s d m at r) to n ≡ attempts (at r) to n
  tries-same zero r to n = refl
  tries-same (suc m) r to n = (settles-no-other s d (turns s d m at)).tries r to n ∙ tries-same m r to n

  prescribed-same : (m r to : ℕ) → prescribed (deeds r (turns s d m at r)) to ≡ prescribed (deeds r (at r)) to
  prescribed-same zero r to = refl
  prescribed-same (suc m) r to = (settles-no-other s d (turns s d m at)).prescribes r to ∙ prescribed-same m r to

  sent-same : (m : ℕ) → sent (deeds s (turns s d m at s)) d ≡ all
  sent-same m = ap (λ (l : List Carried). length l) (prescribed-same m s d)

  -- the first pending number behind so many turns
  first-now : (m : ℕ) → first (turns s d m at s) (deeds s (turns s d m at s)) d ≡ start + min m (pending s d (at s))
  first-now m =
      omega (arith, last-pending s d (turns s d m at s) (in-turn m), last-pending s d (at s) turn, turns_drain s d m at, sent-same m)

  others-same : (m r to n : ℕ) → ((r ≡ s) × (to ≡ d) × IsAmongFirst s d m (at s) n → ⊥) → settled_with (turns s d m at r) to n ≡ settled_with (at r) to n
  others-same zero r to n other = refl
  others-same (suc m) r to n other =
      (settles-no-other s d (turns s d m at)).others r to n (λ now. other (
        now.from,
        now.to_it,
        record {
          from = omega (arith, now.first_is, first-now m);
          below = omega (arith, now.first_is, first-now m);
          to_sent = omega (arith, now.to_sent, sent-same m);
        },
      ))
      ∙ others-same m r to n (λ w. other (w.0, w.1, record { from = w.2.from; below = omega (arith, w.2.below); to_sent = w.2.to_sent }))

  module _ (number : ℕ) (from : start ≤ number) (to_sent : number ≤ all) where
    -- the turns before it
    abbrev before : ℕ
    before = number - start

    first-there : first (turns s d before at s) (deeds s (turns s d before at s)) d ≡ number
    first-there = omega (arith, first-now before, last-pending s d (at s) turn, from, to_sent)

    due-there : (t : Due) × (due_of s d (turns s d before at s) ≡ Some t)
    due-there = first-due s d (turns s d before at s) (omega (arith, first-there, to_sent, sent-same before))

    it : IsFirst s d (turns s d before at s) due-there.0
    it = is-first s d (turns s d before at s) due-there.0 due-there.1

    number-is : due-there.0.number ≡ number
    number-is = it.first_is ∙ first-there

    outcome : Outcome
    outcome = outcome_at s d (turns s d before at d) due-there.0

    has-turn : HasItsTurn s d number at (turns s d before at) (outcome_at s d (turns s d before at d) due-there.0)
    has-turn = record {
      task = due-there.0;
      due = due-there.1;
      number_is = number-is;
      effect = ap (λ (l : List Carried). slice_get l (number - 1)) (sym (prescribed-same before s d))
          ∙ subst (λ (n : ℕ). slice_get (prescribed (deeds s (turns s d before at s)) d) (n - 1) ≡ Some due-there.0.effect) number-is it.there;
      outcome_is = refl;
    }

    -- behind its own turn it is settled
    settled-at : settled_with (turns s d (suc before) at s) d number ≡ Some (outcome_at s d (turns s d before at d) due-there.0)
    settled-at = subst (λ (n : ℕ). settled_with (turns s d (suc before) at s) d n ≡ Some (outcome_at s d (turns s d before at d) due-there.0)) number-is
        (one_turn s d (turns s d before at) due-there.0 due-there.1).1

    -- and stays so
    settled-by : (m : ℕ) → before < m → settled_with (turns s d m at s) d number ≡ Some (outcome_at s d (turns s d before at d) due-there.0)
    settled-by zero lt = absurd (omega (arith, lt))
    settled-by (suc m) lt = ⊎_elim
        (λ less.
        (settles-no-other s d (turns s d m at)).others s d number
        (λ now. absurd (omega (arith, now.first_is, first-now m, less, from, to_sent, last-pending s d (at s) turn)))
        ∙ settled-by m less)
        (λ ge.
        let same : before ≡ m = omega (arith, ge, lt) in
        subst (λ (k : ℕ). settled_with (turns s d (suc k) at s) d number ≡ Some (outcome_at s d (turns s d before at d) due-there.0)) same settled-at)
        (cases_lt before m)

pub turns_settle : TurnsSettleTheFirst
turns_settle n s d m number at lawful among =
    let turn = (orderly n s (at s) lawful).turn d in (
      outcome_at s d (turns s d (number - first (at s) (deeds s (at s)) d) at d) (due-there s d at turn number among.from among.to_sent).0,
      settled-by s d at turn number among.from among.to_sent m (omega (arith, among.from, among.below)),
      has-turn s d at turn number among.from among.to_sent,
    )

pub turns_settle_no_other : TurnsSettleNoOther
turns_settle_no_other n s d m at lawful =
    let turn = (orderly n s (at s) lawful).turn d in
    record { others = others-same s d at turn m; tries = tries-same s d at turn m; prescribes = prescribed-same s d at turn m }

pub the_first_rises : TheFirstRises
the_first_rises n s d m at lawful = first-now s d at ((orderly n s (at s) lawful).turn d) m

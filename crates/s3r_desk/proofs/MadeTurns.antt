-- The calls that make turns one after another, once the world tells.
use Rattle.std.proofs.Common.{◌≡◌, ℕ, zero, suc, ◌+◌, ◌-◌, ◌<◌, ◌≤◌, Bool, true, false, cond, List, [], ◌∷◌, ◌++◌, length, take, take_all, drop, get_or, count_by, Option, Some, None, Result, Ok, Err, refl, sym, ◌∙◌, ap, subst, inl, inr, append_assoc, arith}
use Rattle.std.proofs.lemmas.List.{append-nil}
use Rattle.std.proofs.lemmas.List.Sums.{fold-append}
use Rattle.s3r_world.specs.declared.world.Side.TheVariants as side
use Rattle.s3r_world.specs.Outside.{Outside, Counts, NoneFalls, Rises}
use Rattle.s3r_world.specs.Moments.{rises_none, rises_then}
use Rattle.s3r_store.specs.declared.store.Store.{Store}
use Rattle.s3r_desk.specs.declared.fault.DeskFault.{DeskFault}
use Rattle.s3r_desk.specs.declared.fault.DeskFault.TheVariants as faults
use Rattle.s3r_desk.specs.declared.copy_outcome.CopyOutcome.{CopyOutcome}
use Rattle.s3r_desk.specs.declared.job_outcome.JobOutcome.{JobOutcome}
use Rattle.s3r_desk.specs.declared.worker_turn.WorkerTurn.{WorkerTurn}
use Rattle.s3r_desk.specs.declared.worker_turn.WorkerTurn.TheVariants as worker
use Rattle.s3r_desk.specs.declared.worker_turn.TurnOutcome.{TurnOutcome}
use Rattle.s3r_desk.specs.declared.work_summary.WorkSummary.{WorkSummary}
use Rattle.s3r_desk.specs.Events.{Events}
use Rattle.s3r_desk.specs.Keeping.{Keeps}
use Rattle.s3r_desk.specs.Damage.{IsDamage}
use Rattle.s3r_desk.specs.Copying.{attempts_about, fails_at, AreCounted}
use Rattle.s3r_desk.specs.Rounds.{round, rounds, is_applied, is_refused, is_retried, is_given_up, is_move, is_line, is_end, summary, noted}
use Rattle.s3r_desk.specs.Works.{as_copied, as_stepped, Made, AreMade, noted_all, unless_fault, came}
use Rattle.s3r_desk.specs.Worked.{MakesTurn, MakesTurns, Worked}
use Rattle.s3r_desk.specs.Responds.{AsRead}
use Rattle.s3r_desk.specs.Happened.{Happened, Copies, JobsStep}
use Rattle.s3r_desk.proofs.Stepping.{progress_none}
use Rattle.s3r_desk.proofs.CopyCounts.{rises_fewer, attempts_then, fails_same}
use Rattle.s3r_desk.proofs.CopyTurning.{happened_as, happened_none, happened_then}
use Rattle.s3r_desk.proofs.Works.{shifted, joined, made_then, made_still}

-- a fault is counted as one of another type
counted_as : (A B : Type 0) (fault : DeskFault) (events : Events) (f g : Counts) → AreCounted {A = A} (Err fault) events f g
    → AreCounted {A = B} (Err fault) events f g
counted_as A B fault events f g counted v =
    subst (λ (m : ℕ). Rises (attempts_about v events + m) (side.Volume v) f g) (fails_same A B v fault) (counted v)

-- ---- one turn

module _ (n : ℕ) (room : ℕ → ℕ) (before : Events) (a b : List Store) (w x : Outside) (f g : Counts) where
  pub copy_made : (s d : ℕ) (outcome : Result CopyOutcome DeskFault) → Happened (Copies (AsRead n w) room s d before outcome f g) before a b w x
      → Happened (MakesTurn (worker.Copy s d) n room w.as_read before (as_copied outcome) f g) before a b w x
  copy_made s d outcome p = happened_as (Copies (AsRead n w) room s d before outcome f g)
      (MakesTurn (worker.Copy s d) n room w.as_read before (as_copied outcome) f g) before a b w x p (record {
        is = (outcome, refl, p.such.turn);
        counted = λ v. subst (λ (m : ℕ). Rises (attempts_about v p.events + m) (side.Volume v) f g) (fails v outcome) (p.such.counted v);
      })
    where
      fails : (v : ℕ) (outcome : Result CopyOutcome DeskFault) → fails_at v outcome ≡ fails_at v (as_copied outcome)
      fails v (Ok outcome) = refl
      fails v (Err fault) = fails_same CopyOutcome TurnOutcome v fault

  pub jobs_made : (r : ℕ) (outcome : Result JobOutcome DeskFault) → Happened (JobsStep (AsRead n w) n room r before outcome f g) before a b w x
      → Happened (MakesTurn (worker.Jobs r) n room w.as_read before (as_stepped outcome) f g) before a b w x
  jobs_made r outcome p = happened_as (JobsStep (AsRead n w) n room r before outcome f g)
      (MakesTurn (worker.Jobs r) n room w.as_read before (as_stepped outcome) f g) before a b w x p (record {
        is = (outcome, refl, p.such.turn);
        counted = λ v. subst (λ (m : ℕ). Rises (attempts_about v p.events + m) (side.Volume v) f g) (fails v outcome) (p.such.counted v);
      })
    where
      fails : (v : ℕ) (outcome : Result JobOutcome DeskFault) → fails_at v outcome ≡ fails_at v (as_stepped outcome)
      fails v (Ok outcome) = refl
      fails v (Err fault) = fails_same JobOutcome TurnOutcome v fault

-- what is counted one after the other
counted_both : {A B : Type 0} (first : A) (result : Result B DeskFault) (earlier events : Events) (f g h : Counts) → NoneFalls f g → NoneFalls g h
    → AreCounted {A = A} (Ok first) earlier f g → AreCounted result events g h → AreCounted result (events ++ earlier) f h
counted_both {A} {B} first result earlier events f g h falls later one other v =
    rises_fewer ((attempts_about v earlier + 0) + (attempts_about v events + fails_at v result)) (attempts_about v (events ++ earlier) + fails_at v result)
    (side.Volume v) f h (omega (arith, attempts_then v events earlier))
    (rises_then (attempts_about v earlier + 0) (attempts_about v events + fails_at v result) (side.Volume v) f g h falls (one v) (other v))

-- ---- one turn after another

module _ (room : ℕ → ℕ) (before : Events) (a : List Store) (w : Outside) (s : WorkSummary) (f : Counts) where
  -- there is none
  pub none_made : Keeps before a w → NoneFalls f f → Happened (MakesTurns [] (length a) room w.as_read before s (Ok s) f f) before a a w w
  none_made keeps falls = happened_none (MakesTurns [] (length a) room w.as_read before s (Ok s) f f) before a w keeps (record {
    made = record { outcomes = []; fault = None };
    are = (refl, refl);
    comes = refl;
    counted = λ v. rises_none (side.Volume v) f f falls;
  })

  module _ (turn : WorkerTurn) (turns : List WorkerTurn) (b : List Store) (x : Outside) (g : Counts) where
    -- the first had a fault
    pub fault_made : (fault : DeskFault) → Happened (MakesTurn turn (length a) room w.as_read before (Err fault) f g) before a b w x
        → IsDamage {A = TurnOutcome} (length a) w.as_read (Err fault)
        → Happened (MakesTurns (turn ∷ turns) (length a) room w.as_read before s (Err fault) f g) before a b w x
    fault_made fault p damage = happened_as (MakesTurn turn (length a) room w.as_read before (Err fault) f g)
        (MakesTurns (turn ∷ turns) (length a) room w.as_read before s (Err fault) f g) before a b w x p (record {
          made = record { outcomes = []; fault = Some fault };
          are = (w.as_read, progress_none (length a) w.as_read, p.events, Err fault, p.such.is, (refl, refl, damage));
          comes = refl;
          counted = counted_as TurnOutcome WorkSummary fault p.events f g p.such.counted;
        })

    -- it came to something, and the others are made
    pub turn_then : (outcome : TurnOutcome) (p : Happened (MakesTurn turn (length a) room w.as_read before (Ok outcome) f g) before a b w x)
        (result : Result WorkSummary DeskFault) (c : List Store) (y : Outside) (h : Counts) → NoneFalls f g → NoneFalls g h → length b ≡ length a
        → (room' : ℕ → ℕ) → room' ≡ room
        → Happened (MakesTurns turns (length b) room' x.as_read (p.events ++ before) (noted s outcome) result g h) (p.events ++ before) b c x y
        → Happened (MakesTurns (turn ∷ turns) (length a) room w.as_read before s result f h) before a c w y
    turn_then outcome p result c y h falls later same room' rooms q' =
        let q = subst (λ (m : ℕ). Happened (MakesTurns turns m room x.as_read (p.events ++ before) (noted s outcome) result g h) (p.events ++ before) b c x y)
        same (subst (λ (o : ℕ → ℕ). Happened (MakesTurns turns (length b) o x.as_read (p.events ++ before) (noted s outcome) result g h)
        (p.events ++ before) b c x y) rooms q') in
        happened_then (MakesTurn turn (length a) room w.as_read before (Ok outcome) f g)
        (MakesTurns turns (length a) room x.as_read (p.events ++ before) (noted s outcome) result g h)
        (MakesTurns (turn ∷ turns) (length a) room w.as_read before s result f h) before a b c w x y p q same (record {
          made = record { outcomes = outcome ∷ q.such.made.outcomes; fault = q.such.made.fault };
          are = (
            w.as_read,
            progress_none (length a) w.as_read,
            p.events,
            Ok outcome,
            p.such.is,
            (
              q.such.made,
              q.events,
              refl,
              refl,
              subst (λ (l : Events). AreMade turns (length a) room w.as_read before l q.such.made q.events) (sym (append-nil p.events))
                  (shifted (length a) room w.as_read x.as_read before p.events p.happens.as_read turns [] q.such.made q.events q.such.are),
            ),
          );
          comes = q.such.comes;
          counted = counted_both outcome result p.events q.events f g h falls later p.such.counted q.such.counted;
        })

-- ---- the turns of a slice

pub first_is : (turns : List WorkerTurn) (turn d : WorkerTurn) (rest : List WorkerTurn) → 1 ≤ length turns → turn ≡ get_or turns 0 d
    → rest ≡ take (length turns - 1) (drop 1 turns) → turn ∷ rest ≡ turns
first_is [] turn d rest some at behind = absurd (omega (arith, some))
first_is (x ∷ xs) turn d rest some at behind =
    let all : take (length xs) xs ≡ xs = take_all (length xs) xs (omega arith) in
    ap (λ (t : WorkerTurn). t ∷ rest) at ∙ ap (λ (l : List WorkerTurn). x ∷ l) (behind ∙ ap (λ (m : ℕ). take m xs) (omega arith) ∙ all)

pub none_in : (room : ℕ → ℕ) (before : Events) (a : List Store) (w : Outside) (s : WorkSummary) (f : Counts) (turns : List WorkerTurn) → length turns < 1
    → Keeps before a w → NoneFalls f f → Happened (MakesTurns turns (length a) room w.as_read before s (Ok s) f f) before a a w w
none_in room before a w s f [] none keeps falls = none_made room before a w s f keeps falls
none_in room before a w s f (turn ∷ turns) none keeps falls = absurd (omega (arith, none))

-- ---- one round after another

-- no turn had a fault, and this is the summary
record IsOk (s0 s : WorkSummary) (made : Made) : Type 0 where
  none : made.fault ≡ None
  is : s ≡ noted_all s0 made.outcomes

came_ok : (s0 s : WorkSummary) (made : Made) → Ok s ≡ came s0 made → IsOk s0 s made
came_ok s0 s made e = go made.fault refl e
  where
    go : (o : Option DeskFault) → made.fault ≡ o → Ok s ≡ unless_fault o (noted_all s0 made.outcomes) → IsOk s0 s made
    go None is e = record { none = is; is = cc }
    go (Some fault) is e = absurd cc

came_err : (s0 : WorkSummary) (fault : DeskFault) (made : Made) → Err fault ≡ came s0 made → made.fault ≡ Some fault
came_err s0 fault made e = go made.fault refl e
  where
    go : (o : Option DeskFault) → made.fault ≡ o → Err fault ≡ unless_fault o (noted_all s0 made.outcomes) → made.fault ≡ Some fault
    go None is e = absurd cc
    go (Some why) is e = let same : fault ≡ why = cc in is ∙ ap (λ (x : DeskFault). Some x) (sym same)

noted_append : (s : WorkSummary) (first second : List TurnOutcome) → noted_all s (first ++ second) ≡ noted_all (noted_all s first) second
noted_append s [] second = refl
noted_append s (outcome ∷ first) second = noted_append (noted s outcome) first second

module _ (room : ℕ → ℕ) (before : Events) (a : List Store) (w : Outside) (s0 : WorkSummary) (k : ℕ) where
  pub round_then : (s : WorkSummary) (b : List Store) (x : Outside) (f g : Counts)
      (p : Happened (MakesTurns (rounds k (length a)) (length a) room w.as_read before s0 (Ok s) f g) before a b w x)
      (result : Result WorkSummary DeskFault) (c : List Store) (y : Outside) (h : Counts) → NoneFalls f g → NoneFalls g h → length b ≡ length a
      → (room' : ℕ → ℕ) → room' ≡ room
      → Happened (MakesTurns (round (length a)) (length b) room' x.as_read (p.events ++ before) s result g h) (p.events ++ before) b c x y
      → Happened (MakesTurns (rounds (suc k) (length a)) (length a) room w.as_read before s0 result f h) before a c w y
  round_then s b x f g p result c y h falls later same room' rooms' q' =
      let q = subst (λ (m : ℕ). Happened (MakesTurns (round (length a)) m room x.as_read (p.events ++ before) s result g h) (p.events ++ before) b c x y) same
      (subst (λ (o : ℕ → ℕ). Happened (MakesTurns (round (length a)) (length b) o x.as_read (p.events ++ before) s result g h) (p.events ++ before) b c x y)
      rooms' q') in
      let ok = came_ok s0 s p.such.made p.such.comes in
      happened_then (MakesTurns (rounds k (length a)) (length a) room w.as_read before s0 (Ok s) f g)
      (MakesTurns (round (length a)) (length a) room x.as_read (p.events ++ before) s result g h)
      (MakesTurns (rounds (suc k) (length a)) (length a) room w.as_read before s0 result f h) before a b c w x y p q same (record {
        made = joined p.such.made q.such.made;
        are = made_then (length a) room w.as_read before (round (length a)) (rounds k (length a)) [] p.such.made q.such.made p.events q.events p.such.are
            ok.none (subst (λ (l : Events). AreMade (round (length a)) (length a) room w.as_read before l q.such.made q.events) (sym (append-nil p.events))
            (shifted (length a) room w.as_read x.as_read before p.events p.happens.as_read (round (length a)) [] q.such.made q.events q.such.are));
        comes = q.such.comes ∙ ap (λ (t : WorkSummary). unless_fault q.such.made.fault (noted_all t q.such.made.outcomes)) ok.is
            ∙ ap (unless_fault q.such.made.fault) (sym (noted_append s0 p.such.made.outcomes q.such.made.outcomes));
        counted = counted_both s result p.events q.events f g h falls later p.such.counted q.such.counted;
      })

-- ---- all rounds

rounds_more : (d i n : ℕ) → rounds (d + i) n ≡ rounds i n ++ rounds d n
rounds_more zero i n = ap (λ (m : ℕ). rounds m n) none ∙ sym (append-nil (rounds i n))
  where
    none : 0 + i ≡ i
    none = omega arith
rounds_more (suc d) i n = ap (λ (m : ℕ). rounds m n) (sum d) ∙ ap (λ (l : List WorkerTurn). l ++ round n) (rounds_more d i n)
    ∙ append_assoc (rounds i n) (rounds d n) (round n)
  where
    sum : (d : ℕ) → suc d + i ≡ suc (d + i)
    sum d = omega arith

count-snoc : (p : TurnOutcome → Bool) (xs : List TurnOutcome) (x : TurnOutcome)
    → count_by p (xs ++ x ∷ []) ≡ cond (p x) (count_by p xs + 1) (count_by p xs)
count-snoc p xs x = fold-append (λ (n : ℕ) (y : TurnOutcome). n + cond (p y) 1 0) 0 xs (x ∷ []) ∙ go (p x) (count_by p xs)
  where
    go : (t : Bool) (n : ℕ) → n + cond t 1 0 ≡ cond t (n + 1) n
    go true n = refl
    go false n = omega arith

noted_snoc : (xs : List TurnOutcome) (x : TurnOutcome) → noted (summary 0 xs) x ≡ summary 0 (xs ++ x ∷ [])
noted_snoc xs x = λ i. record {
  applied = sym (count-snoc is_applied xs x) i;
  ended = sym (count-snoc is_end xs x) i;
  gave_up = sym (count-snoc is_given_up xs x) i;
  lines = sym (count-snoc is_line xs x) i;
  moves = sym (count-snoc is_move xs x) i;
  refused = sym (count-snoc is_refused xs x) i;
  retried = sym (count-snoc is_retried xs x) i;
  rounds = 0;
}

noted_is : (xs ys : List TurnOutcome) → noted_all (summary 0 xs) ys ≡ summary 0 (xs ++ ys)
noted_is xs [] = ap (summary 0) (sym (append-nil xs))
noted_is xs (y ∷ ys) = ap (λ (s : WorkSummary). noted_all s ys) (noted_snoc xs y) ∙ noted_is (xs ++ y ∷ []) ys ∙ ap (summary 0) (append_assoc xs (y ∷ []) ys)

module _ (room : ℕ → ℕ) (before : Events) (a : List Store) (w : Outside) (f : Counts) (b : List Store) (x : Outside) (g : Counts) (k : ℕ) where
  abbrev Done : ℕ → Result WorkSummary DeskFault → Type 0
  Done i result = Happened (MakesTurns (rounds i (length a)) (length a) room w.as_read before (summary 0 []) result f g) before a b w x

  -- none of them had a fault
  pub all_made : (s : WorkSummary) → Done k (Ok s)
      → Happened (Worked (length a) room w.as_read k before (Ok (record s { rounds = k })) f g) before a b w x
  all_made s p =
      let ok = came_ok (summary 0 []) s p.such.made p.such.comes in
      let is : s ≡ summary 0 p.such.made.outcomes = ok.is ∙ noted_is [] p.such.made.outcomes in
      happened_as (MakesTurns (rounds k (length a)) (length a) room w.as_read before (summary 0 []) (Ok s) f g)
      (Worked (length a) room w.as_read k before (Ok (record s { rounds = k })) f g) before a b w x p (record {
        works = inl (
          p.such.made,
          p.such.are,
          ap (λ (t : WorkSummary). Ok (record t { rounds = k })) is
              ∙ ap (λ (o : Option DeskFault). unless_fault o (summary k p.such.made.outcomes)) (sym ok.none),
        );
        counted = p.such.counted;
      })

  -- one of a round had
  pub ended_in : (i : ℕ) → suc i ≤ k → (fault : DeskFault) → Done (suc i) (Err fault)
      → Happened (Worked (length a) room w.as_read k before (Err fault) f g) before a b w x
  ended_in i within fault p =
      let had = came_err (summary 0 []) fault p.such.made p.such.comes in
      let sum : (k - suc i) + suc i ≡ k = omega (arith, within) in
      let all : rounds (suc i) (length a) ++ rounds (k - suc i) (length a) ≡ rounds k (length a) =
      sym (rounds_more (k - suc i) (suc i) (length a)) ∙ ap (λ (m : ℕ). rounds m (length a)) sum in
      happened_as (MakesTurns (rounds (suc i) (length a)) (length a) room w.as_read before (summary 0 []) (Err fault) f g)
      (Worked (length a) room w.as_read k before (Err fault) f g) before a b w x p (record {
        works = inl (
          p.such.made,
          subst (λ (l : List WorkerTurn). AreMade l (length a) room w.as_read before [] p.such.made p.events) all
              (made_still (length a) room w.as_read before (rounds (k - suc i) (length a)) (rounds (suc i) (length a)) [] p.such.made p.events fault
              p.such.are had),
          ap (λ (o : Option DeskFault). unless_fault o (summary k p.such.made.outcomes)) (sym had),
        );
        counted = counted_as WorkSummary WorkSummary fault p.events f g p.such.counted;
      })

-- there was no memory before the first turn
pub starved_first : (n : ℕ) (room : ℕ → ℕ) (before : Events) (a : List Store) (w : Outside) (f : Counts) (k : ℕ) → Keeps before a w → NoneFalls f f
    → Happened (Worked n room w.as_read k before (Err faults.OutOfMemory) f f) before a a w w
starved_first n room before a w f k keeps falls = happened_none (Worked n room w.as_read k before (Err faults.OutOfMemory) f f) before a w keeps (record {
  works = inr (refl, refl);
  counted = λ v. rises_none (side.Volume v) f f falls;
})

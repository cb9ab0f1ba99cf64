-- What a turn of the copier does is careful.
use Rattle.std.proofs.Common.{◌≡◌, ℕ, ◌<◌, ◌≤◌, ◌==◌, ◌&&◌, Bool, true, false, cond, [], ◌∷◌, ◌++◌, Some, None, IsSome, Result, Ok, Err, refl, sym, ◌∙◌, ap, subst, inl, inr, ⊎_elim, ne_eqb, arith}
use Rattle.std.specs.Prelude.{nat_lt}
use Rattle.std.proofs.lemmas.Bool.{and_parts}
use Rattle.std.proofs.lemmas.Bool.Decides.{nat_tests}
use Rattle.s3r_names.specs.declared.outcome.Outcome.{Outcome}
use Rattle.s3r_record.specs.declared.command.Command.{Command}
use Rattle.s3r_record.specs.declared.command.Command.TheVariants as command
use Rattle.s3r_queue.specs.declared.inbox.Arrival.{Arrival}
use Rattle.s3r_queue.specs.declared.inbox.Arrival.TheVariants as arrivals
use Rattle.s3r_queue.specs.Received.{watermark_of}
use Rattle.s3r_history.specs.declared.due.Due.{Due}
use Rattle.s3r_history.specs.Words.{History}
use Rattle.s3r_history.specs.Tasks.{received, last_from, next_task}
use Rattle.s3r_history.specs.Deeds.{deeds, judge}
use Rattle.s3r_history.specs.Agree.{CameTo}
use Rattle.s3r_desk.specs.declared.copy_outcome.CopyOutcome.{CopyOutcome}
use Rattle.s3r_desk.specs.declared.copy_outcome.CopyOutcome.TheVariants as outcomes
use Rattle.s3r_desk.specs.declared.fault.DeskFault.{DeskFault}
use Rattle.s3r_desk.specs.declared.fault.DeskFault.TheVariants as faults
use Rattle.s3r_desk.specs.declared.request.Answer.{Answer}
use Rattle.s3r_desk.specs.Events.{found, began, Events, known, history_at}
use Rattle.s3r_desk.specs.Careful.{MayBegin, AreCareful}
use Rattle.s3r_desk.specs.Stopping.{IsStarved}
use Rattle.s3r_desk.specs.Copying.{due_of, arrival_at, outcome_by, delivery, settle, clean, attempt, IsDue, IsMissed, IsTry, IsNoted, Fails, Ends, TurnsOut, IsTouched, IsCopyTurn}
use Rattle.s3r_desk.specs.Responds.{IsCopied}
use Rattle.s3r_desk.proofs.Careful.{same_number, other_number, careful_then}
use Rattle.s3r_desk.proofs.Knowing.{known_found}
use Rattle.s3r_desk.proofs.Licensed.{known_there, AreLicensed, made_careful, stopped_careful}
use Rattle.s3r_desk.proofs.CopyDue.{IsFirst, is_first, may_arrive, receive_accepted, settle_accepted, attempt_accepted, next_same, new_above, again_came, never_behind, not_past}

known_elsewhere : (r q : ℕ) (h : History) (c : Command) (events : Events) → (r ≡ q → ⊥) → known (found r h ∷ began r c ∷ events) q ≡ known events q
known_elsewhere r q h c events ne = ap (λ t. cond t (Some h) (cond t None (known events q))) (ne_eqb r q ne)

-- what was received is received now
came_now : (s d : ℕ) (k : History) (t : Due) → CameTo t.number (judge d k t.effect) (received (deeds d (command.Receive s t.number t.effect ∷ k)) s)
came_now s d k t = go (s == s) (grind (arith, nat_tests))
  where
    go : (b : Bool) → b ≡ true → CameTo t.number (judge d k t.effect)
        (cond b (record { number = t.number; effect = t.effect; outcome = judge d k t.effect } ∷ []) [] ++ received (deeds d k) s)
    go true e = inl (refl, refl)
    go false e = absurd cc

module _ (n s d : ℕ) (ls : s < n) (ld : d < n) (now : Events) (t : Due) (from : IsSome (known now s)) (due : due_of s d (history_at now s) ≡ Some t) where
  abbrev it : IsFirst s d (history_at now s) t
  it = is_first s d (history_at now s) t due

  -- a Receive may begin
  receive_may : IsSome (known now d) → arrival_at s d (history_at now d) t ≡ arrivals.New → MayBegin n now d (command.Receive s t.number t.effect)
  receive_may to new = record {
    history = history_at now d;
    is_known = known_there (known now d) to;
    accepted = receive_accepted n s d (history_at now d) t.number t.effect ls
        (new_above (last_from (deeds d (history_at now d)) s) t.number it.positive new);
    licensed = (history_at now s, known_there (known now s) from, may_arrive s d (history_at now s) t it);
  }

  -- a Settle may begin, where the task came to this
  settle_may : (outcome : Outcome) → IsSome (known now d) → CameTo t.number outcome (received (deeds d (history_at now d)) s)
      → MayBegin n now s (command.Settle d t.number outcome)
  settle_may outcome to came = record {
    history = history_at now s;
    is_known = known_there (known now s) from;
    accepted = settle_accepted n s d (history_at now s) t.number outcome ld it.next;
    licensed = (history_at now d, known_there (known now d) to, came);
  }

  -- so it may behind the task's Receive
  settle_behind : MayBegin n (found d (command.Receive s t.number t.effect ∷ history_at now d) ∷ began d (command.Receive s t.number t.effect) ∷ now) s
      (command.Settle d t.number (judge d (history_at now d) t.effect))
  settle_behind = go (d == s) refl
    where
      received_here : Command
      received_here = command.Receive s t.number t.effect

      after : Events
      after = found d (command.Receive s t.number t.effect ∷ history_at now d) ∷ began d (command.Receive s t.number t.effect) ∷ now

      to_known : known (found d (command.Receive s t.number t.effect ∷ history_at now d) ∷ began d (command.Receive s t.number t.effect) ∷ now) d
          ≡ Some (command.Receive s t.number t.effect ∷ history_at now d)
      to_known = known_found d (command.Receive s t.number t.effect ∷ history_at now d) (began d (command.Receive s t.number t.effect) ∷ now)

      go : (b : Bool) → (d == s) ≡ b
          → MayBegin n (found d (command.Receive s t.number t.effect ∷ history_at now d) ∷ began d (command.Receive s t.number t.effect) ∷ now) s
          (command.Settle d t.number (judge d (history_at now d) t.effect))
      go true is =
          let same : d ≡ s = same_number d s is in
          let one : history_at now d ≡ history_at now s = ap (history_at now) same in
          record {
            history = command.Receive s t.number t.effect ∷ history_at now d;
            is_known = subst (λ (x : ℕ). known (found d (command.Receive s t.number t.effect ∷ history_at now d) ∷ began d
                (command.Receive s t.number t.effect) ∷ now) x ≡ Some (command.Receive s t.number t.effect ∷ history_at now d)) same to_known;
            accepted = settle_accepted n s d (command.Receive s t.number t.effect ∷ history_at now d) t.number (judge d (history_at now d) t.effect) ld
                (it.next ∙ ap (λ (x : History). next_task x (deeds s x) d) (sym one) ∙ sym (next_same s s t.number d t.effect (history_at now d)));
            licensed = (command.Receive s t.number t.effect ∷ history_at now d, to_known, came_now s d (history_at now d) t);
          }
      go false is = record {
        history = history_at now s;
        is_known = known_elsewhere d s (command.Receive s t.number t.effect ∷ history_at now d) (command.Receive s t.number t.effect) now
            (other_number d s is) ∙ known_there (known now s) from;
        accepted = settle_accepted n s d (history_at now s) t.number (judge d (history_at now d) t.effect) ld it.next;
        licensed = (command.Receive s t.number t.effect ∷ history_at now d, to_known, came_now s d (history_at now d) t);
      }

-- a clean turn's commits may begin one after another
clean_licensed : (n s d : ℕ) → s < n → d < n → (now : Events) (t : Due) → IsDue s d now t → AreLicensed n now (history_at now) (clean s d (history_at now) t)
clean_licensed n s d ls ld now t due = go (arrival_at s d (history_at now d) t) refl
  where
    go : (a : Arrival) → arrival_at s d (history_at now d) t ≡ a
        → AreLicensed n now (history_at now) (delivery s d t a ++ settle s d t (outcome_by a (judge d (history_at now d) t.effect)) ∷ [])
    go arrivals.New is = (
      λ lt. receive_may n s d ls ld now t due.compared.from due.due due.compared.to is,
      (λ lt. settle_behind n s d ls ld now t due.compared.from due.due, tt),
    )
    go (arrivals.Again outcome) is = (
      λ lt. settle_may n s d ls ld now t due.compared.from due.due outcome due.compared.to
          (again_came (received (deeds d (history_at now d)) s) t.number outcome is),
      tt,
    )
    go (arrivals.Behind m) is = absurd (never_behind (last_from (deeds d (history_at now d)) s) t.number m
        (subst (λ (x : ℕ). watermark_of (last_from (deeds d (history_at now d)) s) ≤ x) (sym (is_first s d (history_at now s) t due.due).first_is)
        (not_past s d (history_at now s) (history_at now d) due.compared.within)) is)

-- ---- a missed turn

module _ (n s d : ℕ) (ls : s < n) (ld : d < n) (now : Events) (t : Due) (doubt : Events) (miss : IsMissed s d now t doubt) where
  attempt_may : MayBegin n (doubt ++ now) s (command.Attempt d t.number)
  attempt_may = record {
    history = history_at now s;
    is_known = ⊎_elim
        (λ w. subst (λ (l : Events). known (l ++ now) s ≡ Some (history_at now s)) (sym w.1) (known_there (known now s) miss.from))
        (λ w. subst (λ (l : Events). known (l ++ now) s ≡ Some (history_at now s)) (sym w.2)
        (ap (λ b. cond b None (known now s)) (ne_eqb d s (λ e. miss.apart (sym e))) ∙ known_there (known now s) miss.from))
        miss.missed;
    accepted = attempt_accepted n s d (history_at now s) t.number ld (is_first s d (history_at now s) t miss.due).next;
    licensed = tt;
  }

  doubt_may : AreCareful n now doubt
  doubt_may = ⊎_elim
      (λ w. subst (λ (l : Events). AreCareful n now l) (sym w.1) tt)
      (λ w. subst (λ (l : Events). AreCareful n now l) (sym w.2) (λ lt. receive_may n s d ls ld now t miss.from miss.due w.0.to w.1, tt))
      miss.missed

-- ---- turns

module _ (room : ℕ → ℕ) (n s d : ℕ) (ls : s < n) (ld : d < n) (now : Events) where
  try_careful : (events : Events) (Such : Due → Events → Type 0) → IsTry s d now events Such
      → ((t : Due) (rest doubt : Events) → Such t rest → MayBegin n (doubt ++ now) s (command.Attempt d t.number) → AreCareful n (doubt ++ now) rest)
      → AreCareful n now events
  try_careful events Such try lead = subst (λ (l : Events). AreCareful n now l) (sym try.parts)
      (careful_then n now try.doubt try.rest (doubt_may n s d ls ld now try.task try.doubt try.missed)
      (lead try.task try.rest try.doubt try.such (attempt_may n s d ls ld now try.task try.doubt try.missed)))

  in_doubt : (t : Due) (rest doubt : Events) → rest ≡ began s (command.Attempt d t.number) ∷ []
      → MayBegin n (doubt ++ now) s (command.Attempt d t.number) → AreCareful n (doubt ++ now) rest
  in_doubt t rest doubt is may = subst (λ (l : Events). AreCareful n (doubt ++ now) l) (sym is) (λ lt. may, tt)

  noted_careful : (events : Events) (outcome : CopyOutcome) → IsNoted room s d now events outcome → AreCareful n now events
  noted_careful events outcome noted = try_careful events _ noted
      (λ t rest doubt such may. subst (λ (l : Events). AreCareful n (doubt ++ now) l) (sym such.2)
      (made_careful n (doubt ++ now) (history_at now) (attempt s d t ∷ []) (λ lt. may, tt)))

  ends_careful : (events : Events) (outcome : CopyOutcome) → Ends room s d now events outcome → AreCareful n now events
  ends_careful events outcomes.Idle ends = subst (λ (l : Events). AreCareful n now l) (sym ends.2) tt
  ends_careful events (outcomes.Settled number outcome) ends = subst (λ (l : Events). AreCareful n now l) (sym ends.5)
      (made_careful n now (history_at now) (clean s d (history_at now) ends.0) (clean_licensed n s d ls ld now ends.0 ends.1))
  ends_careful events (outcomes.Retried number k) ends = noted_careful events (outcomes.Retried number k) ends
  ends_careful events (outcomes.GaveUp number) ends = noted_careful events (outcomes.GaveUp number) ends

  starved_careful : (events : Events) (t : Due) → IsDue s d now t → IsStarved room (history_at now) (clean s d (history_at now) t) events
      → AreCareful n now events
  starved_careful events t due starved = ⊎_elim
      (λ none. subst (λ (l : Events). AreCareful n now l) (sym none) tt)
      (λ w. stopped_careful n room now (history_at now) (clean s d (history_at now) t) events w.0 (clean_licensed n s d ls ld now t due) w.1)
      starved

  fails_careful : (events : Events) (fault : DeskFault) → Fails room s d now events fault → AreCareful n now events
  fails_careful events (faults.Volume v) fails = ⊎_elim
      (λ w. subst (λ (l : Events). AreCareful n now l) (sym w.0) tt)
      (λ w. ⊎_elim
      (λ cut. stopped_careful n room now (history_at now) (clean s d (history_at now) cut.0) events cut.2.stops
      (clean_licensed n s d ls ld now cut.0 cut.1) (inr cut.2.doubt))
      (λ try. try_careful events _ try (λ t rest doubt such may. in_doubt t rest doubt such.1 may))
      w.1)
      fails
  fails_careful events (faults.Full v) fails = ⊎_elim
      (λ cut. stopped_careful n room now (history_at now) (clean s d (history_at now) cut.0) events cut.2.stops
      (clean_licensed n s d ls ld now cut.0 cut.1) (inl cut.2.none))
      (λ w. try_careful events _ w.1 (λ t rest doubt such may. subst (λ (l : Events). AreCareful n (doubt ++ now) l) (sym such.1) tt))
      fails
  fails_careful events (faults.Damaged v offset) fails = subst (λ (l : Events). AreCareful n now l) (sym fails.0) tt
  fails_careful events (faults.Disagree from to sent last settled received) fails = subst (λ (l : Events). AreCareful n now l) (sym fails.0) tt
  fails_careful events faults.OutOfMemory fails = ⊎_elim
      (λ none. subst (λ (l : Events). AreCareful n now l) (sym none) tt)
      (λ w. ⊎_elim
      (λ cut. starved_careful events cut.0 cut.1 cut.2)
      (λ try. try_careful events _ try in_doubt)
      w)
      fails

  turns_out_careful : (events : Events) (result : Result CopyOutcome DeskFault) → TurnsOut room s d now events result → AreCareful n now events
  turns_out_careful events (Ok outcome) comes = ends_careful events outcome comes
  turns_out_careful events (Err fault) comes = fails_careful events fault comes

pub touch_careful : (P : ℕ → History → Type 0) (n : ℕ) (before : Events) (r : ℕ) (events : Events) → IsTouched P before r events → AreCareful n before events
touch_careful P n before r events touched = ⊎_elim
    (λ none. subst (λ (l : Events). AreCareful n before l) (sym none) tt)
    (λ w. subst (λ (l : Events). AreCareful n before l) (sym w.3) tt)
    touched

-- each command of a turn may begin where it begins, whatever the turn comes to
pub copy_careful : (P : ℕ → History → Type 0) (room : ℕ → ℕ) (n s d : ℕ) (before events : Events) (result : Result CopyOutcome DeskFault) → s < n → d < n
    → IsCopyTurn P room s d before result events → AreCareful n before events
copy_careful P room n s d before events result ls ld turn =
    subst (λ (l : Events). AreCareful n before l) (sym turn.parts)
    (careful_then n before (turn.receiver ++ turn.sender) turn.rest
    (careful_then n before turn.sender turn.receiver (touch_careful P n before s turn.sender turn.touches_sender)
    (touch_careful P n (turn.sender ++ before) d turn.receiver turn.touches_receiver))
    (turns_out_careful room n s d ls ld ((turn.receiver ++ turn.sender) ++ before) turn.rest result turn.comes))

lt_of : (a b : ℕ) → nat_lt a b ≡ true → a < b
lt_of a b e = grind (arith, nat_tests)

pub copied_careful : (P : ℕ → History → Type 0) (room : ℕ → ℕ) (n s d : ℕ) (before events : Events) (result : Result Answer DeskFault) (b : Bool)
    → (nat_lt s n && nat_lt d n) ≡ b → IsCopied P room s d before result events b → AreCareful n before events
copied_careful P room n s d before events result true is did =
    let both = and_parts (nat_lt s n) (nat_lt d n) is in
    copy_careful P room n s d before events did.0 (lt_of s n both.0) (lt_of d n both.1) did.2
copied_careful P room n s d before events result false is did = subst (λ (l : Events). AreCareful n before l) (sym did.1) tt

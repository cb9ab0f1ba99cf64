-- What the commits of a turn of the copier come to together.
use Rattle.std.proofs.Common.{◌≡◌, ◌≢◌, ℕ, ◌+◌, ◌<◌, ◌≤◌, ◌==◌, Bool, true, false, cond, List, [], ◌∷◌, ◌++◌, Option, Some, None, Result, Ok, Err, refl, sym, ◌∙◌, ap, subst, inl, inr, ⊎_elim, ne_eqb, append_assoc, arith}
use Rattle.std.specs.Prelude.{unwrap_or}
use Rattle.std.proofs.lemmas.Bool.Decides.{nat_tests}
use Rattle.std.proofs.lemmas.List.{append-nil}
use Rattle.s3r_names.specs.declared.outcome.Outcome.{Outcome}
use Rattle.s3r_record.specs.declared.command.Command.TheVariants as command
use Rattle.s3r_queue.specs.declared.inbox.Arrival.{Arrival}
use Rattle.s3r_queue.specs.declared.inbox.Arrival.TheVariants as arrivals
use Rattle.s3r_history.specs.declared.due.Due.{Due}
use Rattle.s3r_history.specs.Words.{History}
use Rattle.s3r_history.specs.Deeds.{judge}
use Rattle.s3r_store.specs.Commits.{length_with}
use Rattle.s3r_desk.specs.declared.copy_outcome.CopyOutcome.{CopyOutcome}
use Rattle.s3r_desk.specs.declared.copy_outcome.CopyOutcome.TheVariants as outcomes
use Rattle.s3r_desk.specs.declared.fault.DeskFault.{DeskFault}
use Rattle.s3r_desk.specs.declared.fault.DeskFault.TheVariants as faults
use Rattle.s3r_desk.specs.Events.{found, began, Events, known, history_at}
use Rattle.s3r_desk.specs.Steps.{Commit, Histories, after_commit, after_commits, made, FitRooms}
use Rattle.s3r_desk.specs.Stopping.{StopsAt}
use Rattle.s3r_desk.specs.Copying.{arrival_at, outcome_by, outcome_at, receive, delivery, settle, clean, tried, IsDue, IsMissed, IsTry, IsNoted, Fails, Ends, TurnsOut, is_missed}
use Rattle.s3r_desk.specs.Happened.{IsTried, IsSettled, IsDelivered}
use Rattle.s3r_desk.proofs.Careful.{same_number}

-- ---- commits in a row

made_last : (at : Histories) (xs : List Commit) (y : Commit)
    → made at (xs ++ y ∷ []) ≡ (found y.region (y.command ∷ after_commits xs at y.region) ∷ began y.region y.command ∷ []) ++ made at xs
made_last at [] y = refl
made_last at (x ∷ xs) y =
    let one : Events = found x.region (x.command ∷ at x.region) ∷ began x.region x.command ∷ [] in
    ap (λ (l : Events). l ++ one) (made_last (after_commit x at) xs y)
    ∙ append_assoc (found y.region (y.command ∷ after_commits xs (after_commit x at) y.region) ∷ began y.region y.command ∷ [])
    (made (after_commit x at) xs) one

fit_last : (room : ℕ → ℕ) (at : Histories) (xs : List Commit) (y : Commit) → FitRooms room at xs
    → length_with y.region (after_commits xs at y.region) y.command ≤ room y.region → FitRooms room at (xs ++ y ∷ [])
fit_last room at [] y fit last = (last, tt)
fit_last room at (x ∷ xs) y fit last = (fit.0, fit_last room (after_commit x at) xs y fit.1 last)

-- what is known behind commits that were made
made_history : (xs : List Commit) (at : Histories) (now : Events) (r : ℕ) → ((q : ℕ) → history_at now q ≡ at q)
    → history_at (made at xs ++ now) r ≡ after_commits xs at r
made_history [] at now r is = is r
made_history (x ∷ xs) at now r is =
    ap (λ (l : Events). history_at l r) (append_assoc (made (after_commit x at) xs) _ now)
    ∙ made_history xs (after_commit x at) (found x.region (x.command ∷ at x.region) ∷ began x.region x.command ∷ now) r one
  where
    pick : (q : ℕ) (t u : Bool) → (x.region == q) ≡ t → t ≡ u
        → unwrap_or (cond t (Some (x.command ∷ at x.region)) (cond t None (known now q))) [] ≡ cond u (x.command ∷ at q) (at q)
    pick q true true e same = ap (λ (m : ℕ). x.command ∷ at m) (same_number x.region q e)
    pick q false false e same = is q
    pick q true false e same = absurd cc
    pick q false true e same = absurd cc

    one : (q : ℕ) → history_at (found x.region (x.command ∷ at x.region) ∷ began x.region x.command ∷ now) q ≡ after_commit x at q
    one q = pick q (x.region == q) (q == x.region) refl (grind (arith, nat_tests))

-- ---- faults that are the receiver's

pub missed_is_volume : (s d : ℕ) (fault : DeskFault) → is_missed fault s d ≡ true → (v : ℕ) × (fault ≡ faults.Volume v) × (s ≢ d)
missed_is_volume s d (faults.Volume u) e = (u, refl, λ same. let yes : (s == d) ≡ true = grind (arith, nat_tests) in absurd (cc (yes, e)))
missed_is_volume s d (faults.Full u) e = absurd cc
missed_is_volume s d (faults.Damaged u offset) e = absurd cc
missed_is_volume s d (faults.Disagree from to sent last settled received) e = absurd cc
missed_is_volume s d faults.OutOfMemory e = absurd cc

pub apart_where_missed : (s d : ℕ) (fault : DeskFault) → is_missed fault s d ≡ true → s ≢ d
apart_where_missed s d fault e = (missed_is_volume s d fault e).2

pub same_where_not : (s d u : ℕ) → is_missed (faults.Volume u) s d ≡ false → s ≡ d
same_where_not s d u e = grind (arith, nat_tests)

-- ---- a missed turn

module _ (room : ℕ → ℕ) (s d : ℕ) (now : Events) (t : Due) (doubt : Events) (miss : IsMissed s d now t doubt) where
  still_known : known (doubt ++ now) s ≡ known now s
  still_known = ⊎_elim
      (λ w. ap (λ (l : Events). known (l ++ now) s) w.1)
      (λ w. ap (λ (l : Events). known (l ++ now) s) w.2 ∙ ap (λ b. cond b None (known now s)) (ne_eqb d s (λ e. miss.apart (sym e))))
      miss.missed

  still_there : history_at (doubt ++ now) s ≡ history_at now s
  still_there = ap (λ (o : Option History). unwrap_or o []) still_known

  fits_there : (P : ℕ → Type 0) → P (length_with s (history_at (doubt ++ now) s) (command.Attempt d t.number))
      → P (length_with s (history_at now s) (command.Attempt d t.number))
  fits_there P p = subst (λ (h : History). P (length_with s h (command.Attempt d t.number))) still_there p

  ends_tried : (attempts : ℕ) (given : CopyOutcome) (events : Events) → given ≡ tried t.number attempts → IsNoted room s d now events given
      → Ends room s d now events given
  ends_tried attempts given events is noted =
      subst (λ (x : CopyOutcome). IsNoted room s d now events x → Ends room s d now events x) (sym is) (go (attempts == 8)) noted
    where
      go : (b : Bool) → IsNoted room s d now events (cond b (outcomes.GaveUp t.number) (outcomes.Retried t.number attempts))
          → Ends room s d now events (cond b (outcomes.GaveUp t.number) (outcomes.Retried t.number attempts))
      go true noted = noted
      go false noted = noted

  try_by : (events rest : Events) (Such : Due → Events → Type 0) → events ≡ rest ++ doubt → Such t rest → IsTry s d now events Such
  try_by events rest Such parts such = record { task = t; doubt = doubt; rest = rest; missed = miss; such = such; parts = parts }

  pub noted : (result : Result CopyOutcome DeskFault) (rest : Events) → IsTried room s d t.number t.attempts (doubt ++ now) result rest
      → TurnsOut room s d now (rest ++ doubt) result
  noted (Ok given) rest did =
      ends_tried (t.attempts + 1) given (rest ++ doubt) did.0
      (try_by (rest ++ doubt) rest _ refl (
        did.0,
        (fits_there (λ m. m ≤ room s) did.1.0, tt),
        did.1.1 ∙ ap (λ (h : History). found s (command.Attempt d t.number ∷ h) ∷ began s (command.Attempt d t.number) ∷ []) still_there,
      ))
  noted (Err (faults.Volume v)) rest did =
      inr (did.0, inr (try_by (rest ++ doubt) rest _ refl (fits_there (λ m. m ≤ room s) did.1, did.2)))
  noted (Err (faults.Full v)) rest did = inr (did.0, try_by (rest ++ doubt) rest _ refl (fits_there (λ m. room s < m) did.1, did.2))
  noted (Err (faults.Damaged v offset)) rest did = absurd did
  noted (Err (faults.Disagree from to sent last settled received)) rest did = absurd did
  noted (Err faults.OutOfMemory) rest did = inr (inr (try_by (rest ++ doubt) rest _ refl did))

-- ---- a task is carried

module _ (room : ℕ → ℕ) (s d : ℕ) (now : Events) (t : Due) (due : IsDue s d now t) where
  abbrev at : Histories
  at = history_at now

  abbrev commits_by : Arrival → List Commit
  commits_by a = delivery s d t a ++ settle s d t (outcome_by a (judge d (history_at now d) t.effect)) ∷ []

  -- the Receive is the next commit
  first_stops : (events : Events) → arrival_at s d (history_at now d) t ≡ arrivals.New → StopsAt room (history_at now) (clean s d (history_at now) t) events
  first_stops events new = record {
    first = [];
    next = receive s d t;
    others = settle s d t (judge d (history_at now d) t.effect) ∷ [];
    parts = ap commits_by new;
    fit = tt;
    last = events;
    events_are = sym (append-nil events);
  }

  pub carry_fails : (fault : DeskFault) (events : Events) → is_missed fault s d ≡ false → IsDelivered room s d t now (Err fault) events
      → Fails room s d now events fault
  unfolding first_stops
  carry_fails (faults.Volume v) events e did =
      let same : s ≡ d = same_where_not s d v e in
      inr (
        did.1.0 ∙ sym same,
        inl (
          t,
          due,
          record {
            stops = first_stops events did.0;
            region = sym did.1.0;
            fits = subst (λ (m : ℕ). length_with m (history_at now m) (command.Receive s t.number t.effect) ≤ room m) (sym did.1.0) did.1.1;
            doubt = did.1.2;
          },
        ),
      )
  carry_fails (faults.Full v) events e did = inl (
    t,
    due,
    record {
      stops = first_stops events did.0;
      region = sym did.1.0;
      full = subst (λ (m : ℕ). room m < length_with m (history_at now m) (command.Receive s t.number t.effect)) (sym did.1.0) did.1.1;
      none = did.1.2;
    },
  )
  carry_fails (faults.Damaged v offset) events e did = absurd did.1
  carry_fails (faults.Disagree from to sent last settled received) events e did = absurd did.1
  carry_fails faults.OutOfMemory events e did = inr (inl (t, due, inr (first_stops events did.0, inr did.1)))

  missed_so : (fault : DeskFault) (doubt : Events) (v : ℕ) → fault ≡ faults.Volume v → s ≢ d → IsDelivered room s d t now (Err fault) doubt
      → IsMissed s d now t doubt
  missed_so fault doubt v is apart did =
      let did' = subst (λ (f : DeskFault). IsDelivered room s d t now (Err f) doubt) is did in
      record { apart = apart; from = due.compared.from; due = due.due; missed = inr (due.compared, did'.0, did'.1.2) }

  pub carry_missed : (fault : DeskFault) (doubt : Events) → is_missed fault s d ≡ true → IsDelivered room s d t now (Err fault) doubt
      → IsMissed s d now t doubt
  carry_missed fault doubt e did = let v = missed_is_volume s d fault e in missed_so fault doubt v.0 v.1 v.2 did

  -- the Settle is the next commit behind the delivery
  module _ (outcome : Outcome) (earlier : Events) (did : IsDelivered room s d t now (Ok outcome) earlier) where
    abbrev arrived : List Commit
    arrived = delivery s d t (arrival_at s d (history_at now d) t)

    abbrev settles : Commit
    settles = settle s d t (outcome_at s d (history_at now d) t)

    behind_is : history_at (earlier ++ now) s ≡ after_commits (delivery s d t (arrival_at s d (history_at now d) t)) (history_at now) s
    behind_is = ap (λ (l : Events). history_at (l ++ now) s) did.2
        ∙ made_history (delivery s d t (arrival_at s d (history_at now d) t)) (history_at now) now s (λ q. refl)

    -- so it is by the outcome and the history that are known there
    by_outcome : (P : History → Outcome → Type 0) → P (history_at (earlier ++ now) s) outcome
        → P (after_commits (delivery s d t (arrival_at s d (history_at now d) t)) (history_at now) s) (outcome_at s d (history_at now d) t)
    by_outcome P p = subst (λ (h : History). P h (outcome_at s d (history_at now d) t)) behind_is
        (subst (λ (o : Outcome). P (history_at (earlier ++ now) s) o) did.0 p)

    second_stops : (later : Events) → StopsAt room (history_at now) (clean s d (history_at now) t) (later ++ earlier)
    second_stops later = record {
      first = delivery s d t (arrival_at s d (history_at now d) t);
      next = settle s d t (outcome_at s d (history_at now d) t);
      others = [];
      parts = refl;
      fit = did.1;
      last = later;
      events_are = ap (λ (l : Events). later ++ l) did.2;
    }

    pub settled_so : (result : Result CopyOutcome DeskFault) (later : Events) → IsSettled room s d t.number outcome (earlier ++ now) result later
        → TurnsOut room s d now (later ++ earlier) result
    unfolding second_stops
    settled_so (Ok given) later done =
        subst (λ (x : CopyOutcome). Ends room s d now (later ++ earlier) x) (sym done.0) (
          t,
          due,
          refl,
          did.0,
          fit_last room (history_at now) (delivery s d t (arrival_at s d (history_at now d) t)) (settle s d t (outcome_at s d (history_at now d) t)) did.1
              (by_outcome (λ h o. length_with s h (command.Settle d t.number o) ≤ room s) done.1.0),
          by_outcome (λ h o. later ++ earlier ≡ (found s (command.Settle d t.number o ∷ h) ∷ began s (command.Settle d t.number o) ∷ []) ++ earlier)
              (ap (λ (l : Events). l ++ earlier) done.1.1)
              ∙ ap (λ (l : Events). (found s (command.Settle d t.number (outcome_at s d (history_at now d) t)
              ∷ after_commits (delivery s d t (arrival_at s d (history_at now d) t)) (history_at now) s)
              ∷ began s (command.Settle d t.number (outcome_at s d (history_at now d) t)) ∷ []) ++ l) did.2
              ∙ sym (made_last (history_at now) (delivery s d t (arrival_at s d (history_at now d) t)) (settle s d t (outcome_at s d (history_at now d) t))),
        )
    settled_so (Err (faults.Volume v)) later done = inr (
      done.0,
      inl (
        t,
        due,
        record {
          stops = second_stops later;
          region = sym done.0;
          fits = subst (λ (m : ℕ). length_with m (after_commits (delivery s d t (arrival_at s d (history_at now d) t)) (history_at now) m)
              (command.Settle d t.number (outcome_at s d (history_at now d) t)) ≤ room m) (sym done.0)
              (by_outcome (λ h o. length_with s h (command.Settle d t.number o) ≤ room s) done.1);
          doubt = done.2 ∙ ap (λ (o : Outcome). began s (command.Settle d t.number o) ∷ []) did.0;
        },
      ),
    )
    settled_so (Err (faults.Full v)) later done = inl (
      t,
      due,
      record {
        stops = second_stops later;
        region = sym done.0;
        full = subst (λ (m : ℕ). room m < length_with m (after_commits (delivery s d t (arrival_at s d (history_at now d) t)) (history_at now) m)
            (command.Settle d t.number (outcome_at s d (history_at now d) t))) (sym done.0)
            (by_outcome (λ h o. room s < length_with s h (command.Settle d t.number o)) done.1);
        none = done.2;
      },
    )
    settled_so (Err (faults.Damaged v offset)) later done = absurd done
    settled_so (Err (faults.Disagree from to sent last settled received)) later done = absurd done
    settled_so (Err faults.OutOfMemory) later done = inr (inl (
      t,
      due,
      inr (second_stops later, inr (done ∙ ap (λ (o : Outcome). began s (command.Settle d t.number o) ∷ []) did.0)),
    ))

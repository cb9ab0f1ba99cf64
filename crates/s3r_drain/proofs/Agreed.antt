-- Regions that agree go on to agree.
use Rattle.std.proofs.Common.{◌≡◌, ℕ, zero, suc, ◌<◌, ◌≤◌, ◌==◌, Bool, true, false, cond, nat_lt, List, [], ◌∷◌, ◌++◌, Option, Some, None, refl, sym, subst, inl, eq-eqb, ne_eqb, arith}
use Rattle.std.proofs.lemmas.Bool.Decides.{nat_tests}
use Rattle.s3r_names.specs.declared.outcome.Outcome.{Outcome}
use Rattle.s3r_record.specs.declared.command.Command.{Command}
use Rattle.s3r_record.specs.declared.command.Command.TheVariants as command
use Rattle.s3r_queue.specs.declared.inbox.Noted.{Noted}
use Rattle.s3r_queue.specs.declared.inbox.Arrival.{Arrival}
use Rattle.s3r_queue.specs.declared.inbox.Arrival.TheVariants as arrivals
use Rattle.s3r_queue.specs.Received.{watermark_of, arrival_of}
use Rattle.s3r_history.specs.declared.due.Due.{Due}
use Rattle.s3r_history.specs.Deeds.{deeds, judge}
use Rattle.s3r_history.specs.Tasks.{Received, received, last_of, last_from}
use Rattle.s3r_history.specs.Agree.{CameTo, Agrees}
use Rattle.s3r_history.specs.AgreeLaws.{settles_to, receives_from, MayArrive}
use Rattle.s3r_history.proofs.Agreeing.{at_sender, at_receiver, at_receive, at_settle}
use Rattle.s3r_history.proofs.Within.{is_within}
use Rattle.s3r_desk.specs.Steps.{Histories, Commit, after_commit}
use Rattle.s3r_desk.specs.Careful.{AreAgreed}
use Rattle.s3r_desk.specs.Copying.{due_of, arrival_at, outcome_by, outcome_at, receive, settle}
use Rattle.s3r_drain.specs.Drain.{turned_by, turned, turns, TurnsKeepAgreement, AllStayAgreed}
use Rattle.s3r_drain.proofs.OneTurn.{IsFirst, is-first, delivered, turned-is}

-- ---- what a number is at the receiver

new-above : (o : Option Noted) (number : ℕ) → 1 ≤ number → arrival_of o number ≡ arrivals.New → watermark_of o < number
new-above None number positive e = positive
new-above (Some last) number positive e = go (nat_lt last.number number) (number == last.number) refl e
  where
    go : (t u : Bool) → nat_lt last.number number ≡ t → cond t arrivals.New (cond u (arrivals.Again last.outcome) (arrivals.Behind last.number)) ≡ arrivals.New
        → last.number < number
    go true u is e' = grind (arith, nat_tests)
    go false true is e' = absurd cc
    go false false is e' = absurd cc

again-came : (rs : List Received) (number : ℕ) (outcome : Outcome) → arrival_of (last_of rs) number ≡ arrivals.Again outcome → CameTo number outcome rs
again-came [] number outcome e = absurd cc
again-came (r ∷ rs) number outcome e = go (nat_lt r.number number) (number == r.number) refl e
  where
    go : (t u : Bool) → (number == r.number) ≡ u
        → cond t arrivals.New (cond u (arrivals.Again r.outcome) (arrivals.Behind r.number)) ≡ arrivals.Again outcome → CameTo number outcome (r ∷ rs)
    go true u is e' = absurd cc
    go false true is e' = let same : r.number ≡ number = grind (arith, nat_tests) in let as_is : r.outcome ≡ outcome = cc in inl (same, as_is)
    go false false is e' = absurd cc

never-behind : (o : Option Noted) (number m : ℕ) → watermark_of o ≤ number → arrival_of o number ≡ arrivals.Behind m → ⊥
never-behind None number m le e = absurd cc
never-behind (Some last) number m le e = go (nat_lt last.number number) (number == last.number) refl refl e
  where
    go : (t u : Bool) → nat_lt last.number number ≡ t → (number == last.number) ≡ u
        → cond t arrivals.New (cond u (arrivals.Again last.outcome) (arrivals.Behind last.number)) ≡ arrivals.Behind m → ⊥
    go true u a b e' = absurd cc
    go false true a b e' = absurd cc
    go false false a b e' = absurd (grind (arith, nat_tests, le))

-- ---- its commits

same-number : (a b : ℕ) → (a == b) ≡ true → a ≡ b
same-number a b e = grind (arith, nat_tests)

module _ (s d : ℕ) (at : Histories) (t : Due) (agree : Agrees s d (at s) (at d)) where
  -- the pair agrees with one command more at the sender, at the receiver, or at both
  abbrev AgreesAfter : Bool → Bool → Command → Type 0
  AgreesAfter x y c = Agrees s d (cond x (c ∷ at s) (at s)) (cond y (c ∷ at d) (at d))

  receive-agrees : MayArrive s d (at s) t.number t.effect → watermark_of (last_from (deeds d (at d)) s) < t.number
      → Agrees s d (after_commit (receive s d t) at s) (after_commit (receive s d t) at d)
  receive-agrees may above =
      subst (λ (b : Bool). AgreesAfter (s == d) b (command.Receive s t.number t.effect)) (sym (eq-eqb d d refl)) (go (s == d) refl)
    where
      elsewhere : Agrees s d (at s) (command.Receive s t.number t.effect ∷ at d)
      elsewhere = at_receive s d (at s) (at d) t.number t.effect may above agree

      go : (b : Bool) → (s == d) ≡ b → AgreesAfter b true (command.Receive s t.number t.effect)
      go false e = elsewhere
      go true e = at_sender s d (at s) (command.Receive s t.number t.effect ∷ at d) (command.Receive s t.number t.effect) refl elsewhere

  settle-agrees : (outcome : Outcome) → CameTo t.number outcome (received (deeds d (at d)) s)
      → Agrees s d (after_commit (settle s d t outcome) at s) (after_commit (settle s d t outcome) at d)
  settle-agrees outcome came =
      subst (λ (b : Bool). AgreesAfter b (d == s) (command.Settle d t.number outcome)) (sym (eq-eqb s s refl)) (go (d == s) refl)
    where
      elsewhere : Agrees s d (command.Settle d t.number outcome ∷ at s) (at d)
      elsewhere = at_settle s d (at s) (at d) t.number outcome came agree

      go : (b : Bool) → (d == s) ≡ b → AgreesAfter true b (command.Settle d t.number outcome)
      go false e = elsewhere
      go true e = at_receiver s d (command.Settle d t.number outcome ∷ at s) (at d) (command.Settle d t.number outcome) refl elsewhere

  -- behind the delivery they agree, and the task was received with its outcome
  delivered-agrees : IsFirst s d (at s) t → (a : Arrival) → arrival_at s d (at d) t ≡ a
      → Agrees s d (delivered s d at t a s) (delivered s d at t a d)
      × CameTo t.number (outcome_by a (judge d (at d) t.effect)) (received (deeds d (delivered s d at t a d)) s)
  delivered-agrees due arrivals.New is = (
    receive-agrees (record { to_first = omega (arith, due.first_is); to_sent = due.to_sent; prescribed_there = due.there })
        (new-above (last_from (deeds d (at d)) s) t.number due.positive is),
    subst (λ (b : Bool). CameTo t.number (judge d (at d) t.effect) (received (deeds d (cond b (command.Receive s t.number t.effect ∷ at d) (at d))) s))
        (sym (eq-eqb d d refl))
        (subst (λ (b : Bool). CameTo t.number (judge d (at d) t.effect)
        (cond b (record { number = t.number; effect = t.effect; outcome = judge d (at d) t.effect } ∷ []) [] ++ received (deeds d (at d)) s))
        (sym (eq-eqb s s refl)) (inl (refl, refl))),
  )
  delivered-agrees due (arrivals.Again outcome) is = (agree, again-came (received (deeds d (at d)) s) t.number outcome is)
  delivered-agrees due (arrivals.Behind m) is =
      absurd (never-behind (last_from (deeds d (at d)) s) t.number m (omega (arith, due.first_is, (is_within s d (at s) (at d) agree).1)) is)

-- ---- turns

one-agrees : (s d : ℕ) (at : Histories) → Agrees s d (at s) (at d) → Agrees s d (turned s d at s) (turned s d at d)
one-agrees s d at agree = go (due_of s d (at s)) refl
  where
    go : (o : Option Due) → due_of s d (at s) ≡ o → Agrees s d (turned s d at s) (turned s d at d)
    go None e = subst (λ (o : Option Due). Agrees s d (turned_by s d at o s) (turned_by s d at o d)) (sym e) agree
    go (Some t) e =
        let a = arrival_at s d (at d) t in
        let both = delivered-agrees s d at t agree (is-first s d (at s) t e) a refl in
        subst (λ (later : Histories). Agrees s d (later s) (later d)) (sym (turned-is s d at t e))
        (settle-agrees s d (delivered s d at t a) t both.0 (outcome_at s d (at d) t) both.1)

pub turns_agree : TurnsKeepAgreement
turns_agree s d zero at agree = agree
turns_agree s d (suc m) at agree = one-agrees s d (turns s d m at) (turns_agree s d m at agree)

-- ---- all pairs

-- another pair isn't concerned by a commit
other-agrees : (a b : ℕ) (c : Commit) (at : Histories) → (a ≡ c.region → settles_to b c.command ≡ false) → (b ≡ c.region → receives_from a c.command ≡ false)
    → Agrees a b (at a) (at b) → Agrees a b (after_commit c at a) (after_commit c at b)
other-agrees a b c at sends receives agree = received-too (b == c.region) refl (sent-too (a == c.region) refl)
  where
    sent-too : (x : Bool) → (a == c.region) ≡ x → Agrees a b (cond x (c.command ∷ at a) (at a)) (at b)
    sent-too false e = agree
    sent-too true e = at_sender a b (at a) (at b) c.command (sends (same-number a c.region e)) agree

    received-too : (y : Bool) → (b == c.region) ≡ y → Agrees a b (after_commit c at a) (at b) → Agrees a b (after_commit c at a)
        (cond y (c.command ∷ at b) (at b))
    received-too false e sent = sent
    received-too true e sent = at_receiver a b (after_commit c at a) (at b) c.command (receives (same-number b c.region e)) sent

module _ (s d a b : ℕ) (other : (a ≡ s) × (b ≡ d) → ⊥) where
  delivered-others : (at : Histories) (t : Due) (how : Arrival) → Agrees a b (at a) (at b) → Agrees a b (delivered s d at t how a) (delivered s d at t how b)
  delivered-others at t arrivals.New agree =
      other-agrees a b (receive s d t) at (λ e. refl) (λ here. ne_eqb s a (λ same. other (sym same, here))) agree
  delivered-others at t (arrivals.Again outcome) agree = agree
  delivered-others at t (arrivals.Behind m) agree = agree

  settled-others : (at : Histories) (t : Due) (outcome : Outcome) → Agrees a b (at a) (at b)
      → Agrees a b (after_commit (settle s d t outcome) at a) (after_commit (settle s d t outcome) at b)
  settled-others at t outcome agree =
      other-agrees a b (settle s d t outcome) at (λ here. ne_eqb d b (λ same. other (here, sym same))) (λ e. refl) agree

  others-agree : (at : Histories) → Agrees a b (at a) (at b) → Agrees a b (turned s d at a) (turned s d at b)
  others-agree at agree = go (due_of s d (at s)) refl
    where
      go : (o : Option Due) → due_of s d (at s) ≡ o → Agrees a b (turned s d at a) (turned s d at b)
      go None e = subst (λ (o : Option Due). Agrees a b (turned_by s d at o a) (turned_by s d at o b)) (sym e) agree
      go (Some t) e =
          let how = arrival_at s d (at d) t in
          subst (λ (later : Histories). Agrees a b (later a) (later b)) (sym (turned-is s d at t e))
          (settled-others (delivered s d at t how) t (outcome_at s d (at d) t) (delivered-others at t how agree))

all-agree : (n s d : ℕ) (at : Histories) → AreAgreed n at → AreAgreed n (turned s d at)
all-agree n s d at agree a b la lb = go (a == s) refl (b == d) refl
  where
    go : (x : Bool) → (a == s) ≡ x → (y : Bool) → (b == d) ≡ y → Agrees a b (turned s d at a) (turned s d at b)
    go true ea true eb =
        let same_s = same-number a s ea in
        let same_d = same-number b d eb in
        let here : Agrees s d (at s) (at d) =
        subst (λ (x : ℕ). Agrees s x (at s) (at x)) same_d (subst (λ (x : ℕ). Agrees x b (at x) (at b)) same_s (agree a b la lb)) in
        subst (λ (x : ℕ). Agrees x b (turned s d at x) (turned s d at b)) (sym same_s)
        (subst (λ (x : ℕ). Agrees s x (turned s d at s) (turned s d at x)) (sym same_d) (one-agrees s d at here))
    go false ea y eb = others-agree s d a b (λ w. absurd (let yes : (a == s) ≡ true = eq-eqb a s w.0 in cc)) at (agree a b la lb)
    go true ea false eb = others-agree s d a b (λ w. absurd (let yes : (b == d) ≡ true = eq-eqb b d w.1 in cc)) at (agree a b la lb)

pub all_agree : AllStayAgreed
all_agree n s d zero at agree = agree
all_agree n s d (suc m) at agree = all-agree n s d (turns s d m at) (all_agree n s d m at agree)

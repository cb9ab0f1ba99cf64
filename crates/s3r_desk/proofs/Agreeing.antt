-- Careful events keep regions in agreement.
use Rattle.std.proofs.Common.{◌≡◌, ℕ, ◌<◌, Bool, true, false, [], ◌∷◌, ◌++◌, None, refl, sym, ◌∙◌, ap, subst, ⊎_elim, ◌==◌, arith}
use Rattle.std.specs.Prelude.{nat_le}
use Rattle.std.proofs.lemmas.Bool.Decides.{nat_tests}
use Rattle.s3r_names.specs.declared.outcome.Outcome.{Outcome}
use Rattle.s3r_queue.specs.Received.{watermark_of}
use Rattle.s3r_record.specs.declared.command.Command.{Command}
use Rattle.s3r_record.specs.declared.command.Command.TheVariants as command
use Rattle.s3r_history.specs.declared.refusal.Refusal.TheVariants as refusals
use Rattle.s3r_history.specs.Words.{History}
use Rattle.s3r_history.specs.Past.{Carried}
use Rattle.s3r_history.specs.Tasks.{received, last_from}
use Rattle.s3r_history.specs.Deeds.{deeds}
use Rattle.s3r_history.specs.Accepts.{first_of_causes, refusal}
use Rattle.s3r_history.specs.Agree.{Agrees, CameTo}
use Rattle.s3r_history.specs.AgreeLaws.{settles_to, receives_from, MayArrive}
use Rattle.s3r_history.proofs.Agreeing as history
use Rattle.s3r_desk.specs.Events.{found, began, answered, Events, Leads}
use Rattle.s3r_desk.specs.Careful.{IsLicensed, MayBegin, AreCareful, IsWhatIsKnown}
use Rattle.s3r_desk.specs.Laws.{CarefulEventsKeepAgreement}
use Rattle.s3r_desk.proofs.Careful.{same_number, other_number, known_is}

begins_here : (n : ℕ) (events : Events) (s r : ℕ) (c : Command) → s ≡ r → r < n → (s < n → MayBegin n events s c) → MayBegin n events r c
begins_here n events s r c e lt may = subst (λ (x : ℕ). MayBegin n events x c) e (may (subst (λ (x : ℕ). x < n) (sym e) lt))

-- ---- one command more

-- a Receive that is accepted has a number above the last one
above_last : (n r s number : ℕ) (effect : Carried) (g : History) → refusal n r g (command.Receive s number effect) ≡ None
    → watermark_of (last_from (deeds r g) s) < number
above_last n r s number effect g accepted = go (nat_le n s) (nat_le number (watermark_of (last_from (deeds r g) s))) refl accepted
  where
    go : (t u : Bool) → nat_le number (watermark_of (last_from (deeds r g) s)) ≡ u
        → first_of_causes ((t, refusals.NoSuchRegion s) ∷ (u, refusals.NotNext (watermark_of (last_from (deeds r g) s))) ∷ []) ≡ None
        → watermark_of (last_from (deeds r g) s) < number
    go true u is e = absurd cc
    go false true is e = absurd cc
    go false false is e = grind (arith, nat_tests)

-- what a command that settles a task to region b has
abbrev Settles : ℕ → ℕ → History → Command → Type 0
Settles a b kb c = (number : ℕ) (outcome : Outcome) → c ≡ command.Settle b number outcome → CameTo number outcome (received (deeds b kb) a)

-- what a command at region b that receives of region a has
abbrev Receives : ℕ → ℕ → History → History → Command → Type 0
Receives a b ka g c =
    (number : ℕ) (effect : Carried) → c ≡ command.Receive a number effect
    → MayArrive a b ka number effect × (watermark_of (last_from (deeds b g) a) < number)

-- it is a Settle to the region, or settles nothing to it
data SettlesTo (d : ℕ) (c : Command) : Type 0 where
  that : (number : ℕ) (outcome : Outcome) → c ≡ command.Settle d number outcome → SettlesTo d c
  other : settles_to d c ≡ false → SettlesTo d c

settling : (d : ℕ) (c : Command) → SettlesTo d c
settling d (command.CreateBucket name locked) = other refl
settling d (command.DeleteBucket name) = other refl
settling d (command.SetVersioning name enabled) = other refl
settling d (command.SetReplication name config regions) = other refl
settling d (command.DropReplication name) = other refl
settling d (command.Put bucket key tags hold class body) = other refl
settling d (command.Marker bucket key) = other refl
settling d (command.Remove bucket key id) = other refl
settling d (command.SetTags bucket key id tags) = other refl
settling d (command.SetHold bucket key id hold) = other refl
settling d (command.Receive from number effect) = other refl
settling d (command.Settle to number outcome) = go (to == d) refl
  where
    go : (t : Bool) → (to == d) ≡ t → SettlesTo d (command.Settle to number outcome)
    go true is = that number outcome (ap (λ (x : ℕ). command.Settle x number outcome) (same_number to d is))
    go false is = other is
settling d (command.Attempt to number) = other refl
settling d (command.CreateJob spec manifest) = other refl
settling d (command.MoveJob job state) = other refl
settling d (command.SetPriority job priority) = other refl
settling d (command.Prepare job) = other refl
settling d (command.Line job line) = other refl
settling d (command.Finish job body) = other refl

-- it is a Receive from the region, or receives nothing from it
data ReceivesFrom (s : ℕ) (c : Command) : Type 0 where
  that : (number : ℕ) (effect : Carried) → c ≡ command.Receive s number effect → ReceivesFrom s c
  other : receives_from s c ≡ false → ReceivesFrom s c

receiving : (s : ℕ) (c : Command) → ReceivesFrom s c
receiving s (command.CreateBucket name locked) = other refl
receiving s (command.DeleteBucket name) = other refl
receiving s (command.SetVersioning name enabled) = other refl
receiving s (command.SetReplication name config regions) = other refl
receiving s (command.DropReplication name) = other refl
receiving s (command.Put bucket key tags hold class body) = other refl
receiving s (command.Marker bucket key) = other refl
receiving s (command.Remove bucket key id) = other refl
receiving s (command.SetTags bucket key id tags) = other refl
receiving s (command.SetHold bucket key id hold) = other refl
receiving s (command.Receive from number effect) = go (from == s) refl
  where
    go : (t : Bool) → (from == s) ≡ t → ReceivesFrom s (command.Receive from number effect)
    go true is = that number effect (ap (λ (x : ℕ). command.Receive x number effect) (same_number from s is))
    go false is = other is
receiving s (command.Settle to number outcome) = other refl
receiving s (command.Attempt to number) = other refl
receiving s (command.CreateJob spec manifest) = other refl
receiving s (command.MoveJob job state) = other refl
receiving s (command.SetPriority job priority) = other refl
receiving s (command.Prepare job) = other refl
receiving s (command.Line job line) = other refl
receiving s (command.Finish job body) = other refl

-- at the sender a
at_sender : (a b : ℕ) (c : Command) (g kb : History) → Settles a b kb c → Agrees a b g kb → Agrees a b (c ∷ g) kb
at_sender a b c g kb licence agree = go (settling b c)
  where
    go : SettlesTo b c → Agrees a b (c ∷ g) kb
    go (SettlesTo.that number outcome is) =
        subst (λ (x : Command). Agrees a b (x ∷ g) kb) (sym is) (history.at_settle a b g kb number outcome (licence number outcome is) agree)
    go (SettlesTo.other is) = history.at_sender a b g kb c is agree

-- at the receiver b
at_receiver : (a b : ℕ) (c : Command) (ka g : History) → Receives a b ka g c → Agrees a b ka g → Agrees a b ka (c ∷ g)
at_receiver a b c ka g licence agree = go (receiving a c)
  where
    go : ReceivesFrom a c → Agrees a b ka (c ∷ g)
    go (ReceivesFrom.that number effect is) =
        let may = licence number effect is in
        subst (λ (x : Command). Agrees a b ka (x ∷ g)) (sym is) (history.at_receive a b ka g number effect may.0 may.1 agree)
    go (ReceivesFrom.other is) = history.at_receiver a b ka g c is agree

-- at both
at_itself : (a : ℕ) (c : Command) (g : History) → Settles a a g c → Receives a a g g c → Agrees a a g g → Agrees a a (c ∷ g) (c ∷ g)
at_itself a c g settles receives agree = go (settling a c) (receiving a c)
  where
    go : SettlesTo a c → ReceivesFrom a c → Agrees a a (c ∷ g) (c ∷ g)
    go (SettlesTo.that number outcome is) any =
        subst (λ (x : Command). Agrees a a (x ∷ g) (x ∷ g)) (sym is) (history.at_own_settle a g number outcome (settles number outcome is) agree)
    go (SettlesTo.other not) (ReceivesFrom.that number effect is) =
        let may = receives number effect is in
        subst (λ (x : Command). Agrees a a (x ∷ g) (x ∷ g)) (sym is) (history.at_own_receive a g number effect may.0 may.1 agree)
    go (SettlesTo.other not) (ReceivesFrom.other none) = history.with_itself a g c not none agree

-- ---- what licences give, of histories to which the events led

module _ (n : ℕ) (before events : Events) (a b : ℕ) (ka kb : History) (known_a : IsWhatIsKnown (events ++ before) a ka)
    (known_b : IsWhatIsKnown (events ++ before) b kb) where
  came : (c : Command) → IsLicensed (events ++ before) a c → Settles a b kb c
  came c licensed number outcome e =
      let l = subst (λ (x : Command). IsLicensed (events ++ before) a x) e licensed in
      subst (λ (x : History). CameTo number outcome (received (deeds b x) a)) (sym (known_b l.0 l.1)) l.2

  may : (c : Command) → MayBegin n (events ++ before) b c → Receives a b ka kb c
  may c begins number effect e =
      let l = subst (λ (x : Command). IsLicensed (events ++ before) b x) e begins.licensed in
      let accepted : refusal n b kb (command.Receive a number effect) ≡ None =
      ap (λ (x : History). refusal n b x (command.Receive a number effect)) (known_b begins.history begins.is_known)
      ∙ subst (λ (x : Command). refusal n b begins.history x ≡ None) e begins.accepted in
      (subst (λ (x : History). MayArrive a b x number effect) (sym (known_a l.0 l.1)) l.2, above_last n b a number effect kb accepted)

-- ---- two regions

module _ (n : ℕ) (before : Events) (a b : ℕ) (la : a < n) (lb : b < n) (apart : a ≡ b → ⊥) (ha hb : History) (was_a : IsWhatIsKnown before a ha)
    (was_b : IsWhatIsKnown before b hb) (start : Agrees a b ha hb) where
  pair_agrees : (events : Events) (ka kb : History) → AreCareful n before events → Leads events a ha ka → Leads events b hb kb → Agrees a b ka kb
  pair_agrees [] ka kb careful to_a to_b =
      subst (λ (x : History). Agrees a b x kb) (sym to_a) (subst (λ (x : History). Agrees a b ha x) (sym to_b) start)
  pair_agrees (found s x ∷ events) ka kb careful to_a to_b = pair_agrees events ka kb careful to_a.0 to_b.0
  pair_agrees (began s c ∷ events) ka kb careful to_a to_b = ⊎_elim
      (λ still_a. ⊎_elim
      (λ still_b. pair_agrees events ka kb careful.1 still_a still_b)
      (λ w.
      let begins = begins_here n (events ++ before) s b c w.0 lb careful.0 in
      let known_a = known_is before events a ha ka was_a still_a in
      let known_b = known_is before events b hb w.1 was_b w.2 in
      subst (λ (x : History). Agrees a b ka x) (sym w.3)
      (at_receiver a b c ka w.1 (may n before events a b ka w.1 known_a known_b c begins) (pair_agrees events ka w.1 careful.1 still_a w.2)))
      to_b)
      (λ w. ⊎_elim
      (λ still_b.
      let begins = begins_here n (events ++ before) s a c w.0 la careful.0 in
      let known_a = known_is before events a ha w.1 was_a w.2 in
      let known_b = known_is before events b hb kb was_b still_b in
      subst (λ (x : History). Agrees a b x kb) (sym w.3)
      (at_sender a b c w.1 kb (came n before events a b w.1 kb known_a known_b c begins.licensed) (pair_agrees events w.1 kb careful.1 w.2 still_b)))
      (λ w'. absurd (apart (sym w.0 ∙ w'.0)))
      to_b)
      to_a
  pair_agrees (answered text ∷ events) ka kb careful to_a to_b = pair_agrees events ka kb careful to_a to_b

-- ---- one region with itself

module _ (n : ℕ) (before : Events) (a : ℕ) (la : a < n) (h : History) (was : IsWhatIsKnown before a h) (start : Agrees a a h h) where
  itself_agrees : (events : Events) (k : History) → AreCareful n before events → Leads events a h k → Agrees a a k k
  itself_agrees [] k careful l = subst (λ (x : History). Agrees a a x x) (sym l) start
  itself_agrees (found s x ∷ events) k careful l = itself_agrees events k careful l.0
  itself_agrees (began s c ∷ events) k careful l = ⊎_elim
      (λ still. itself_agrees events k careful.1 still)
      (λ w.
      let begins = begins_here n (events ++ before) s a c w.0 la careful.0 in
      let known_here = known_is before events a h w.1 was w.2 in
      subst (λ (x : History). Agrees a a x x) (sym w.3)
      (at_itself a c w.1 (came n before events a a w.1 w.1 known_here known_here c begins.licensed)
      (may n before events a a w.1 w.1 known_here known_here c begins) (itself_agrees events w.1 careful.1 w.2)))
      l
  itself_agrees (answered text ∷ events) k careful l = itself_agrees events k careful l

pub keeps_agreement : CarefulEventsKeepAgreement
keeps_agreement n before events at later careful known_there agree leads s d ls ld = go (s == d) refl
  where
    go : (t : Bool) → (s == d) ≡ t → Agrees s d (later s) (later d)
    go true is =
        subst (λ (x : ℕ). Agrees s x (later s) (later x)) (same_number s d is)
        (itself_agrees n before s ls (at s) (known_there s ls) (agree s s ls ls) events (later s) careful (leads s ls))
    go false is =
        pair_agrees n before s d ls ld (other_number s d is) (at s) (at d) (known_there s ls) (known_there d ld) (agree s d ls ld) events
        (later s) (later d) careful (leads s ls) (leads d ld)

-- Whole turns of the copier.
use Rattle.std.proofs.Common.{◌≡◌, ℕ, ◌+◌, ◌==◌, Bool, true, false, cond, List, [], ◌++◌, length, Option, Some, None, IsSome, Result, Ok, Err, refl, sym, ◌∙◌, ap, subst, inl, inr, ⊎_elim, append_assoc, arith}
use Rattle.s3r_world.specs.declared.world.Side.TheVariants as side
use Rattle.s3r_world.specs.Image.{Image}
use Rattle.s3r_world.specs.Outside.{Outside, Counts, NoneFalls}
use Rattle.s3r_world.specs.Moments.{falls_then, rises_after}
use Rattle.s3r_history.specs.Words.{History}
use Rattle.s3r_store.specs.declared.store.Store.{Store}
use Rattle.s3r_store.specs.Stands.{StandsFor}
use Rattle.s3r_desk.specs.declared.copy_outcome.CopyOutcome.{CopyOutcome}
use Rattle.s3r_desk.specs.declared.fault.DeskFault.{DeskFault}
use Rattle.s3r_desk.specs.declared.fault.DeskFault.TheVariants as faults
use Rattle.s3r_desk.specs.Events.{Events, known}
use Rattle.s3r_desk.specs.Keeping.{Keeps}
use Rattle.s3r_desk.specs.Progress.{Happens}
use Rattle.s3r_desk.specs.Responds.{AsRead, HasCause}
use Rattle.s3r_desk.specs.Copying.{Fails, TurnsOut, IsTouched, is_missed, attempts_about, fails_at, AreCounted}
use Rattle.s3r_desk.specs.Happened.{Happened, IsTouch, Carries, Misses, Copies}
use Rattle.s3r_desk.proofs.Stepping.{happens_then}
use Rattle.s3r_desk.proofs.CopyCarrying.{same_where_not}
use Rattle.s3r_desk.proofs.CopyCounts.{rises_fewer, cause_counted, attempts_then, fails_same, touched_none}
use Rattle.s3r_desk.proofs.CopyTurning.{happened_none}

-- ---- what a touch came to

pub touched_any : {A : Type 0} (P : ℕ → History → Type 0) (before : Events) (r : ℕ) (result : Result A DeskFault) (events : Events)
    → IsTouch P before r result events → IsTouched P before r events
touched_any P before r (Ok x) events did = did.0
touched_any P before r (Err (faults.Volume v)) events did = inl did.2
touched_any P before r (Err (faults.Full v)) events did = absurd did
touched_any P before r (Err (faults.Damaged v offset)) events did = inl did.2
touched_any P before r (Err (faults.Disagree from to sent last settled received)) events did = absurd did
touched_any P before r (Err faults.OutOfMemory) events did = inl did

some_not_none : (o : Option History) → IsSome o → o ≡ None → ⊥
some_not_none None some none = absurd cc
some_not_none (Some h) some none = absurd cc

pub still_none : (before events : Events) (r : ℕ) → events ≡ [] → known before r ≡ None → known (events ++ before) r ≡ None
still_none before events r none unread = subst (λ (l : Events). known (l ++ before) r ≡ None) (sym none) unread

-- the sender couldn't be read
sender_fails : (P : ℕ → History → Type 0) (room : ℕ → ℕ) (s d : ℕ) (before : Events) (fault : DeskFault) (events : Events)
    → IsTouch {A = Unit {0}} P before s (Err fault) events → Fails room s d (events ++ before) [] fault
sender_fails P room s d before (faults.Volume v) events did =
    let unread = still_none before events s did.2 did.1 in
    inl (refl, inl (did.0, unread), λ some. absurd (some_not_none (known (events ++ before) s) some unread))
sender_fails P room s d before (faults.Full v) events did = absurd did
sender_fails P room s d before (faults.Damaged v offset) events did = (refl, inl (did.0, still_none before events s did.2 did.1))
sender_fails P room s d before (faults.Disagree from to sent last settled received) events did = absurd did
sender_fails P room s d before faults.OutOfMemory events did = inl refl

still_some : (before events : Events) (r : ℕ) → events ≡ [] → IsSome (known before r) → IsSome (known (events ++ before) r)
still_some before events r none some = subst (λ (l : Events). IsSome (known (l ++ before) r)) (sym none) some

-- the receiver couldn't be, and the turn isn't missed
receiver_fails : (P : ℕ → History → Type 0) (room : ℕ → ℕ) (s d : ℕ) (before : Events) (fault : DeskFault) (events : Events) → IsSome (known before s)
    → is_missed fault s d ≡ false → IsTouch {A = Unit {0}} P before d (Err fault) events → Fails room s d (events ++ before) [] fault
receiver_fails P room s d before (faults.Volume v) events from e did =
    absurd (some_not_none (known before s) from (ap (known before) (same_where_not s d v e) ∙ did.1))
receiver_fails P room s d before (faults.Full v) events from e did = absurd did
receiver_fails P room s d before (faults.Damaged v offset) events from e did =
    (refl, inr (did.0, still_some before events s did.2 from, still_none before events d did.2 did.1))
receiver_fails P room s d before (faults.Disagree from' to sent last settled received) events from e did = absurd did
receiver_fails P room s d before faults.OutOfMemory events from e did = inl refl

pub receiver_missed : (P : ℕ → History → Type 0) (s d : ℕ) (before : Events) (fault : DeskFault) (events : Events) → is_missed fault s d ≡ true
    → IsTouch {A = Unit {0}} P before d (Err fault) events → (fault ≡ faults.Volume d) × (known before d ≡ None) × (events ≡ [])
receiver_missed P s d before (faults.Volume v) events e did = (ap (λ (u : ℕ). faults.Volume u) did.0, did.1, did.2)
receiver_missed P s d before (faults.Full v) events e did = absurd cc
receiver_missed P s d before (faults.Damaged v offset) events e did = absurd cc
receiver_missed P s d before (faults.Disagree from to sent last settled received) events e did = absurd cc
receiver_missed P s d before faults.OutOfMemory events e did = absurd cc

-- ---- a whole turn

module _ (P : ℕ → History → Type 0) (room : ℕ → ℕ) (s d : ℕ) (before : Events) (result : Result CopyOutcome DeskFault) (f h : Counts) (A B C : Events → Type 0)
    (a b c e : List Store) (w x y z : Outside) where
  copied : (p : Happened A before a b w x) (q : Happened B (p.events ++ before) b c x y) (r : Happened C (q.events ++ (p.events ++ before)) c e y z)
      → length b ≡ length a → length c ≡ length a → IsTouched P before s p.events → IsTouched P (p.events ++ before) d q.events
      → TurnsOut room s d (q.events ++ (p.events ++ before)) r.events result → AreCounted result r.events f h
      → Happened (Copies P room s d before result f h) before a e w z
  copied p q r one two touched_s touched_d comes counted =
      let pair : (q.events ++ p.events) ++ before ≡ q.events ++ (p.events ++ before) = append_assoc q.events p.events before in
      record {
        events = r.events ++ (q.events ++ p.events);
        such = record {
          turn = record {
            sender = p.events;
            receiver = q.events;
            rest = r.events;
            parts = refl;
            touches_sender = touched_s;
            touches_receiver = touched_d;
            comes = subst (λ (l : Events). TurnsOut room s d l r.events result) (sym pair) comes;
          };
          counted = λ v.
              rises_fewer (attempts_about v r.events + fails_at v result) (attempts_about v (r.events ++ (q.events ++ p.events)) + fails_at v result)
              (side.Volume v) f h
              (omega (
                arith,
                attempts_then v r.events (q.events ++ p.events),
                attempts_then v q.events p.events,
                touched_none P before s v p.events touched_s,
                touched_none P (p.events ++ before) d v q.events touched_d,
              ))
              (counted v);
        };
        keeps = subst (λ (l : Events). Keeps l e z)
            (sym (append_assoc r.events (q.events ++ p.events) before ∙ ap (λ (l : Events). r.events ++ l) pair)) r.keeps;
        happens = happens_then (length a) (q.events ++ p.events) r.events w y z
            (happens_then (length a) p.events q.events w x y p.happens (subst (λ (n : ℕ). Happens n q.events x y) one q.happens))
            (subst (λ (n : ℕ). Happens n r.events y z) two r.happens);
      }

-- one more touch leaves what was read
pub still_read : (P : ℕ → History → Type 0) (before : Events) (s d : ℕ) (events : Events) → IsSome (known before s) → IsTouched P before d events
    → IsSome (known (events ++ before) s)
still_read P before s d events from touched = ⊎_elim
    (λ none. still_some before events s none from)
    (λ w. subst (λ (l : Events). IsSome (known (l ++ before) s)) (sym w.3) (go (d == s) w.1))
    touched
  where
    go : (b : Bool) (h : History) → IsSome (cond b (Some h) (known before s))
    go true h = refl
    go false h = from

-- what the volumes stand for, as they are read
abbrev pub Reads : ℕ → Image → ℕ → History → Type 0
Reads n c r h = StandsFor n r h (c.volume r)

touched_as : (n m : ℕ) (c e : Image) (before : Events) (r : ℕ) (events : Events) → m ≡ n → e ≡ c → IsTouched (Reads m e) before r events
    → IsTouched (Reads n c) before r events
touched_as n m c e before r events one same touched =
    subst (λ (i : Image). IsTouched (Reads n i) before r events) same (subst (λ (k : ℕ). IsTouched (Reads k e) before r events) one touched)

module _ (room : ℕ → ℕ) (s d : ℕ) (before : Events) (a b : List Store) (w x : Outside) (f g : Counts) (n : ℕ) (falls : NoneFalls f g)
    (same : length b ≡ length a) where
  abbrev Seen : ℕ → History → Type 0
  Seen = AsRead (length a) w

  -- the sender couldn't be read
  pub sender_unread : (fault : DeskFault) → Happened (IsTouch {A = Unit {0}} (AsRead (length a) w) before s (Err fault)) before a b w x
      → HasCause {A = Unit {0}} n (Err fault) f g
      → Happened (Copies (AsRead (length a) w) room s d before (Err fault) f g) before a b w x
  unfolding happened_none
  sender_unread fault p cause =
      copied (AsRead (length a) w) room s d before (Err fault) f g _ (λ l. l ≡ []) (λ l. l ≡ []) a b b b w x x x p
      (happened_none (λ l. l ≡ []) (p.events ++ before) b x p.keeps refl) (happened_none (λ l. l ≡ []) (p.events ++ before) b x p.keeps refl) same same
      (touched_any {A = Unit {0}} (AsRead (length a) w) before s (Err fault) p.events p.such) (inl refl)
      (sender_fails (AsRead (length a) w) room s d before fault p.events p.such)
      (λ v. rises_fewer (fails_at {A = Unit {0}} v (Err fault)) (0 + fails_at {A = CopyOutcome} v (Err fault)) (side.Volume v) f g
      (omega (arith, fails_same (Unit {0}) CopyOutcome v fault)) (cause_counted {A = Unit {0}} n v (Err fault) f g falls cause))

  module _ (p : Happened (IsTouch {A = Unit {0}} (AsRead (length a) w) before s (Ok tt)) before a b w x) (looks : x.as_read ≡ w.as_read) (c : List Store)
      (y : Outside) (h : Counts) (later : NoneFalls g h) (two : length c ≡ length b) (m : ℕ) where
    abbrev read_as : (events : Events) → IsTouched (AsRead (length b) x) (p.events ++ before) d events
        → IsTouched (AsRead (length a) w) (p.events ++ before) d events
    read_as events touched = touched_as (length a) (length b) w.as_read x.as_read (p.events ++ before) d events same looks touched

    -- the receiver couldn't be read, and the turn isn't missed
    pub receiver_unread : (fault : DeskFault) → is_missed fault s d ≡ false
        → Happened (IsTouch {A = Unit {0}} (AsRead (length b) x) (p.events ++ before) d (Err fault)) (p.events ++ before) b c x y
        → HasCause {A = Unit {0}} m (Err fault) g h → Happened (Copies (AsRead (length a) w) room s d before (Err fault) f h) before a c w y
    unfolding happened_none
    receiver_unread fault not_missed q cause =
        copied (AsRead (length a) w) room s d before (Err fault) f h _ _ (λ l. l ≡ []) a b c c w x y y p q
        (happened_none (λ l. l ≡ []) (q.events ++ (p.events ++ before)) c y q.keeps refl) same (two ∙ same) p.such.0
        (read_as q.events (touched_any {A = Unit {0}} (AsRead (length b) x) (p.events ++ before) d (Err fault) q.events q.such))
        (receiver_fails (AsRead (length b) x) room s d (p.events ++ before) fault q.events p.such.1 not_missed q.such)
        (λ v. rises_fewer (fails_at {A = Unit {0}} v (Err fault)) (0 + fails_at {A = CopyOutcome} v (Err fault)) (side.Volume v) f h
        (omega (arith, fails_same (Unit {0}) CopyOutcome v fault))
        (rises_after (fails_at {A = Unit {0}} v (Err fault)) (side.Volume v) f g h falls (cause_counted {A = Unit {0}} m v (Err fault) g h later cause)))

    module _ (result : Result CopyOutcome DeskFault) (e : List Store) (z : Outside) (i : Counts) (room' : ℕ → ℕ) (rooms : room' ≡ room) where
      -- it couldn't, and the turn is missed
      pub turn_missed : (fault : DeskFault) → is_missed fault s d ≡ true
          → (q : Happened (IsTouch {A = Unit {0}} (AsRead (length b) x) (p.events ++ before) d (Err fault)) (p.events ++ before) b c x y)
          → HasCause {A = Unit {0}} m (Err fault) g h
          → Happened (Misses room' s d (q.events ++ (p.events ++ before)) result h i) (q.events ++ (p.events ++ before)) c e y z
          → Happened (Copies (AsRead (length a) w) room s d before result f i) before a e w z
      turn_missed fault missed q cause r' =
          let r = subst (λ (o : ℕ → ℕ). Happened (Misses o s d (q.events ++ (p.events ++ before)) result h i)
          (q.events ++ (p.events ++ before)) c e y z) rooms r' in
          let it = receiver_missed (AsRead (length b) x) s d (p.events ++ before) fault q.events missed q.such in
          let why = subst (λ (o : DeskFault). HasCause {A = Unit {0}} m (Err o) g h) it.0 cause in
          copied (AsRead (length a) w) room s d before result f i _ _ _ a b c e w x y z p q r same (two ∙ same) p.such.0
          (read_as q.events (touched_any {A = Unit {0}} (AsRead (length b) x) (p.events ++ before) d (Err fault) q.events q.such)) r.such.comes
          (r.such.counted f (rises_after 1 (side.Volume d) f g h falls why.1) (falls_then f g h falls later))

      -- it could
      pub turned : (q : Happened (IsTouch {A = Unit {0}} (AsRead (length b) x) (p.events ++ before) d (Ok tt)) (p.events ++ before) b c x y)
          → Happened (Carries room' s d (q.events ++ (p.events ++ before)) result h i) (q.events ++ (p.events ++ before)) c e y z
          → Happened (Copies (AsRead (length a) w) room s d before result f i) before a e w z
      turned q r' =
          let r = subst (λ (o : ℕ → ℕ). Happened (Carries o s d (q.events ++ (p.events ++ before)) result h i)
          (q.events ++ (p.events ++ before)) c e y z) rooms r' in
          copied (AsRead (length a) w) room s d before result f i _ _ _ a b c e w x y z p q r same (two ∙ same) p.such.0
          (read_as q.events q.such.0) r.such.comes
          (λ v. rises_after (attempts_about v r.events + fails_at v result) (side.Volume v) f h i (falls_then f g h falls later) (r.such.counted v))

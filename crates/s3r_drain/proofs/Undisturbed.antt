-- Why a turn isn't clean.
use Rattle.std.proofs.Common.{◌≡◌, ℕ, ◌+◌, ◌-◌, ◌≤◌, Bool, true, cond, List, [], ◌∷◌, ◌++◌, Option, Some, None, Result, Ok, Err, refl, sym, ◌∙◌, ap, subst, ⊎_elim, eq-eqb, arith}
use Rattle.std.specs.List.{AllByRecursion}
use Rattle.std.proofs.lemmas.Bool.Decides.{nat_tests}
use Rattle.s3r_world.specs.Image.{Image}
use Rattle.s3r_world.specs.declared.world.Side.{Side}
use Rattle.s3r_world.specs.declared.world.Side.TheVariants as side
use Rattle.s3r_world.specs.Outside.{Counts, count_of, HasRisen, Rises}
use Rattle.s3r_record.specs.declared.command.Command.TheVariants as command
use Rattle.s3r_queue.specs.Received.{watermark_of}
use Rattle.s3r_queue.specs.Tasks.{answered_of}
use Rattle.s3r_history.specs.Words.{History}
use Rattle.s3r_history.specs.Deeds.{deeds}
use Rattle.s3r_history.specs.Tasks.{sent, tasks_to, first, last_from}
use Rattle.s3r_history.specs.Agree.{Agrees}
use Rattle.s3r_history.proofs.Within as history
use Rattle.s3r_store.specs.Commits.{length_with}
use Rattle.s3r_store.specs.Stands.{StandsFor}
use Rattle.s3r_desk.specs.declared.copy_outcome.CopyOutcome.{CopyOutcome}
use Rattle.s3r_desk.specs.declared.copy_outcome.CopyOutcome.TheVariants as outcomes
use Rattle.s3r_desk.specs.declared.fault.DeskFault.{DeskFault}
use Rattle.s3r_desk.specs.declared.fault.DeskFault.TheVariants as faults
use Rattle.s3r_desk.specs.Events.{found, began, Events, history_at, Leads}
use Rattle.s3r_desk.specs.Steps.{Histories, Commit, after_commit, after_commits, FitRooms}
use Rattle.s3r_desk.specs.Stopping.{PassesRoom}
use Rattle.s3r_desk.specs.Comparing.{is_within, pair_fault}
use Rattle.s3r_desk.specs.Careful.{IsWhatIsKnown}
use Rattle.s3r_desk.specs.Copying.{due_of, clean, IsUnread, IsNoted, IsCopyTurn, attempts_about, fails_at, AreCounted}
use Rattle.s3r_desk.specs.Damage.{IsDamage}
use Rattle.s3r_drain.specs.CleanTurns.{is_clean, IsUndisturbed, UndisturbedTurnsAreClean}
use Rattle.s3r_drain.proofs.Leading.{AreAlike, alike-then, IsOneOf, both-alike, clean-alike, clean-between, known-now}

-- ---- counts

fewer : (most : Option ℕ) (x a b : ℕ) → 1 ≤ x → HasRisen most x a b → HasRisen most 1 a b
fewer None x a b le rises = omega (arith, le, rises)
fewer (Some most) x a b le rises = omega (arith, le, rises)

pub rises-one : (x : ℕ) (side : Side) (a b : Counts) → 1 ≤ x → Rises x side a b → Rises 1 side a b
rises-one x side a b le rises = fewer a.most x (count_of side a) (count_of side b) le rises

-- a fault that is answered was counted
told-counted : (v x : ℕ) → 1 ≤ x + fails_at {A = CopyOutcome} v (Err (faults.Volume v))
told-counted v x =
    let one : fails_at {A = CopyOutcome} v (Err (faults.Volume v)) ≡ 1 = ap (λ (b : Bool). cond b 1 0) (eq-eqb v v refl) in
    omega (arith, one)

-- and so was what an attempt is noted for
noted-counted : (room : ℕ → ℕ) (s d : ℕ) (now rest touched events : Events) (outcome : CopyOutcome) (x : ℕ) → events ≡ rest ++ touched
    → IsNoted room s d now rest outcome → 1 ≤ attempts_about d events + x
noted-counted room s d now rest touched events outcome x parts noted =
    let number = noted.task.number in
    let all : Events = found s (command.Attempt d number ∷ history_at now s) ∷ began s (command.Attempt d number) ∷ (noted.doubt ++ touched) in
    let is : events ≡ all = parts ∙ ap (λ (l : Events). l ++ touched) (noted.parts ∙ ap (λ (l : Events). l ++ noted.doubt) noted.such.2) in
    let one : attempts_about d all ≡ attempts_about d (noted.doubt ++ touched) + 1 =
    ap (λ (b : Bool). attempts_about d (noted.doubt ++ touched) + cond b 1 0) (eq-eqb d d refl) in
    let same : attempts_about d events ≡ attempts_about d all = ap (attempts_about d) is in
    omega (arith, one, same)

-- ---- room

fits-alike : (room : ℕ → ℕ) (among : ℕ → Type 0) (commits : List Commit) (g at : Histories) → AllByRecursion (λ (c : Commit). among c.region) commits
    → AreAlike among g at → FitRooms room at commits → FitRooms room g commits
fits-alike room among [] g at all alike fits = tt
fits-alike room among (c ∷ commits) g at all alike fits = (
  subst (λ (h : History). length_with c.region h c.command ≤ room c.region) (sym (alike c.region all.0)) fits.0,
  fits-alike room among commits (after_commit c g) (after_commit c at) all.1 (alike-then among c g at alike) fits.1,
)

fits-next : (room : ℕ → ℕ) (first : List Commit) (next : Commit) (others : List Commit) (at : Histories) → FitRooms room at (first ++ next ∷ others)
    → length_with next.region (after_commits first at next.region) next.command ≤ room next.region
fits-next room [] next others at fits = fits.0
fits-next room (c ∷ first) next others at fits = fits-next room first next others (after_commit c at) fits.1

never-full : (room : ℕ → ℕ) (v : ℕ) (at : Histories) (commits : List Commit) (events : Events) → FitRooms room at commits
    → PassesRoom room v at commits events → ⊥
never-full room v at commits events fits full =
    let within = fits-next room full.stops.first full.stops.next full.stops.others at (subst (FitRooms room at) full.stops.parts fits) in
    let here = subst (λ (x : ℕ). length_with x (after_commits full.stops.first at x) full.stops.next.command ≤ room x) full.region within in
    absurd (omega (arith, here, full.full))

-- ---- a pair that agrees

all-within : (sent answered first received : ℕ) → answered ≤ received → received ≤ first → received ≤ sent
    → is_within sent answered (first - 1) received ≡ true
all-within sent answered first received below due there = grind (arith, nat_tests, below, due, there)

pub pair-agrees : (s d : ℕ) (h k : History) → Agrees s d h k → pair_fault s d h k ≡ None
pair-agrees s d h k agree =
    let within = history.is_within s d h k agree in
    let ok = all-within (sent (deeds s h) d) (answered_of (tasks_to h (deeds s h) d)) (first h (deeds s h) d) (watermark_of (last_from (deeds d k) s))
    within.0 within.1 within.2 in
    ap (λ t. cond t None (Some (faults.Disagree s d (sent (deeds s h) d) (answered_of (tasks_to h (deeds s h) d)) (first h (deeds s h) d - 1)
    (watermark_of (last_from (deeds d k) s))))) ok

-- ---- results

module _ (n s d : ℕ) (room : ℕ → ℕ) (seen : Image) (before events : Events) (at : Histories) (ls ld : History) (old new : Counts)
    (was_s : IsWhatIsKnown before s (at s)) (was_d : IsWhatIsKnown before d (at d)) (leads_s : Leads events s (at s) ls)
    (leads_d : Leads events d (at d) ld) where
  abbrev P : ℕ → History → Type 0
  P r h = StandsFor n r h (seen.volume r)

  no-unread : (v : ℕ) (now : Events) (Q : ℕ → Type 0) → IsUnread s d now v → (Q s → ⊥) → (Q d → ⊥) → Q v → ⊥
  no-unread v now Q unread not_s not_d here = ⊎_elim (λ w. not_s (subst Q w.0 here)) (λ w. not_d (subst Q w.0 here)) unread

  undisturbed : (result : Result CopyOutcome DeskFault) → IsCopyTurn P room s d before result events → IsDamage n seen result
      → AreCounted result events old new → IsUndisturbed n s d room seen at result old new → is_clean result ≡ true
  undisturbed (Ok outcomes.Idle) turn damage counted free = refl
  undisturbed (Ok (outcomes.Settled number outcome)) turn damage counted free = refl
  undisturbed (Ok (outcomes.Retried number attempts)) turn damage counted free = absurd (free.receiver
      (rises-one (attempts_about d events + 0) (side.Volume d) old new
      (noted-counted room s d ((turn.receiver ++ turn.sender) ++ before) turn.rest (turn.receiver ++ turn.sender) events (outcomes.Retried number attempts) 0
      turn.parts turn.comes) (counted d)))
  undisturbed (Ok (outcomes.GaveUp number)) turn damage counted free = absurd (free.receiver
      (rises-one (attempts_about d events + 0) (side.Volume d) old new
      (noted-counted room s d ((turn.receiver ++ turn.sender) ++ before) turn.rest (turn.receiver ++ turn.sender) events (outcomes.GaveUp number) 0
      turn.parts turn.comes) (counted d)))
  undisturbed (Err (faults.Volume v)) turn damage counted free =
      let risen : Rises 1 (side.Volume v) old new =
      rises-one (attempts_about v events + fails_at {A = CopyOutcome} v (Err (faults.Volume v))) (side.Volume v) old new
      (told-counted v (attempts_about v events)) (counted v) in
      absurd (⊎_elim
      (λ w. no-unread v ((turn.receiver ++ turn.sender) ++ before) (λ x. Rises 1 (side.Volume x) old new) w.1 free.sender free.receiver risen)
      (λ w. free.sender (subst (λ (x : ℕ). Rises 1 (side.Volume x) old new) w.0 risen))
      turn.comes)
  undisturbed (Err (faults.Full v)) turn damage counted free =
      let now = (turn.receiver ++ turn.sender) ++ before in
      let g = history_at now in
      absurd (⊎_elim
      (λ w.
      let es = known-now P room s d before events (Err (faults.Full v)) at turn s ls was_s leads_s w.1.compared.from in
      let ed = known-now P room s d before events (Err (faults.Full v)) at turn d ld was_d leads_d w.1.compared.to in
      let due : due_of s d (at s) ≡ Some w.0 = ap (due_of s d) (sym es) ∙ w.1.due in
      never-full room v g (clean s d g w.0) turn.rest
      (subst (FitRooms room g) (sym (clean-alike s d g at w.0 ed))
      (fits-alike room (IsOneOf s d) (clean s d at w.0) g at (clean-between s d at w.0) (both-alike s d g at es ed) (free.fits w.0 due).0))
      w.2)
      (λ w.
      let es = known-now P room s d before events (Err (faults.Full v)) at turn s ls was_s leads_s w.1.missed.from in
      let due : due_of s d (at s) ≡ Some w.1.task = ap (due_of s d) (sym es) ∙ w.1.missed.due in
      let fits : length_with s (at s) (command.Attempt d w.1.task.number) ≤ room s = (free.fits w.1.task due).1.0 in
      let fits_g = subst (λ (h : History). length_with s h (command.Attempt d w.1.task.number) ≤ room s) (sym es) fits in
      absurd (omega (arith, fits_g, w.1.such.0)))
      turn.comes)
  undisturbed (Err (faults.Damaged v offset)) turn damage counted free =
      absurd (no-unread v ((turn.receiver ++ turn.sender) ++ before) (λ x. (k : History) → StandsFor n x k (seen.volume x) → ⊥) turn.comes.1
      (λ none. none free.sender_sound.0 free.sender_sound.1) (λ none. none free.receiver_sound.0 free.receiver_sound.1) damage.1)
  undisturbed (Err (faults.Disagree from to sent last settled received)) turn damage counted free =
      let fault : DeskFault = faults.Disagree from to sent last settled received in
      let es = known-now P room s d before events (Err (faults.Disagree from to sent last settled received)) at turn s ls was_s leads_s turn.comes.1 in
      let ed = known-now P room s d before events (Err (faults.Disagree from to sent last settled received)) at turn d ld was_d leads_d turn.comes.2 in
      let told : pair_fault s d (at s) (at d) ≡ Some fault =
      sym (ap (λ (h : History). pair_fault s d h (history_at ((turn.receiver ++ turn.sender) ++ before) d)) es
      ∙ ap (λ (k : History). pair_fault s d (at s) k) ed) ∙ turn.comes.3 in
      let none = pair-agrees s d (at s) (at d) free.agree in
      absurd (let bad : ◌≡◌ {A = Option DeskFault} None (Some fault) = sym none ∙ told in cc)
  undisturbed (Err faults.OutOfMemory) turn damage counted free = absurd (free.memory refl)

pub undisturbed_clean : UndisturbedTurnsAreClean
undisturbed_clean n s d room seen before events result at later old new less below turn damage counted was leads free =
    undisturbed n s d room seen before events at (later s) (later d) old new (was s less) (was d below) (leads s less) (leads d below)
    result turn damage counted free

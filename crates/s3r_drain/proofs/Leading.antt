-- Where the events of clean turns lead.
use Rattle.std.proofs.Common.{◌≡◌, ◌⊎◌, ℕ, ◌==◌, Bool, true, false, cond, List, [], ◌∷◌, ◌++◌, length, Option, Some, None, IsSome, Result, Ok, Err, refl, sym, ◌∙◌, ap, subst, inl, inr, ⊎_elim, arith}
use Rattle.std.specs.List.{AllByRecursion}
use Rattle.s3r_names.specs.declared.outcome.Outcome.{Outcome}
use Rattle.s3r_queue.specs.declared.inbox.Arrival.{Arrival}
use Rattle.s3r_queue.specs.declared.inbox.Arrival.TheVariants as arrivals
use Rattle.s3r_history.specs.declared.due.Due.{Due}
use Rattle.s3r_history.specs.Words.{History}
use Rattle.s3r_history.specs.Deeds.{judge}
use Rattle.s3r_store.specs.Stands.{StandsFor}
use Rattle.s3r_desk.specs.declared.copy_outcome.CopyOutcome.{CopyOutcome}
use Rattle.s3r_desk.specs.declared.copy_outcome.CopyOutcome.TheVariants as outcomes
use Rattle.s3r_desk.specs.declared.fault.DeskFault.{DeskFault}
use Rattle.s3r_desk.specs.Events.{found, began, answered, Events, known, history_at, Leads}
use Rattle.s3r_desk.specs.Steps.{Histories, Commit, after_commit, after_commits, made}
use Rattle.s3r_desk.specs.Careful.{IsWhatIsKnown}
use Rattle.s3r_desk.specs.Copying.{due_of, arrival_at, outcome_by, outcome_at, delivery, settle, clean, IsTouched, IsCopyTurn}
use Rattle.s3r_desk.proofs.Careful.{same_number, other_number, known_is}
use Rattle.s3r_desk.proofs.Licensed.{known_there}
use Rattle.s3r_drain.specs.Drain.{turned_by, turned, turns}
use Rattle.s3r_drain.proofs.OneTurn.{nothing_due}
use Rattle.s3r_drain.proofs.ManyTurns.{turns_drain}
use Rattle.s3r_drain.specs.CleanTurns.{is_clean, clean_by, clean_outcome, CleanTurnsTurn, AreAnswers, IsCleanTurn, all_events, AreCleanTurns, CleanTurnsInTurn, CleanTurnsEmptyTheQueue}

-- ---- a first part of events, and the rest

pub leads-part : (first second : Events) (r : ℕ) (h m : History) → Leads (second ++ first) r h m → (k : History) × Leads first r h k × Leads second r k m
leads-part first [] r h m leads = (m, leads, refl)
leads-part first (found q g ∷ second) r h m leads =
    let parts = leads-part first second r h m leads.0 in (parts.0, parts.1, (parts.2, leads.1))
leads-part first (began q c ∷ second) r h m leads = ⊎_elim
    (λ still. let parts = leads-part first second r h m still in (parts.0, parts.1, inl parts.2))
    (λ w. let parts = leads-part first second r h w.1 w.2 in (parts.0, parts.1, inr (w.0, w.1, parts.2, w.3)))
    leads
leads-part first (answered text ∷ second) r h m leads = leads-part first second r h m leads

-- answers lead nowhere
answers-stay : (events : Events) (r : ℕ) (h k : History) → AreAnswers events → Leads events r h k → k ≡ h
answers-stay [] r h k all leads = leads
answers-stay (found q g ∷ events) r h k all leads = absurd all
answers-stay (began q c ∷ events) r h k all leads = absurd all
answers-stay (answered text ∷ events) r h k all leads = answers-stay events r h k all leads

-- nor does a touch
touch-stays : (P : ℕ → History → Type 0) (before : Events) (q : ℕ) (events : Events) (r : ℕ) (h k : History) → IsTouched P before q events
    → Leads events r h k → k ≡ h
touch-stays P before q events r h k touched leads = ⊎_elim
    (λ none. subst (λ (l : Events). Leads l r h k) none leads)
    (λ w. let led : Leads (found q w.1 ∷ []) r h k = subst (λ (l : Events). Leads l r h k) w.3 leads in led.0)
    touched

-- ---- commits that are made

one-made : (c : Commit) (at : Histories) (r : ℕ) (k : History) → Leads (found c.region (c.command ∷ at c.region) ∷ began c.region c.command ∷ []) r (at r) k
    → k ≡ after_commit c at r
one-made c at r k leads = go (r == c.region) refl
  where
    go : (b : Bool) → (r == c.region) ≡ b → k ≡ cond b (c.command ∷ at r) (at r)
    go true e = let same = same_number r c.region e in leads.1 (sym same) ∙ ap (λ (x : ℕ). c.command ∷ at x) (sym same)
    go false e = ⊎_elim (λ still. still) (λ w. absurd (other_number r c.region e (sym w.0))) leads.0

all-made : (commits : List Commit) (at : Histories) (r : ℕ) (k : History) → Leads (made at commits) r (at r) k → k ≡ after_commits commits at r
all-made [] at r k leads = leads
all-made (c ∷ commits) at r k leads =
    let parts = leads-part (found c.region (c.command ∷ at c.region) ∷ began c.region c.command ∷ []) (made (after_commit c at) commits) r (at r) k leads in
    all-made commits (after_commit c at) r k
    (subst (λ (h : History). Leads (made (after_commit c at) commits) r h k) (one-made c at r parts.0 parts.1) parts.2)

-- ---- histories that are alike at some regions

abbrev pub AreAlike : (ℕ → Type 0) → Histories → Histories → Type 0
AreAlike among g at = (q : ℕ) → among q → g q ≡ at q

pub alike-then : (among : ℕ → Type 0) (c : Commit) (g at : Histories) → AreAlike among g at → AreAlike among (after_commit c g) (after_commit c at)
alike-then among c g at alike q here = ap (λ (h : History). cond (q == c.region) (c.command ∷ h) h) (alike q here)

made-alike : (among : ℕ → Type 0) (commits : List Commit) (g at : Histories) → AllByRecursion (λ (c : Commit). among c.region) commits → AreAlike among g at
    → made g commits ≡ made at commits
made-alike among [] g at all alike = refl
made-alike among (c ∷ commits) g at all alike =
    ap (λ (l : Events). l ++ found c.region (c.command ∷ g c.region) ∷ began c.region c.command ∷ [])
    (made-alike among commits (after_commit c g) (after_commit c at) all.1 (alike-then among c g at alike))
    ∙ ap (λ (h : History). made (after_commit c at) commits ++ found c.region (c.command ∷ h) ∷ began c.region c.command ∷ []) (alike c.region all.0)

-- ---- what is known behind a turn's touches

abbrev pub IsOneOf : ℕ → ℕ → ℕ → Type 0
IsOneOf s d q = (q ≡ s) ⊎ (q ≡ d)

module _ (P : ℕ → History → Type 0) (room : ℕ → ℕ) (s d : ℕ) (before events : Events) (result : Result CopyOutcome DeskFault) (at : Histories)
    (turn : IsCopyTurn P room s d before result events) where
  abbrev pub touched : Events
  touched = turn.receiver ++ turn.sender

  abbrev pub now : Events
  now = touched ++ before

  touches-stay : (r : ℕ) (k : History) → Leads touched r (at r) k → k ≡ at r
  touches-stay r k leads =
      let parts = leads-part turn.sender turn.receiver r (at r) k leads in
      touch-stays P (turn.sender ++ before) d turn.receiver r parts.0 k turn.touches_receiver parts.2
      ∙ touch-stays P before s turn.sender r (at r) parts.0 turn.touches_sender parts.1

  -- the rest leads from the same histories
  pub rest-leads : (r : ℕ) (m : History) → Leads events r (at r) m → Leads turn.rest r (at r) m
  rest-leads r m leads =
      let parts = leads-part touched turn.rest r (at r) m (subst (λ (l : Events). Leads l r (at r) m) turn.parts leads) in
      subst (λ (h : History). Leads turn.rest r h m) (touches-stay r parts.0 parts.1) parts.2

  -- what is known then is what there is
  pub known-now : (r : ℕ) (m : History) → IsWhatIsKnown before r (at r) → Leads events r (at r) m → IsSome (known now r)
      → history_at now r ≡ at r
  known-now r m was leads some =
      let parts = leads-part touched turn.rest r (at r) m (subst (λ (l : Events). Leads l r (at r) m) turn.parts leads) in
      sym (sym (touches-stay r parts.0 parts.1)
      ∙ known_is before touched r (at r) parts.0 was parts.1 (history_at now r) (known_there (known now r) some))

pub both-alike : (s d : ℕ) (g at : Histories) → g s ≡ at s → g d ≡ at d → AreAlike (IsOneOf s d) g at
both-alike s d g at es ed q either = ⊎_elim
    (λ e. ap g e ∙ es ∙ ap at (sym e))
    (λ e. ap g e ∙ ed ∙ ap at (sym e))
    either

pub clean-alike : (s d : ℕ) (g at : Histories) (t : Due) → g d ≡ at d → clean s d g t ≡ clean s d at t
clean-alike s d g at t e = ap (λ (k : History). delivery s d t (arrival_at s d k t) ++ settle s d t (outcome_at s d k t) ∷ []) e

pub clean-between : (s d : ℕ) (at : Histories) (t : Due) → AllByRecursion (λ (c : Commit). IsOneOf s d c.region) (clean s d at t)
clean-between s d at t = go (arrival_at s d (at d) t)
  where
    go : (a : Arrival) → AllByRecursion (λ (c : Commit). IsOneOf s d c.region) (delivery s d t a ++ settle s d t (outcome_by a (judge d (at d) t.effect)) ∷ [])
    go arrivals.New = (inr refl, (inl refl, tt))
    go (arrivals.Again outcome) = (inl refl, tt)
    go (arrivals.Behind m) = (inl refl, tt)

-- ---- one turn

-- the histories that a clean turn finds and leaves, region by region
module _ (P : ℕ → History → Type 0) (room : ℕ → ℕ) (s d : ℕ) (before events : Events) (at : Histories) (ls ld : History)
    (was_s : IsWhatIsKnown before s (at s)) (was_d : IsWhatIsKnown before d (at d)) (leads_s : Leads events s (at s) ls)
    (leads_d : Leads events d (at d) ld) where
  pub one-turn : (result : Result CopyOutcome DeskFault) (turn : IsCopyTurn P room s d before result events) → is_clean result ≡ true
      → (result ≡ Ok (clean_outcome s d at)) × ((r : ℕ) (m : History) → Leads events r (at r) m → m ≡ turned s d at r)
  one-turn (Ok outcomes.Idle) turn clear =
      let comes = turn.comes in
      let es = known-now P room s d before events (Ok outcomes.Idle) at turn s ls was_s leads_s comes.0.from in
      let none : due_of s d (at s) ≡ None = ap (due_of s d) (sym es) ∙ comes.1 in (
        ap (λ (o : Option Due). Ok (clean_by s d at o)) (sym none),
        (λ r m leads. subst (λ (l : Events). Leads l r (at r) m) comes.2 (rest-leads P room s d before events (Ok outcomes.Idle) at turn r m leads)
            ∙ ap (λ (o : Option Due). turned_by s d at o r) (sym none)),
      )
  one-turn (Ok (outcomes.Settled number outcome)) turn clear =
      let comes = turn.comes in
      let t = comes.0 in
      let g = history_at ((turn.receiver ++ turn.sender) ++ before) in
      let es = known-now P room s d before events (Ok (outcomes.Settled number outcome)) at turn s ls was_s leads_s comes.1.compared.from in
      let ed = known-now P room s d before events (Ok (outcomes.Settled number outcome)) at turn d ld was_d leads_d comes.1.compared.to in
      let due : due_of s d (at s) ≡ Some t = ap (due_of s d) (sym es) ∙ comes.1.due in
      let out : outcome ≡ outcome_at s d (at d) t = comes.3 ∙ ap (λ (k : History). outcome_at s d k t) ed in
      let made_at : turn.rest ≡ made at (clean s d at t) =
      comes.5 ∙ ap (made g) (clean-alike s d g at t ed)
      ∙ made-alike (IsOneOf s d) (clean s d at t) g at (clean-between s d at t) (both-alike s d g at es ed) in (
        ap (λ (x : ℕ). Ok (outcomes.Settled x outcome)) comes.2 ∙ ap (λ (x : Outcome). Ok (outcomes.Settled t.number x)) out
            ∙ ap (λ (o : Option Due). Ok (clean_by s d at o)) (sym due),
        (λ r m leads. all-made (clean s d at t) at r m
            (subst (λ (l : Events). Leads l r (at r) m) made_at (rest-leads P room s d before events (Ok (outcomes.Settled number outcome)) at turn r m leads))
            ∙ ap (λ (o : Option Due). turned_by s d at o r) (sym due)),
      )
  one-turn (Ok (outcomes.Retried number attempts)) turn clear = absurd cc
  one-turn (Ok (outcomes.GaveUp number)) turn clear = absurd cc
  one-turn (Err fault) turn clear = absurd cc

pub clean_turn : CleanTurnsTurn
clean_turn n s d room seen before events result at later less below turn clear was leads =
    let one = one-turn (λ r h. StandsFor n r h (seen.volume r)) room s d before events at (later s) (later d) (was s less) (was d below)
    (leads s less) (leads d below) result turn clear in
    (one.0, λ r lt. one.1 r (later r) (leads r lt))

-- ---- many turns

module _ (n s d : ℕ) (room : ℕ → ℕ) (before : Events) (at : Histories) (was_s : IsWhatIsKnown before s (at s)) (was_d : IsWhatIsKnown before d (at d)) where
  many-turns : (all : List Events) → AreCleanTurns n s d room before all → (ls ld : History) → Leads (all_events all) s (at s) ls
      → Leads (all_events all) d (at d) ld → (r : ℕ) (m : History) → Leads (all_events all) r (at r) m → m ≡ turns s d (length all) at r
  many-turns [] clear ls ld leads_s leads_d r m leads = leads
  many-turns (events ∷ all) clear ls ld leads_s leads_d r m leads =
      let first = all_events all in
      let it = clear.0 in
      let mid = turns s d (length all) at in
      let ps = leads-part first events s (at s) ls leads_s in
      let pd = leads-part first events d (at d) ld leads_d in
      let pr = leads-part first events r (at r) m leads in
      let ih = many-turns all clear.1 ps.0 pd.0 ps.1 pd.1 in
      let es = ih s ps.0 ps.1 in
      let ed = ih d pd.0 pd.1 in
      let er = ih r pr.0 pr.1 in
      let now_s : IsWhatIsKnown (first ++ before) s (mid s) =
      subst (λ (h : History). IsWhatIsKnown (first ++ before) s h) es (known_is before first s (at s) ps.0 was_s ps.1) in
      let now_d : IsWhatIsKnown (first ++ before) d (mid d) =
      subst (λ (h : History). IsWhatIsKnown (first ++ before) d h) ed (known_is before first d (at d) pd.0 was_d pd.1) in
      let qs = leads-turn events it s ps.0 ls ps.2 in
      let qd = leads-turn events it d pd.0 ld pd.2 in
      let qr = leads-turn events it r pr.0 m pr.2 in
      (one-turn (λ q h. StandsFor n q h (it.seen.volume q)) room s d (first ++ before) it.turn mid ls ld now_s now_d
      (subst (λ (h : History). Leads it.turn s h ls) es qs) (subst (λ (h : History). Leads it.turn d h ld) ed qd) it.result it.is_turn it.clean).1 r m
      (subst (λ (h : History). Leads it.turn r h m) er qr)
    where
      leads-turn : {b : Events} (events : Events) (it : IsCleanTurn n s d room b events) (q : ℕ) (h k : History) → Leads events q h k → Leads it.turn q h k
      leads-turn events it q h k leads =
          let parts = leads-part it.turn it.answers q h k (subst (λ (l : Events). Leads l q h k) it.parts leads) in
          subst (λ (x : History). Leads it.turn q h x) (sym (answers-stay it.answers q parts.0 k it.are_answers parts.2)) parts.1

pub turns_in_turn : CleanTurnsInTurn
turns_in_turn n s d room before all at later less below clear was leads r lt =
    many-turns n s d room before at (was s less) (was d below) all clear (later s) (later d) (leads s less) (leads d below) r (later r) (leads r lt)

pub turns_empty : CleanTurnsEmptyTheQueue
turns_empty n s d room before all at later less below clear was leads most =
    let is = turns_in_turn n s d room before all at later less below clear was leads s less in
    let left = turns_drain s d (length all) at in
    ap (due_of s d) is ∙ (nothing_due s d (turns s d (length all) at s)).1 (omega (arith, left, most))

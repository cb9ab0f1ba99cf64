-- A request's step notes no attempt.
use Rattle.std.proofs.Common.{◌≡◌, ◌⊎◌, ℕ, ◌+◌, List, [], ◌∷◌, ◌++◌, length, Option, Some, None, Result, Ok, Err, refl, ◌∙◌, ap, subst, inl, inr, ⊎_elim, arith}
use Rattle.s3r_world.specs.declared.world.Side.TheVariants as side
use Rattle.s3r_world.specs.Outside.{Counts, NoneFalls}
use Rattle.s3r_record.specs.declared.command.Command.{Command}
use Rattle.s3r_record.specs.declared.command.Command.TheVariants as command
use Rattle.s3r_history.specs.Words.{History}
use Rattle.s3r_history.specs.Accepts.{refusal}
use Rattle.s3r_history.specs.declared.refusal.Refusal.{Refusal}
use Rattle.s3r_desk.specs.declared.fault.DeskFault.{DeskFault}
use Rattle.s3r_desk.specs.declared.fault.DeskFault.TheVariants as faults
use Rattle.s3r_desk.specs.declared.planning.Plan.{Plan}
use Rattle.s3r_desk.specs.declared.planning.Plan.TheVariants.{Shows, Fetches, Commits}
use Rattle.s3r_desk.specs.declared.request.Request.{Request}
use Rattle.s3r_desk.specs.declared.request.Answer.{Answer}
use Rattle.s3r_desk.specs.Events.{found, began, answered, Events, history_at}
use Rattle.s3r_desk.specs.Steps.{Commit, Histories, after_commit, made, commits_unless, reply_at, plan, views, statuses, jobs, made_of}
use Rattle.s3r_desk.specs.Comparing.{disagreement}
use Rattle.s3r_desk.specs.Stopping.{StopsAt, IsInDoubt}
use Rattle.s3r_desk.specs.Copying.{attempt_about, attempts_about, fails_at, AreCounted}
use Rattle.s3r_desk.specs.Responds.{AreTouched, IsBelow, Comes, StepsUnless, IsStepTurn, HasCause}
use Rattle.s3r_desk.proofs.Leaving.{MayBeAsked, Leaves, plan-leaves}
use Rattle.s3r_desk.proofs.CopyCounts.{rises_fewer, cause_counted, attempts_then}

touched_none : (P : ℕ → History → Type 0) (among : ℕ → Type 0) (v : ℕ) (before events : Events) → AreTouched P among before events
    → attempts_about v events ≡ 0
touched_none P among v before [] touched = refl
touched_none P among v before (found r h ∷ events) touched = touched_none P among v before events touched.2
touched_none P among v before (began r c ∷ events) touched = absurd touched
touched_none P among v before (answered text ∷ events) touched = absurd touched

asked_none : (n v : ℕ) (c : Command) → MayBeAsked n c → attempt_about v c ≡ 0
asked_none n v (command.CreateBucket name locked) asked = refl
asked_none n v (command.DeleteBucket name) asked = refl
asked_none n v (command.SetVersioning name enabled) asked = refl
asked_none n v (command.SetReplication name config regions) asked = refl
asked_none n v (command.DropReplication name) asked = refl
asked_none n v (command.Put b key tags hold class body) asked = refl
asked_none n v (command.Marker b key) asked = refl
asked_none n v (command.Remove b key id) asked = refl
asked_none n v (command.SetTags b key id tags) asked = refl
asked_none n v (command.SetHold b key id hold) asked = refl
asked_none n v (command.Receive from number effect) asked = absurd asked
asked_none n v (command.Settle to number outcome) asked = absurd asked
asked_none n v (command.Attempt to number) asked = absurd asked
asked_none n v (command.CreateJob spec manifest) asked = refl
asked_none n v (command.MoveJob job state) asked = refl
asked_none n v (command.SetPriority job priority) asked = refl
asked_none n v (command.Prepare job) asked = absurd asked
asked_none n v (command.Line job line) asked = absurd asked
asked_none n v (command.Finish job body) asked = absurd asked

-- no commit is an attempt
abbrev NoneTries : ℕ → List Commit → Type 0
NoneTries v [] = Unit {0}
NoneTries v (c ∷ commits) = (attempt_about v c.command ≡ 0) × NoneTries v commits

made_none : (v : ℕ) (at : Histories) (commits : List Commit) → NoneTries v commits → attempts_about v (made at commits) ≡ 0
made_none v at [] none = refl
made_none v at (c ∷ commits) none =
    let parts = attempts_then v (made (after_commit c at) commits) (found c.region (c.command ∷ at c.region) ∷ began c.region c.command ∷ []) in
    let later = made_none v (after_commit c at) commits none.1 in
    let here = none.0 in
    omega (arith, parts, later, here)

first_none : (v : ℕ) (first : List Commit) (next : Commit) (others : List Commit) → NoneTries v (first ++ next ∷ others)
    → NoneTries v first × (attempt_about v next.command ≡ 0)
first_none v [] next others none = (tt, none.0)
first_none v (c ∷ first) next others none = let rest = first_none v first next others none.1 in ((none.0, rest.0), rest.1)

stopped_none : (v : ℕ) (room : ℕ → ℕ) (at : Histories) (commits : List Commit) (events : Events) (stops : StopsAt room at commits events)
    → NoneTries v commits → (stops.last ≡ []) ⊎ IsInDoubt stops.next stops.last → attempts_about v events ≡ 0
stopped_none v room at commits events stops none how =
    let parts = first_none v stops.first stops.next stops.others (subst (λ (l : List Commit). NoneTries v l) stops.parts none) in
    let sum = ap (attempts_about v) stops.events_are ∙ attempts_then v stops.last (made at stops.first) in
    let earlier = made_none v at stops.first parts.0 in
    let last : attempts_about v stops.last ≡ 0 =
    ⊎_elim (λ none. ap (attempts_about v) none) (λ doubt. let one = ap (attempts_about v) doubt in let none = parts.1 in omega (arith, one, none)) how in
    omega (arith, sum, earlier, last)

comes_none : (v : ℕ) (room : ℕ → ℕ) (at : Histories) (commits : List Commit) (reply : Answer) (rest : Events) (result : Result Answer DeskFault)
    → NoneTries v commits → Comes room at commits reply rest result → attempts_about v rest ≡ 0
comes_none v room at commits reply rest (Ok a) none comes = ap (attempts_about v) comes.1 ∙ made_none v at commits none
comes_none v room at commits reply rest (Err (faults.Volume u)) none comes = stopped_none v room at commits rest comes.stops none (inr comes.doubt)
comes_none v room at commits reply rest (Err (faults.Full u)) none comes = stopped_none v room at commits rest comes.stops none (inl comes.none)
comes_none v room at commits reply rest (Err (faults.Damaged u offset)) none comes = absurd comes
comes_none v room at commits reply rest (Err (faults.Disagree from to sent last settled received)) none comes = absurd comes
comes_none v room at commits reply rest (Err faults.OutOfMemory) none comes = ⊎_elim
    (λ nothing. ap (attempts_about v) nothing)
    (λ w. stopped_none v room at commits rest w.0 none w.1)
    comes

-- the one commit of a plan is none
plan_none : (n v : ℕ) (at : Histories) (p : Plan) → Leaves n p → NoneTries v (made_of n at p).commits
plan_none n v at (Shows reply) leaves = tt
plan_none n v at (Fetches r object body) leaves = tt
plan_none n v at (Commits r c reply) leaves = go (refusal n r (at r) c)
  where
    go : (o : Option Refusal) → NoneTries v (commits_unless o (record { region = r; command = c }) (reply_at r (length (at r) + 1) reply)).commits
    go None = (asked_none n v c leaves.0, tt)
    go (Some why) = tt

steps_none : (n v : ℕ) (room : ℕ → ℕ) (at : Histories) (request : Request) (rest : Events) (result : Result Answer DeskFault) (o : Option DeskFault)
    → StepsUnless o n room at request rest result → attempts_about v rest ≡ 0
steps_none n v room at request rest result None comes =
    let planned : Plan = plan n (views at) (statuses at) (jobs at) request in
    comes_none v room at _ _ rest result (plan_none n v at planned (plan-leaves n (views at) (statuses at) (jobs at) request)) comes
steps_none n v room at request rest result (Some fault) did = ap (attempts_about v) did.1

turn_none : (P : ℕ → History → Type 0) (n v : ℕ) (room : ℕ → ℕ) (before : Events) (request : Request) (result : Result Answer DeskFault)
    (events : Events) → IsStepTurn P n room before request result events → attempts_about v events ≡ 0
turn_none P n v room before request result events turn =
    let sum = ap (attempts_about v) turn.parts ∙ attempts_then v turn.rest turn.touched in
    let earlier = touched_none P (IsBelow n) v before turn.touched turn.touches in
    let later : attempts_about v turn.rest ≡ 0 = ⊎_elim
    (λ w. steps_none n v room (history_at (turn.touched ++ before)) request turn.rest result (disagreement n (history_at (turn.touched ++ before))) w.1)
    (λ none. ap (attempts_about v) none.0)
    turn.steps in
    omega (arith, sum, earlier, later)

-- so all that is to be counted is the fault that is answered
pub step_counted : (P : ℕ → History → Type 0) (n m : ℕ) (room : ℕ → ℕ) (before : Events) (request : Request) (result : Result Answer DeskFault)
    (events : Events) (a b : Counts) → IsStepTurn P n room before request result events → NoneFalls a b → HasCause m result a b → AreCounted result events a b
step_counted P n m room before request result events a b turn falls cause v =
    rises_fewer (fails_at v result) (attempts_about v events + fails_at v result) (side.Volume v) a b
    (let none = turn_none P n v room before request result events turn in omega (arith, none)) (cause_counted m v result a b falls cause)

-- What happens at a request is careful.
use Rattle.std.proofs.Common.{◌≡◌, ◌⊎◌, ℕ, ◌+◌, ◌<◌, List, [], ◌∷◌, ◌++◌, length, Option, Some, None, IsSome, Result, Ok, Err, refl, sym, subst, inl, inr, ⊎_elim, append_assoc}
use Rattle.std.specs.Prelude.{unwrap_or}
use Rattle.s3r_record.specs.declared.command.Command.{Command}
use Rattle.s3r_record.specs.declared.command.Command.TheVariants as command
use Rattle.s3r_history.specs.Words.{History}
use Rattle.s3r_history.specs.Accepts.{refusal}
use Rattle.s3r_history.specs.declared.refusal.Refusal.{Refusal}
use Rattle.s3r_desk.specs.declared.fault.DeskFault.{DeskFault}
use Rattle.s3r_desk.specs.declared.fault.DeskFault.TheVariants as faults
use Rattle.s3r_desk.specs.declared.request.Request.{Request}
use Rattle.s3r_desk.specs.declared.request.Answer.{Answer}
use Rattle.s3r_desk.specs.declared.planning.Plan.{Plan}
use Rattle.s3r_desk.specs.declared.planning.Plan.TheVariants.{Shows, Fetches, Commits}
use Rattle.s3r_desk.specs.Events.{found, began, answered, Events, known, history_at}
use Rattle.s3r_desk.specs.Steps.{Commit, Histories, after_commit, made, commits_unless, reply_at, plan, views, statuses, jobs, made_of}
use Rattle.s3r_desk.specs.Comparing.{disagreement}
use Rattle.s3r_desk.specs.Careful.{IsLicensed, MayBegin, AreCareful}
use Rattle.s3r_desk.specs.Stopping.{StopsAt, IsInDoubt}
use Rattle.s3r_desk.specs.Responds.{AreTouched, AreKnown, IsBelow, Comes, StepsUnless, IsStepTurn}
use Rattle.s3r_desk.proofs.Careful.{careful_then}
use Rattle.s3r_desk.proofs.Leaving.{MayBeAsked, Leaves, plan-leaves}

touched_careful : (P : ℕ → History → Type 0) (among : ℕ → Type 0) (n : ℕ) (before events : Events) → AreTouched P among before events
    → AreCareful n before events
touched_careful P among n before [] touched = tt
touched_careful P among n before (found r h ∷ events) touched = touched_careful P among n before events touched.2
touched_careful P among n before (began r c ∷ events) touched = absurd touched
touched_careful P among n before (answered text ∷ events) touched = absurd touched

-- a command that a request may ask for asks nothing of another region
licensed : (n : ℕ) (events : Events) (r : ℕ) (c : Command) → MayBeAsked n c → IsLicensed events r c
licensed n events r (command.CreateBucket name locked) asked = tt
licensed n events r (command.DeleteBucket name) asked = tt
licensed n events r (command.SetVersioning name enabled) asked = tt
licensed n events r (command.SetReplication name config regions) asked = tt
licensed n events r (command.DropReplication name) asked = tt
licensed n events r (command.Put b key tags hold class body) asked = tt
licensed n events r (command.Marker b key) asked = tt
licensed n events r (command.Remove b key id) asked = tt
licensed n events r (command.SetTags b key id tags) asked = tt
licensed n events r (command.SetHold b key id hold) asked = tt
licensed n events r (command.Receive from number effect) asked = absurd asked
licensed n events r (command.Settle to number outcome) asked = absurd asked
licensed n events r (command.Attempt to number) asked = absurd asked
licensed n events r (command.CreateJob spec manifest) asked = tt
licensed n events r (command.MoveJob job state) asked = tt
licensed n events r (command.SetPriority job priority) asked = tt
licensed n events r (command.Prepare job) asked = absurd asked
licensed n events r (command.Line job line) asked = absurd asked
licensed n events r (command.Finish job body) asked = absurd asked

pub known_there : (o : Option History) → IsSome o → o ≡ Some (unwrap_or o [])
known_there None some = absurd cc
known_there (Some h) some = refl

-- each commit may begin behind those before it
abbrev pub AreLicensed : ℕ → Events → Histories → List Commit → Type 0
AreLicensed n now at [] = Unit {0}
AreLicensed n now at (c ∷ commits) = (c.region < n → MayBegin n now c.region c.command)
    × AreLicensed n (found c.region (c.command ∷ at c.region) ∷ began c.region c.command ∷ now) (after_commit c at) commits

one_made : (n : ℕ) (now : Events) (at : Histories) (c : Commit) → (c.region < n → MayBegin n now c.region c.command)
    → AreCareful n now (found c.region (c.command ∷ at c.region) ∷ began c.region c.command ∷ [])
one_made n now at c may = (may, tt)

pub made_careful : (n : ℕ) (now : Events) (at : Histories) (commits : List Commit) → AreLicensed n now at commits → AreCareful n now (made at commits)
made_careful n now at [] all = tt
made_careful n now at (c ∷ commits) all =
    careful_then n now (found c.region (c.command ∷ at c.region) ∷ began c.region c.command ∷ []) (made (after_commit c at) commits)
    (one_made n now at c all.0) (made_careful n _ (after_commit c at) commits all.1)

-- a first part was made, and the next one wasn't, or is in doubt
cut_careful : (n : ℕ) (now : Events) (at : Histories) (first : List Commit) (next : Commit) (others : List Commit) (last : Events)
    → AreLicensed n now at (first ++ next ∷ others) → (last ≡ []) ⊎ IsInDoubt next last → AreCareful n now (last ++ made at first)
cut_careful n now at [] next others last all how = ⊎_elim
    (λ none. subst (λ (l : Events). AreCareful n now (l ++ [])) (sym none) tt)
    (λ doubt. subst (λ (l : Events). AreCareful n now (l ++ [])) (sym doubt) (all.0, tt))
    how
cut_careful n now at (c ∷ first) next others last all how =
    let one : Events = found c.region (c.command ∷ at c.region) ∷ began c.region c.command ∷ [] in
    subst (λ (l : Events). AreCareful n now l) (append_assoc last (made (after_commit c at) first) one)
    (careful_then n now one (last ++ made (after_commit c at) first) (one_made n now at c all.0)
    (cut_careful n _ (after_commit c at) first next others last all.1 how))

pub stopped_careful : (n : ℕ) (room : ℕ → ℕ) (now : Events) (at : Histories) (commits : List Commit) (rest : Events) (stops : StopsAt room at commits rest)
    → AreLicensed n now at commits → (stops.last ≡ []) ⊎ IsInDoubt stops.next stops.last → AreCareful n now rest
stopped_careful n room now at commits rest stops all how =
    subst (λ (l : Events). AreCareful n now l) (sym stops.events_are)
    (cut_careful n now at stops.first stops.next stops.others stops.last (subst (λ (l : List Commit). AreLicensed n now at l) stops.parts all) how)

-- the one commit of a plan is accepted, in a region that is known
step_licensed : (n : ℕ) (now : Events) → AreKnown (IsBelow n) now → (p : Plan) → Leaves n p
    → AreLicensed n now (history_at now) (made_of n (history_at now) p).commits
step_licensed n now all (Shows reply) leaves = tt
step_licensed n now all (Fetches r object body) leaves = tt
step_licensed n now all (Commits r c reply) leaves = go (refusal n r (history_at now r) c) refl
  where
    go : (o : Option Refusal) → refusal n r (history_at now r) c ≡ o
        → AreLicensed n now (history_at now)
        (commits_unless o (record { region = r; command = c }) (reply_at r (length (history_at now r) + 1) reply)).commits
    go None is = (
      λ lt. record {
        history = history_at now r;
        is_known = known_there (known now r) (all r lt);
        accepted = is;
        licensed = licensed n now r c leaves.0;
      },
      tt,
    )
    go (Some why) is = tt

comes_careful : (n : ℕ) (room : ℕ → ℕ) (now : Events) (commits : List Commit) (reply : Answer) (rest : Events) (result : Result Answer DeskFault)
    → AreLicensed n now (history_at now) commits → Comes room (history_at now) commits reply rest result → AreCareful n now rest
comes_careful n room now commits reply rest (Ok a) all comes =
    subst (λ (l : Events). AreCareful n now l) (sym comes.1) (made_careful n now (history_at now) commits all)
comes_careful n room now commits reply rest (Err (faults.Volume v)) all comes =
    stopped_careful n room now (history_at now) commits rest comes.stops all (inr comes.doubt)
comes_careful n room now commits reply rest (Err (faults.Full v)) all comes =
    stopped_careful n room now (history_at now) commits rest comes.stops all (inl comes.none)
comes_careful n room now commits reply rest (Err (faults.Damaged v offset)) all comes = absurd comes
comes_careful n room now commits reply rest (Err (faults.Disagree from to sent last settled received)) all comes = absurd comes
comes_careful n room now commits reply rest (Err faults.OutOfMemory) all comes = ⊎_elim
    (λ none. subst (λ (l : Events). AreCareful n now l) (sym none) tt)
    (λ w. stopped_careful n room now (history_at now) commits rest w.0 all w.1)
    comes

steps_careful : (n : ℕ) (room : ℕ → ℕ) (now : Events) (request : Request) (rest : Events) (result : Result Answer DeskFault)
    → AreKnown (IsBelow n) now → (o : Option DeskFault) → StepsUnless o n room (history_at now) request rest result → AreCareful n now rest
steps_careful n room now request rest result all None comes =
    let planned : Plan = plan n (views (history_at now)) (statuses (history_at now)) (jobs (history_at now)) request in
    comes_careful n room now _ _ rest result
    (step_licensed n now all planned (plan-leaves n (views (history_at now)) (statuses (history_at now)) (jobs (history_at now)) request)) comes
steps_careful n room now request rest result all (Some fault) did = subst (λ (l : Events). AreCareful n now l) (sym did.1) tt

pub step_careful : (P : ℕ → History → Type 0) (n : ℕ) (room : ℕ → ℕ) (before : Events) (request : Request) (result : Result Answer DeskFault)
    (events : Events) → IsStepTurn P n room before request result events → AreCareful n before events
step_careful P n room before request result events turn =
    let now : Events = turn.touched ++ before in
    subst (λ (l : Events). AreCareful n before l) (sym turn.parts)
    (careful_then n before turn.touched turn.rest (touched_careful P (IsBelow n) n before turn.touched turn.touches) (⊎_elim
    (λ w. steps_careful n room now request turn.rest result w.0 (disagreement n (history_at now)) w.1)
    (λ none. subst (λ (l : Events). AreCareful n now l) (sym none.0) tt)
    turn.steps))

-- What a request comes to.
use Rattle.std.proofs.Common.{◌≡◌, ℕ, ◌<◌, ◌≤◌, List, [], ◌∷◌, length, Option, None, Result, Ok, Err, IfOk, IfErr, refl, sym, ◌∙◌, ap, subst, inl, inr}
use Rattle.std.proofs.lemmas.List.{append-nil}
use Rattle.s3r_world.specs.Outside.{Outside, Looks}
use Rattle.s3r_record.specs.declared.command.Command.{Command}
use Rattle.s3r_history.specs.Accepts.{refusal}
use Rattle.s3r_history.specs.declared.refusal.Refusal.{Refusal}
use Rattle.s3r_store.specs.declared.store.Store.{Store}
use Rattle.s3r_store.specs.Commits.{length_with}
use Rattle.s3r_desk.specs.declared.committing.Committed.TheVariants as committed
use Rattle.s3r_desk.specs.declared.fault.DeskFault.{DeskFault}
use Rattle.s3r_desk.specs.declared.fault.DeskFault.TheVariants as faults
use Rattle.s3r_desk.specs.declared.request.Answer.{Answer}
use Rattle.s3r_desk.specs.declared.request.Answer.TheVariants as answer
use Rattle.s3r_desk.specs.Events.{found, began, Events, history_at}
use Rattle.s3r_desk.specs.Steps.{Commit, Step, answers, commits_unless, commits_to}
use Rattle.s3r_desk.specs.Keeping.{Keeps}
use Rattle.s3r_desk.specs.Stopping.{StopsAt}
use Rattle.s3r_desk.specs.Responds.{Comes, CommitsOne, Came}
use Rattle.s3r_desk.proofs.Stepping.{happens_none}

module _ (before : Events) (s : Step) (room : ℕ → ℕ) (a b : List Store) (old new : Outside) where
  -- nothing is committed
  pub came_shown : (reply : Answer) → s ≡ answers reply → Looks old new → Keeps before b new → Came before s (Ok reply) room a b old new
  came_shown reply is looks keeps = record {
    rest = [];
    comes = subst (λ (x : Step). Comes room (history_at before) x.commits x.reply [] (Ok reply)) (sym is) (refl, refl, tt);
    keeps = keeps;
    happens = happens_none (length a) old new looks;
  }

  pub came_starved : Looks old new → Keeps before b new → Came before s (Err faults.OutOfMemory) room a b old new
  came_starved looks keeps = record { rest = []; comes = inl refl; keeps = keeps; happens = happens_none (length a) old new looks }

  -- or there was no memory
  pub came_either : (reply : Answer) (result : Result Answer DeskFault) → s ≡ answers reply → IfOk result (λ a. a ≡ reply)
      → IfErr result (λ e. e ≡ faults.OutOfMemory) → Looks old new → Keeps before b new → Came before s result room a b old new
  came_either reply (Ok x) is same fault looks keeps = came_shown x (is ∙ ap answers (sym same)) looks keeps
  came_either reply (Err e) is same fault looks keeps = subst (λ (y : DeskFault). Came before s (Err y) room a b old new) (sym fault) (came_starved looks keeps)

  -- one command is, where it is accepted
  module _ (r : ℕ) (c : Command) (reply : Answer) (is : s ≡ commits_to (length a) (history_at before) r c reply) where
    abbrev commit : Commit
    commit = record { region = r; command = c }

    made_step : refusal (length a) r (history_at before r) c ≡ None → s ≡ record { commits = record { region = r; command = c } ∷ []; reply = reply }
    made_step none = is ∙ ap (λ (o : Option Refusal). commits_unless o (record { region = r; command = c }) reply) none

    -- the one commit is the next
    abbrev stops : refusal (length a) r (history_at before r) c ≡ None → (last : Events) → StopsAt room (history_at before) s.commits last
    stops none last = record {
      first = [];
      next = commit;
      others = [];
      parts = ap (λ (x : Step). x.commits) (made_step none);
      fit = tt;
      last =
          last;
      events_are = sym (append-nil last);
    }

    pub came_at : (index : ℕ) (reply' : Answer) → reply' ≡ reply → CommitsOne before (length a) r (history_at before r) c (room r)
        (Ok (committed.At index)) b old new → Came before s (Ok reply') room a b old new
    came_at index reply' same did = record {
      rest = found r (c ∷ history_at before r) ∷ began r c ∷ [];
      comes = subst (λ (x : Step). Comes room (history_at before) x.commits x.reply (found r (c ∷ history_at before r) ∷ began r c ∷ []) (Ok reply'))
          (sym (made_step did.1)) (same, refl, (did.2, tt));
      keeps = did.3;
      happens = did.4;
    }

    pub came_refused : (why : Refusal) → CommitsOne before (length a) r (history_at before r) c (room r) (Ok (committed.Refused why)) b old new
        → Came before s (Ok (answer.Refused why)) room a b old new
    came_refused why did = record {
      rest = [];
      comes = subst (λ (x : Step). Comes room (history_at before) x.commits x.reply [] (Ok (answer.Refused why)))
          (sym (is ∙ ap (λ (o : Option Refusal). commits_unless o (record { region = r; command = c }) reply) did.0)) (refl, refl, tt);
      keeps = did.1;
      happens = did.2;
    }

    pub came_failed : (e : DeskFault) → CommitsOne before (length a) r (history_at before r) c (room r) (Err e) b old new
        → Came before s (Err e) room a b old new
    came_failed (faults.Volume v) did = record {
      rest = began r c ∷ [];
      comes = record {
        stops = stops did.1 (began r c ∷ []);
        region = sym did.0;
        fits = subst (λ (m : ℕ). length_with m (history_at before m) c ≤ room m) (sym did.0) did.2;
        doubt = refl;
      };
      keeps = did.3;
      happens = did.4;
    }
    came_failed (faults.Full v) did = record {
      rest = [];
      comes = record {
        stops = stops did.1 [];
        region = sym did.0;
        full = subst (λ (m : ℕ). room m < length_with m (history_at before m) c) (sym did.0) did.2;
        none = refl;
      };
      keeps = did.3;
      happens = did.4;
    }
    came_failed (faults.Damaged v offset) did = absurd did
    came_failed (faults.Disagree from to sent last settled received) did = absurd did
    came_failed faults.OutOfMemory did = record {
      rest = began r c ∷ [];
      comes = inr (stops did.0 (began r c ∷ []), inr refl);
      keeps = did.1;
      happens = did.2;
    }

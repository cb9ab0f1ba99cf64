-- What a history received stands at a place of it.
use Rattle.std.proofs.Common.{◌≡◌, inl, inr, ℕ, Bool, true, false, cond, ◌==◌, List, [], ◌∷◌, ◌++◌, Some, refl, subst, ap, ◌∙◌, eqb-true}
use Rattle.std.specs.List.{AllByRecursion}
use Rattle.s3r_names.specs.declared.outcome.Outcome.{Outcome}
use Rattle.s3r_record.specs.declared.command.Command.{Command}
use Rattle.s3r_record.specs.declared.command.Command.TheVariants as command
use Rattle.s3r_history.specs.Words.{History}
use Rattle.s3r_history.specs.Past.{Carried}
use Rattle.s3r_history.specs.Deeds.{deeds, deed, judge}
use Rattle.s3r_history.specs.Tasks.{Received, receipt, received, settled_with}
use Rattle.s3r_history.specs.Agree.{IsSent, CameTo, Agrees}
use Rattle.s3r_history.proofs.Agreeing.{received-next}
use Rattle.s3r_arrivals.specs.Arrivals.{WasReceived, CameOver}

-- an effect of this number came to this, at a place of the history; the record of it has the property
record Found (s d : ℕ) (P : Received → Type 0) (k : History) (n : ℕ) (o : Outcome) : Type 0 where
  pub effect : Carried
  pub was_received : WasReceived s d k n effect o
  pub so : P (record { number = n; effect = effect; outcome = o })

one-later : (s d : ℕ) (P : Received → Type 0) (c : Command) (k : History) (n : ℕ) (o : Outcome) → Found s d P k n o → Found s d P (c ∷ k) n o
one-later s d P c k n o found = record {
  effect = found.effect;
  was_received = record {
    later = c ∷ found.was_received.later;
    earlier = found.was_received.earlier;
    there = ap (λ (h : History). c ∷ h) found.was_received.there;
    came = found.was_received.came;
  };
  so = found.so;
}

found-at : (s d : ℕ) (P : Received → Type 0) (k : History) (n : ℕ) (o : Outcome) → AllByRecursion P (received (deeds d k) s)
    → CameTo n o (received (deeds d k) s) → Found s d P k n o
found-at s d P [] n o all came = absurd came
found-at s d P (command.Receive from number e ∷ k) n o all came = go (from == s) refl (found-at s d P k n o) all came
  where
    here : from ≡ s → (number ≡ n) × (judge d k e ≡ o) → P (record { number = number; effect = e; outcome = judge d k e })
        → Found s d P (command.Receive from number e ∷ k) n o
    here same is so = record {
      effect = e;
      was_received = record {
        later = [];
        earlier = k;
        there = ap (λ x. command.Receive x number e ∷ k) same ∙ ap (λ x. command.Receive s x e ∷ k) is.0;
        came = is.1;
      };
      so = subst (λ (x : Outcome). P (record { number = n; effect = e; outcome = x })) is.1
          (subst (λ (x : ℕ). P (record { number = x; effect = e; outcome = judge d k e })) is.0 so);
    }

    go : (t : Bool) → (from == s) ≡ t → (AllByRecursion P (received (deeds d k) s) → CameTo n o (received (deeds d k) s) → Found s d P k n o)
        → AllByRecursion P (cond t (record { number = number; effect = e; outcome = judge d k e } ∷ []) [] ++ received (deeds d k) s)
        → CameTo n o (cond t (record { number = number; effect = e; outcome = judge d k e } ∷ []) [] ++ received (deeds d k) s)
        → Found s d P (command.Receive from number e ∷ k) n o
    go true e' rest all (inl is) = here (eqb-true from s e') is all.0
    go true e' rest all (inr came) = one-later s d P (command.Receive from number e) k n o (rest all.1 came)
    go false e' rest all came = one-later s d P (command.Receive from number e) k n o (rest all came)
found-at s d P (c ∷ k) n o all came = one-later s d P c k n o (found-at s d P k n o all came)

-- what a settled task came to was received
pub settled-came-over : (s d : ℕ) (h k : History) (n : ℕ) (o : Outcome) → Agrees s d h k → settled_with h d n ≡ Some o → CameOver s d h k n o
settled-came-over s d h k n o a is =
    let found = found-at s d (IsSent h (deeds s h) d) k n o a.sent_so (a.settled n o is) in
    record { effect = found.effect; prescribed_there = found.so.prescribed_there; was_received = found.was_received }

-- ---- the other way: what stands at a place of it was received

pub all-behind : {X : Type 0} (P : X → Type 0) (newer xs : List X) → AllByRecursion P (newer ++ xs) → AllByRecursion P xs
all-behind P [] xs all = all
all-behind P (x ∷ newer) xs all = all-behind P newer xs all.1

pub received-at : (s d : ℕ) (P : Received → Type 0) (later k : History) (n : ℕ) (e : Carried)
    → AllByRecursion P (received (deeds d (later ++ command.Receive s n e ∷ k)) s) → P (record { number = n; effect = e; outcome = judge d k e })
received-at s d P [] k n e all =
    let first : AllByRecursion P (record { number = n; effect = e; outcome = judge d k e } ∷ received (deeds d k) s) =
    subst (AllByRecursion P) (received-next s d k n e) all in
    first.0
received-at s d P (c ∷ later) k n e all =
    let rest = later ++ command.Receive s n e ∷ k in
    received-at s d P later k n e (all-behind P (receipt s (deed d rest (deeds d rest) c).outcome c) (received (deeds d rest) s) all)

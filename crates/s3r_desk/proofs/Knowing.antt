-- What is known after one event more, and where events lead.
use Rattle.std.proofs.Common.{◌≡◌, ℕ, cond, [], ◌∷◌, ◌++◌, Some, None, refl, sym, ap, subst, inl, inr, ⊎_elim, eq-eqb, ne_eqb}
use Rattle.s3r_record.specs.declared.command.Command.{Command}
use Rattle.s3r_history.specs.Words.{History}
use Rattle.s3r_desk.specs.Events.{found, began, answered, Events, known, Leads}

pub known_found : (r : ℕ) (h : History) (events : Events) → known (found r h ∷ events) r ≡ Some h
known_found r h events = ap (λ t. cond t (Some h) (known events r)) (eq-eqb r r refl)

pub known_began : (r : ℕ) (c : Command) (events : Events) → known (began r c ∷ events) r ≡ None
known_began r c events = ap (λ t. cond t None (known events r)) (eq-eqb r r refl)

pub found_elsewhere : (r q : ℕ) (h : History) (events : Events) → (q ≡ r → ⊥) → known (found r h ∷ events) q ≡ known events q
found_elsewhere r q h events ne = ap (λ t. cond t (Some h) (known events q)) (ne_eqb r q (λ e. ne (sym e)))

pub began_elsewhere : (r q : ℕ) (c : Command) (events : Events) → (q ≡ r → ⊥) → known (began r c ∷ events) q ≡ known events q
began_elsewhere r q c events ne = ap (λ t. cond t None (known events q)) (ne_eqb r q (λ e. ne (sym e)))

pub leads_then : (first second : Events) (r : ℕ) (h k m : History) → Leads first r h k → Leads second r k m → Leads (second ++ first) r h m
leads_then first [] r h k m a b = subst (λ (l : History). Leads first r h l) (sym b) a
leads_then first (found s g ∷ second) r h k m a b = (leads_then first second r h k m a b.0, b.1)
leads_then first (began s c ∷ second) r h k m a b = ⊎_elim
    (λ still. inl (leads_then first second r h k m a still))
    (λ with. inr (with.0, with.1, leads_then first second r h k with.1 a with.2, with.3))
    b
leads_then first (answered text ∷ second) r h k m a b = leads_then first second r h k m a b

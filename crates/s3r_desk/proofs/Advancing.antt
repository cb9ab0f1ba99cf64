-- What events leave of a volume, one after another.
use Rattle.std.proofs.Common.{◌≡◌, ◌⊎◌, ℕ, Bool, true, false, cond, eqb, List, [], ◌∷◌, ◌++◌, Option, Some, None, refl, sym, ◌∙◌, ap, subst, inl, inr, ⊎_elim, eq-eqb}
use Rattle.std.proofs.lemmas.Bool.{eqb-true}
use Rattle.s3r_world.specs.Image.{Image, OnVolume}
use Rattle.s3r_record.specs.declared.command.Command.{Command}
use Rattle.s3r_history.specs.Words.{History}
use Rattle.s3r_store.specs.Stands.{StandsFor, KeepsFormat}
use Rattle.s3r_store.specs.Commits.{IsEither, IsWith}
use Rattle.s3r_store.proofs.Formats.{format_none, format_then}
use Rattle.s3r_store.proofs.Histories.{one_lawful_history}
use Rattle.s3r_desk.specs.Events.{found, began, answered, Events, known}
use Rattle.s3r_desk.specs.Progress.{IsLeft, Advances}
use Rattle.s3r_desk.proofs.Places.{same_or_other}
use Rattle.s3r_desk.proofs.Knowing.{leads_then}

-- ---- what is known, and what is left

other : (s r : ℕ) → eqb s r ≡ false → s ≡ r → ⊥
other s r differs e = let bad : true ≡ false = sym (eq-eqb s r e) ∙ differs in absurd cc

over_found : (t : Bool) (g h : History) (k l : Option History) (Q : Type 0) → (k ≡ Some h → (l ≡ Some h) ⊎ Q) → cond t (Some g) k ≡ Some h
    → (cond t (Some g) l ≡ Some h) ⊎ Q
over_found true g h k l Q go is = inl is
over_found false g h k l Q go is = go is

over_began : (t : Bool) (h : History) (k l : Option History) (N Q : Type 0) → (t ≡ false → N) → (k ≡ Some h → (l ≡ Some h) ⊎ Q) → cond t None k ≡ Some h
    → (cond t None l ≡ Some h) ⊎ (N × Q)
over_began true h k l N Q ne go is = absurd cc
over_began false h k l N Q ne go is = ⊎_elim (λ e. inl e) (λ q. inr (ne refl, q)) (go is)

-- what is known is told by the later events, or by the earlier ones, and no commit began since
pub known_over : (second first : Events) (r : ℕ) (h : History) → known (second ++ first) r ≡ Some h → (known second r ≡ Some h)
    ⊎ (IsLeft second r × (known first r ≡ Some h))
known_over [] first r h is = inr (tt, is)
known_over (found s g ∷ second) first r h is =
    over_found (eqb s r) g h (known (second ++ first) r) (known second r) (IsLeft second r × (known first r ≡ Some h)) (known_over second first r h) is
known_over (began s c ∷ second) first r h is = ⊎_elim (λ e. inl e) (λ q. inr ((q.0, q.1.0), q.1.1))
    (over_began (eqb s r) h (known (second ++ first) r) (known second r) (s ≡ r → ⊥) (IsLeft second r × (known first r ≡ Some h)) (other s r)
    (known_over second first r h) is)
known_over (answered text ∷ second) first r h is = known_over second first r h is

pub left_over : (second first : Events) (r : ℕ) → IsLeft (second ++ first) r → IsLeft second r × IsLeft first r
left_over [] first r l = (tt, l)
left_over (found s g ∷ second) first r l = left_over second first r l
left_over (began s c ∷ second) first r l = let w = left_over second first r l.1 in ((l.0, w.0), w.1)
left_over (answered text ∷ second) first r l = left_over second first r l

-- ---- one volume

pub advances_none : (n r : ℕ) (bytes : List ℕ) → Advances n [] r bytes bytes
advances_none n r bytes = record { leads = λ h stands. (h, stands, refl); known_is = λ h is. absurd cc; left = λ l. refl; format = format_none bytes }

-- an answer leaves the volumes
pub advances_answered : (n : ℕ) (text : List ℕ) (events : Events) (r : ℕ) (a b : List ℕ) → Advances n events r a b → Advances n (answered text ∷ events) r a b
advances_answered n text events r a b p = record { leads = p.leads; known_is = p.known_is; left = p.left; format = p.format }

pub advances_then : (n : ℕ) (first second : Events) (r : ℕ) (a b d : List ℕ) → Advances n first r a b → Advances n second r b d
    → Advances n (second ++ first) r a d
advances_then n first second r a b d p q = record {
  leads = λ h stands.
      let mid = p.leads h stands in
      let end = q.leads mid.0 mid.1 in
      (end.0, end.1, leads_then first second r h mid.0 end.0 mid.2 end.2);
  known_is = λ h is. ⊎_elim
      (λ later. q.known_is h later)
      (λ (left, earlier). subst (λ (l : List ℕ). StandsFor n r h l) (sym (q.left left)) (p.known_is h earlier))
      (known_over second first r h is);
  left = λ l. let parts = left_over second first r l in q.left parts.0 ∙ p.left parts.1;
  format = format_then a b d p.format q.format;
}

one_known : (t : Bool) (h k : History) → cond t (Some h) None ≡ Some k → (t ≡ true) × (h ≡ k)
one_known true h k is = (refl, cc)
one_known false h k is = absurd cc

one_made : (t : Bool) (h k : History) → cond t (Some h) (cond t None None) ≡ Some k → (t ≡ true) × (h ≡ k)
one_made true h k is = (refl, cc)
one_made false h k is = absurd cc

none_known : (t : Bool) (k : History) → cond t None None ≡ Some k → ⊥
none_known true k is = cc
none_known false k is = cc

-- where a region is known, its volume stands for that
known_at : (n r q : ℕ) (h k : History) (c : Image) → StandsFor n r h (c.volume r) → (eqb r q ≡ true) × (h ≡ k) → StandsFor n q k (c.volume q)
known_at n r q h k c stands is = subst (λ (x : History). StandsFor n q x (c.volume q)) is.1
    (subst (λ (m : ℕ). StandsFor n m h (c.volume m)) (eqb-true r q is.0) stands)

-- a region's history was found
pub advances_found : (n r : ℕ) (h : History) (c : Image) → StandsFor n r h (c.volume r) → (q : ℕ) → Advances n (found r h ∷ []) q (c.volume q) (c.volume q)
advances_found n r h c stands q = record {
  leads = λ k here. (
    k,
    here,
    (refl, λ e. one_lawful_history n r (c.volume r) k h (subst (λ (m : ℕ). StandsFor n m k (c.volume m)) (sym e) here) stands),
  );
  known_is = λ k is. known_at n r q h k c stands (one_known (eqb r q) h k is);
  left = λ l. refl;
  format = format_none (c.volume q);
}

-- ---- a command was committed behind a history, or is in doubt

module _ (n r : ℕ) (h : History) (c : Command) (x y : Image) (is : (k : History) → StandsFor n r k (x.volume r) → k ≡ h) where
  format_on : (S : List ℕ → List ℕ → Type 0) → (S (x.volume r) (y.volume r) → KeepsFormat (x.volume r) (y.volume r)) → OnVolume r S x y → (q : ℕ)
      → KeepsFormat (x.volume q) (y.volume q)
  format_on S of on q = ⊎_elim
      (λ same. subst (λ (m : ℕ). KeepsFormat (x.volume m) (y.volume m)) (sym same) (of on.here))
      (λ ne. subst (λ (l : List ℕ). KeepsFormat (x.volume q) l) (sym (on.elsewhere q ne)) (format_none (x.volume q)))
      (same_or_other q r)

  pub advances_began : OnVolume r (IsEither n r h c) x y → (q : ℕ) → Advances n (began r c ∷ []) q (x.volume q) (y.volume q)
  advances_began on q = record {
    leads = λ k st. ⊎_elim
        (λ same.
        let old : k ≡ h = is k (subst (λ (m : ℕ). StandsFor n m k (x.volume m)) same st) in
        ⊎_elim
        (λ still. (h, subst (λ (m : ℕ). StandsFor n m h (y.volume m)) (sym same) still, inl (sym old)))
        (λ with. (c ∷ h, subst (λ (m : ℕ). StandsFor n m (c ∷ h) (y.volume m)) (sym same) with, inr (sym same, k, refl, ap (λ (l : History). c ∷ l) (sym old))))
        on.here.stands)
        (λ ne. (k, subst (λ (l : List ℕ). StandsFor n q k l) (sym (on.elsewhere q ne)) st, inl refl))
        (same_or_other q r);
    known_is = λ k known. absurd (none_known (eqb r q) k known);
    left = λ l. on.elsewhere q (λ e. l.0 (sym e));
    format = format_on (IsEither n r h c) (λ either. either.format) on q;
  }

  pub advances_committed : OnVolume r (IsWith n r h c) x y → (q : ℕ) → Advances n (found r (c ∷ h) ∷ began r c ∷ []) q (x.volume q) (y.volume q)
  advances_committed on q = record {
    leads = λ k st. ⊎_elim
        (λ same.
        let old : k ≡ h = is k (subst (λ (m : ℕ). StandsFor n m k (x.volume m)) same st) in (
          c ∷ h,
          subst (λ (m : ℕ). StandsFor n m (c ∷ h) (y.volume m)) (sym same) on.here.stands,
          (inr (sym same, k, refl, ap (λ (l : History). c ∷ l) (sym old)), λ e. refl),
        ))
        (λ ne. (k, subst (λ (l : List ℕ). StandsFor n q k l) (sym (on.elsewhere q ne)) st, (inl refl, λ e. absurd (ne (sym e)))))
        (same_or_other q r);
    known_is = λ k known. known_at n r q (c ∷ h) k y on.here.stands (one_made (eqb r q) (c ∷ h) k known);
    left = λ l. on.elsewhere q (λ e. l.0 (sym e));
    format = format_on (IsWith n r h c) (λ with. with.format) on q;
  }

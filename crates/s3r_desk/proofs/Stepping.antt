-- What looks and commits are as events.
use Rattle.std.proofs.Common.{◌≡◌, ℕ, Bool, true, List, [], ◌∷◌, ◌++◌, refl, sym, ◌∙◌, ap, subst, append_assoc}
use Rattle.s3r_world.specs.Image.{Image, OnVolume, Reached}
use Rattle.s3r_world.specs.Outside.{Outside, Looks, IsStable}
use Rattle.s3r_world.specs.Moments.{elapses_none, elapses_then, elapses_weaker, keeps_then}
use Rattle.s3r_record.specs.declared.command.Command.{Command}
use Rattle.s3r_history.specs.Words.{History}
use Rattle.s3r_store.specs.Stands.{StandsFor}
use Rattle.s3r_store.specs.Commits.{IsEither, Commits}
use Rattle.s3r_store.proofs.Histories.{one_lawful_history}
use Rattle.s3r_desk.specs.Events.{found, began, Events}
use Rattle.s3r_desk.specs.Progress.{Progress, IsWithin, Happens}
use Rattle.s3r_desk.proofs.Advancing.{advances_none, advances_then, advances_found, advances_began, advances_committed}

pub looks_none : (w : Outside) → Looks w w
looks_none w = record { as_read = refl; images = λ c now. now; time = elapses_none w w.images; input = record { input = refl; connections = refl } }

pub progress_none : (n : ℕ) (c : Image) → Progress n [] c c
progress_none n c = record { volume = λ r lt. advances_none n r (c.volume r); output = refl }

pub progress_then : (n : ℕ) (first second : Events) (a b d : Image) → Progress n first a b → Progress n second b d → Progress n (second ++ first) a d
progress_then n first second a b d p q = record {
  volume = λ r lt. advances_then n first second r (a.volume r) (b.volume r) (d.volume r) (p.volume r lt) (q.volume r lt);
  output = q.output ∙ p.output;
}

pub happens_then : (n : ℕ) (first second : Events) (a b d : Outside) → Happens n first a b → Happens n second b d → Happens n (second ++ first) a d
happens_then n first second a b d p q = record {
  time = elapses_then a b d (IsWithin n (second ++ first) a.images)
      (elapses_weaker a b (IsWithin n first a.images) (IsWithin n (second ++ first) a.images) p.time (λ c w. record {
        later = second ++ w.later;
        earlier = w.earlier;
        parts = ap (λ (l : Events). second ++ l) w.parts ∙ sym (append_assoc second w.later w.earlier);
        reached = w.reached;
      }))
      (elapses_weaker b d (IsWithin n second b.images) (IsWithin n (second ++ first) a.images) q.time (λ c w.
      let from = p.images w.reached.0 w.reached.1 in
      record {
        later = w.later;
        earlier = w.earlier ++ first;
        parts = ap (λ (l : Events). l ++ first) w.parts ∙ append_assoc w.later w.earlier first;
        reached = (from.0, from.1, progress_then n first w.earlier from.0 w.reached.0 c from.2 w.reached.2);
      }));
  images = λ c now. let here = q.images c now in let from = p.images here.0 here.1 in
      (from.0, from.1, progress_then n first second from.0 here.0 c from.2 here.2);
  as_read = progress_then n first second a.as_read b.as_read d.as_read p.as_read q.as_read;
  input = keeps_then a b d p.input q.input;
}

-- nothing was written
pub happens_none : (n : ℕ) (a b : Outside) → Looks a b → Happens n [] a b
happens_none n a b looks = record {
  time = elapses_weaker a b a.images (IsWithin n [] a.images) looks.time
      (λ c was. record { later = []; earlier = []; parts = refl; reached = (c, was, progress_none n c) });
  images = λ c now. (c, looks.images c now, progress_none n c);
  as_read = subst (λ (i : Image). Progress n [] a.as_read i) (sym looks.as_read) (progress_none n a.as_read);
  input = looks.input;
}

-- a region's history was found
module _ (n r : ℕ) (h : History) (a b : Outside) (looks : Looks a b) (stable : IsStable r b) (stands : StandsFor n r h (b.as_read.volume r)) where
  found_here : (c : Image) → c.volume r ≡ b.as_read.volume r → Progress n (found r h ∷ []) c c
  found_here c same = record { volume = λ q lt. advances_found n r h c (subst (λ (l : List ℕ). StandsFor n r h l) (sym same) stands) q; output = refl }

  pub happens_found : Happens n (found r h ∷ []) a b
  happens_found = record {
    time = elapses_weaker a b a.images (IsWithin n (found r h ∷ []) a.images) looks.time
        (λ c was. record { later = found r h ∷ []; earlier = []; parts = refl; reached = (c, was, progress_none n c) });
    images = λ c now. (c, looks.images c now, found_here c (stable c now));
    as_read = subst (λ (i : Image). Progress n (found r h ∷ []) i b.as_read) looks.as_read (found_here b.as_read refl);
    input = looks.input;
  }

-- a command was committed behind a history for which each image stands
module _ (n r : ℕ) (h : History) (c : Command) (a b : Outside) (stable : IsStable r a) (stands : StandsFor n r h (a.as_read.volume r)) where
  was_h : (d : Image) → a.images d → (k : History) → StandsFor n r k (d.volume r) → k ≡ h
  was_h d was k st = one_lawful_history n r (a.as_read.volume r) k h (subst (λ (l : List ℕ). StandsFor n r k l) (stable d was) st) stands

  read_h : (k : History) → StandsFor n r k (a.as_read.volume r) → k ≡ h
  read_h k st = one_lawful_history n r (a.as_read.volume r) k h st stands

  pub happens_began : (ok : Bool) → Commits n r h c ok a b → Happens n (began r c ∷ []) a b
  happens_began ok did = record {
    time = elapses_weaker a b (Reached (OnVolume r (IsEither n r h c)) a.images) (IsWithin n (began r c ∷ []) a.images) did.time (λ x (d, was, on). record {
      later = [];
      earlier = began r c ∷ [];
      parts = refl;
      reached = (d, was, record { volume = λ q lt. advances_began n r h c d x (was_h d was) on q; output = on.output });
    });
    images = λ x now. let from = did.images x now in (
      from.0,
      from.1,
      record {
        volume =
            λ q lt. advances_began n r h c from.0 x (was_h from.0 from.1) from.2 q;
        output = from.2.output;
      },
    );
    as_read = record { volume = λ q lt. advances_began n r h c a.as_read b.as_read read_h did.as_read q; output = did.as_read.output };
    input = did.input;
  }

  pub happens_committed : Commits n r h c true a b → Happens n (found r (c ∷ h) ∷ began r c ∷ []) a b
  happens_committed did = record {
    time = elapses_weaker a b (Reached (OnVolume r (IsEither n r h c)) a.images) (IsWithin n (found r (c ∷ h) ∷ began r c ∷ []) a.images) did.time
        (λ x (d, was, on). record {
          later = found r (c ∷ h) ∷ [];
          earlier = began r c ∷ [];
          parts = refl;
          reached = (d, was, record { volume = λ q lt. advances_began n r h c d x (was_h d was) on q; output = on.output });
        });
    images = λ x now. let from = did.done refl x now in (
      from.0,
      from.1,
      record { volume = λ q lt. advances_committed n r h c from.0 x (was_h from.0 from.1) from.2 q; output = from.2.output },
    );
    as_read = record { volume = λ q lt. advances_committed n r h c a.as_read b.as_read read_h (did.read refl) q; output = (did.read refl).output };
    input = did.input;
  }

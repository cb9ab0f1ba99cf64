-- Events that come to pass one after another.
use Rattle.std.proofs.Common.{◌≡◌, ◌⊎◌, ℕ, ◌+◌, ◌-◌, ◌<◌, ◌≤◌, List, [], ◌∷◌, ◌++◌, take, drop, refl, sym, ◌∙◌, ap, subst, inl, inr, ⊎_elim, append_assoc, arith}
use Rattle.std.proofs.Math.Seq.{take-add}
use Rattle.std.proofs.lemmas.Bool.{cases_lt}
use Rattle.std.proofs.lemmas.List.{append-nil, drop-take}
use Rattle.s3r_world.specs.Image.{Image, Puts}
use Rattle.s3r_world.specs.Outside.{Outside, KeepsVolumes}
use Rattle.s3r_world.specs.Moments.{elapses_none, elapses_then, elapses_weaker}
use Rattle.s3r_history.specs.Words.{History}
use Rattle.s3r_store.specs.Stands.{StandsFor}
use Rattle.s3r_desk.specs.Events.{found, began, answered, Events, Leads}
use Rattle.s3r_desk.specs.Steps.{Histories}
use Rattle.s3r_desk.specs.Careful.{AreCareful, IsWhatIsKnown}
use Rattle.s3r_desk.specs.Progress.{Advances, Progress, Happens, IsWithin}
use Rattle.s3r_desk.proofs.Agreeing.{keeps_agreement}
use Rattle.s3r_desk.proofs.Careful.{careful_part}
use Rattle.s3r_desk.proofs.Advancing.{advances_none, advances_answered, advances_then}
use Rattle.s3r_service.specs.Passing.{output_of, Brings, IsFront, AtMoment, Passes}
use Rattle.s3r_service.specs.Served.{IsSoundImage, IsSound, StaysSound}
use Rattle.s3r_service.specs.Sends.{Sends}

pub output_then : (second first : Events) → output_of (second ++ first) ≡ output_of first ++ output_of second
output_then [] first = sym (append-nil (output_of first))
output_then (found r h ∷ events) first = output_then events first
output_then (began r c ∷ events) first = output_then events first
output_then (answered text ∷ events) first = ap (λ (l : List ℕ). l ++ text) (output_then events first) ∙ append_assoc (output_of first) (output_of events) text

pub brings_none : (n : ℕ) (c : Image) → Brings n [] c c
brings_none n c = record { volume = λ r lt. advances_none n r (c.volume r); output = sym (append-nil c.output) }

pub brings_then : (n : ℕ) (first second : Events) (a b d : Image) → Brings n first a b → Brings n second b d → Brings n (second ++ first) a d
brings_then n first second a b d p q = record {
  volume = λ r lt. advances_then n first second r (a.volume r) (b.volume r) (d.volume r) (p.volume r lt) (q.volume r lt);
  output = q.output ∙ ap (λ (l : List ℕ). l ++ output_of second) p.output ∙ append_assoc a.output (output_of first) (output_of second)
      ∙ ap (λ (l : List ℕ). a.output ++ l) (sym (output_then second first));
}

front_then : (second later : Events) (front : List ℕ) → IsFront front later → IsFront front (second ++ later)
front_then second later front next = ⊎_elim (λ none. inl none)
    (λ (rest, more, is). inr (rest, second ++ more, ap (λ (l : Events). second ++ l) is ∙ sym (append_assoc second more (answered (front ++ rest) ∷ [])))) next

pub passes_then : (n : ℕ) (first second : Events) (a b d : Outside) → Passes n first a b → Passes n second b d → Passes n (second ++ first) a d
passes_then n first second a b d p q = record {
  time = elapses_then a b d (AtMoment n (second ++ first) a.images)
      (elapses_weaker a b (AtMoment n first a.images) (AtMoment n (second ++ first) a.images) p.time (λ c w. record {
        later = second ++ w.later;
        earlier = w.earlier;
        parts = ap (λ (l : Events). second ++ l) w.parts ∙ sym (append_assoc second w.later w.earlier);
        front = w.front;
        next = front_then second w.later w.front w.next;
        reached = w.reached;
      }))
      (elapses_weaker b d (AtMoment n second b.images) (AtMoment n (second ++ first) a.images) q.time (λ c w.
      let from = p.images w.reached.0 w.reached.1 in
      record {
        later = w.later;
        earlier = w.earlier ++ first;
        parts = ap (λ (l : Events). l ++ first) w.parts ∙ append_assoc w.later w.earlier first;
        front = w.front;
        next = w.next;
        reached = (from.0, from.1, brings_then n first (answered w.front ∷ w.earlier) from.0 w.reached.0 c from.2 w.reached.2);
      }));
  images = λ c now. let here = q.images c now in let from = p.images here.0 here.1 in
      (from.0, from.1, brings_then n first second from.0 here.0 c from.2 here.2);
  as_read = brings_then n first second a.as_read b.as_read d.as_read p.as_read q.as_read;
}

-- nothing was written, and nothing put out
pub passes_none : (n : ℕ) (a b : Outside) → KeepsVolumes a b → Passes n [] a b
passes_none n a b keeps = record {
  time = elapses_weaker a b a.images (AtMoment n [] a.images) keeps.time (λ c was. record {
    later = [];
    earlier = [];
    parts = refl;
    front = [];
    next = inl refl;
    reached = (
      c,
      was,
      record {
        volume = λ r lt. advances_answered n [] [] r (c.volume r) (c.volume r) (advances_none n r (c.volume r));
        output =
            sym (append-nil c.output);
      },
    );
  });
  images = λ c now. (c, keeps.images c now, brings_none n c);
  as_read = subst (λ (i : Image). Brings n [] a.as_read i) (sym keeps.as_read) (brings_none n a.as_read);
}

pub keeps_all : (w : Outside) → KeepsVolumes w w
keeps_all w = record { as_read = refl; images = λ c now. now; time = elapses_none w w.images }

-- ---- what the desk did put nothing out

nil_front : {A : Type 0} (xs ys : List A) → xs ++ ys ≡ [] → xs ≡ []
nil_front [] ys e = refl
nil_front {A} (x ∷ xs) ys e = absurd cc

pub brings_progress : (n : ℕ) (events : Events) (a b : Image) → output_of events ≡ [] → Progress n events a b → Brings n events a b
brings_progress n events a b silent p = record {
  volume = p.volume;
  output =
      p.output ∙ sym (append-nil a.output) ∙ ap (λ (l : List ℕ). a.output ++ l) (sym silent);
}

brings_front : (n : ℕ) (events : Events) (a b : Image) → output_of events ≡ [] → Progress n events a b → Brings n (answered [] ∷ events) a b
brings_front n events a b silent p = record {
  volume = λ r lt. advances_answered n [] events r (a.volume r) (b.volume r) (p.volume r lt);
  output = p.output ∙ sym (append-nil a.output) ∙ ap (λ (l : List ℕ). a.output ++ l) (sym (append-nil (output_of events) ∙ silent));
}

pub passes_happens : (n : ℕ) (events : Events) (a b : Outside) → output_of events ≡ [] → Happens n events a b → Passes n events a b
passes_happens n events a b silent p = record {
  time = elapses_weaker a b (IsWithin n events a.images) (AtMoment n events a.images) p.time (λ c w. record {
    later = w.later;
    earlier = w.earlier;
    parts = w.parts;
    front = [];
    next = inl refl;
    reached = (
      w.reached.0,
      w.reached.1,
      brings_front n w.earlier w.reached.0 c
          (nil_front (output_of w.earlier) (output_of w.later) (sym (output_then w.later w.earlier) ∙ sym (ap output_of w.parts) ∙ silent)) w.reached.2,
    );
  });
  images = λ c now. let from = p.images c now in (from.0, from.1, brings_progress n events from.0 c silent from.2);
  as_read = brings_progress n events a.as_read b.as_read silent p.as_read;
}

-- ---- an answer was put out, or a front of it

brings_puts : (n : ℕ) (bytes : List ℕ) (a b : Image) → Puts bytes a b → Brings n (answered bytes ∷ []) a b
brings_puts n bytes a b put = record {
  volume = λ r lt. advances_answered n bytes [] r (a.volume r) (b.volume r)
      (subst (λ (l : List ℕ). Advances n [] r (a.volume r) l) (sym (put.volumes r)) (advances_none n r (a.volume r)));
  output = put.output;
}

take_parts : (k count : ℕ) (l : List ℕ) → k ≤ count → take k l ++ drop k (take count l) ≡ take count l
take_parts k count l le =
    let parts : k + (count - k) ≡ count = omega (arith, le) in
    subst (λ (c : ℕ). take k l ++ drop k (take c l) ≡ take c l) parts
    (ap (λ (x : List ℕ). take k l ++ x) (drop-take k (count - k) l) ∙ sym (take-add k (count - k) l))

pub passes_sends : (n : ℕ) (text : List ℕ) (count : ℕ) (a b : Outside) → Sends text count a b → Passes n (answered (take count text) ∷ []) a b
passes_sends n text count a b put = record {
  time = elapses_weaker a b _ (AtMoment n (answered (take count text) ∷ []) a.images) put.time (λ c w. record {
    later = answered (take count text) ∷ [];
    earlier = [];
    parts = refl;
    front = take w.0 text;
    next = inr (drop w.0 (take count text), [], ap (λ (l : List ℕ). answered l ∷ []) (sym (take_parts w.0 count text w.1)));
    reached = (w.2.0, w.2.1, brings_puts n (take w.0 text) w.2.0 c w.2.2);
  });
  images = λ c now. let from = put.images c now in (from.0, from.1, brings_puts n (take count text) from.0 c from.2);
  as_read = brings_puts n (take count text) a.as_read b.as_read put.as_read;
}

-- ---- lawful histories that agree stay so

-- a choice for each number below n, as one function
module _ (n : ℕ) (P : ℕ → History → Type 0) (one : (r : ℕ) → r < n → (k : History) × P r k) where
  abbrev pick : (r : ℕ) → (r < n) ⊎ (n ≤ r) → History
  pick r (inl lt) = (one r lt).0
  pick r (inr ge) = []

  picked : (r : ℕ) (which : (r < n) ⊎ (n ≤ r)) → r < n → P r (pick r which)
  picked r (inl below) lt = (one r below).1
  picked r (inr ge) lt = absurd (omega (arith, ge, lt))

  chosen : (at : Histories) × ((r : ℕ) → r < n → P r (at r))
  chosen = (λ r. pick r (cases_lt r n), λ r lt. picked r (cases_lt r n) lt)

nothing_known : (r : ℕ) (h : History) → IsWhatIsKnown [] r h
nothing_known r h g e = absurd cc

module _ (n : ℕ) (events : Events) (careful : AreCareful n [] events) (c d : Image) (brings : Brings n events c d) (was : IsSoundImage n c) where
  led : (at : Histories) × ((r : ℕ) → r < n → StandsFor n r (at r) (d.volume r) × Leads events r (was.at r) (at r))
  led = chosen n (λ r k. StandsFor n r k (d.volume r) × Leads events r (was.at r) k)
      (λ r lt. let k = (brings.volume r lt).leads (was.at r) (was.stands r lt) in (k.0, (k.1, k.2)))

  pub sound_after : IsSoundImage n d
  sound_after = record {
    at = led.0;
    stands = λ r lt. (led.1 r lt).0;
    agree = keeps_agreement n [] events was.at led.0 careful (λ r lt. nothing_known r (was.at r)) was.agree (λ r lt. (led.1 r lt).1);
  }

module _ (n : ℕ) (events : Events) (a b : Outside) (careful : AreCareful n [] events) (passes : Passes n events a b) (sound : IsSound n a) where
  pub stays_sound : StaysSound n a b
  stays_sound = record {
    time = elapses_weaker a b (AtMoment n events a.images) (IsSoundImage n) passes.time
        (λ c w. sound_after n (answered w.front ∷ w.earlier)
        (careful_part n [] w.later w.earlier (subst (λ (l : Events). AreCareful n [] l) w.parts careful)) w.reached.0 c w.reached.2
        (sound.images w.reached.0 w.reached.1));
    now = record {
      images = λ c now. let from = passes.images c now in sound_after n events careful from.0 c from.2 (sound.images from.0 from.1);
      as_read = sound_after n events careful a.as_read b.as_read passes.as_read sound.as_read;
    };
  }

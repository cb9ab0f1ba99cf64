-- A piece of the input behind the bytes that are there.
use Rattle.std.proofs.Common.{◌≡◌, ℕ, ◌+◌, ◌≤◌, List, ◌++◌, length, take, drop, Ok, refl, ◌∙◌, ap, arith, append_assoc, length-append, take-append-drop}
use Rattle.std.proofs.lemmas.List.{take_at, take-take, length-take-le}
use Rattle.s3r_world.specs.Outside.{Outside, Takes}
use Rattle.s3r_world.specs.Moments.{elapses_none, volumes_then}
use Rattle.s3r_http.specs.Input.{ReadsOn}

regrouped : (old t d post rest : List ℕ) → (old ++ ((t ++ d) ++ post)) ++ rest ≡ (old ++ t) ++ (d ++ (post ++ rest))
regrouped old t d post rest = simp append_assoc

pub joined : (len k m : ℕ) (old r into post rest input buffer : List ℕ) → take len r ≡ old → length old ≡ len → len + k ≤ m → k ≤ length input
    → into ≡ take k input ++ drop k buffer → take (len + k) (take m (take len r ++ (into ++ post) ++ rest)) ≡ old ++ take k input
joined len k m old r into post rest input buffer front is within some taken =
    take-take (len + k) m _ within ∙ ap (take (len + k)) ((λ i. (front i ++ (taken i ++ post)) ++ rest)
    ∙ regrouped old (take k input) (drop k buffer) post rest)
    ∙ take_at (old ++ take k input) _ (len + k) (omega (arith, length-append old (take k input), length-take-le k input some, is))

-- the piece that was taken
pub reads_piece : (before after buffer into : List ℕ) (k : ℕ) (a b : Outside) → after ≡ before ++ take k a.input → Takes buffer into (Ok k) a b
    → ReadsOn before after a b
reads_piece before after buffer into k a b is took = record {
  stream = ap (λ (l : List ℕ). l ++ b.input) is ∙ ap (λ (l : List ℕ). (before ++ take k a.input) ++ l) took.ok
      ∙ append_assoc before (take k a.input) (drop k a.input) ∙ ap (λ (l : List ℕ). before ++ l) (take-append-drop k a.input);
  connections = took.connections;
  volumes = took.volumes;
}

pub kept_in_front : (len : ℕ) (old more all : List ℕ) → all ≡ old ++ more → length old ≡ len → take len all ≡ old
kept_in_front len old more all is size = ap (take len) is ∙ take_at old more len size

pub reads_then : (x y z : List ℕ) (a b d : Outside) → ReadsOn x y a b → ReadsOn y z b d → ReadsOn x z a d
reads_then x y z a b d first second = record {
  stream = second.stream ∙ first.stream;
  connections = second.connections ∙ first.connections;
  volumes = volumes_then a b d first.volumes second.volumes;
}

pub reads_none : (x : List ℕ) (a : Outside) → ReadsOn x x a a
reads_none x a = record {
  stream = refl;
  connections = refl;
  volumes = record { as_read = refl; images = λ c now. now; time = elapses_none a a.images };
}

-- One call more.
use Rattle.std.proofs.Common.{◌≡◌, ℕ, ◌+◌, Result, List, ◌++◌, take, drop, refl, sym, ◌∙◌, ap, arith, append_assoc}
use Rattle.std.proofs.Math.Seq.{take-add}
use Rattle.std.proofs.lemmas.List.{append-nil}
use Rattle.s3r_world.specs.declared.world.OutputFault.{OutputFault}
use Rattle.s3r_world.specs.Image.{Image, Puts}
use Rattle.s3r_world.specs.Outside.{Outside, Emits}
use Rattle.s3r_world.specs.Moments.{elapses_none, elapses_then, elapses_weaker, keeps_then}
use Rattle.s3r_service.specs.Sends.{Sends}

pub sends_none : (bytes : List ℕ) (w : Outside) → Sends bytes 0 w w
sends_none bytes w = record {
  as_read = record { volumes = λ u. refl; output = sym (append-nil w.as_read.output) };
  images = λ c now. (c, now, record { volumes = λ u. refl; output = sym (append-nil c.output) });
  time = elapses_none w _;
  input = record { input = refl; connections = refl };
}

puts_then : (bytes rest : List ℕ) (sent n : ℕ) (a b d : Image) → rest ≡ drop sent bytes → Puts (take sent bytes) a b → Puts (take n rest) b d
    → Puts (take (sent + n) bytes) a d
puts_then bytes rest sent n a b d is first second = record {
  volumes = λ u. second.volumes u ∙ first.volumes u;
  output = second.output ∙ ap (λ (o : List ℕ). b.output ++ take n o) is ∙ ap (λ (o : List ℕ). o ++ take n (drop sent bytes)) first.output
      ∙ append_assoc a.output (take sent bytes) (take n (drop sent bytes))
      ∙ ap (λ (o : List ℕ). a.output ++ o) (sym (take-add sent n bytes));
}

pub sends_more : (bytes rest : List ℕ) (sent : ℕ) (result : Result ℕ OutputFault) (a b d : Outside) → rest ≡ drop sent bytes → Sends bytes sent a b
    → (e : Emits rest result b d) → Sends bytes (sent + e.count) a d
sends_more bytes rest sent result a b d is so_far e = record {
  as_read = puts_then bytes rest sent e.count a.as_read b.as_read d.as_read is so_far.as_read e.as_read;
  images = λ c now. let here = e.images c now in let from = so_far.images here.0 here.1 in
      (from.0, from.1, puts_then bytes rest sent e.count from.0 here.0 c is from.2 here.2);
  time = elapses_then a b d _
      (elapses_weaker a b _ _ so_far.time (λ c was. (was.0, omega (arith, was.1), was.2)))
      (elapses_weaker b d _ _ e.time (λ c now. let from = so_far.images now.2.0 now.2.1 in
      (sent + now.0, omega (arith, now.1), (from.0, from.1, puts_then bytes rest sent now.0 from.0 now.2.0 c is from.2 now.2.2))));
  input = keeps_then a b d so_far.input e.input;
}

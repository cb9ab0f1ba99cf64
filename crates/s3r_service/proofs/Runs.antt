-- Runs in turn.
use Rattle.std.proofs.Common.{ℕ, List, [], ◌∷◌, refl, inl, sym, subst, arith}
use Rattle.s3r_world.specs.Image.{Image}
use Rattle.s3r_history.specs.Words.{History}
use Rattle.s3r_history.specs.Agree.{Agrees}
use Rattle.s3r_store.specs.Stands.{StandsFor}
use Rattle.s3r_store.proofs.Histories.{one_lawful_history}
use Rattle.s3r_desk.specs.Events.{Leads}
use Rattle.s3r_service.specs.Passing.{Brings}
use Rattle.s3r_service.specs.Laws.{FreshIsSound, SoundStays, joined, RunsCompose, NextFinds}
use Rattle.s3r_service.proofs.Passing.{brings_none, brings_then, sound_after}

no_bytes : (n r : ℕ) → StandsFor n r [] []
no_bytes n r = record { stands = inl (inl (omega arith), refl); lawful = tt }

none_agree : (s d : ℕ) → Agrees s d [] []
none_agree s d = record { rising = tt; sent_so = tt; settled = λ n outcome e. absurd cc }

pub fresh_is_sound : FreshIsSound
fresh_is_sound n c none = record {
  at = λ r. [];
  stands = λ r lt. subst (λ (l : List ℕ). StandsFor n r [] l) (sym (none r lt)) (no_bytes n r);
  agree = λ s d ls ld. none_agree s d;
}

pub sound_stays : SoundStays
sound_stays n events start c careful brings was = sound_after n events careful start c brings was

pub composed : RunsCompose
composed n [] start c same = subst (λ (i : Image). Brings n [] start i) (sym same) (brings_none n start)
composed n (events ∷ earlier) start c (left, before, brings) = brings_then n (joined earlier) events start left c (composed n earlier start left before) brings

pub next_finds : NextFinds
next_finds n runs start left before events seen brings r lt none h k was here =
    let all = (composed n runs start left before).volume r lt in
    let led = all.leads h was in
    let same = subst (λ (l : List ℕ). StandsFor n r k l) ((brings.volume r lt).left none) here in
    subst (λ (m : History). Leads (joined runs) r h m) (one_lawful_history n r (left.volume r) led.0 k led.1 same) led.2

-- The image that a pick leaves is one that a crash may leave.
use Rattle.std.proofs.Common.{◌≡◌, ◌≢◌, ℕ, ◌==◌, cond, true, false, List, [], ◌∷◌, length, replicate, refl, inl, inr, sym, ◌∙◌, ap, subst}
use Rattle.std.proofs.lemmas.Bool.{ne_eqb, cases_eq}
use Rattle.std.proofs.lemmas.List.{length-replicate}
use Rattle.s3r_world.specs.declared.disk.Event.{Event}
use Rattle.s3r_world.specs.declared.disk.Event.TheVariants.{Placed, Wrote, Synced, Put}
use Rattle.s3r_world.specs.declared.replay.Pick.{Pick}
use Rattle.s3r_world.specs.declared.replay.Pick.TheVariants.{AsRead, Stable, Torn as Fill}
use Rattle.s3r_world.specs.Image.{Image, Torn, OnVolume, Puts}
use Rattle.s3r_world.specs.Events.{written, with_volume, blank, reads_of, images_of, left_of_write, left_of, picked}
use Rattle.s3r_world.specs.Stories.{torn_same, torn_written, replaced, kept, same_volume}

-- an image after a volume is made certain bytes
abbrev Becomes : ℕ → List ℕ → Image → Image → Type 0
Becomes v bytes c d = OnVolume v (λ _ now. now ≡ bytes) c d

blank_same : (c d : Image) → ((v : ℕ) → d.volume v ≡ c.volume v) → d.output ≡ c.output → d ≡ c
blank_same c d volumes output = λ i. record { volume = λ v. volumes v i; output = output i }

-- A step on a volume and then other bytes in another one are the same in turn.
mix_elsewhere : (v u : ℕ) (R : List ℕ → List ℕ → Type 0) (bytes : List ℕ) (d c e : Image) → u ≢ v → OnVolume v R d c → Becomes u bytes c e
    → OnVolume v R (with_volume d u bytes) e
mix_elsewhere v u R bytes d c e ne on becomes = record {
  here = subst (λ (l : List ℕ). R l (e.volume v)) (sym (ap (λ b. cond b bytes (d.volume v)) (ne_eqb v u (λ same. ne (sym same)))))
      (subst (R (d.volume v)) (sym (becomes.elsewhere v (λ same. ne (sym same)))) on.here);
  elsewhere = λ w other. elim (cases_eq w u) [
    | inl same ↦ subst (λ (k : ℕ). e.volume k ≡ (with_volume d u bytes).volume k) (sym same)
        (becomes.here ∙ sym (ap (λ b. cond b bytes (d.volume u)) (same_volume u)))
    | inr apart ↦ becomes.elsewhere w apart ∙ on.elsewhere w other ∙ sym (ap (λ b. cond b bytes (d.volume w)) (ne_eqb w u apart))
  ];
  output = becomes.output ∙ on.output;
}

-- a step to other bytes in its own volume
mix_here : (v : ℕ) (R : List ℕ → List ℕ → Type 0) (from bytes : List ℕ) (d c e : Image) → R from bytes → OnVolume v R d c → Becomes v bytes c e
    → OnVolume v R (with_volume d v from) e
mix_here v R from bytes d c e step on becomes = record {
  here = subst (λ (l : List ℕ). R l (e.volume v)) (sym (ap (λ b. cond b from (d.volume v)) (same_volume v))) (subst (R from) (sym becomes.here) step);
  elsewhere = λ w other. becomes.elsewhere w other ∙ on.elsewhere w other ∙ sym (ap (λ b. cond b from (d.volume w)) (ne_eqb w v other));
  output = becomes.output ∙ on.output;
}

-- the same, where the step names nothing of what was before
replaced_then : (v : ℕ) (bytes : List ℕ) (d c e : Image) → OnVolume v (λ _ now. now ≡ bytes) d c → Becomes v bytes c e → OnVolume v (λ _ now. now ≡ bytes) d e
replaced_then v bytes d c e on becomes = record {
  here = becomes.here;
  elsewhere = λ w other. becomes.elsewhere w other ∙ on.elsewhere w other;
  output = becomes.output ∙ on.output;
}

becomes_read : (i : Image) (v : ℕ) (bytes : List ℕ) → Becomes v bytes i (with_volume i v bytes)
becomes_read i v bytes = replaced i v bytes (λ _ now. now ≡ bytes) refl

mix_puts : (u : ℕ) (bytes put : List ℕ) (d c e : Image) → Puts put d c → Becomes u bytes c e → Puts put (with_volume d u bytes) e
mix_puts u bytes put d c e puts becomes = record {
  volumes = λ w. elim (cases_eq w u) [
    | inl same ↦ subst (λ (k : ℕ). e.volume k ≡ (with_volume d u bytes).volume k) (sym same)
        (becomes.here ∙ sym (ap (λ b. cond b bytes (d.volume u)) (same_volume u)))
    | inr apart ↦ becomes.elsewhere w apart ∙ puts.volumes w ∙ sym (ap (λ b. cond b bytes (d.volume w)) (ne_eqb w u apart))
  ];
  output = becomes.output ∙ puts.output;
}

read_elsewhere : (i : Image) (v u : ℕ) (bytes : List ℕ) → u ≢ v → (with_volume i v bytes).volume u ≡ i.volume u
read_elsewhere i v u bytes ne = ap (λ b. cond b bytes (i.volume u)) (ne_eqb u v ne)

read_here : (i : Image) (v : ℕ) (bytes : List ℕ) → (with_volume i v bytes).volume v ≡ bytes
read_here i v bytes = ap (λ b. cond b bytes (i.volume v)) (same_volume v)

at_same : (u : ℕ) (bytes other : List ℕ) (c e : Image) → other ≡ bytes → Becomes u other c e → Becomes u bytes c e
at_same u bytes other c e is becomes = record { here = becomes.here ∙ is; elsewhere = becomes.elsewhere; output = becomes.output }

-- an image in which a volume is as reads give it is one too
pub mixed : (story : List Event) (u : ℕ) (c e : Image) → images_of story c → Becomes u ((reads_of story).volume u) c e → images_of story e
mixed [] u c e is becomes = blank_same c e (λ w. elim (cases_eq w u) [
  | inl same ↦ subst (λ (k : ℕ). e.volume k ≡ c.volume k) (sym same) (becomes.here ∙ sym (ap (λ (i : Image). i.volume u) is))
  | inr apart ↦ becomes.elsewhere w apart
]) becomes.output ∙ is
mixed (Placed v bytes ∷ past) u c e (d, was, on) becomes =
    let read : List ℕ = (reads_of past).volume u in
    let next : Image = with_volume d u read in
    elim (cases_eq u v) [
      | inl same ↦ (
        d,
        was,
        replaced_then v bytes.items d c e on (at_same v _ _ c e (read_here (reads_of past) v bytes.items)
            (subst (λ (k : ℕ). Becomes k ((reads_of (Placed v bytes ∷ past)).volume k) c e) same becomes)),
      )
      | inr apart ↦ (
        next,
        mixed past u d next was (becomes_read d u read),
        mix_elsewhere v u (λ _ now. now ≡ bytes.items) read d c e apart on (at_same u _ _ c e (read_elsewhere (reads_of past) v u bytes.items apart) becomes),
      )
    ]
mixed (Wrote v at bytes true ∷ past) u c e (d, was, on) becomes =
    let read : List ℕ = (reads_of past).volume u in
    let next : Image = with_volume d u read in
    let now : List ℕ = written at bytes.items ((reads_of past).volume v) in
    elim (cases_eq u v) [
      | inl same ↦ (
        with_volume d v ((reads_of past).volume v),
        mixed past v d (with_volume d v ((reads_of past).volume v)) was (becomes_read d v ((reads_of past).volume v)),
        mix_here v (Torn at (length bytes.items)) ((reads_of past).volume v) now d c e (torn_written at bytes.items ((reads_of past).volume v)) on
            (at_same v _ _ c e (read_here (reads_of past) v now) (subst
            (λ (k : ℕ). Becomes k ((reads_of (Wrote v at bytes true ∷ past)).volume k) c e) same becomes)),
      )
      | inr apart ↦ (
        next,
        mixed past u d next was (becomes_read d u read),
        mix_elsewhere v u (Torn at (length bytes.items)) read d c e apart on (at_same u _ _ c e (read_elsewhere (reads_of past) v u now apart) becomes),
      )
    ]
mixed (Wrote v at bytes false ∷ past) u c e (d, was, on) becomes =
    let read : List ℕ = (reads_of past).volume u in
    let next : Image = with_volume d u read in
    elim (cases_eq u v) [
      | inl same ↦ (
        with_volume d v ((reads_of past).volume v),
        mixed past v d (with_volume d v ((reads_of past).volume v)) was (becomes_read d v ((reads_of past).volume v)),
        mix_here v (Torn at (length bytes.items)) ((reads_of past).volume v) ((reads_of past).volume v) d c e
            (torn_same at (length bytes.items) ((reads_of past).volume v)) on
            (subst (λ (k : ℕ). Becomes k ((reads_of past).volume k) c e) same becomes),
      )
      | inr apart ↦ (next, mixed past u d next was (becomes_read d u read), mix_elsewhere v u (Torn at (length bytes.items)) read d c e apart on becomes)
    ]
mixed (Synced v ∷ past) u c e (was, stable) becomes = (
  mixed past u c e was becomes,
  elim (cases_eq v u) [
    | inl same ↦ subst (λ (k : ℕ). e.volume k ≡ (reads_of past).volume k) (sym same) becomes.here
    | inr apart ↦ becomes.elsewhere v apart ∙ stable
  ],
)
mixed (Put bytes ∷ past) u c e (d, was, puts) becomes =
    let read : List ℕ = (reads_of past).volume u in
    let next : Image = with_volume d u read in
    (next, mixed past u d next was (becomes_read d u read), mix_puts u read bytes.items d c e puts becomes)

-- one volume is changed, each place by its own bytes
stepped : (i : Image) (u : ℕ) (change : ℕ → List ℕ) (R : List ℕ → List ℕ → Type 0) → R (i.volume u) (change u)
    → OnVolume u R i (record { volume = λ w. cond (w == u) (change w) (i.volume w); output = i.output })
stepped i u change R r = record {
  here = subst (R (i.volume u)) (sym (ap (λ b. cond b (change u) (i.volume u)) (same_volume u))) r;
  elsewhere = λ w ne. ap (λ b. cond b (change w) (i.volume w)) (ne_eqb w u ne);
  output = refl;
}

left_torn : (pick : Pick) (at : ℕ) (bytes left : List ℕ) → Torn at (length bytes) left (left_of_write pick at bytes left)
left_torn AsRead at bytes left = torn_written at bytes left
left_torn Stable at bytes left = torn_same at (length bytes) left
left_torn (Fill byte) at bytes left = subst (λ (n : ℕ). Torn at n left (written at (replicate (length bytes) byte) left))
    (length-replicate (length bytes) byte) (torn_written at (replicate (length bytes) byte) left)

-- what a pick leaves is one of the images
pub picked_image : (pick : Pick) (story : List Event) → images_of story (picked pick story)
picked_image pick [] = blank_same blank (picked pick []) (λ v. refl) refl
picked_image pick (Placed u bytes ∷ past) = (
  picked pick past,
  picked_image pick past,
  stepped (picked pick past) u (λ _. bytes.items) (λ _ now. now ≡ bytes.items) refl,
)
picked_image pick (Wrote u at bytes true ∷ past) = (
  picked pick past,
  picked_image pick past,
  stepped (picked pick past) u (λ w. left_of_write pick at bytes.items (left_of pick past w))
      (Torn at (length bytes.items)) (left_torn pick at bytes.items (left_of pick past u)),
)
picked_image pick (Wrote u at bytes false ∷ past) = (
  picked pick past,
  picked_image pick past,
  kept (picked pick past) u (Torn at (length bytes.items)) (torn_same at (length bytes.items) (left_of pick past u)),
)
picked_image pick (Synced u ∷ past) =
    let on = stepped (picked pick past) u (reads_of past).volume (λ _ now. now ≡ (reads_of past).volume u) refl in
    (mixed past u (picked pick past) (picked pick (Synced u ∷ past)) (picked_image pick past) on, on.here)
picked_image pick (Put bytes ∷ past) = (picked pick past, picked_image pick past, record { volumes = λ v. refl; output = refl })

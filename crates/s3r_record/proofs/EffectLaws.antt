-- The laws of an effect: of its parts, of each kind, and of all.
use Rattle.std.proofs.Common.{◌≡◌, ℕ, ◌^◌, ◌<◌, ◌≤◌, Bool, true, List, [], ◌∷◌, ◌++◌, length, refl, append_assoc, lit<, lit≤}
use Rattle.s3r_names.specs.Bucket.{is_bucket_name}
use Rattle.s3r_names.specs.Key.{is_key}
use Rattle.s3r_names.specs.Class.{is_class_name}
use Rattle.s3r_names.specs.Tags.{is_tag_set}
use Rattle.s3r_names.specs.Version.{IsVersionId}
use Rattle.s3r_names.specs.declared.stamp.Stamp.{Stamp}
use Rattle.s3r_names.specs.declared.tags.Tag.{Tag}
use Rattle.s3r_names.specs.declared.version.VersionId.{VersionId}
use Rattle.s3r_record.specs.declared.effect.Effect.{Effect}
use Rattle.s3r_record.specs.declared.effect.Effect.TheVariants as effects
use Rattle.s3r_record.specs.declared.effect_parts.EffectFront.{EffectFront}
use Rattle.s3r_record.specs.declared.effect_parts.ReplicaTail.{ReplicaTail}
use Rattle.s3r_record.specs.Fields.{text, body, flag, tags_bytes, id_bytes, number_bytes, stamp_bytes, effect_bytes}
use Rattle.s3r_record.specs.ReadingEffects.{effect_front_at, stamped_tags_at, stamped_hold_at, replica_tail_at, replica_of, replica_at}
use Rattle.s3r_record.specs.ReadingEffects.{marker_copy_at, tags_copy_at, hold_copy_at, kind_fields_at, effect_at}
use Rattle.s3r_record.specs.Spelling.{IsStamp, IsEffect}
use Rattle.s3r_record.proofs.FieldLaws.{flag_law, bucket_name_law, key_law, class_law, body_law}
use Rattle.s3r_record.proofs.IdLaws.{eight_law, id_law, stamp_law}
use Rattle.s3r_record.proofs.ReaderLaws.{Reads}
use Rattle.s3r_record.proofs.SeveralFields.{TakesBehind, ReadBehind, take_then, take_end, take_as, take_chosen, take_none, take_choice}
use Rattle.s3r_record.proofs.SeveralFields.{again_then, again_end, again_as, again_choice, reads}
use Rattle.s3r_record.proofs.TagLaws.{set_law}

-- ---- its parts

record IsFront (front : EffectFront) : Type 0 where
  pub from : is_bucket_name front.from ≡ true
  pub to : is_bucket_name front.to ≡ true
  pub key : is_key front.key ≡ true
  pub id : IsVersionId front.id

abbrev front_bytes : EffectFront → List ℕ
front_bytes front = text front.from ++ text front.to ++ text front.key ++ id_bytes front.id

front_law : Reads effect_front_at front_bytes IsFront
unfolding effect_front_at
front_law =
    reads
    (take_then _ bucket_name_law (λ from f. take_then _ bucket_name_law (λ to t. take_then _ key_law (λ key k. take_then _ id_law
    (λ id i. take_end (record { from = from; to = to; key = key; id = id }) (record { from = f; to = t; key = k; id = i }))))))
    (λ front is. again_then _ bucket_name_law front.from is.from (again_then _ bucket_name_law front.to is.to
    (again_then _ key_law front.key is.key (again_then _ id_law front.id is.id (again_end front)))))

stamped_tags_law : Reads stamped_tags_at (λ tags. tags_bytes tags.0 ++ stamp_bytes tags.1) (λ tags. (is_tag_set tags.0 ≡ true) × IsStamp tags.1)
unfolding stamped_tags_at
stamped_tags_law =
    reads (take_then _ set_law (λ tags t. take_then _ stamp_law (λ stamp s. take_end (tags, stamp) (t, s))))
    (λ tags is. again_then _ set_law tags.0 is.0 (again_then _ stamp_law tags.1 is.1 (again_end tags)))

stamped_hold_law : Reads stamped_hold_at (λ hold. flag hold.0 ++ stamp_bytes hold.1) (λ hold. IsStamp hold.1)
unfolding stamped_hold_at
stamped_hold_law =
    reads (take_then _ flag_law (λ hold _. take_then _ stamp_law (λ stamp s. take_end (hold, stamp) s)))
    (λ hold is. again_then _ flag_law hold.0 tt (again_then _ stamp_law hold.1 is (again_end hold)))

record IsTail (tail : ReplicaTail) : Type 0 where
  pub n : tail.n < 2 ^ 64
  pub tags : is_tag_set tail.tags ≡ true
  pub tags_stamp : IsStamp tail.tags_stamp
  pub hold_stamp : IsStamp tail.hold_stamp
  pub class : is_class_name tail.class ≡ true
  pub body : length tail.body ≤ 15582912

abbrev tail_bytes : ReplicaTail → List ℕ
tail_bytes tail = number_bytes tail.n
    ++ (tags_bytes tail.tags ++ stamp_bytes tail.tags_stamp)
    ++ (flag tail.hold ++ stamp_bytes tail.hold_stamp)
    ++ text tail.class
    ++ body tail.body

tail_law : Reads replica_tail_at tail_bytes IsTail
unfolding replica_tail_at
tail_law =
    reads
    (take_then _ eight_law (λ n w. take_then _ stamped_tags_law (λ tags t. take_then _ stamped_hold_law
    (λ hold h. take_then _ class_law (λ class c. take_then _ (body_law 15582912 (lit< tt)) (λ bytes few.
    take_end (record { n = n; tags = tags.0; tags_stamp = tags.1; hold = hold.0; hold_stamp = hold.1; class = class; body = bytes })
    (record { n = w; tags = t.0; tags_stamp = t.1; hold_stamp = h; class = c; body = few })))))))
    (λ tail is. again_then _ eight_law tail.n is.n (again_then _ stamped_tags_law (tail.tags, tail.tags_stamp) (is.tags, is.tags_stamp)
    (again_then _ stamped_hold_law (tail.hold, tail.hold_stamp) is.hold_stamp (again_then _ class_law tail.class is.class
    (again_then _ (body_law 15582912 (lit< tt)) tail.body is.body (again_end tail))))))

-- ---- each kind

in_parts : (kind : ℕ) (front n t ts h hs c b : List ℕ) → (kind ∷ front) ++ (n ++ (t ++ ts) ++ (h ++ hs) ++ c ++ b)
    ≡ kind ∷ (front ++ n ++ t ++ ts ++ h ++ hs ++ c ++ b)
in_parts kind front n t ts h hs c b = simp append_assoc

replica_parts : (front : EffectFront) (tail : ReplicaTail) → (1 ∷ front_bytes front) ++ tail_bytes tail ≡ effect_bytes (replica_of front tail)
replica_parts front tail =
    in_parts 1 (front_bytes front) (number_bytes tail.n) (tags_bytes tail.tags) (stamp_bytes tail.tags_stamp) (flag tail.hold)
    (stamp_bytes tail.hold_stamp) (text tail.class) (body tail.body)

stamped_parts : (kind : ℕ) (front value stamp : List ℕ) → (kind ∷ front) ++ (value ++ stamp) ≡ kind ∷ (front ++ value ++ stamp)
stamped_parts kind front value stamp = simp append_assoc

replica_takes : TakesBehind effect_bytes IsEffect (1 ∷ []) replica_at
unfolding replica_at
replica_takes =
    take_then _ front_law (λ front f. take_then _ tail_law (λ tail t. take_as (replica_of front tail) (replica_parts front tail)
    (f.from, f.to, f.key, t.tags, t.class, (f.id, t.n, t.tags_stamp, t.hold_stamp, t.body))))

replica_again : (front : EffectFront) (tail : ReplicaTail) → IsEffect (replica_of front tail)
    → ReadBehind effect_bytes (1 ∷ []) (replica_of front tail) replica_at
unfolding replica_at
replica_again front tail is =
    again_then _ front_law front (record { from = is.0; to = is.1; key = is.2; id = is.5.0 })
    (again_then _ tail_law tail (record { n = is.5.1; tags = is.3; tags_stamp = is.5.2; hold_stamp = is.5.3; class = is.4; body = is.5.4 })
    (again_as (replica_of front tail) (replica_parts front tail)))

marker_takes : TakesBehind effect_bytes IsEffect (2 ∷ []) marker_copy_at
unfolding marker_copy_at
marker_takes =
    take_then _ front_law (λ front f. take_then _ eight_law (λ n w. take_end (effects.Marker front.from front.to front.key front.id n)
    (f.from, f.to, f.key, (f.id, w))))

marker_again : (from to key : List ℕ) (id : VersionId) (n : ℕ) → IsEffect (effects.Marker from to key id n)
    → ReadBehind effect_bytes (2 ∷ []) (effects.Marker from to key id n) marker_copy_at
unfolding marker_copy_at
marker_again from to key id n is =
    again_then _ front_law (record { from = from; to = to; key = key; id = id }) (record { from = is.0; to = is.1; key = is.2; id = is.3.0 })
    (again_then _ eight_law n is.3.1 (again_end (effects.Marker from to key id n)))

tags_takes : TakesBehind effect_bytes IsEffect (3 ∷ []) tags_copy_at
unfolding tags_copy_at
tags_takes =
    take_then _ front_law (λ front f. take_then _ stamped_tags_law
    (λ tags t. take_as (effects.Tags front.from front.to front.key front.id tags.0 tags.1)
    (stamped_parts 3 (front_bytes front) (tags_bytes tags.0) (stamp_bytes tags.1)) (f.from, f.to, f.key, t.0, (f.id, t.1))))

tags_again : (from to key : List ℕ) (id : VersionId) (tags : List Tag) (stamp : Stamp) → IsEffect (effects.Tags from to key id tags stamp)
    → ReadBehind effect_bytes (3 ∷ []) (effects.Tags from to key id tags stamp) tags_copy_at
unfolding tags_copy_at
tags_again from to key id tags stamp is =
    let front : EffectFront = record { from = from; to = to; key = key; id = id } in
    again_then _ front_law front (record { from = is.0; to = is.1; key = is.2; id = is.4.0 })
    (again_then _ stamped_tags_law (tags, stamp) (is.3, is.4.1) (again_as (effects.Tags from to key id tags stamp)
    (stamped_parts 3 (front_bytes front) (tags_bytes tags) (stamp_bytes stamp))))

hold_takes : TakesBehind effect_bytes IsEffect (4 ∷ []) hold_copy_at
unfolding hold_copy_at
hold_takes =
    take_then _ front_law (λ front f. take_then _ stamped_hold_law
    (λ hold h. take_as (effects.Hold front.from front.to front.key front.id hold.0 hold.1)
    (stamped_parts 4 (front_bytes front) (flag hold.0) (stamp_bytes hold.1)) (f.from, f.to, f.key, (f.id, h))))

hold_again : (from to key : List ℕ) (id : VersionId) (hold : Bool) (stamp : Stamp) → IsEffect (effects.Hold from to key id hold stamp)
    → ReadBehind effect_bytes (4 ∷ []) (effects.Hold from to key id hold stamp) hold_copy_at
unfolding hold_copy_at
hold_again from to key id hold stamp is =
    let front : EffectFront = record { from = from; to = to; key = key; id = id } in
    again_then _ front_law front (record { from = is.0; to = is.1; key = is.2; id = is.3.0 })
    (again_then _ stamped_hold_law (hold, stamp) is.3.1 (again_as (effects.Hold from to key id hold stamp)
    (stamped_parts 4 (front_bytes front) (flag hold) (stamp_bytes stamp))))

-- ---- an effect

kind_fields_take : (at kind : ℕ) → TakesBehind effect_bytes IsEffect (kind ∷ []) (kind_fields_at at kind)
unfolding kind_fields_at
kind_fields_take at kind =
    take_chosen 1 kind replica_takes (
    take_chosen 2 kind marker_takes (
    take_chosen 3 kind tags_takes (
    take_chosen 4 kind hold_takes (
    take_none at))))

effect_again : (effect : Effect (List ℕ)) → IsEffect effect → ReadBehind effect_bytes [] effect effect_at
unfolding effect_at kind_fields_at
effect_again (effects.Replica from to key id n tags tags_stamp hold hold_stamp class bytes) is =
    let front : EffectFront = record { from = from; to = to; key = key; id = id } in
    let tail : ReplicaTail = record {
      n = n;
      tags = tags;
      tags_stamp = tags_stamp;
      hold = hold;
      hold_stamp = hold_stamp;
      class = class;
      body = bytes;
    } in
    again_choice kind_fields_at 1 (lit≤ tt) (λ at u. refl) (replica_again front tail is)
effect_again (effects.Marker from to key id n) is = again_choice kind_fields_at 2 (lit≤ tt) (λ at u. refl) (marker_again from to key id n is)
effect_again (effects.Tags from to key id tags stamp) is =
    again_choice kind_fields_at 3 (lit≤ tt) (λ at u. refl) (tags_again from to key id tags stamp is)
effect_again (effects.Hold from to key id hold stamp) is =
    again_choice kind_fields_at 4 (lit≤ tt) (λ at u. refl) (hold_again from to key id hold stamp is)

pub effect_law : Reads effect_at effect_bytes IsEffect
unfolding effect_at
effect_law = reads (take_choice kind_fields_at kind_fields_take) effect_again

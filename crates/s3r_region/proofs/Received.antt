-- What a received effect brings has an id that was given.
use Rattle.std.proofs.Common.{◌≡◌, ℕ, ◌+◌, ◌≤◌, ◌<◌, Bool, true, false, not, List, refl, sym, ap, ◌∙◌, arith, le-leb, lt-ltb}
use Rattle.std.proofs.lemmas.Bool.{and_from}
use Rattle.s3r_names.specs.Version.{IsVersionId}
use Rattle.s3r_names.specs.declared.outcome.Outcome.{Outcome}
use Rattle.s3r_names.specs.declared.version.VersionId.{VersionId}
use Rattle.s3r_record.specs.Spelling.{EffectMeetsLimits}
use Rattle.s3r_record.specs.declared.effect.Effect.TheVariants as effects
use Rattle.s3r_history.specs.Past.{Carried}
use Rattle.s3r_history.specs.Carried.{target_of, id_of, is_applied}
use Rattle.s3r_history.specs.Judging.{is_ahead, judged}
use Rattle.s3r_history.proofs.Versions.{reason-ahead}
use Rattle.s3r_region.specs.declared.bucket.Bucket.{Bucket}
use Rattle.s3r_region.specs.Contents.{Contents, is_id, are_given}
use Rattle.s3r_region.specs.After.{seen}
use Rattle.s3r_region.specs.Changes.{changed_if, IsNext, IsFreeIn}
use Rattle.s3r_region.specs.Receives.{change_by}
use Rattle.s3r_region.proofs.Given.{are-more, given-changed}

pub free-received : (place s : ℕ) (e : Carried) (bs : List Bucket) → IsFreeIn (change_by place s e) bs
free-received place s (effects.Replica from to key id n tags tags_stamp hold hold_stamp class body) bs = tt
free-received place s (effects.Marker from to key id n) bs = tt
free-received place s (effects.Tags from to key id tags stamp) bs = tt
free-received place s (effects.Hold from to key id hold stamp) bs = tt

id-is : (id : VersionId) → IsVersionId id → is_id id ≡ true
id-is id is = and_from _ _ (le-leb 1 id.index is.above) (and_from _ _ (le-leb id.region 7 is.region) (lt-ltb id.index 18446744073709551616 is.below))

next-received : (s : Contents) (place from : ℕ) (e : Carried) → EffectMeetsLimits e → is_ahead s.region s.commands (id_of e) ≡ false
    → IsNext s (change_by place from e)
next-received s place from (effects.Replica source to key id n tags tags_stamp hold hold_stamp class body) meets behind =
    and_from _ _ (ap not behind) (id-is id meets.0)
next-received s place from (effects.Marker source to key id n) meets behind = and_from _ _ (ap not behind) (id-is id meets.0)
next-received s place from (effects.Tags source to key id tags stamp) meets behind = tt
next-received s place from (effects.Hold source to key id hold stamp) meets behind = tt

-- the ids of the buckets after it are given
pub received-given : (s : Contents) (from : ℕ) (e : Carried) (outcome : Outcome) → s.region ≤ 7 → s.commands + 1 < 18446744073709551616 → EffectMeetsLimits e
    → outcome ≡ judged s.region s.commands e (seen s (target_of e)) → are_given s.region s.commands s.buckets ≡ true
    → are_given s.region (s.commands + 1) (changed_if (is_applied outcome) (target_of e) (change_by (s.commands + 1) from e) s.buckets) ≡ true
received-given s from e outcome low few meets came given = go (is_applied outcome) refl
  where
    go : (t : Bool) → is_applied outcome ≡ t
        → are_given s.region (s.commands + 1) (changed_if t (target_of e) (change_by (s.commands + 1) from e) s.buckets) ≡ true
    go true is =
        given-changed s (target_of e) (change_by (s.commands + 1) from e) low few
        (next-received s (s.commands + 1) from e meets (reason-ahead s.region s.commands e (seen s (target_of e)) (sym (ap is_applied came) ∙ is))) given
    go false is = are-more s.region s.commands (s.commands + 1) s.buckets (omega arith) given

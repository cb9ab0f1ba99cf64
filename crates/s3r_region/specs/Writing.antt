-- A state after new tags or a new hold of a version.
use Rattle.std.specs.Prelude.{Bool, List}
use Rattle.s3r_names.specs.declared.tags.Tag.{Tag}
use Rattle.s3r_names.specs.declared.version.VersionId.{VersionId}
use Rattle.s3r_history.specs.Words.{Name}
use Rattle.s3r_region.specs.declared.change.Change.TheVariants as change
use Rattle.s3r_region.specs.Contents.{Contents}
use Rattle.s3r_region.specs.After.{seen}
use Rattle.s3r_region.specs.Changes.{with_change, next_stamp}
use Rattle.s3r_region.specs.Prescribing.{sends_of_tags, sends_of_hold}

abbrev pub tagged : Contents → Name → Name → VersionId → List Tag → Contents
tagged s name key id tags = with_change s name (change.Tags key id tags (next_stamp s)) (next_stamp s).n
    (sends_of_tags s.outbox name key id tags (next_stamp s) (seen s name))

abbrev pub held : Contents → Name → Name → VersionId → Bool → Contents
held s name key id hold = with_change s name (change.Hold key id hold (next_stamp s)) (next_stamp s).n
    (sends_of_hold s.outbox name key id hold (next_stamp s) (seen s name))

-- What is told of buckets after a command about a job.
use Rattle.std.proofs.Common.{◌≡◌, ℕ, Bool, true, false, cond, List, ◌∷◌, Option, Some, None, map, bytes_eq, refl, ap, ◌∙◌}
use Rattle.std.specs.Prelude.{option_map}
use Rattle.s3r_names.specs.declared.outcome.Outcome.TheVariants as outcomes
use Rattle.s3r_names.specs.declared.stamp.Stamp.{Stamp}
use Rattle.s3r_names.specs.declared.tags.Tag.{Tag}
use Rattle.s3r_names.specs.declared.version.VersionId.{VersionId}
use Rattle.s3r_record.specs.declared.command.Command.{Command}
use Rattle.s3r_record.specs.declared.command.Command.TheVariants as command
use Rattle.s3r_versions.specs.Contents.{on_version, with_tags, with_hold}
use Rattle.s3r_history.specs.Words.{Name, History}
use Rattle.s3r_history.specs.Buckets.{Bucket, bucket, creates}
use Rattle.s3r_history.specs.Past.{Entry}
use Rattle.s3r_history.specs.Rows.{removes, tag_write, hold_write, tags_changed, hold_changed, set_to, rows, removed}
use Rattle.s3r_history.specs.Told.{told}
use Rattle.s3r_history.specs.Deeds.{deeds, deed, next_stamp}
use Rattle.s3r_history.proofs.Present.{newest_of, written}
use Rattle.s3r_history.proofs.HistoryRows.{rows-step, rows-same, kept-all, sets_those_tags, sets_that_hold}
use Rattle.s3r_history.proofs.ToldSteps.{changed_at, write_tags, write_hold, shown}

-- a row after what is done under the stamp
abbrev written_by : Name → Stamp → Command → Entry → Entry
written_by b stamp does row =
    set_to row (newest_of (tags_changed b row.key row.id stamp outcomes.Applied does) (row.tags_stamp, row.tags))
    (newest_of (hold_changed b row.key row.id stamp outcomes.Applied does) (row.hold_stamp, row.hold))

-- the rows after a line that does this
rows-line : (r : ℕ) (h : History) (b : Name) (job line : ℕ) (does : Command) → (deed r h (deeds r h) (command.Line job line)).does ≡ does
    → rows (deeds r (command.Line job line ∷ h)) b ≡ map (written_by b (next_stamp r (deeds r h)) does) (rows (deeds r h) b)
rows-line r h b job line does is =
    let c = command.Line job line in
    rows-step r h b c refl
    ∙ ap (map (written b (deed r h (deeds r h) c))) (kept-all b c (λ k i. refl) (rows (deeds r h) b))
    ∙ ap (λ (d : Command). map (written_by b (next_stamp r (deeds r h)) d) (rows (deeds r h) b)) is

pub told-line-tags : (r : ℕ) (h : History) (job line : ℕ) (name key : Name) (id : VersionId) (tags : List Tag)
    → (deed r h (deeds r h) (command.Line job line)).does ≡ command.SetTags name key id tags
    → (b : Name) → told r (command.Line job line ∷ h) b ≡ changed_at name (write_tags key id (next_stamp r (deeds r h)) tags) (told r h) b
told-line-tags r h job line name key id tags is b =
    ap (λ rs. shown (bucket h b) rs (removed (deeds r h) b))
    (rows-line r h b job line (command.SetTags name key id tags) is
    ∙ sets_those_tags (next_stamp r (deeds r h)) tags key id (bytes_eq name b) (rows (deeds r h) b))
    ∙ go (bytes_eq name b) (bucket h b)
  where
    go : (t : Bool) (at : Option Bucket) → shown at (cond t (on_version key id (with_tags (next_stamp r (deeds r h)) tags) (rows (deeds r h) b))
        (rows (deeds r h) b)) (removed (deeds r h) b)
        ≡ cond t (option_map (write_tags key id (next_stamp r (deeds r h)) tags) (shown at (rows (deeds r h) b) (removed (deeds r h) b)))
        (shown at (rows (deeds r h) b) (removed (deeds r h) b))
    go true None = refl
    go true (Some a) = refl
    go false at = refl

pub told-line-hold : (r : ℕ) (h : History) (job line : ℕ) (name key : Name) (id : VersionId) (hold : Bool)
    → (deed r h (deeds r h) (command.Line job line)).does ≡ command.SetHold name key id hold
    → (b : Name) → told r (command.Line job line ∷ h) b ≡ changed_at name (write_hold key id (next_stamp r (deeds r h)) hold) (told r h) b
told-line-hold r h job line name key id hold is b =
    ap (λ rs. shown (bucket h b) rs (removed (deeds r h) b))
    (rows-line r h b job line (command.SetHold name key id hold) is
    ∙ sets_that_hold (next_stamp r (deeds r h)) hold key id (bytes_eq name b) (rows (deeds r h) b))
    ∙ go (bytes_eq name b) (bucket h b)
  where
    go : (t : Bool) (at : Option Bucket) → shown at (cond t (on_version key id (with_hold (next_stamp r (deeds r h)) hold) (rows (deeds r h) b))
        (rows (deeds r h) b)) (removed (deeds r h) b)
        ≡ cond t (option_map (write_hold key id (next_stamp r (deeds r h)) hold) (shown at (rows (deeds r h) b) (removed (deeds r h) b)))
        (shown at (rows (deeds r h) b) (removed (deeds r h) b))
    go true None = refl
    go true (Some a) = refl
    go false at = refl

-- ---- commands that write nothing

-- a command that writes nothing of buckets
pub record IsQuiet (r : ℕ) (h : History) (c : Command) : Type 0 where
  pub creates : (b : Name) → creates b c ≡ false
  pub adds : (deed r h (deeds r h) c).adds ≡ None
  pub removes : (b key : Name) (id : VersionId) → removes b key id c ≡ false
  pub tags : (b key : Name) (id : VersionId) → tag_write b key id (deed r h (deeds r h) c) ≡ None
  pub hold : (b key : Name) (id : VersionId) → hold_write b key id (deed r h (deeds r h) c) ≡ None
  pub bucket : (b : Name) → bucket (c ∷ h) b ≡ bucket h b
  pub removed : (b : Name) → removed (deeds r (c ∷ h)) b ≡ removed (deeds r h) b

pub told-quiet : (r : ℕ) (h : History) (c : Command) → IsQuiet r h c → (b : Name) → told r (c ∷ h) b ≡ told r h b
told-quiet r h c quiet b =
    ap (λ rs. shown (bucket (c ∷ h) b) rs (removed (deeds r (c ∷ h)) b))
    (rows-same r h b c (quiet.creates b) quiet.adds (λ k i. quiet.removes b k i) (λ k i. quiet.tags b k i) (λ k i. quiet.hold b k i))
    ∙ ap (λ ids. shown (bucket (c ∷ h) b) (rows (deeds r h) b) ids) (quiet.removed b)
    ∙ ap (λ at. shown at (rows (deeds r h) b) (removed (deeds r h) b)) (quiet.bucket b)

-- such is a line that does nothing
pub quiet-line : (r : ℕ) (h : History) (job line : ℕ) → (deed r h (deeds r h) (command.Line job line)).does ≡ command.Line job line
    → IsQuiet r h (command.Line job line)
quiet-line r h job line is = record {
  creates = λ b. refl;
  adds = refl;
  removes = λ b k i. refl;
  tags = λ b k i. ap (λ (d : Command). tags_changed b k i (next_stamp r (deeds r h)) outcomes.Applied d) is;
  hold = λ b k i. ap (λ (d : Command). hold_changed b k i (next_stamp r (deeds r h)) outcomes.Applied d) is;
  bucket = λ b. refl;
  removed = λ b. refl;
}

-- What a history tells of buckets, one command after another.
use Rattle.std.proofs.Common.{◌≡◌, ℕ, Bool, true, false, cond, List, [], ◌∷◌, Option, Some, None, bytes_eq, unwrap_or, refl, ap, ◌∙◌}
use Rattle.std.specs.Prelude.{option_map}
use Rattle.s3r_names.specs.declared.stamp.Stamp.{Stamp}
use Rattle.s3r_names.specs.declared.tags.Tag.{Tag}
use Rattle.s3r_names.specs.declared.version.VersionId.{VersionId}
use Rattle.s3r_record.specs.declared.command.Command.TheVariants as command
use Rattle.s3r_rules.specs.declared.rule.Rule.{Rule}
use Rattle.s3r_versions.specs.Contents.{with_row, without_version, on_version, with_tags, with_hold}
use Rattle.s3r_versions.specs.Removed.{with_id}
use Rattle.s3r_history.specs.declared.replication.Replication.{Replication}
use Rattle.s3r_history.specs.Words.{Name, History, newest, or_else}
use Rattle.s3r_history.specs.Buckets.{Birth, Bucket, switches, configures, since_birth, birth, bucket, flat, is_enabled, configuration, begins_or_ends}
use Rattle.s3r_history.specs.Past.{Entry}
use Rattle.s3r_history.specs.Deeds.{deeds, next_stamp, version, marker}
use Rattle.s3r_history.specs.Rows.{rows, removed, with_removed}
use Rattle.s3r_history.specs.BucketView.{BucketView}
use Rattle.s3r_history.specs.Told.{told}
use Rattle.s3r_history.proofs.HistoryRows.{rows-put, rows-marker, rows-create, rows-delete, rows-switch, rows-replicate, rows-drop, rows-remove, rows-tags, rows-hold}

-- what is told of a name, where what is told of one name has changed
abbrev pub changed_at : Name → (BucketView → BucketView) → (Name → Option BucketView) → Name → Option BucketView
changed_at name f at b = cond (bytes_eq name b) (option_map f (at b)) (at b)

-- what one command changes of what is told of its bucket
abbrev pub add_row : Entry → BucketView → BucketView
add_row row t = record t { rows = with_row row t.rows }

abbrev pub remove_row : Name → VersionId → BucketView → BucketView
remove_row key id t = record t { rows = without_version key id t.rows; removed = with_id id t.removed }

abbrev pub write_tags : Name → VersionId → Stamp → List Tag → BucketView → BucketView
write_tags key id stamp tags t = record t { rows = on_version key id (with_tags stamp tags) t.rows }

abbrev pub write_hold : Name → VersionId → Stamp → Bool → BucketView → BucketView
write_hold key id stamp hold t = record t { rows = on_version key id (with_hold stamp hold) t.rows }

abbrev pub switch : Bool → BucketView → BucketView
switch enabled t = record t { enabled = enabled }

abbrev pub configure : Option Replication → BucketView → BucketView
configure config t = record t { config = config }

-- what is told of a bucket with these rows and removed ids, where it is there
abbrev pub shown : Option Bucket → List Entry → List VersionId → Option BucketView
shown at rs ids = option_map (λ (a : Bucket). record { locked = a.locked; enabled = a.enabled; config = a.config; rows = rs; removed = ids }) at

pub told-put : (r : ℕ) (h : History) (name key : Name) (tags : List Tag) (hold : Bool) (class body : List ℕ) (b : Name)
    → told r (command.Put name key tags hold class body ∷ h) b ≡ changed_at name (add_row (version (next_stamp r (deeds r h)) key tags hold class body))
    (told r h) b
told-put r h name key tags hold class body b =
    ap (λ rs. shown (bucket h b) rs (removed (deeds r h) b)) (rows-put r h b name key tags hold class body)
    ∙ go (version (next_stamp r (deeds r h)) key tags hold class body) (bytes_eq name b) (bucket h b)
  where
    go : (row : Entry) (t : Bool) (at : Option Bucket) → shown at (cond t (with_row row (rows (deeds r h) b)) (rows (deeds r h) b)) (removed (deeds r h) b)
        ≡ cond t (option_map (add_row row) (shown at (rows (deeds r h) b) (removed (deeds r h) b))) (shown at (rows (deeds r h) b) (removed (deeds r h) b))
    go row true None = refl
    go row true (Some a) = refl
    go row false at = refl

pub told-marker : (r : ℕ) (h : History) (name key b : Name) → told r (command.Marker name key ∷ h) b
    ≡ changed_at name (add_row (marker (next_stamp r (deeds r h)) key)) (told r h) b
told-marker r h name key b =
    ap (λ rs. shown (bucket h b) rs (removed (deeds r h) b)) (rows-marker r h b name key)
    ∙ go (marker (next_stamp r (deeds r h)) key) (bytes_eq name b) (bucket h b)
  where
    go : (row : Entry) (t : Bool) (at : Option Bucket) → shown at (cond t (with_row row (rows (deeds r h) b)) (rows (deeds r h) b)) (removed (deeds r h) b)
        ≡ cond t (option_map (add_row row) (shown at (rows (deeds r h) b) (removed (deeds r h) b))) (shown at (rows (deeds r h) b) (removed (deeds r h) b))
    go row true None = refl
    go row true (Some a) = refl
    go row false at = refl

pub told-remove : (r : ℕ) (h : History) (name key : Name) (id : VersionId) (b : Name)
    → told r (command.Remove name key id ∷ h) b ≡ changed_at name (remove_row key id) (told r h) b
told-remove r h name key id b =
    ap (λ rs. shown (bucket h b) rs (with_removed (cond (bytes_eq name b) (Some id) None) (removed (deeds r h) b))) (rows-remove r h b name key id)
    ∙ go (bytes_eq name b) (bucket h b)
  where
    go : (t : Bool) (at : Option Bucket) → shown at (cond t (without_version key id (rows (deeds r h) b)) (rows (deeds r h) b))
        (with_removed (cond t (Some id) None) (removed (deeds r h) b))
        ≡ cond t (option_map (remove_row key id) (shown at (rows (deeds r h) b) (removed (deeds r h) b)))
        (shown at (rows (deeds r h) b) (removed (deeds r h) b))
    go true None = refl
    go true (Some a) = refl
    go false at = refl

pub told-tags : (r : ℕ) (h : History) (name key : Name) (id : VersionId) (tags : List Tag) (b : Name)
    → told r (command.SetTags name key id tags ∷ h) b ≡ changed_at name (write_tags key id (next_stamp r (deeds r h)) tags) (told r h) b
told-tags r h name key id tags b =
    ap (λ rs. shown (bucket h b) rs (removed (deeds r h) b)) (rows-tags r h b name key id tags) ∙ go (bytes_eq name b) (bucket h b)
  where
    go : (t : Bool) (at : Option Bucket) → shown at (cond t (on_version key id (with_tags (next_stamp r (deeds r h)) tags) (rows (deeds r h) b))
        (rows (deeds r h) b)) (removed (deeds r h) b)
        ≡ cond t (option_map (write_tags key id (next_stamp r (deeds r h)) tags) (shown at (rows (deeds r h) b) (removed (deeds r h) b)))
        (shown at (rows (deeds r h) b) (removed (deeds r h) b))
    go true None = refl
    go true (Some a) = refl
    go false at = refl

pub told-hold : (r : ℕ) (h : History) (name key : Name) (id : VersionId) (hold : Bool) (b : Name)
    → told r (command.SetHold name key id hold ∷ h) b ≡ changed_at name (write_hold key id (next_stamp r (deeds r h)) hold) (told r h) b
told-hold r h name key id hold b =
    ap (λ rs. shown (bucket h b) rs (removed (deeds r h) b)) (rows-hold r h b name key id hold) ∙ go (bytes_eq name b) (bucket h b)
  where
    go : (t : Bool) (at : Option Bucket) → shown at (cond t (on_version key id (with_hold (next_stamp r (deeds r h)) hold) (rows (deeds r h) b))
        (rows (deeds r h) b)) (removed (deeds r h) b)
        ≡ cond t (option_map (write_hold key id (next_stamp r (deeds r h)) hold) (shown at (rows (deeds r h) b) (removed (deeds r h) b)))
        (shown at (rows (deeds r h) b) (removed (deeds r h) b))
    go true None = refl
    go true (Some a) = refl
    go false at = refl

pub told-switch : (r : ℕ) (h : History) (name : Name) (enabled : Bool) (b : Name)
    → told r (command.SetVersioning name enabled ∷ h) b ≡ changed_at name (switch enabled) (told r h) b
told-switch r h name enabled b =
    ap (λ rs. shown (bucket (command.SetVersioning name enabled ∷ h) b) rs (removed (deeds r h) b)) (rows-switch r h b name enabled)
    ∙ go (bytes_eq name b) (birth h b)
  where
    go : (t : Bool) (at : Option Birth)
        → shown (option_map (λ (a : Birth). record {
          birth = a.place;
          locked = a.locked;
          enabled = unwrap_or
              (or_else (cond t (Some enabled) None) (newest (switches b) (since_birth b h))) true;
          config = configuration h b;
        }) at) (rows (deeds r h) b)
        (removed (deeds r h) b)
        ≡ cond t (option_map (switch enabled)
        (shown (option_map (λ (a : Birth). record { birth = a.place; locked = a.locked; enabled = is_enabled h b; config = configuration h b }) at)
        (rows (deeds r h) b) (removed (deeds r h) b)))
        (shown (option_map (λ (a : Birth). record { birth = a.place; locked = a.locked; enabled = is_enabled h b; config = configuration h b }) at)
        (rows (deeds r h) b) (removed (deeds r h) b))
    go true None = refl
    go true (Some a) = refl
    go false at = refl

-- a bucket that is given this configuration, or none
configured : (h : History) (b : Name) (config : Option Replication) (rs : List Entry) (ids : List VersionId) (t : Bool) (at : Option Birth)
    → shown (option_map (λ (a : Birth). record {
      birth = a.place;
      locked = a.locked;
      enabled = is_enabled h b;
      config = flat
          (or_else (cond t (Some config) None) (newest (configures b) (since_birth b h)));
    }) at) rs ids
    ≡ cond t (option_map (configure config) (shown (option_map (λ
    (a : Birth). record { birth = a.place; locked = a.locked; enabled = is_enabled h b; config = configuration h b }) at) rs ids))
    (shown (option_map (λ (a : Birth). record { birth = a.place; locked = a.locked; enabled = is_enabled h b; config = configuration h b }) at) rs ids)
configured h b config rs ids true None = refl
configured h b config rs ids true (Some a) = refl
configured h b config rs ids false at = refl

pub told-replicate : (r : ℕ) (h : History) (name : Name) (config : List Rule) (regions : List ℕ) (b : Name)
    → told r (command.SetReplication name config regions ∷ h) b ≡ changed_at name (configure (Some (record { config = config; regions = regions })))
    (told r h) b
told-replicate r h name config regions b =
    ap (λ rs. shown (bucket (command.SetReplication name config regions ∷ h) b) rs (removed (deeds r h) b)) (rows-replicate r h b name config regions)
    ∙ configured h b (Some (record { config = config; regions = regions })) (rows (deeds r h) b) (removed (deeds r h) b) (bytes_eq name b) (birth h b)

pub told-drop : (r : ℕ) (h : History) (name b : Name) → told r (command.DropReplication name ∷ h) b ≡ changed_at name (configure None) (told r h) b
told-drop r h name b =
    ap (λ rs. shown (bucket (command.DropReplication name ∷ h) b) rs (removed (deeds r h) b)) (rows-drop r h b name)
    ∙ configured h b None (rows (deeds r h) b) (removed (deeds r h) b) (bytes_eq name b) (birth h b)

pub told-delete : (r : ℕ) (h : History) (name b : Name) → told r (command.DeleteBucket name ∷ h) b ≡ cond (bytes_eq name b) None (told r h b)
told-delete r h name b =
    ap (λ rs. shown (bucket (command.DeleteBucket name ∷ h) b) rs (removed (deeds r h) b)) (rows-delete r h b name) ∙ go (bytes_eq name b)
  where
    go : (t : Bool) → shown (option_map (λ (a : Birth). record { birth = a.place; locked = a.locked; enabled = is_enabled h b; config = configuration h b })
        (flat (or_else (cond t (Some None) None) (newest (begins_or_ends b) h)))) (rows (deeds r h) b) (removed (deeds r h) b)
        ≡ cond t None (told r h b)
    go true = refl
    go false = refl

-- a bucket as it is created
abbrev pub new_told : Bool → BucketView
new_told locked = record { locked = locked; enabled = true; config = None; rows = []; removed = [] }

pub told-create : (r : ℕ) (h : History) (name : Name) (locked : Bool) (b : Name)
    → told r (command.CreateBucket name locked ∷ h) b ≡ cond (bytes_eq name b) (Some (new_told locked)) (told r h b)
told-create r h name locked b =
    ap (λ rs. shown (bucket (command.CreateBucket name locked ∷ h) b) rs (removed (deeds r (command.CreateBucket name locked ∷ h)) b))
    (rows-create r h b name locked) ∙ go (bytes_eq name b) refl
  where
    go : (t : Bool) → bytes_eq name b ≡ t
        → shown (bucket (command.CreateBucket name locked ∷ h) b) (cond t [] (rows (deeds r h) b)) (removed (deeds r (command.CreateBucket name locked ∷ h)) b)
        ≡ cond t (Some (new_told locked)) (told r h b)
    go true e = rw e refl
    go false e = rw e refl

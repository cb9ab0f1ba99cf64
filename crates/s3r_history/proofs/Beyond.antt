-- Effects go to regions that are there, since configurations name no others.
use Rattle.std.proofs.Common.{◌≡◌, ℕ, ◌<◌, ◌≤◌, Bool, true, false, cond, ◌&&◌, ◌==◌, nat_lt, nat_le, List, [], ◌∷◌, ◌++◌, Option, Some, None, bytes_eq, refl, ap, ◌∙◌, arith, lt-ltb, ltb-true, eqb-true}
use Rattle.std.specs.Prelude.{IfSome, option_map}
use Rattle.std.specs.List.{list_all, filter_map, cons_option}
use Rattle.std.proofs.lemmas.Bool.{and_parts, and_from}
use Rattle.std.proofs.lemmas.Bool.Decides.{nat_tests}
use Rattle.s3r_names.specs.declared.stamp.Stamp.{Stamp}
use Rattle.s3r_rules.specs.declared.rule.Rule.{Rule}
use Rattle.s3r_rules.specs.Destinations.{destinations}
use Rattle.s3r_versions.specs.Lookup.{find_version}
use Rattle.s3r_record.specs.declared.command.Command.{Command}
use Rattle.s3r_record.specs.declared.command.Command.TheVariants as command
use Rattle.s3r_history.specs.declared.replication.Replication.{Replication}
use Rattle.s3r_history.specs.declared.sent.Sent.{Sent}
use Rattle.s3r_history.specs.Words.{Name, History, newest, or_else}
use Rattle.s3r_history.specs.Buckets.{Birth, birth, is_enabled, configures, since_birth, configuration, flat}
use Rattle.s3r_history.specs.Past.{Entry, Carried, Added, Past}
use Rattle.s3r_history.specs.Placed.{placed_to}
use Rattle.s3r_history.specs.BucketView.{BucketView, told_as, told_by}
use Rattle.s3r_history.specs.Sending.{region_of, Destination, to_region, to_each, replica_to, marker_to, tags_to, hold_to, of_bucket, of_row, of_added, sends_by}
use Rattle.s3r_history.specs.Told.{told}
use Rattle.s3r_history.specs.Deeds.{deeds, deed, next_stamp, effects_after}
use Rattle.s3r_history.specs.Beyond.{are_below, IsThere, AreThere, NoneBeyond}
use Rattle.s3r_history.specs.Accepts.{Cause, first_of_causes, in_bucket, of_configuration, beyond, unless_beyond, refusal}

-- ---- what is sent

region-below : (n : ℕ) (to : Name) (rules : List Rule) (regions : List ℕ) → 1 ≤ n → are_below n regions ≡ true → nat_lt (region_of to rules regions) n ≡ true
region-below n to [] regions one all = lt-ltb 0 n (omega arith)
region-below n to (rule ∷ rules) [] one all = lt-ltb 0 n (omega arith)
region-below n to (rule ∷ rules) (d ∷ regions) one all = go (bytes_eq rule.bucket to) (region-below n to rules regions one parts.1)
  where
    parts : (nat_lt d n ≡ true) × (are_below n regions ≡ true)
    parts = and_parts (nat_lt d n) (are_below n regions) all

    go : (t : Bool) → nat_lt (region_of to rules regions) n ≡ true → nat_lt (cond t d (region_of to rules regions)) n ≡ true
    go true ih = parts.0
    go false ih = ih

abbrev pub all_there : ℕ → List Sent → Bool
all_there n sends = list_all (λ (s : Sent). nat_lt s.region n) sends

each-there : (n : ℕ) (config : Replication) (give : List Rule → Destination → Option Carried) (names : List Name) → 1 ≤ n → are_below n config.regions ≡ true
    → all_there n (filter_map (λ to. let at = region_of to config.config config.regions in option_map (to_region at)
    (give config.config (record { bucket = to; region = at }))) names) ≡ true
each-there n config give [] one all = refl
each-there n config give (to ∷ names) one all =
    go (give config.config (record { bucket = to; region = region_of to config.config config.regions })) (each-there n config give names one all)
  where
    rest : List Sent
    rest =
        filter_map (λ name. let at = region_of name config.config config.regions in option_map (to_region at)
        (give config.config (record { bucket = name; region = at }))) names

    go : (o : Option Carried) → all_there n rest ≡ true → all_there n (cons_option (option_map (to_region (region_of to config.config config.regions)) o) rest)
        ≡ true
    go None ih = ih
    go (Some e) ih = and_from _ _ (region-below n to config.config config.regions one all) ih

to_each-there : (n : ℕ) (give : List Rule → Destination → Option Carried) (config : Option Replication) → 1 ≤ n → IsThere n config
    → all_there n (to_each give config) ≡ true
to_each-there n give None one there = refl
to_each-there n give (Some config) one there = each-there n config give (destinations config.config) one there

-- what is told of a bucket has its configuration
told-there : (n : ℕ) (h : History) (past : Past) (b : Name) → AreThere n h → IfSome (told_by h past b) (λ (at : BucketView). IsThere n at.config)
told-there n h past b there = go (birth h b)
  where
    go : (o : Option Birth)
        → IfSome (option_map (told_as past b)
        (option_map (λ (at : Birth). record { birth = at.place; locked = at.locked; enabled = is_enabled h b; config = configuration h b }) o))
        (λ (at : BucketView). IsThere n at.config)
    go None = tt
    go (Some at) = there b

bucket-there : (n : ℕ) (f : BucketView → List Sent) (o : Option BucketView) → ((at : BucketView) → IsThere n at.config → all_there n (f at) ≡ true)
    → IfSome o (λ (at : BucketView). IsThere n at.config) → all_there n (of_bucket f o) ≡ true
bucket-there n f None all there = refl
bucket-there n f (Some at) all there = all at there

added-there : (n : ℕ) (f : Entry → List Sent) (o : Option Added) → ((row : Entry) → all_there n (f row) ≡ true) → all_there n (of_added f o) ≡ true
added-there n f None all = refl
added-there n f (Some a) all = all a.row

row-there : (n : ℕ) (f : Entry → List Sent) (o : Option Entry) → ((row : Entry) → all_there n (f row) ≡ true) → all_there n (of_row f o) ≡ true
row-there n f None all = refl
row-there n f (Some row) all = all row

sent-there : (n : ℕ) (h : History) (past : Past) (stamp : Stamp) (adds : Option Added) (c : Command) → 1 ≤ n → AreThere n h
    → all_there n (sends_by h past stamp adds c) ≡ true
sent-there n h past stamp adds (command.Put b key tags hold class body) one there =
    bucket-there n (λ (at : BucketView). of_added (λ (row : Entry). to_each (replica_to b row) at.config) adds) (told_by h past b)
    (λ at is. added-there n (λ (row : Entry). to_each (replica_to b row) at.config) adds (λ row. to_each-there n (replica_to b row) at.config one is))
    (told-there n h past b there)
sent-there n h past stamp adds (command.Marker b key) one there =
    bucket-there n (λ (at : BucketView). of_added (λ (row : Entry). to_each (marker_to b row) at.config) adds) (told_by h past b)
    (λ at is. added-there n (λ (row : Entry). to_each (marker_to b row) at.config) adds (λ row. to_each-there n (marker_to b row) at.config one is))
    (told-there n h past b there)
sent-there n h past stamp adds (command.SetTags b key id tags) one there =
    bucket-there n (λ (at : BucketView). of_row (λ (row : Entry). to_each (tags_to past b stamp tags row) at.config) (find_version key id at.rows))
    (told_by h past b)
    (λ at is. row-there n (λ (row : Entry). to_each (tags_to past b stamp tags row) at.config) (find_version key id at.rows)
    (λ row. to_each-there n (tags_to past b stamp tags row) at.config one is)) (told-there n h past b there)
sent-there n h past stamp adds (command.SetHold b key id hold) one there =
    bucket-there n (λ (at : BucketView). of_row (λ (row : Entry). to_each (hold_to past b stamp hold row) at.config) (find_version key id at.rows))
    (told_by h past b)
    (λ at is. row-there n (λ (row : Entry). to_each (hold_to past b stamp hold row) at.config) (find_version key id at.rows)
    (λ row. to_each-there n (hold_to past b stamp hold row) at.config one is)) (told-there n h past b there)
sent-there n h past stamp adds _ one there = refl

-- All that a command sends goes to regions that are there.
pub sends-there : (n r : ℕ) (h : History) (c : Command) → 1 ≤ n → AreThere n h → all_there n (effects_after r h c) ≡ true
sends-there n r h c one there =
    sent-there n h (deeds r h) (next_stamp r (deeds r h)) (deed r h (deeds r h) c).adds (deed r h (deeds r h) c).does one there

-- Nothing goes to others.
pub none-placed : (n place d : ℕ) (sends : List Sent) → n ≤ d → all_there n sends ≡ true → placed_to place d sends ≡ []
none-placed n place d [] le all = refl
none-placed n place d (s ∷ sends) le all = go (s.region == d) refl (none-placed n place d sends le parts.1)
  where
    parts : (nat_lt s.region n ≡ true) × (all_there n sends ≡ true)
    parts = and_parts (nat_lt s.region n) (all_there n sends) all

    go : (t : Bool) → (s.region == d) ≡ t → placed_to place d sends ≡ []
        → cond t (record { effect = s.effect; place = place } ∷ placed_to place d sends) (placed_to place d sends) ≡ []
    go true e ih =
        let same : s.region ≡ d = eqb-true s.region d e in
        let lt : s.region < n = ltb-true s.region n parts.0 in
        absurd (omega arith)
    go false e ih = ih

-- ---- configurations

below-found : (n : ℕ) (regions : List ℕ) → beyond n regions ≡ None → are_below n regions ≡ true
below-found n [] none = refl
below-found n (d ∷ regions) none = go (nat_le n d) refl none (below-found n regions)
  where
    go : (t : Bool) → nat_le n d ≡ t → cond t (Some d) (beyond n regions) ≡ None → (beyond n regions ≡ None → are_below n regions ≡ true)
        → (nat_lt d n && are_below n regions) ≡ true
    go true e none ih = absurd cc
    go false e none ih = let lt : nat_lt d n ≡ true = grind (arith, nat_tests) in and_from _ _ lt (ih none)

accepted-below : (n : ℕ) (more : List Cause) (regions : List ℕ) → first_of_causes (unless_beyond more (beyond n regions)) ≡ None → are_below n regions ≡ true
accepted-below n more regions ok = go (beyond n regions) refl ok
  where
    go : (o : Option ℕ) → beyond n regions ≡ o → first_of_causes (unless_beyond more o) ≡ None → are_below n regions ≡ true
    go None e ok = below-found n regions e
    go (Some d) e ok = absurd cc

-- It stays so with each command that is accepted.
pub there-kept : (n r : ℕ) (h : History) (c : Command) → refusal n r h c ≡ None → AreThere n h → AreThere n (c ∷ h)
there-kept n r h (command.CreateBucket name locked) ok there b = go (bytes_eq name b)
  where
    go : (t : Bool) → IsThere n (flat (newest (configures b) (cond t [] (command.CreateBucket name locked ∷ since_birth b h))))
    go true = tt
    go false = there b
there-kept n r h (command.SetReplication name config regions) ok there b = go (bytes_eq name b)
  where
    go : (t : Bool) → IsThere n (flat (or_else (cond t (Some (Some (record { config = config; regions = regions }))) None)
        (newest (configures b) (since_birth b h))))
    go true = accepted-below n (in_bucket of_configuration (told r h name)) regions ok
    go false = there b
there-kept n r h (command.DropReplication name) ok there b = go (bytes_eq name b)
  where
    go : (t : Bool) → IsThere n (flat (or_else (cond t (Some None) None) (newest (configures b) (since_birth b h))))
    go true = tt
    go false = there b
there-kept n r h _ ok there b = there b

pub there_at_first : (n : ℕ) → AreThere n []
there_at_first n b = tt

-- Nothing is prescribed to a region that isn't there.

pub beyond-kept : (n r : ℕ) (h : History) (c : Command) → 1 ≤ n → AreThere n h → NoneBeyond n (deeds r h) → NoneBeyond n (deeds r (c ∷ h))
beyond-kept n r h c one there none d le =
    ap (λ xs. xs ++ placed_to (next_stamp r (deeds r h)).index d (effects_after r h c)) (none d le)
    ∙ none-placed n (next_stamp r (deeds r h)).index d (effects_after r h c) le (sends-there n r h c one there)

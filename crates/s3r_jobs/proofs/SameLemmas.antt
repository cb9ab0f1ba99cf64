-- When two specifications are the same.
use Rattle.std.proofs.Common.{◌≡◌, ◌↔◌, ◌==◌, ◌&&◌, ◌∙◌, ℕ, Bool, true, false, List, [], ◌∷◌, Option, Some, None, refl, sym, ap, ap₂, subst, eqb-true}
use Rattle.std.specs.Prelude.{IsTrue}
use Rattle.std.specs.Str.{bytes_eq}
use Rattle.std.proofs.lemmas.Bool.{and_parts, and_from}
use Rattle.std.proofs.lemmas.Cmp.{nat_eq_equiv, nat_list_eq_equiv}
use Rattle.std.proofs.lemmas.Slice.Eq.{bytes_eq-Decides}
use Rattle.s3r_names.specs.declared.tags.Tag.{Tag}
use Rattle.s3r_names.specs.declared.version.VersionId.{VersionId}
use Rattle.s3r_jobs.specs.declared.spec.JobSpec.{JobSpec}
use Rattle.s3r_jobs.specs.declared.spec.ManifestSpec.{ManifestSpec}
use Rattle.s3r_jobs.specs.declared.spec.ReportSpec.{ReportSpec}
use Rattle.s3r_jobs.specs.declared.spec.Operation.{Operation}
use Rattle.s3r_jobs.specs.declared.spec.Operation.TheVariants.{Copy, Tagging, Hold, Replicate}
use Rattle.s3r_jobs.specs.Same.{same_option, same_flag, same_tag, same_tags, same_version, same_operation, same_manifest, same_report, same_spec}

differ : {G : Type 0} → false ≡ true → G
differ e = absurd (no e)
  where
    no : false ≡ true → ⊥
    no e = cc

-- ---- what is the same is equal

abbrev Equals : {X : Type 0} → (X → X → Bool) → Type 0
Equals {X} same = (a b : X) → same a b ≡ true → a ≡ b

bytes_equal : Equals bytes_eq
bytes_equal a b e = (bytes_eq-Decides a b).0 e

flag_equal : Equals same_flag
flag_equal true true e = refl
flag_equal true false e = differ e
flag_equal false true e = differ e
flag_equal false false e = refl

option_equal : {X : Type 0} (same : X → X → Bool) → Equals same → Equals (same_option same)
option_equal same each None None e = refl
option_equal same each (Some a) (Some b) e = ap Some (each a b e)
option_equal same each None (Some b) e = differ e
option_equal same each (Some a) None e = differ e

tag : List ℕ → List ℕ → Tag
tag key value = record { key = key; value = value }

tag_equal : Equals same_tag
unfolding tag
tag_equal a b e =
    let parts = and_parts (bytes_eq a.key b.key) (bytes_eq a.value b.value) e in
    ap₂ tag (bytes_equal a.key b.key parts.0) (bytes_equal a.value b.value parts.1)

tags_equal : Equals same_tags
tags_equal [] [] e = refl
tags_equal (a ∷ behind_a) (b ∷ behind_b) e =
    let parts = and_parts (same_tag a b) (same_tags behind_a behind_b) e in
    ap₂ (λ (x : Tag) (xs : List Tag). x ∷ xs) (tag_equal a b parts.0) (tags_equal behind_a behind_b parts.1)
tags_equal [] (b ∷ behind_b) e = differ e
tags_equal (a ∷ behind_a) [] e = differ e

version : ℕ → ℕ → VersionId
version region index = record { region = region; index = index }

version_equal : Equals same_version
unfolding version
version_equal a b e =
    let parts = and_parts (a.region == b.region) (a.index == b.index) e in
    ap₂ version (eqb-true a.region b.region parts.0) (eqb-true a.index b.index parts.1)

operation_equal : Equals same_operation
operation_equal (Copy target prefix) (Copy other_target other_prefix) e =
    let parts = and_parts (bytes_eq target other_target) (same_option bytes_eq prefix other_prefix) e in
    ap₂ Copy (bytes_equal target other_target parts.0) (option_equal bytes_eq bytes_equal prefix other_prefix parts.1)
operation_equal (Copy target prefix) (Tagging other) e = differ e
operation_equal (Copy target prefix) (Hold other) e = differ e
operation_equal (Copy target prefix) Replicate e = differ e
operation_equal (Tagging tags) (Copy other_target other_prefix) e = differ e
operation_equal (Tagging tags) (Tagging other) e = ap Tagging (tags_equal tags other e)
operation_equal (Tagging tags) (Hold other) e = differ e
operation_equal (Tagging tags) Replicate e = differ e
operation_equal (Hold hold) (Copy other_target other_prefix) e = differ e
operation_equal (Hold hold) (Tagging other) e = differ e
operation_equal (Hold hold) (Hold other) e = ap Hold (flag_equal hold other e)
operation_equal (Hold hold) Replicate e = differ e
operation_equal Replicate (Copy other_target other_prefix) e = differ e
operation_equal Replicate (Tagging other) e = differ e
operation_equal Replicate (Hold other) e = differ e
operation_equal Replicate Replicate e = refl

manifest : Bool → List ℕ → List ℕ → Option VersionId → ManifestSpec
manifest versions bucket key version = record { versions = versions; bucket = bucket; key = key; version = version }

manifest_equal : Equals same_manifest
unfolding manifest
manifest_equal a b e =
    let key_on = bytes_eq a.key b.key && same_option same_version a.version b.version in
    let first = and_parts (same_flag a.versions b.versions) (bytes_eq a.bucket b.bucket && key_on) e in
    let second = and_parts (bytes_eq a.bucket b.bucket) key_on first.1 in
    let third = and_parts (bytes_eq a.key b.key) (same_option same_version a.version b.version) second.1 in
    ap₂ (λ (v : Bool) (n : List ℕ). manifest v n a.key a.version) (flag_equal a.versions b.versions first.0) (bytes_equal a.bucket b.bucket second.0)
    ∙ ap₂ (manifest b.versions b.bucket) (bytes_equal a.key b.key third.0) (option_equal same_version version_equal a.version b.version third.1)

report : List ℕ → Option (List ℕ) → Bool → ReportSpec
report bucket prefix all = record { bucket = bucket; prefix = prefix; all = all }

report_equal : Equals same_report
unfolding report
report_equal a b e =
    let first = and_parts (bytes_eq a.bucket b.bucket) (same_option bytes_eq a.prefix b.prefix && same_flag a.all b.all) e in
    let second = and_parts (same_option bytes_eq a.prefix b.prefix) (same_flag a.all b.all) first.1 in
    ap (λ (n : List ℕ). report n a.prefix a.all) (bytes_equal a.bucket b.bucket first.0)
    ∙ ap₂ (report b.bucket) (option_equal bytes_eq bytes_equal a.prefix b.prefix second.0) (flag_equal a.all b.all second.1)

spec : List ℕ → ℕ → Bool → Operation → ManifestSpec → Option ReportSpec → JobSpec
spec token priority confirm operation manifest report =
    record { token = token; priority = priority; confirm = confirm; operation = operation; manifest = manifest; report = report }

spec_equal : Equals same_spec
unfolding spec
spec_equal a b e =
    let last = same_manifest a.manifest b.manifest && same_option same_report a.report b.report in
    let operation_on = same_operation a.operation b.operation && last in
    let confirm_on = same_flag a.confirm b.confirm && operation_on in
    let first = and_parts (bytes_eq a.token b.token) ((a.priority == b.priority) && confirm_on) e in
    let second = and_parts (a.priority == b.priority) confirm_on first.1 in
    let third = and_parts (same_flag a.confirm b.confirm) operation_on second.1 in
    let fourth = and_parts (same_operation a.operation b.operation) last third.1 in
    let fifth = and_parts (same_manifest a.manifest b.manifest) (same_option same_report a.report b.report) fourth.1 in
    ap₂ (λ (t : List ℕ) (p : ℕ). spec t p a.confirm a.operation a.manifest a.report)
    (bytes_equal a.token b.token first.0) (eqb-true a.priority b.priority second.0)
    ∙ ap₂ (λ (c : Bool) (o : Operation). spec b.token b.priority c o a.manifest a.report)
    (flag_equal a.confirm b.confirm third.0) (operation_equal a.operation b.operation fourth.0)
    ∙ ap₂ (spec b.token b.priority b.confirm b.operation)
    (manifest_equal a.manifest b.manifest fifth.0) (option_equal same_report report_equal a.report b.report fifth.1)

-- ---- each is the same as itself

abbrev Reflects : {X : Type 0} → (X → X → Bool) → Type 0
Reflects {X} same = (a : X) → same a a ≡ true

bytes_reflect : Reflects bytes_eq
bytes_reflect = nat_list_eq_equiv.refl

number_reflects : (n : ℕ) → (n == n) ≡ true
number_reflects = nat_eq_equiv.refl

flag_reflects : Reflects same_flag
flag_reflects true = refl
flag_reflects false = refl

option_reflects : {X : Type 0} (same : X → X → Bool) → Reflects same → Reflects (same_option same)
option_reflects same each None = refl
option_reflects same each (Some a) = each a

tags_reflect : Reflects same_tags
tags_reflect [] = refl
tags_reflect (a ∷ behind) = and_from _ _ (and_from _ _ (bytes_reflect a.key) (bytes_reflect a.value)) (tags_reflect behind)

version_reflects : Reflects same_version
version_reflects a = and_from _ _ (number_reflects a.region) (number_reflects a.index)

operation_reflects : Reflects same_operation
operation_reflects (Copy target prefix) = and_from _ _ (bytes_reflect target) (option_reflects bytes_eq bytes_reflect prefix)
operation_reflects (Tagging tags) = tags_reflect tags
operation_reflects (Hold hold) = flag_reflects hold
operation_reflects Replicate = refl

manifest_reflects : Reflects same_manifest
manifest_reflects a =
    and_from _ _ (flag_reflects a.versions) (and_from _ _ (bytes_reflect a.bucket)
    (and_from _ _ (bytes_reflect a.key) (option_reflects same_version version_reflects a.version)))

report_reflects : Reflects same_report
report_reflects a = and_from _ _ (bytes_reflect a.bucket) (and_from _ _ (option_reflects bytes_eq bytes_reflect a.prefix) (flag_reflects a.all))

spec_reflects : Reflects same_spec
spec_reflects a =
    and_from _ _ (bytes_reflect a.token) (and_from _ _ (number_reflects a.priority) (and_from _ _ (flag_reflects a.confirm)
    (and_from _ _ (operation_reflects a.operation) (and_from _ _ (manifest_reflects a.manifest) (option_reflects same_report report_reflects a.report)))))

-- ---- both

pub same-equal : (a b : JobSpec) (t : Bool) → t ≡ same_spec a b → IsTrue t ↔ (a ≡ b)
same-equal a b t is = (λ yes. spec_equal a b (sym is ∙ yes), λ (e : a ≡ b). is ∙ subst (λ (x : JobSpec). same_spec a x ≡ true) e (spec_reflects a))

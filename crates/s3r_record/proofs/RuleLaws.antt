-- The laws of one rule beside its region.
use Rattle.std.proofs.Common.{◌≡◌, ℕ, ◌^◌, ◌<◌, ◌≤◌, Bool, true, false, ◌&&◌, nat_le, if◌then◌else◌, List, [], ◌∷◌, ◌++◌, length, Option, Some, None, Result, Ok, Err, IfOk, refl, sym, ap, subst, ◌∙◌, append_assoc, arith}
use Rattle.std.specs.Int.{w32, to_be_bytes}
use Rattle.std.specs.List.{list_all, list_any, zip}
use Rattle.std.specs.Str.{chars, is_utf8}
use Rattle.std.proofs.lemmas.Bool.{and_parts, and_from, leb-true, le-leb}
use Rattle.std.proofs.lemmas.Str.{is_utf8-from_IsUtf8}
use Rattle.s3r_names.specs.Bucket.{is_bucket_name}
use Rattle.s3r_names.specs.Class.{is_class_name}
use Rattle.s3r_names.specs.Tags.{is_tag_set}
use Rattle.s3r_names.specs.declared.tags.Tag.{Tag}
use Rattle.s3r_names.proofs.BucketNames.{name_is, name-utf8}
use Rattle.s3r_names.proofs.ClassNames.{class_is, class-utf8}
use Rattle.s3r_names.proofs.TagTexts.{text-length}
use Rattle.s3r_rules.specs.declared.fault.ConfigFault.{ConfigFault}
use Rattle.s3r_rules.specs.declared.fault.Kind.{Kind}
use Rattle.s3r_rules.specs.declared.fault.Kind.TheVariants as kind
use Rattle.s3r_rules.specs.declared.rule.Rule.{Rule}
use Rattle.s3r_rules.specs.Rules.{is_class, has_id, has_priority}
use Rattle.s3r_rules.specs.Reading.{id_from, priority_from, prefix_from, tags_from, bucket_from, class_from, unless_wrong, wrong_beside, rule_from}
use Rattle.s3r_rules.proofs.Growing.{Fits, rule-is, ok-bind, ok-if, at_ok}
use Rattle.s3r_rules.proofs.Drafted.{Facts, facts, class_back, beside_back}
use Rattle.s3r_record.specs.declared.rule_parts.Back.{Back}
use Rattle.s3r_record.specs.declared.rule_parts.Front.{Front}
use Rattle.s3r_record.specs.declared.tag_rule.TagRule.TheVariants as allowed
use Rattle.s3r_record.specs.Fields.{text, flag, tags_bytes, option_text, rule_bytes}
use Rattle.s3r_record.specs.Placing.{have_one_region, has_texts}
use Rattle.s3r_record.specs.Reading.{◌>>=◌, Unread, place}
use Rattle.s3r_record.specs.ReadingRules.{front_at, back_at, draft_of, or_at, placed_beside, rule_at}
use Rattle.s3r_record.specs.ReadingTexts.{passed}
use Rattle.s3r_record.proofs.ReaderLaws.{IsBytes, bind_ok, guard_passed, ok_is, Takes, Takes-then, left, Reads, take_field, read_again}
use Rattle.s3r_record.proofs.FieldLaws.{IsText, wide32, number_law, flag_law, any_text_law}
use Rattle.s3r_record.proofs.IdLaws.{region_law}
use Rattle.s3r_record.proofs.SeveralFields.{take_then, take_end, again_then, again_end, reads}
use Rattle.s3r_record.proofs.TagLaws.{Stand, tags_law, set_stands}
use Rattle.s3r_record.proofs.TextLaws.{IsOptionText, option_text_law}

-- ---- its fields by their form

abbrev pub front_bytes : Front → List ℕ
front_bytes front = text front.id
    ++ to_be_bytes w32 front.priority
    ++ flag front.enabled
    ++ text front.prefix
    ++ tags_bytes front.tags
    ++ flag front.markers
    ++ text front.bucket

abbrev pub back_bytes : Back → List ℕ
back_bytes back = (back.region ∷ []) ++ option_text back.class ++ flag back.replica_modifications

record FormsFront (front : Front) : Type 0 where
  pub id : IsText front.id
  pub priority : front.priority < 2 ^ 32
  pub prefix : IsText front.prefix
  pub tags : Stand allowed.Any front.tags
  pub bucket : IsText front.bucket

record FormsBack (back : Back) : Type 0 where
  pub region : back.region ≤ 7
  pub class : IsOptionText back.class

front_law : Reads front_at front_bytes FormsFront
unfolding front_at
front_law =
    reads
    (take_then _ any_text_law (λ id i. take_then _ (number_law w32 (2 ^ 32) wide32)
    (λ priority p. take_then _ flag_law (λ enabled _. take_then _ any_text_law
    (λ prefix b. take_then _ (tags_law allowed.Any) (λ tags t. take_then _ flag_law (λ markers _. take_then _ any_text_law (λ bucket n.
    take_end (record { id = id; priority = priority; enabled = enabled; prefix = prefix; tags = tags; markers = markers; bucket = bucket })
    (record { id = i; priority = p; prefix = b; tags = t; bucket = n })))))))))
    (λ front is. again_then _ any_text_law front.id is.id (again_then _ (number_law w32 (2 ^ 32) wide32) front.priority is.priority
    (again_then _ flag_law front.enabled tt (again_then _ any_text_law front.prefix is.prefix (again_then _ (tags_law allowed.Any) front.tags is.tags
    (again_then _ flag_law front.markers tt (again_then _ any_text_law front.bucket is.bucket (again_end front))))))))

back_law : Reads back_at back_bytes FormsBack
unfolding back_at
back_law =
    reads
    (take_then _ region_law (λ region r. take_then _ option_text_law (λ class c. take_then _ flag_law (λ modifications _.
    take_end (record { region = region; class = class; replica_modifications = modifications }) (record { region = r; class = c })))))
    (λ back is. again_then _ region_law back.region is.region (again_then _ option_text_law back.class is.class
    (again_then _ flag_law back.replica_modifications tt (again_end back))))

-- ---- the rule that is written so

abbrev pub made : Front → Back → Rule
made front back = record {
  id = front.id;
  priority = front.priority;
  enabled = front.enabled;
  prefix = front.prefix;
  tags = front.tags;
  markers =
      front.markers;
  bucket = front.bucket;
  class = back.class;
  replica_modifications = back.replica_modifications;
}

abbrev Same : {A : Type 0} → A → A → Type 0
Same x y = y ≡ x

tags-same : (n : ℕ) (tags : List Tag) → IfOk (tags_from n (passed is_tag_set tags)) (Same tags)
tags-same n tags = go (is_tag_set tags) refl
  where
    go : (b : Bool) → is_tag_set tags ≡ b → IfOk (tags_from n (if b then Some tags else None)) (Same tags)
    go true e = ok-if (Same tags) (is_tag_set tags) tags n kind.BadTags (λ _. refl)
    go false e = tt

bucket-same : (n : ℕ) (bucket : List ℕ) → IfOk (bucket_from n (passed is_bucket_name bucket)) (Same bucket)
bucket-same n bucket = go (is_bucket_name bucket) refl
  where
    go : (b : Bool) → is_bucket_name bucket ≡ b → IfOk (bucket_from n (if b then Some bucket else None)) (Same bucket)
    go true e = ok-if (Same bucket) (is_bucket_name bucket) bucket n kind.BadArn (λ _. refl)
    go false e = tt

class-same : (n : ℕ) (class : Option (List ℕ)) → IfOk (class_from n class) (Same class)
class-same n None = refl
class-same n (Some name) = ok-if (Same (Some name)) (is_class_name name) (Some name) n kind.BadClass (λ _. refl)

beside-same : (n : ℕ) (rule : Rule) (wrong : Option Kind) → IfOk (unless_wrong n rule wrong) (Same rule)
beside-same n rule None = refl
beside-same n rule (Some k) = tt

rule-same : (n : ℕ) (earlier : List Rule) (front : Front) (back : Back) → IfOk (rule_from n earlier (draft_of front back)) (Same (made front back))
unfolding rule_from
rule-same n earlier front back =
    ok-bind (Same front.id) (Same (made front back)) (id_from n (Some front.id)) _
    (ok-if (Same front.id) (nat_le (length (chars front.id)) 255) front.id n kind.IdTooLong (λ _. refl))
    (λ id i. ok-bind (Same front.priority) (Same (made front back)) (priority_from n (Some front.priority)) _
    (ok-if (Same front.priority) (nat_le front.priority 2147483647) front.priority n kind.BadPriority (λ _. refl))
    (λ priority p. ok-bind (Same front.prefix) (Same (made front back)) (prefix_from n front.prefix) _
    (ok-if (Same front.prefix) (nat_le (length front.prefix) 1024) front.prefix n kind.PrefixTooLong (λ _. refl))
    (λ prefix b. ok-bind (Same front.tags) (Same (made front back)) (tags_from n (passed is_tag_set front.tags)) _ (tags-same n front.tags)
    (λ tags t. ok-bind (Same front.bucket) (Same (made front back)) (bucket_from n (passed is_bucket_name front.bucket)) _ (bucket-same n front.bucket)
    (λ bucket u. ok-bind (Same back.class) (Same (made front back)) (class_from n back.class) _ (class-same n back.class)
    (λ class c. rw (i, p, b, t, u, c) (beside-same n (made front back) (wrong_beside earlier (made front back)))))))))

or_at-ok : {A : Type 0} (at : ℕ) (r : Result A ConfigFault) (x : A) → or_at at r ≡ Ok x → r ≡ Ok x
or_at-ok at (Ok y) x e = ap Ok (ok_is y x e)
or_at-ok at (Err fault) x e = absurd cc

-- ---- the rule and its region

-- a rule that has its place behind these
pub record Stands (rules : List Rule) (regions : List ℕ) (placed : Rule × ℕ) : Type 0 where
  pub ruled : Fits rules placed.0
  pub texts : has_texts placed.0 ≡ true
  pub low : placed.1 ≤ 7
  pub beside : list_all (λ other. have_one_region other placed) (zip rules regions) ≡ true

regroup : (a b c d e f g h i j : List ℕ) → (a ++ b ++ c ++ d ++ e ++ f ++ g) ++ (h ++ i ++ j) ≡ a ++ b ++ c ++ d ++ e ++ f ++ g ++ h ++ i ++ j
regroup a b c d e f g h i j = simp append_assoc

pub joined : (front : Front) (back : Back) → front_bytes front ++ back_bytes back ≡ rule_bytes (made front back, back.region)
joined front back =
    regroup (text front.id) (to_be_bytes w32 front.priority) (flag front.enabled) (text front.prefix) (tags_bytes front.tags) (flag front.markers)
    (text front.bucket) (back.region ∷ []) (option_text back.class) (flag back.replica_modifications)

rule_takes : (rules : List Rule) (regions : List ℕ) (u : Unread) (x : (Rule × ℕ) × Unread) → IsBytes u.bytes → rule_at rules regions u ≡ Ok x
    → Takes u.bytes (rule_bytes x.0) x.1.bytes × Stands rules regions x.0
unfolding rule_at
rule_takes rules regions u x fits e =
    let front = take_field front_law (λ front. back_at front.1 >>= λ back. or_at (place u) (rule_from 0 rules (draft_of front.0 back.0)) >>= λ rule.
    placed_beside (zip rules regions) (rule, back.0.region) (place front.1) >>= λ placed. Ok (placed, back.1)) u x fits e in
    let back = take_field back_law (λ back. or_at (place u) (rule_from 0 rules (draft_of front.value back.0)) >>= λ rule. placed_beside (zip rules regions)
    (rule, back.0.region) (place front.rest) >>= λ placed. Ok (placed, back.1)) front.rest x front.takes.rest_fits front.gave in
    let rule = bind_ok (or_at (place u) (rule_from 0 rules (draft_of front.value back.value)))
    (λ rule. placed_beside (zip rules regions) (rule, back.value.region) (place front.rest) >>= λ placed. Ok (placed, back.rest)) x back.gave in
    let placed = bind_ok (placed_beside (zip rules regions) (rule.0, back.value.region) (place front.rest)) (λ placed. Ok (placed, back.rest)) x rule.2 in
    let beside = guard_passed (list_all (λ other. have_one_region other (rule.0, back.value.region)) (zip rules regions)) (place front.rest)
    (rule.0, back.value.region) placed.0 placed.1 in
    let from = or_at-ok (place u) (rule_from 0 rules (draft_of front.value back.value)) rule.0 rule.1 in
    let same : rule.0 ≡ made front.value back.value = at_ok (Same (made front.value back.value))
    (rule_from 0 rules (draft_of front.value back.value)) rule.0 from (rule-same 0 rules front.value back.value) in
    let ruled : Fits rules rule.0 = at_ok (Fits rules) (rule_from 0 rules (draft_of front.value back.value)) rule.0 from
    (rule-is 0 rules (draft_of front.value back.value)) in
    let both = Takes-then u.bytes (front_bytes front.value) front.rest.bytes (back_bytes back.value) back.rest.bytes front.takes back.takes in
    let spelled : Takes u.bytes (rule_bytes (made front.value back.value, back.value.region)) back.rest.bytes =
    subst (λ (bytes : List ℕ). Takes u.bytes bytes back.rest.bytes) (joined front.value back.value) both in
    let texts : has_texts (made front.value back.value) ≡ true = and_from (is_utf8 front.value.id)
    (is_utf8 front.value.prefix) front.fits.id.0 front.fits.prefix.0 in
    let all : Takes u.bytes (rule_bytes (rule.0, back.value.region)) back.rest.bytes × Stands rules regions (rule.0, back.value.region) = (
      subst (λ (r : Rule). Takes u.bytes (rule_bytes (r, back.value.region)) back.rest.bytes) (sym same) spelled,
      record { ruled = ruled; texts = subst (λ (r : Rule). has_texts r ≡ true) (sym same) texts; low = back.fits.region; beside = beside.0 },
    ) in
    subst (λ (y : (Rule × ℕ) × Unread). Takes u.bytes (rule_bytes y.0) y.1.bytes
    × Stands rules regions y.0) (ap (λ (p : Rule × ℕ). (p, back.rest)) beside.1 ∙ ok_is (placed.0, back.rest) x placed.2) all

-- a rule that was read has its place, whatever the bytes are
pub rule_fits : (rules : List Rule) (regions : List ℕ) (u : Unread) (x : (Rule × ℕ) × Unread) → rule_at rules regions u ≡ Ok x → Fits rules x.0.0
unfolding rule_at
rule_fits rules regions u x e =
    let front = bind_ok (front_at u) (λ front. back_at front.1 >>= λ back. or_at (place u) (rule_from 0 rules (draft_of front.0 back.0)) >>= λ rule.
    placed_beside (zip rules regions) (rule, back.0.region) (place front.1) >>= λ placed. Ok (placed, back.1)) x e in
    let back = bind_ok (back_at front.0.1) (λ back. or_at (place u) (rule_from 0 rules (draft_of front.0.0 back.0)) >>= λ rule. placed_beside
    (zip rules regions) (rule, back.0.region) (place front.0.1) >>= λ placed. Ok (placed, back.1)) x front.2 in
    let draft = draft_of front.0.0 back.0.0 in
    let rule = bind_ok (or_at (place u) (rule_from 0 rules draft)) (λ rule. placed_beside (zip rules regions) (rule, back.0.0.region)
    (place front.0.1) >>= λ placed. Ok (placed, back.0.1)) x back.2 in
    let placed = bind_ok (placed_beside (zip rules regions) (rule.0, back.0.0.region) (place front.0.1)) (λ placed. Ok (placed, back.0.1)) x rule.2 in
    let beside = guard_passed (list_all (λ other. have_one_region other (rule.0, back.0.0.region)) (zip rules regions)) (place front.0.1)
    (rule.0, back.0.0.region) placed.0 placed.1 in
    let ruled : Fits rules rule.0 = at_ok (Fits rules) (rule_from 0 rules draft) rule.0 (or_at-ok (place u) (rule_from 0 rules draft) rule.0 rule.1)
    (rule-is 0 rules draft) in
    subst (λ (y : (Rule × ℕ) × Unread). Fits rules y.0.0) (ap (λ (p : Rule × ℕ). (p, back.0.1)) beside.1 ∙ ok_is (placed.0, back.0.1) x placed.2) ruled

-- ---- a rule that stands there is read again

abbrev pub front_for : Rule → Front
front_for rule = record {
  id = rule.id;
  priority = rule.priority;
  enabled = rule.enabled;
  prefix = rule.prefix;
  tags = rule.tags;
  markers =
      rule.markers;
  bucket = rule.bucket;
}

abbrev pub back_for : Rule × ℕ → Back
back_for placed = record { region = placed.1; class = placed.0.class; replica_modifications = placed.0.replica_modifications }

pub id_text : (id : List ℕ) → nat_le (length (chars id)) 255 ≡ true → is_utf8 id ≡ true → length id ≤ 1020
id_text id short utf8 =
    let some : (is_utf8 id && nat_le 0 (length (chars id))) ≡ true = and_from (is_utf8 id) (nat_le 0 (length (chars id))) utf8
    (le-leb 0 (length (chars id)) (omega arith)) in
    text-length id 0 255 (and_from (is_utf8 id && nat_le 0 (length (chars id))) (nat_le (length (chars id)) 255) some short)

class_text : (class : Option (List ℕ)) → is_class class ≡ true → IsOptionText class
class_text None classed = tt
class_text (Some name) classed = (is_utf8-from_IsUtf8 name (class-utf8 name classed), omega (arith, (class_is name classed).short))

front_forms : (rule : Rule) → Facts rule → has_texts rule ≡ true → FormsFront (front_for rule)
front_forms rule f texts =
    let t = and_parts (is_utf8 rule.id) (is_utf8 rule.prefix) texts in
    record {
      id = (t.0, omega (arith, id_text rule.id f.short t.0));
      priority = omega (arith, leb-true rule.priority 2147483647 f.low);
      prefix = (t.1, omega (arith, leb-true (length rule.prefix) 1024 f.begins));
      tags = set_stands rule.tags f.set;
      bucket = (is_utf8-from_IsUtf8 rule.bucket (name-utf8 rule.bucket f.named), omega (arith, (name_is rule.bucket f.named).short));
    }

from_again : (n : ℕ) (earlier : List Rule) (placed : Rule × ℕ) → Facts placed.0 → list_any (has_id placed.0) earlier ≡ false
    → list_any (has_priority placed.0) earlier ≡ false
    → rule_from n earlier (draft_of (front_for placed.0) (back_for placed)) ≡ Ok placed.0
unfolding rule_from
from_again n earlier placed f id priority =
    rw (f.short, f.low, f.begins, f.set, f.named, f.set, f.named, class_back n placed.0.class f.classed) (beside_back n earlier placed.0 f id priority)

rule_again : (rules : List Rule) (regions : List ℕ) (whole : ℕ) (placed : Rule × ℕ) (rest : List ℕ) → Stands rules regions placed
    → rule_at rules regions (left whole (rule_bytes placed ++ rest)) ≡ Ok (placed, left whole rest)
unfolding rule_at
rule_again rules regions whole placed rest stands =
    let f = facts placed.0 stands.ruled.0 in
    let front = front_for placed.0 in
    let back = back_for placed in
    let bytes : rule_bytes placed ++ rest ≡ front_bytes front ++ (back_bytes back ++ rest) =
    ap (λ (bytes : List ℕ). bytes ++ rest) (sym (joined front back)) ∙ append_assoc (front_bytes front) (back_bytes back) rest in
    let start = left whole (front_bytes front ++ (back_bytes back ++ rest)) in
    let region = left whole (back_bytes back ++ rest) in
    ap (λ (bytes : List ℕ). rule_at rules regions (left whole bytes)) bytes
    ∙ read_again front_law (λ front. back_at front.1 >>= λ back. or_at (place start) (rule_from 0 rules (draft_of front.0 back.0)) >>= λ rule. placed_beside
    (zip rules regions) (rule, back.0.region) (place front.1) >>= λ placed. Ok (placed, back.1))
    whole front (back_bytes back ++ rest) (front_forms placed.0 f stands.texts)
    ∙ read_again back_law (λ back. or_at (place start) (rule_from 0 rules (draft_of front back.0)) >>= λ rule. placed_beside (zip rules regions)
    (rule, back.0.region) (place region) >>= λ placed. Ok (placed, back.1))
    whole back rest (record { region = stands.low; class = class_text placed.0.class f.classed })
    ∙ rw (from_again 0 rules placed f stands.ruled.1 stands.ruled.2, stands.beside) refl

pub rule_law : (rules : List Rule) (regions : List ℕ) → Reads (rule_at rules regions) rule_bytes (Stands rules regions)
rule_law rules regions = record { takes = rule_takes rules regions; again = rule_again rules regions }

-- The laws of tags.
use Rattle.std.proofs.Common.{◌≡◌, ℕ, zero, suc, ◌≤◌, ◌<◌, ◌^◌, Bool, true, false, cond, ◌&&◌, nat_le, List, [], ◌∷◌, ◌++◌, length, Option, Some, None, Ok, Err, refl, sym, ap, subst, ◌∙◌, append_assoc, arith}
use Rattle.std.specs.Int.{w16}
use Rattle.std.specs.List.{list_all, zip, flat_map}
use Rattle.std.specs.Str.{is_utf8, chars}
use Rattle.std.proofs.lemmas.Bool.{and_parts, and_from, leb-true, le-leb}
use Rattle.std.proofs.lemmas.List.Concat.{flat_map-cons}
use Rattle.s3r_names.specs.Tags.{is_text, is_tag_key, is_tag_value, is_tag, is_key_below, has_rising_keys, is_tag_set}
use Rattle.s3r_names.specs.declared.tags.Tag.{Tag}
use Rattle.s3r_names.specs.declared.fault.NameFault.{NameFault}
use Rattle.s3r_names.proofs.TagTexts.{tag_is}
use Rattle.s3r_record.specs.declared.tag_rule.TagRule.{TagRule}
use Rattle.s3r_record.specs.declared.tag_rule.TagRule.TheVariants as allowed
use Rattle.s3r_record.specs.Fields.{tag_bytes, tags_bytes}
use Rattle.s3r_record.specs.Reading.{◌>>=◌, Unread, byte_at, tested_at}
use Rattle.s3r_record.specs.ReadingTags.{may_be_value, most_tags, rises_above, key_follows, tag_at, tags_after, tags_at}
use Rattle.s3r_record.proofs.ReaderLaws.{IsBytes, bind_ok, ok_is, Takes, Takes-then, left, Reads, Reads-as, take_field, read_again}
use Rattle.s3r_record.proofs.FieldLaws.{byte_is, byte_law, text_law, tested_passes}
use Rattle.s3r_record.proofs.SeveralFields.{take_then, take_end, again_then, again_end, reads}

-- ---- one tag

-- a tag may stand after that one
abbrev pub Follows : TagRule → Option Tag → Tag → Type 0
Follows rule before tag = (key_follows rule before tag.key ≡ true) × (may_be_value rule tag.value ≡ true)

-- the lengths of its texts can be spelled
abbrev pub Short : Tag → Type 0
Short tag = (length tag.key < 2 ^ 16) × (length tag.value < 2 ^ 16)

tag_law : (rule : TagRule) (before : Option Tag) → Reads (tag_at rule before) tag_bytes (λ tag. Follows rule before tag × Short tag)
unfolding tag_at
tag_law rule before =
    reads
    (take_then _ (text_law (key_follows rule before)) (λ key k. take_then _ (text_law (may_be_value rule))
    (λ value v. take_end (record { key = key; value = value }) ((k.0, v.0), (k.1, v.1)))))
    (λ tag is. again_then _ (text_law (key_follows rule before)) tag.key (is.0.0, is.1.0)
    (again_then _ (text_law (may_be_value rule)) tag.value (is.0.1, is.1.1) (again_end tag)))

-- ---- several

abbrev pub FollowAll : TagRule → Option Tag → List Tag → Type 0
FollowAll rule before [] = Unit {0}
FollowAll rule before (tag ∷ tags) = Follows rule before tag × FollowAll rule (Some tag) tags

abbrev pub ShortAll : List Tag → Type 0
ShortAll [] = Unit {0}
ShortAll (tag ∷ tags) = Short tag × ShortAll tags

tag_follows : (rule : TagRule) (before : Option Tag) (u : Unread) (x : Tag × Unread) → tag_at rule before u ≡ Ok x → Follows rule before x.0
unfolding tag_at
tag_follows rule before u x e =
    let key = bind_ok (tested_at w16 (key_follows rule before) u) (λ key. tested_at w16 (may_be_value rule) key.1 >>= λ value. Ok
    (record { key = key.0; value = value.0 }, value.1)) x e in
    let value = bind_ok (tested_at w16 (may_be_value rule) key.0.1) (λ value. Ok (record { key = key.0.0; value = value.0 }, value.1)) x key.2 in
    subst (λ (y : Tag × Unread). Follows rule before y.0) (ok_is (record { key = key.0.0; value = value.0.0 }, value.0.1) x value.2)
    (tested_passes w16 (key_follows rule before) u key.0 key.1, tested_passes w16 (may_be_value rule) key.0.1 value.0 value.1)

tags_follow : (rule : TagRule) (count : ℕ) (before : Option Tag) (u : Unread) (x : List Tag × Unread) → tags_after rule count before u ≡ Ok x
    → (length x.0 ≡ count) × FollowAll rule before x.0
unfolding tags_after
tags_follow rule zero before u x e = subst (λ (y : List Tag × Unread). (length y.0 ≡ 0) × FollowAll rule before y.0) (ok_is ([], u) x e) (refl, tt)
tags_follow rule (suc count) before u x e =
    let first = bind_ok (tag_at rule before u) (λ tag. tags_after rule count (Some tag.0) tag.1 >>= λ others. Ok (tag.0 ∷ others.0, others.1)) x e in
    let others = bind_ok (tags_after rule count (Some first.0.0) first.0.1) (λ others. Ok (first.0.0 ∷ others.0, others.1)) x first.2 in
    let follow = tags_follow rule count (Some first.0.0) first.0.1 others.0 others.1 in
    subst (λ (y : List Tag × Unread). (length y.0 ≡ suc count) × FollowAll rule before y.0) (ok_is (first.0.0 ∷ others.0.0, others.0.1) x others.2)
    (ap suc follow.0, (tag_follows rule before u first.0 first.1, follow.1))

tags_take : (rule : TagRule) (count : ℕ) (before : Option Tag) (u : Unread) (x : List Tag × Unread) → IsBytes u.bytes → tags_after rule count before u ≡ Ok x
    → Takes u.bytes (flat_map tag_bytes x.0) x.1.bytes × ShortAll x.0
unfolding tags_after
tags_take rule zero before u x fits e =
    subst (λ (y : List Tag × Unread). Takes u.bytes (flat_map tag_bytes y.0) y.1.bytes
    × ShortAll y.0) (ok_is ([], u) x e) (record { parts = refl; rest_fits = fits }, tt)
tags_take rule (suc count) before u x fits e =
    let first = take_field (tag_law rule before) (λ tag. tags_after rule count (Some tag.0) tag.1 >>= λ others. Ok (tag.0 ∷ others.0, others.1)) u x fits e in
    let others = bind_ok (tags_after rule count (Some first.value) first.rest) (λ others. Ok (first.value ∷ others.0, others.1)) x first.gave in
    let taken = tags_take rule count (Some first.value) first.rest others.0 first.takes.rest_fits others.1 in
    let both = Takes-then u.bytes (tag_bytes first.value) first.rest.bytes (flat_map tag_bytes others.0.0) others.0.1.bytes first.takes taken.0 in
    let joined : Takes u.bytes (flat_map tag_bytes (first.value ∷ others.0.0)) others.0.1.bytes = rw flat_map-cons both in
    subst (λ (y : List Tag × Unread). Takes u.bytes (flat_map tag_bytes y.0) y.1.bytes
    × ShortAll y.0) (ok_is (first.value ∷ others.0.0, others.0.1) x others.2) (joined, (first.fits.1, taken.1))

tags_again : (rule : TagRule) (before : Option Tag) (whole : ℕ) (tags : List Tag) (rest : List ℕ) → FollowAll rule before tags → ShortAll tags
    → tags_after rule (length tags) before (left whole (flat_map tag_bytes tags ++ rest)) ≡ Ok (tags, left whole rest)
unfolding tags_after
tags_again rule before whole [] rest follow short = refl
tags_again rule before whole (tag ∷ tags) rest follow short =
    let regrouped : flat_map tag_bytes (tag ∷ tags) ++ rest ≡ tag_bytes tag ++ (flat_map tag_bytes tags ++ rest) =
    ap (λ (bytes : List ℕ). bytes ++ rest) (flat_map-cons tag_bytes tag tags) ∙ append_assoc (tag_bytes tag) (flat_map tag_bytes tags) rest in
    ap (λ (bytes : List ℕ). tags_after rule (suc (length tags)) before (left whole bytes)) regrouped
    ∙ read_again (tag_law rule before) (λ tag. tags_after rule (length tags) (Some tag.0) tag.1 >>= λ others. Ok (tag.0 ∷ others.0, others.1)) whole tag
    (flat_map tag_bytes tags ++ rest) (follow.0, short.0)
    ∙ ap (λ read. read >>= λ others. Ok (tag ∷ others.0, others.1)) (tags_again rule (Some tag) whole tags rest follow.1 short.1)

-- ---- a count, and so many

pub record Stand (rule : TagRule) (tags : List Tag) : Type 0 where
  pub few : length tags ≤ most_tags rule
  pub follow : FollowAll rule None tags
  pub short : ShortAll tags

tags_takes : (rule : TagRule) (u : Unread) (x : List Tag × Unread) → IsBytes u.bytes → tags_at rule u ≡ Ok x → Takes u.bytes (tags_bytes x.0) x.1.bytes
    × Stand rule x.0
unfolding tags_at
tags_takes rule u x fits e =
    let count = take_field (byte_law (most_tags rule)) (λ count. tags_after rule count.0 None count.1) u x fits e in
    let taken = tags_take rule count.value None count.rest x count.takes.rest_fits count.gave in
    let follow = tags_follow rule count.value None count.rest x count.gave in
    let both = Takes-then u.bytes (count.value ∷ []) count.rest.bytes (flat_map tag_bytes x.0) x.1.bytes count.takes taken.0 in (
      subst (λ (n : ℕ). Takes u.bytes (n ∷ flat_map tag_bytes x.0) x.1.bytes) (sym follow.0) both,
      record { few = subst (λ (n : ℕ). n ≤ most_tags rule) (sym follow.0) count.fits; follow = follow.1; short = taken.1 },
    )

tags_read_again : (rule : TagRule) (whole : ℕ) (tags : List Tag) (rest : List ℕ) → Stand rule tags
    → tags_at rule (left whole (tags_bytes tags ++ rest)) ≡ Ok (tags, left whole rest)
unfolding tags_at
tags_read_again rule whole tags rest stand =
    read_again (byte_law (most_tags rule)) (λ count. tags_after rule count.0 None count.1) whole (length tags) (flat_map tag_bytes tags ++ rest) stand.few
    ∙ tags_again rule None whole tags rest stand.follow stand.short

pub tags_law : (rule : TagRule) → Reads (tags_at rule) tags_bytes (Stand rule)
tags_law rule = record { takes = tags_takes rule; again = tags_read_again rule }

-- ---- a set: tags that follow one another, and few of them

abbrev rises : Tag × Tag → Bool
rises pair = is_key_below pair.0.key pair.1.key

rising_after : (before : Tag) (tags : List Tag) → FollowAll allowed.Lawful (Some before) tags → (list_all is_tag tags ≡ true)
    × (list_all rises (zip (before ∷ tags) tags) ≡ true)
rising_after before [] follow = (refl, refl)
rising_after before (tag ∷ tags) follow =
    let key = and_parts (is_key_below before.key tag.key) (is_tag_key tag.key) follow.0.0 in
    let others = rising_after tag tags follow.1 in (
      and_from (is_tag tag) (list_all is_tag tags) (and_from (is_tag_key tag.key) (is_tag_value tag.value) key.1 follow.0.1) others.0,
      and_from (is_key_below before.key tag.key) (list_all rises (zip (tag ∷ tags) tags)) key.0 others.1,
    )

follow_after : (before : Tag) (tags : List Tag) → list_all is_tag tags ≡ true → list_all rises (zip (before ∷ tags) tags) ≡ true
    → FollowAll allowed.Lawful (Some before) tags
follow_after before [] ruled rising = tt
follow_after before (tag ∷ tags) ruled rising =
    let r = and_parts (is_tag tag) (list_all is_tag tags) ruled in
    let t = and_parts (is_tag_key tag.key) (is_tag_value tag.value) r.0 in
    let k = and_parts (is_key_below before.key tag.key) (list_all rises (zip (tag ∷ tags) tags)) rising in
    ((and_from (is_key_below before.key tag.key) (is_tag_key tag.key) k.0 t.0, t.1), follow_after tag tags r.1 k.1)

set_from_all : (tags : List Tag) → length tags ≤ 10 → FollowAll allowed.Lawful None tags → is_tag_set tags ≡ true
set_from_all [] few follow = refl
set_from_all (tag ∷ tags) few follow =
    let others = rising_after tag tags follow.1 in
    let ruled : list_all is_tag (tag ∷ tags) ≡ true = and_from (is_tag tag) (list_all is_tag tags)
    (and_from (is_tag_key tag.key) (is_tag_value tag.value) follow.0.0 follow.0.1) others.0 in
    and_from (nat_le (length (tag ∷ tags)) 10 && list_all is_tag (tag ∷ tags)) (has_rising_keys (tag ∷ tags))
    (and_from (nat_le (length (tag ∷ tags)) 10) (list_all is_tag (tag ∷ tags)) (le-leb (length (tag ∷ tags)) 10 few) ruled) others.1

-- what a writer of a set uses of its rule
pub record IsSet (tags : List Tag) : Type 0 where
  pub few : length tags ≤ 10
  pub ruled : list_all is_tag tags ≡ true
  pub follow : FollowAll allowed.Lawful None tags

all_follow : (tags : List Tag) → list_all is_tag tags ≡ true → has_rising_keys tags ≡ true → FollowAll allowed.Lawful None tags
all_follow [] ruled rising = tt
all_follow (tag ∷ tags) ruled rising =
    let r = and_parts (is_tag tag) (list_all is_tag tags) ruled in
    let t = and_parts (is_tag_key tag.key) (is_tag_value tag.value) r.0 in
    (t, follow_after tag tags r.1 rising)

pub set_is : (tags : List Tag) → is_tag_set tags ≡ true → IsSet tags
set_is tags h =
    let a = and_parts (nat_le (length tags) 10 && list_all is_tag tags) (has_rising_keys tags) h in
    let b = and_parts (nat_le (length tags) 10) (list_all is_tag tags) a.0 in
    record { few = leb-true (length tags) 10 b.0; ruled = b.1; follow = all_follow tags b.1 a.1 }

-- the test of a text says that it is one
text-utf8 : (bytes : List ℕ) (least most : ℕ) → is_text least most bytes ≡ true → is_utf8 bytes ≡ true
text-utf8 bytes least most h =
    let a = and_parts (is_utf8 bytes && nat_le least (length (chars bytes))) (nat_le (length (chars bytes)) most) h in
    (and_parts (is_utf8 bytes) (nat_le least (length (chars bytes))) a.0).0

-- ---- a set among any tags

short_all : (tags : List Tag) → list_all is_tag tags ≡ true → ShortAll tags
short_all [] ruled = tt
short_all (tag ∷ tags) ruled =
    let r = and_parts (is_tag tag) (list_all is_tag tags) ruled in
    let t = tag_is tag r.0 in
    ((omega (arith, t.key), omega (arith, t.value)), short_all tags r.1)

pub set_law : Reads (tags_at allowed.Lawful) tags_bytes (λ tags. is_tag_set tags ≡ true)
set_law =
    Reads-as (tags_law allowed.Lawful)
    (λ tags stand. set_from_all tags stand.few stand.follow)
    (λ tags ruled. let set = set_is tags ruled in record { few = set.few; follow = set.follow; short = short_all tags set.ruled })

follow_any : (before : Option Tag) (tags : List Tag) → FollowAll allowed.Lawful before tags → FollowAll allowed.Any before tags
follow_any before [] follow = tt
follow_any before (tag ∷ tags) follow =
    let key = and_parts (rises_above before tag.key) (is_tag_key tag.key) follow.0.0 in (
      (and_from (rises_above before tag.key) (is_utf8 tag.key) key.0 (text-utf8 tag.key 1 128 key.1), text-utf8 tag.value 0 256 follow.0.1),
      follow_any (Some tag) tags follow.1,
    )

pub set_stands : (tags : List Tag) → is_tag_set tags ≡ true → Stand allowed.Any tags
set_stands tags ruled = let set = set_is tags ruled in record {
  few = omega (arith, set.few);
  follow = follow_any None tags set.follow;
  short =
      short_all tags set.ruled;
}

-- the lawful tags behind a count are a set
pub set_read : (u : Unread) (x : List Tag × Unread) → tags_at allowed.Lawful u ≡ Ok x → is_tag_set x.0 ≡ true
unfolding tags_at
set_read u x e =
    let count = bind_ok (byte_at 10 u) (λ count. tags_after allowed.Lawful count.0 None count.1) x e in
    let few = (byte_is 10 u count.0 count.1).few in
    let follow = tags_follow allowed.Lawful count.0.0 None count.0.1 x count.2 in
    set_from_all x.0 (omega (arith, follow.0, few)) follow.1

-- tags that pass the test are the set that was made of them
pub made_of : (passes : Bool) (fault : NameFault) (tags set : List Tag) → passes ≡ true → Ok set ≡ cond passes (Ok tags) (Err fault) → set ≡ tags
made_of true fault tags set passed made = cc
made_of false fault tags set passed made = absurd cc

pub not_refused : (passes : Bool) (fault other : NameFault) (tags : List Tag) → passes ≡ true → Err other ≡ cond passes (Ok tags) (Err fault) → ⊥
not_refused true fault other tags passed made = cc
not_refused false fault other tags passed made = cc

-- The value of a tag set, and what it is read as.
use Rattle.std.proofs.Common.{◌≡◌, ◌≤◌, List, [], ◌∷◌, map, Bool, true, false, if◌then◌else◌, refl, ap, ◌∙◌, String, Vec, BTreeMap, Global, Some, Ok, Err, string_bytes, string_cmp, codes, arith}
use Rattle.std.proofs.Math.Nat.{max-le}
use Rattle.std.specs.BTreeMap.{insert_entry}
use Rattle.serde_json.specs.Data.{array, object, member, no_members, depth, items_depth}
use Rattle.serde_json.specs.Read.{read, max_depth}
use Rattle.serde_json.specs.View.{view, items_of, members_view}
use Rattle.serde_json.specs.Written.{has_float, items_have_float}
use Rattle.serde_json.specs.declared.value.Value.{Value, Array, Object}
use Rattle.serde_json.proofs.Views.{view-Array, view-Object}
use Rattle.s3r_names.specs.declared.tags.Tag.{Tag}
use Rattle.s3r_names.specs.Tags.{is_tag_set, in_key_order}
use Rattle.s3r_names.proofs.TagLaws.{set-in_key_order, set-is_tag_list}
use Rattle.s3r_json.specs.declared.fault.BodyFault.TheVariants.{InvalidTag}
use Rattle.s3r_json.specs.Bodies.{of_value}
use Rattle.s3r_json.specs.Members.{only_in}
use Rattle.s3r_json.specs.Tags.{tag_in, item_tags, tags_in, tag_data, tag_list_data, tags_data, set_of, set_of_read, tags_body}
use Rattle.s3r_json.proofs.Readings.{printed_value}

items_no_float : (tags : List Tag) → items_have_float (items_of (map tag_data tags)) ≡ false
items_no_float [] = refl
items_no_float (tag ∷ tags) = items_no_float tags

pub no_float : (tags : List Tag) → has_float (tags_data tags) ≡ false
no_float tags = rw (items_no_float tags) refl

items_flat : (tags : List Tag) → items_depth (items_of (map tag_data tags)) ≤ 1
items_flat [] = omega arith
items_flat (tag ∷ tags) = max-le (omega arith) (items_flat tags)

pub flat : (tags : List Tag) → depth (tags_data tags) ≤ max_depth
flat tags = let items = items_flat tags in omega arith

pub listed : (list : Vec Value Global) (tags : List Tag) → map view list.items ≡ map tag_data tags → view (Array list) ≡ tag_list_data tags
listed list tags items = view-Array list ∙ ap (λ ds. array (items_of ds)) items

pub made : (m : BTreeMap (String Global) Value) (k : String Global) (list : Value) (tags : List Tag)
    → m.entries ≡ insert_entry string_cmp [] k list → string_bytes k ≡ codes "TagSet" → view list ≡ tag_list_data tags → view (Object m) ≡ tags_data tags
made m k list tags entries name items =
    view-Object m ∙ ap (λ es. object (members_view es)) entries ∙ (λ i. object (member (name i) (items i) no_members))

pub tag_back : (tag : Tag) → tag_in (tag_data tag) ≡ Some tag
unfolding tag_in
tag_back tag = refl

pub items_back : (tags : List Tag) → item_tags (items_of (map tag_data tags)) ≡ Some tags
items_back [] = refl
items_back (tag ∷ tags) = rw (tag_back tag, items_back tags) refl

pub tags_back : (tags : List Tag) → tags_in (tags_data tags) ≡ Some tags
unfolding only_in
tags_back tags = items_back tags

set_again : (tags : List Tag) → is_tag_set tags ≡ true → set_of tags ≡ Ok tags
set_again tags h = ap (λ (t : Bool). if t then Ok (in_key_order tags) else Err InvalidTag) (set-is_tag_list tags h) ∙ ap Ok (set-in_key_order tags h)

-- a set that was printed is read as this set
pub set_back : (tags : List Tag) (text : String Global) → is_tag_set tags ≡ true → read (string_bytes text) ≡ Some (tags_data tags)
    → tags_body (string_bytes text) ≡ Ok tags
set_back tags text h was =
    ap (of_value (λ d. set_of_read (tags_in d))) (printed_value text (tags_data tags) was) ∙ ap set_of_read (tags_back tags) ∙ set_again tags h

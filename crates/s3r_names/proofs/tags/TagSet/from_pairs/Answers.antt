use Rattle.std.proofs.Common.{◌≡◌, ◌∙◌, ◌++◌, ℕ, List, length, take, drop, Ok, Err, if◌then◌else◌, refl, ap, arith}
use Rattle.std.proofs.lemmas.List.{append-nil, take_all, drop_all}
use Rattle.s3r_names.specs.Tags.{is_tag_set, is_tag_list, in_key_order}
use Rattle.s3r_names.specs.declared.tags.Tag.{Tag}
use Rattle.s3r_names.proofs.TagLaws.{in_key_order-set}
use Rattle.s3r_names.proofs.tags.TagSet.from_pairs.Goals as goal

read_in_order : {E : Type 0} (fault : E) (tags now : List Tag) → now ≡ in_key_order tags
    → (if is_tag_set now then Ok now else Err fault) ≡ (if is_tag_list tags then Ok (in_key_order tags) else Err fault)
read_in_order fault tags now e = rw (e, in_key_order-set tags) refl

whole : (now tags : List Tag) (len : ℕ) → length now ≡ length tags → length tags ≡ len → take len (now ++ drop (length now) tags) ≡ now
whole now tags len same all =
    let none = drop_all (length now) tags (omega arith) in
    rw (none, append-nil now) (take_all len now (omega arith))

pub returns : goal.returns
returns c =
    let kept = whole c.put_in_order.new.tags c.args.pairs.items c.args.pairs.len (omega arith) (omega (arith, c.args.pairs.ok.0)) in
    c.from_tags.ensures ∙ read_in_order _ c.args.pairs.items _ (kept ∙ c.put_in_order.ensures ∙ ap in_key_order c.deref_mut.ensures.value)

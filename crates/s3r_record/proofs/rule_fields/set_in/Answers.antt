use Rattle.std.proofs.Common.{◌≡◌, Bool, true, false, cond, List, Some, None, Ok, Err, refl, sym, subst}
use Rattle.s3r_names.specs.Tags.{is_tag_set}
use Rattle.s3r_names.specs.declared.fault.NameFault.{NameFault}
use Rattle.s3r_names.specs.declared.tags.Tag.{Tag}
use Rattle.s3r_record.specs.ReadingTexts.{passed}
use Rattle.s3r_record.proofs.rule_fields.set_in.Goals as goal

none : (passes : Bool) (fault other : NameFault) (tags : List Tag) → Err other ≡ cond passes (Ok tags) (Err fault) → cond passes (Some tags) None ≡ None
none true fault other tags made = absurd cc
none false fault other tags made = refl

pub returns-in-Err : goal.returns-in-Err
returns-in-Err c =
    let tags = c.into_vec.result.items in
    sym (subst (λ (tags : List Tag). passed is_tag_set tags ≡ None) c.into_vec.ensures (none (is_tag_set tags) _ c.in-Err.field-0 tags c.in-Err.ensures))

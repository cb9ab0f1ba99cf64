use Rattle.std.proofs.Common.{Some, sym, ap, ◌∙◌, option_map}
use Rattle.serde_json.proofs.Views.{members_len-members_view}
use Rattle.serde_json.specs.Events.{members_len}
use Rattle.s3r_api.proofs.location.member_count.Goals as goal

pub returns : goal.returns
returns c =
    let e = rw c.in_ok-members.was at c.as_object.ensures in
    ap Some (c.len.ensures.len ∙ sym (members_len-members_view _)) ∙ ap (option_map members_len) e

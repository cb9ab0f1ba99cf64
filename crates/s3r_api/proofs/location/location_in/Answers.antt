use Rattle.std.proofs.Common.{Some, sym, ap, ◌∙◌, option_map}
use Rattle.s3r_api.proofs.Locations.{one_text}
use Rattle.s3r_api.proofs.location.location_in.Goals as goal

pub returns-then-count-eq1 : goal.returns-then-count-eq1
returns-then-count-eq1 c =
    let count = sym c.member_count.ensures ∙ c.in_ok-count.was ∙ ap Some c.if-count-eq1.true in
    let text = sym c.text_at.ensures ∙ ap (option_map (λ s. s.now)) c.in_ok-text.was in
    sym (one_text _ _ count text)

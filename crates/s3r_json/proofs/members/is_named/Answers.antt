use Rattle.std.proofs.Common.{◌≡◌, ℕ, List, Bor, sym, ◌∙◌, rules}
use Rattle.std.specs.List.{list_any}
use Rattle.std.specs.Str.{bytes_eq}
use Rattle.s3r_json.proofs.Lists.{list_any-map}
use Rattle.s3r_json.proofs.members.is_named.Goals as goal

pub returns : goal.returns
returns c =
    let found : c.contains.result ≡ list_any (λ (name : Bor (List ℕ)). bytes_eq name.now c.args.key.now) c.args.names.now = search rules in
    found ∙ sym (list_any-map (λ name. bytes_eq name c.args.key.now) _ c.args.names.now)

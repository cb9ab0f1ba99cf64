-- What is read of a body is a configuration.
use Rattle.std.proofs.Common.{◌≡◌, ℕ, true, List, Result, Ok, Err, IfOk}
use Rattle.s3r_json.specs.Bodies.{body_value}
use Rattle.s3r_rules.specs.declared.fault.ConfigFault.{ConfigFault}
use Rattle.s3r_rules.specs.Faults.{or_malformed}
use Rattle.s3r_rules.specs.Rules.{is_config}
use Rattle.s3r_rules.specs.Reading.{config_from}
use Rattle.s3r_rules.proofs.Growing.{ok-bind, drafts_lawful}
use Rattle.s3r_rules_json.specs.Drafts.{drafts_in}
use Rattle.s3r_rules_json.specs.Reading.{config_in, config_body}

abbrev Any : {X : Type 0} → X → Type 0
Any x = Unit {0}

any : {X : Type 0} (r : Result X ConfigFault) → IfOk r Any
any (Ok x) = tt
any (Err fault) = tt

pub body_lawful : (body : List ℕ) → IfOk (config_body body) (λ rules. is_config rules ≡ true)
body_lawful body =
    ok-bind Any (λ rules. is_config rules ≡ true) (or_malformed (body_value body)) config_in (any (or_malformed (body_value body)))
    (λ value t. ok-bind Any (λ rules. is_config rules ≡ true) (drafts_in value) config_from (any (drafts_in value)) (λ drafts u. drafts_lawful drafts))

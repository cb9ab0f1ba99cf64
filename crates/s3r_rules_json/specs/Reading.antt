-- What a body is read as.
use Rattle.std.specs.Prelude.{ℕ, List, Result}
use Rattle.serde_json.specs.Data.{Data}
use Rattle.s3r_json.specs.Bodies.{body_value}
use Rattle.s3r_rules.specs.declared.fault.ConfigFault.{ConfigFault}
use Rattle.s3r_rules.specs.declared.rule.Rule.{Rule}
use Rattle.s3r_rules.specs.Faults.{◌>>=◌, or_malformed}
use Rattle.s3r_rules.specs.Reading.{config_from}
use Rattle.s3r_rules_json.specs.Drafts.{drafts_in}

-- the configuration of a value: its form, then what is wrong first
abbrev pub config_in : Data → Result (List Rule) ConfigFault
config_in value = drafts_in value >>= config_from

-- the configuration that a body is
abbrev pub config_body : List ℕ → Result (List Rule) ConfigFault
config_body body = or_malformed (body_value body) >>= config_in

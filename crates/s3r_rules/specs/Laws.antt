-- What is true of every configuration.
use Rattle.std.specs.Prelude.{◌≡◌, ◌≤◌, ℕ, true, List, length, filter}
use Rattle.s3r_rules.specs.declared.rule.Rule.{Rule}
use Rattle.s3r_rules.specs.Rules.{is_config}
use Rattle.s3r_rules.specs.Choice.{Write, fits, is_choice}

-- at most one rule decides
abbrev pub OneDecides : Type 0
OneDecides = (rules : List Rule) (to : List ℕ) (write : Write) → is_config rules ≡ true → length (filter (is_choice (fits to write) rules) rules) ≤ 1

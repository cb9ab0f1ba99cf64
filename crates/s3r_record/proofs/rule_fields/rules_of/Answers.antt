use Rattle.std.proofs.Common.{◌≡◌, true, refl, sym}
use Rattle.s3r_rules.specs.Rules.{is_config}
use Rattle.s3r_record.specs.Reading.{unread}
use Rattle.s3r_record.specs.ReadingRules.{rules_at}
use Rattle.s3r_record.proofs.ConfigLaws.{config_read, made_of, not_refused}
use Rattle.s3r_record.proofs.rule_fields.rules_of.Goals as goal

pub unreachable-requires : goal.unreachable-requires
unreachable-requires c =
    let rules = c.in_ok-rules.rules.items in
    let passed : is_config rules ≡ true =
    config_read (unread c.args.left) (unread c.in_ok-count.rest) (unread c.in_ok-rules.rest)
    c.in_ok-count.count rules c.in_ok-rules.regions.items c.in_ok-count.ensures c.in_ok-rules.ensures in
    not_refused (is_config rules) rules passed (sym c.in-None.ensures)

pub returns : goal.returns
unfolding rules_at
returns c =
    let rules = c.in_ok-rules.rules.items in
    let passed : is_config rules ≡ true =
    config_read (unread c.args.left) (unread c.in_ok-count.rest) (unread c.in_ok-rules.rest)
    c.in_ok-count.count rules c.in_ok-rules.regions.items c.in_ok-count.ensures c.in_ok-rules.ensures in
    let same : c.in-Some.config ≡ rules = made_of (is_config rules) rules c.in-Some.config passed c.in-Some.ensures in
    rw (c.in_ok-count.ensures, c.in_ok-rules.ensures, same, c.from_vec.ensures) refl

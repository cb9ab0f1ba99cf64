use Rattle.s3r_versions.proofs.Pages.{lists_in_order, lists_those, lists_each, pages_follow}
use Rattle.s3r_versions.proofs.laws.pages_are_complete.Goals as goal

pub returns-clause-in_order : goal.returns-clause-in_order
returns-clause-in_order g c = λ prefix place rows up. lists_in_order prefix place rows up

pub returns-clause-those : goal.returns-clause-those
returns-clause-those g c = λ prefix place rows row. lists_those prefix place rows row

pub returns-clause-each : goal.returns-clause-each
returns-clause-each g c = λ prefix place limit rows row up inside. lists_each prefix place limit rows row up inside

pub returns-clause-follow : goal.returns-clause-follow
returns-clause-follow g c = λ prefix place limit more rows front last up once h. pages_follow prefix place limit more rows front last up once h

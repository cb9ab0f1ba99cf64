use Rattle.std.proofs.Common.{ap, sym, subst, ◌∙◌}
use Rattle.std.proofs.result.Match.{if_ok_then}
use Rattle.s3r_rules.specs.Destinations.{destinations, rise, AreBuckets}
use Rattle.s3r_rules.proofs.Naming.{rising, complete}
use Rattle.s3r_rules.proofs.buckets.destinations.Goals as goal

pub returns-clause-rising : goal.returns-clause-rising
returns-clause-rising c = if_ok_then c.names_of.result _ _ (λ names e. ap rise e ∙ rising c.as_slice.result.now) c.names_of.ensures

pub returns-clause-complete : goal.returns-clause-complete
returns-clause-complete c =
    let all = ap destinations c.as_slice.ensures.listed in
    if_ok_then c.names_of.result _ _ (λ names e. subst (AreBuckets c.args.config.now) (sym (e ∙ all)) (complete c.args.config.now)) c.names_of.ensures

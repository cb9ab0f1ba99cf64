use Rattle.s3r_routes.specs.Places.{seen}
use Rattle.s3r_api.proofs.Requests.{reads-at, fits, problems}
use Rattle.s3r_api.proofs.request.to_request.Goals as goal

pub returns-in-Some-clause-fits : goal.returns-in-Some-clause-fits
returns-in-Some-clause-fits c = fits c.args.raw.now _ _ c.request_at.ensures (reads-at c.args.raw.now (seen c.in-Some.place))

pub returns-in-Some-clause-problems : goal.returns-in-Some-clause-problems
returns-in-Some-clause-problems c = problems c.args.raw.now _ _ c.request_at.ensures (reads-at c.args.raw.now (seen c.in-Some.place))

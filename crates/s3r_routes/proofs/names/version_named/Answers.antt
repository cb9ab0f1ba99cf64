use Rattle.std.proofs.Common.{sym, refl}
use Rattle.s3r_routes.proofs.Ids.{named, none-named}
use Rattle.s3r_routes.proofs.names.version_named.Goals as goal

pub returns-in-Some : goal.returns-in-Some
returns-in-Some c = sym (named c.args.id.now c.in-Some.id c.in-Some.ensures.found.0 c.in-Some.ensures.found.1)

pub returns-in-None : goal.returns-in-None
returns-in-None c = sym (none-named c.args.id.now _ refl c.in-None.ensures.only)

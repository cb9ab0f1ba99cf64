use Rattle.s3r_routes.proofs.Patterns.{all_free}
use Rattle.s3r_routes.proofs.routes.Routes.new.Goals as goal

pub add_all-requires : goal.add_all-requires
add_all-requires c = rw (c.patterns.ensures, c.new-router.ensures) all_free

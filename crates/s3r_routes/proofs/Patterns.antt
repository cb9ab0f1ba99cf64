-- The patterns are well formed, and no two conflict.
use Rattle.std.proofs.Common.{[], refl}
use Rattle.matchit.proofs.OnLiterals.{matchit_on_literals}
use Rattle.s3r_routes.specs.Paths.{all_patterns, AreFree}

pub all_free : AreFree all_patterns []
unfolding matchit_on_literals
all_free = (refl, (refl, (refl, (refl, (refl, (refl, (refl, (refl, (refl, (refl, (refl, (refl, (refl, tt)))))))))))))

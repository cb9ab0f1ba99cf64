use Rattle.s3r_versions.proofs.Pages.{SoFar}
use Rattle.s3r_versions.proofs.listing.page_from.Given as goal

abbrev pub invariant-loop-place : goal.invariant-loop-place
invariant-loop-place g l = SoFar l.prefix l.rows l.start l.limit l.entries.items l.place

use Rattle.std.proofs.Common.{◌<◌, Option, IfSome, subst}
use Rattle.s3r_desk.specs.declared.bucket_location.BucketLocation.{BucketLocation}
use Rattle.s3r_desk.proofs.object.delete_object.Goals as goal

pub returns-in-Some-version-clause-fits : goal.returns-in-Some-version-clause-fits
returns-in-Some-version-clause-fits c = λ n within. c.removal.ensures.fits n
    (subst (λ (o : Option BucketLocation). IfSome o (λ (h : BucketLocation). h.region < n)) c.in-Some.is within)

-- Texts that are ARNs, and texts that are none.
use Rattle.std.proofs.Common.{◌≡◌, Some, None, refl, codes}
use Rattle.std.specs.Str.{is_utf8, chars}
use Rattle.s3r_names.specs.Arn.{arn_of}
use Rattle.s3r_names.specs.declared.arn.Arn.TheVariants.{Bucket, Object}

bucket : arn_of (codes "arn:aws:s3:::abc") ≡ Some (Bucket (codes "abc"))
bucket = refl

-- the first slash ends the name
object : arn_of (codes "arn:aws:s3:::abc/d/e") ≡ Some (Object (codes "abc") (codes "d/e"))
unfolding is_utf8 chars lib.Utf8.encode
object = refl

no_key : arn_of (codes "arn:aws:s3:::abc/") ≡ None
no_key = refl

no_name : arn_of (codes "arn:aws:s3:::") ≡ None
no_name = refl

name_alone : arn_of (codes "abc") ≡ None
name_alone = refl

two_colons : arn_of (codes "arn:aws:s3::abc") ≡ None
two_colons = refl

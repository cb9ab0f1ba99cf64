-- Bytes that are a bucket's name, and bytes that are none.
use Rattle.std.proofs.Common.{◌≡◌, true, false, refl, replicate, codes}
use Rattle.s3r_names.specs.Bucket.{is_bucket_name}

shortest : is_bucket_name (codes "abc") ≡ true
shortest = refl

too_short : is_bucket_name (codes "ab") ≡ false
too_short = refl

adjacent_dots : is_bucket_name (codes "a..b") ≡ false
adjacent_dots = refl

address : is_bucket_name (codes "192.168.5.4") ≡ false
address = refl

short_address : is_bucket_name (codes "1.2.3.4") ≡ false
short_address = refl

three_numbers : is_bucket_name (codes "1.2.3") ≡ true
three_numbers = refl

longer_number : is_bucket_name (codes "1234.1.1.1") ≡ true
longer_number = refl

reserved : is_bucket_name (codes "v20180820") ≡ false
reserved = refl

dash_first : is_bucket_name (codes "-ab") ≡ false
dash_first = refl

dot_last : is_bucket_name (codes "ab.") ≡ false
dot_last = refl

capital : is_bucket_name (codes "aBc") ≡ false
capital = refl

longest : is_bucket_name (replicate 63 97) ≡ true
longest = refl

too_long : is_bucket_name (replicate 64 97) ≡ false
too_long = refl

-- The order of stamps.
use Rattle.std.specs.Prelude.{Bool, nat_lt, ◌==◌, ◌&&◌, ◌||◌}
use Rattle.s3r_names.specs.declared.stamp.Stamp.{Stamp}

-- by n, then by region, then by index
abbrev pub is_before : Stamp → Stamp → Bool
is_before a b = nat_lt a.n b.n || (a.n == b.n && (nat_lt a.region b.region || (a.region == b.region && nat_lt a.index b.index)))

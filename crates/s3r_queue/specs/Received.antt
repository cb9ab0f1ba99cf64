-- What was received last from each region.
use Rattle.std.specs.Prelude.{ℕ, ◌==◌, nat_lt, List, Option, Some, None, if◌then◌else◌, slice_index_or}
use Rattle.s3r_queue.specs.declared.inbox.Noted.{Noted}
use Rattle.s3r_queue.specs.declared.inbox.Arrival.{Arrival}
use Rattle.s3r_queue.specs.declared.inbox.Arrival.TheVariants as arrivals

-- the number that was received last, 0 where nothing was
abbrev pub watermark_of : Option Noted → ℕ
watermark_of None = 0
watermark_of (Some last) = last.number

-- a number above the last is new; the last one comes again, to what it came to; a lesser one is behind
abbrev pub arrival_of : Option Noted → ℕ → Arrival
arrival_of None number = arrivals.New
arrival_of (Some last) number =
    if nat_lt last.number number then arrivals.New
    else (if number == last.number then arrivals.Again last.outcome else arrivals.Behind last.number)

-- the last that was received from a region
abbrev pub last_from : List (Option Noted) → ℕ → Option Noted
last_from noted region = slice_index_or noted region None

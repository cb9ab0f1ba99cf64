-- What a received effect changes of its bucket.
use Rattle.std.specs.Prelude.{ℕ, Some}
use Rattle.s3r_record.specs.declared.effect.Effect.TheVariants as effects
use Rattle.s3r_history.specs.Past.{Carried}
use Rattle.s3r_history.specs.Deeds.{version, marker, first_stamp}
use Rattle.s3r_region.specs.declared.change.Change.{Change}
use Rattle.s3r_region.specs.declared.change.Change.TheVariants as change

-- of an effect of region s, where the command that receives it has this index
abbrev pub change_by : ℕ → ℕ → Carried → Change
change_by place s (effects.Replica from to key id n tags tags_stamp hold hold_stamp class body) = change.Receive
    (record (version (first_stamp id n) key tags hold class body) {
      place = place;
      tags_stamp = tags_stamp;
      hold_stamp = hold_stamp;
      origin = Some (record { region = s; bucket = from });
    })
change_by place s (effects.Marker from to key id n) = change.Receive
    (record (marker (first_stamp id n) key) { place = place; origin = Some (record { region = s; bucket = from }) })
change_by place s (effects.Tags from to key id tags stamp) = change.Tags key id tags stamp
change_by place s (effects.Hold from to key id hold stamp) = change.Hold key id hold stamp

-- What the code's writes stand for.
use Rattle.s3r_region.specs.declared.prescribing.Written.{Written}
use Rattle.s3r_region.specs.declared.prescribing.Written.TheVariants as written
use Rattle.s3r_region.specs.Prescribing as said

abbrev pub seen : Written → said.Written
seen (written.Version row) = said.version row.now
seen (written.Marker row) = said.marker row.now
seen (written.Tags row tags stamp) = said.tags row.now tags.now stamp
seen (written.Hold row hold stamp) = said.hold row.now hold stamp

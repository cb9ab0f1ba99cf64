-- What the code's writes stand for.
use Rattle.s3r_rules.specs.declared.choice.Write.{Write}
use Rattle.s3r_rules.specs.declared.choice.Write.TheVariants as write
use Rattle.s3r_rules.specs.Choice as asked

abbrev pub seen : Write → asked.Write
seen (write.Put key tags) = asked.put key.now tags.now
seen (write.Marker key) = asked.marker key.now
seen (write.Meta key) = asked.meta key.now

use Rattle.std.proofs.Common.{length, ap, ◌∙◌}
use Rattle.s3r_desk.specs.Lookups.{views_of}
use Rattle.s3r_desk.specs.Steps.{location, regions_of}
use Rattle.s3r_desk.proofs.PlacedRules.{is_command}
use Rattle.s3r_desk.proofs.replication.set_replication.Goals as goal

pub returns-clause-fits : goal.returns-clause-fits
returns-clause-fits c = λ n within. (
  within,
  is_command (length c.args.stores.now) (views_of c.args.stores.now) c.args.name c.args.config c.from_vec.result c.requires.few c.requires.fits.0
      c.requires.fits.1 c.requires.fits.2 c.are_texts-texts.ensures.texts
      (c.from_vec.ensures ∙ c.in_ok-regions.ensures ∙ ap (regions_of (location (length c.args.stores.now) (views_of c.args.stores.now)))
      c.as_slice.ensures.listed),
)

use Rattle.s3r_journal.proofs.Windows.{covers_here}
use Rattle.s3r_journal.proofs.window.Window.reach.Goals as goal

pub returns-then-has-clause-covers : goal.returns-then-has-clause-covers
returns-then-has-clause-covers g c = λ told.
    covers_here c.args.v c.args.at c.args.count c.args.self.now (g.W.World.outside c.args.world.now) (c.requires.shows told) (c.has.ensures.has c.if-has.true)

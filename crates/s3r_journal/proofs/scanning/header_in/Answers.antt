use Rattle.s3r_journal.proofs.Pieces.{header_right, header_wrong}
use Rattle.s3r_journal.proofs.scanning.header_in.Goals as goal

pub returns-then-eq : goal.returns-then-eq
returns-then-eq c = λ bytes covers. header_right c.args.region c.args.front.now bytes covers c.if-front-lt16.false c.if-front-ne1.false c.if-eq.ensures

pub returns-else-eq : goal.returns-else-eq
returns-else-eq c = λ bytes covers. header_wrong c.args.region c.args.front.now bytes covers c.if-front-lt16.false c.if-front-ne1.false c.if-eq.ensures

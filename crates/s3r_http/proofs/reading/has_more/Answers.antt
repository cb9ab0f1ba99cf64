use Rattle.std.proofs.Common.{ap, arith, length, length-append}
use Rattle.s3r_http.proofs.reading.has_more.Goals as goal

pub returns-then-len-gt0-clause-more : goal.returns-then-len-gt0-clause-more
returns-then-len-gt0-clause-more g c = λ told none.
    omega (arith, c.len.ensures, c.if-len-gt0.true, ap length none, length-append c.args.buffer.now (g.W.World.outside c.args.world.now).input)

use Rattle.std.proofs.Common.{ap, Ok}
use Rattle.s3r_json.specs.Bodies.{of_value}
use Rattle.s3r_json.proofs.Readings.{value_of, no_value}
use Rattle.s3r_json.proofs.body.read_value.Goals as goal

pub returns-in-Ok : goal.returns-in-Ok
returns-in-Ok c = ap (of_value Ok) (value_of c.args.body.now _ c.in-Ok.ensures.ok)

pub returns-in_default : goal.returns-in_default
returns-in_default c = ap (of_value Ok) (no_value c.args.body.now (c.in-Err.ensures.err
    (λ memory. c.in_default.not-Memory (c.classify.ensures.memory.1 memory))))

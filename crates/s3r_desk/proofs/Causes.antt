-- A cause, told by a caller.
use Rattle.std.proofs.Common.{ℕ, ◌≤◌, Err, arith}
use Rattle.s3r_world.specs.declared.world.Side.TheVariants as side
use Rattle.s3r_world.specs.Outside.{Counts, NoneFalls}
use Rattle.s3r_world.specs.Moments.{rises_after}
use Rattle.s3r_desk.specs.declared.fault.DeskFault.{DeskFault}
use Rattle.s3r_desk.specs.declared.fault.DeskFault.TheVariants as faults
use Rattle.s3r_desk.specs.Responds.{HasCause}

pub cause_wider : (A B : Type 0) (m n : ℕ) (e : DeskFault) (a b d : Counts) → m ≤ n → NoneFalls a b → HasCause {A = A} m (Err e) b d
    → HasCause {A = B} n (Err e) a d
cause_wider A B m n (faults.Volume v) a b d le falls cause = (
  omega (arith, le, cause.0),
  rises_after 1 (side.Volume v) a b d falls cause.1,
)
cause_wider A B m n (faults.Full v) a b d le falls cause = omega (arith, le, cause)
cause_wider A B m n (faults.Damaged v offset) a b d le falls cause = omega (arith, le, cause)
cause_wider A B m n (faults.Disagree from to sent last settled received) a b d le falls cause = tt
cause_wider A B m n faults.OutOfMemory a b d le falls cause = tt

-- What a commit to one store of several is told as, and what it leaves of the store.
use Rattle.std.specs.Prelude.{◌≡◌, ℕ, List, Some, Result, Ok, Err}
use Rattle.s3r_record.specs.declared.command.Command.{Command}
use Rattle.s3r_history.specs.Words.{History}
use Rattle.s3r_history.specs.Accepts.{refusal}
use Rattle.s3r_store.specs.declared.fault.StoreFault.{StoreFault}
use Rattle.s3r_store.specs.declared.fault.StoreFault.TheVariants as store
use Rattle.s3r_store.specs.declared.store.Store.{Store}
use Rattle.s3r_store.specs.Knows.{IsStoreAfter}
use Rattle.s3r_desk.specs.declared.committing.Committed.{Committed}
use Rattle.s3r_desk.specs.declared.committing.Committed.TheVariants as committed
use Rattle.s3r_desk.specs.declared.fault.DeskFault.{DeskFault}
use Rattle.s3r_desk.specs.declared.fault.DeskFault.TheVariants as faults
use Rattle.s3r_desk.specs.Happened.{StoreHas, GoesOnAt}

-- how a store's answer to a commit is told
abbrev pub told_as : Result ℕ StoreFault → Result Committed DeskFault
told_as (Ok index) = Ok (committed.At index)
told_as (Err (store.Refused why)) = Ok (committed.Refused why)
told_as (Err (store.Full v)) = Err (faults.Full v)
told_as (Err (store.Volume v)) = Err (faults.Volume v)
told_as (Err (store.Damaged v offset)) = Err (faults.Damaged v offset)
told_as (Err store.OutOfMemory) = Err faults.OutOfMemory

-- where the command was refused, each history that the store's state is after refuses it so
abbrev pub IsRefusedAt : List Store → ℕ → Command → Result Committed DeskFault → Type 0
IsRefusedAt stores r c (Ok (committed.At index)) = Unit {0}
IsRefusedAt stores r c (Ok (committed.Refused why)) =
    StoreHas (λ s. (h : History) → IsStoreAfter s h → refusal s.regions s.v h c ≡ Some why) stores r
IsRefusedAt stores r c (Err (faults.Volume v)) = Unit {0}
IsRefusedAt stores r c (Err (faults.Full v)) = Unit {0}
IsRefusedAt stores r c (Err (faults.Damaged v offset)) = Unit {0}
IsRefusedAt stores r c (Err (faults.Disagree from to sent last settled received)) = Unit {0}
IsRefusedAt stores r c (Err faults.OutOfMemory) = Unit {0}

-- where it was committed, the store's state went on to be after it
abbrev pub GoesOnWhere : List Store → List Store → ℕ → Command → Result Committed DeskFault → Type 0
GoesOnWhere a b r c (Ok (committed.At index)) = GoesOnAt a b r c
GoesOnWhere a b r c (Ok (committed.Refused why)) = Unit {0}
GoesOnWhere a b r c (Err (faults.Volume v)) = Unit {0}
GoesOnWhere a b r c (Err (faults.Full v)) = Unit {0}
GoesOnWhere a b r c (Err (faults.Damaged v offset)) = Unit {0}
GoesOnWhere a b r c (Err (faults.Disagree from to sent last settled received)) = Unit {0}
GoesOnWhere a b r c (Err faults.OutOfMemory) = Unit {0}

-- A volume that is damaged behind a history.
use Rattle.std.proofs.Common.{◌≡◌, ℕ, List, [], ◌∷◌, ◌++◌, Err, refl, sym, ◌∙◌, subst}
use Rattle.s3r_journal.specs.Volume.{Front}
use Rattle.s3r_journal.specs.declared.scanning.ScanFault.{ScanFault}
use Rattle.s3r_journal.specs.declared.scanning.ScanFault.TheVariants as scan
use Rattle.s3r_journal.specs.Scan.{one_record, finding, Answers, ReadsOn, IsReadTo}
use Rattle.s3r_journal.proofs.Fronts.{front_begins}
use Rattle.s3r_history.specs.Words.{History}
use Rattle.s3r_history.specs.Accepts.{IsLawful}
use Rattle.s3r_region.specs.Contents.{Contents}
use Rattle.s3r_region.specs.After.{IsAfter}
use Rattle.s3r_store.specs.declared.fault.StoreFault.{StoreFault}
use Rattle.s3r_store.specs.declared.fault.StoreFault.TheVariants as faults
use Rattle.s3r_store.specs.Stands.{spelled, IsWrong}
use Rattle.s3r_store.specs.Faults.{fault_of_scan}
use Rattle.s3r_store.specs.Reads.{IsDamage, TakesIn}
use Rattle.s3r_store.proofs.Histories.{accepted_as, next_command}

module _ (n v from : ℕ) (bytes : List ℕ) (h : History) (lawful : IsLawful n v h) (read : IsReadTo v (spelled h) from bytes) where
  -- the scan of the next record says so
  pub scan_damage : (e : ScanFault) → Answers (finding v from bytes) (Err e) → ReadsOn v (spelled h) from bytes (Err e) → IsDamage n v bytes (fault_of_scan e)
  scan_damage (scan.Volume u) answer reads = tt
  scan_damage (scan.Damaged u offset) answer reads = (
    record { h = h; at = from; lawful = lawful; read = read; wrong = subst (IsWrong n v h from offset) (sym answer) refl },
    λ k stands. reads (spelled k) stands.stands,
  )
  scan_damage scan.OutOfMemory answer reads = tt

  -- the next record is of no command that is accepted
  pub command_damage : (A : Type 0) (s t : List ℕ) (next : ℕ) (old new : Contents) (e : StoreFault) → t ≡ s → finding v from bytes ≡ one_record s next
      → Front v (spelled h ++ s ∷ []) next bytes → IsAfter old h → old.regions ≡ n → old.region ≡ v → TakesIn {A = A} v from t (Err e) old new
      → IsDamage n v bytes e
  command_damage A s t next old new (faults.Refused f) same found front after regions region takes = absurd takes
  command_damage A s t next old new (faults.Full u) same found front after regions region takes = absurd takes
  command_damage A s t next old new (faults.Volume u) same found front after regions region takes = absurd takes
  command_damage A s t next old new (faults.Damaged u offset) same found front after regions region takes = (
    record {
      h = h;
      at = from;
      lawful = lawful;
      read = read;
      wrong = subst (IsWrong n v h from offset) (sym found)
          (takes.1, λ c fits is accepted. takes.2 h after c fits (same ∙ is) (accepted_as _ _ _ _ h c (sym regions) (sym region) accepted));
    },
    λ k stands.
        let rest = front_begins v bytes (spelled h ++ s ∷ []) (spelled k) next front stands.stands in
        let c = next_command n v k h s rest.0 stands.lawful lawful rest.1 in
        takes.2 h after c.0 c.1 (same ∙ c.3) (accepted_as _ _ _ _ h c.0 (sym regions) (sym region) c.2),
  )
  command_damage A s t next old new faults.OutOfMemory same found front after regions region takes = tt

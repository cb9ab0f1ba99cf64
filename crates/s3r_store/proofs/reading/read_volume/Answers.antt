use Rattle.std.proofs.Common.{◌≡◌, ℕ, List, [], ◌∷◌, ◌++◌, Ok, Err, Result, inr, sym, ◌∙◌, ap, subst, arith}
use Rattle.std.proofs.lemmas.Result.{err_from_is_err_and}
use Rattle.s3r_world.specs.Image.{Image}
use Rattle.s3r_world.specs.Moments.{looks_then, shape_then, falls_then}
use Rattle.s3r_record.specs.Spelling.{spelling}
use Rattle.s3r_journal.specs.declared.scanning.Scanned.{Scanned}
use Rattle.s3r_journal.specs.declared.scanning.ScanFault.{ScanFault}
use Rattle.s3r_journal.specs.Volume.{Front}
use Rattle.s3r_journal.specs.Scan.{ReadsOn}
use Rattle.s3r_store.specs.Stands.{spelled}
use Rattle.s3r_store.specs.Faults.{fault_of_scan}
use Rattle.s3r_store.specs.Reads.{IsDamage}
use Rattle.s3r_store.proofs.Histories.{accepted_as}
use Rattle.s3r_store.proofs.Damaged.{scan_damage, command_damage}
use Rattle.s3r_store.proofs.reading.read_volume.Goals as goal

abbrev told_of : Scanned → Result Scanned ScanFault
told_of s = Ok s

abbrev fault_told : ScanFault → Result Scanned ScanFault
fault_told e = Err e

pub returns-in_err-scan_in-clause-damage : goal.returns-in_err-scan_in-clause-damage
returns-in_err-scan_in-clause-damage g c = λ told.
    let p = err_from_is_err_and c.from_residual-in_err-scan_in.result c.from_residual-in_err-scan_in.ensures.1 in
    let known = c.records.invariant.known in
    let v = c.args.v in
    let e = c.in_err-scan_in.field-0.0 in
    let scans = c.in_err-scan_in.ensures.told told in
    let same = ap (λ (i : Image). i.volume c.args.v) (c.records.invariant.told told).as_read in
    let reads =
    subst (λ (l : List ℕ). ReadsOn c.args.v (spelled known.0) c.records.from l (fault_told c.in_err-scan_in.field-0.0))
    (ap (λ (i : Image). i.volume c.args.v) scans.looks.as_read) (scans.reads (spelled known.0) (known.4 told)) in
    rw (p.1, p.2)
    (subst (λ (l : List ℕ). IsDamage c.args.regions c.args.v l (fault_of_scan c.in_err-scan_in.field-0.0)) same
    (scan_damage c.args.regions v c.records.from _ known.0 known.2 (known.4 told) e scans.answer reads))

pub returns-in-End-clause-few : goal.returns-in-End-clause-few
returns-in-End-clause-few g c =
    let known = c.records.invariant.known in
    let at = rw c.in-End.is at c.in_ok-scan_in.ensures.next in
    omega (arith, at, known.1.commands, known.3)

pub returns-in_err-take_in-in-Record-clause-damage : goal.returns-in_err-take_in-in-Record-clause-damage
returns-in_err-take_in-in-Record-clause-damage g c = λ told.
    let p = err_from_is_err_and c.from_residual-in_err-take_in-in-Record.result c.from_residual-in_err-take_in-in-Record.ensures.1 in
    let known = c.records.invariant.known in
    let scans = c.in_ok-scan_in.ensures.told told in
    let same = ap (λ (i : Image). i.volume c.args.v) (c.records.invariant.told told).as_read in
    let answer = rw c.in-Record.is at scans.answer in
    let reads = rw c.in-Record.is at (scans.reads (spelled known.0) (known.4 told)) in
    let front = subst (λ (l : List ℕ). Front c.args.v (spelled known.0 ++ c.in-Record.bytes.items ∷ []) c.in-Record.next l)
    (ap (λ (i : Image). i.volume c.args.v) scans.looks.as_read) reads in
    rw (p.1, p.2) (subst (λ (l : List ℕ). IsDamage c.args.regions c.args.v l c.in_err-take_in-in-Record.field-0.0) same
    (command_damage c.args.regions c.args.v c.records.from _ known.0 known.2 (known.4 told)
    (Unit {0}) c.in-Record.bytes.items _ c.in-Record.next _ _ c.in_err-take_in-in-Record.field-0.0 c.deref.ensures.value answer front known.1
    c.records.invariant.regions c.records.invariant.region c.in_err-take_in-in-Record.ensures.told))

pub records-preserved : goal.records-preserved
records-preserved g c =
    let known = c.records.invariant.known in
    let takes = c.in_ok-take_in-in-Record.ensures.told in
    let one = takes.0 known.0 known.1 in
    let next = rw c.in-Record.is at c.in_ok-scan_in.ensures.next in
    let spelled_so : c.in-Record.bytes.items ≡ spelling one.command = sym c.deref.ensures.value ∙ one.spelled in
    record {
      known = (
        one.command ∷ known.0,
        one.after,
        (one.fits, accepted_as _ _ _ _ known.0 one.command c.records.invariant.regions c.records.invariant.region one.accepted, known.2),
        omega (arith, next.0, known.3),
        λ told.
            let reads = rw c.in-Record.is at ((c.in_ok-scan_in.ensures.told told).reads (spelled known.0) (known.4 told)) in
            let bytes = (g.W.World.outside c.scan_in.new.world).as_read.volume c.args.v in
            inr (subst (λ (s : List ℕ). Front c.args.v (spelled known.0 ++ s ∷ []) c.in-Record.next bytes) spelled_so reads),
      );
      region = takes.1 ∙ c.records.invariant.region;
      regions = takes.2 ∙ c.records.invariant.regions;
      shows = λ told. c.in_ok-scan_in.ensures.shows told;
      told = λ told. looks_then _ _ _ (c.records.invariant.told told) (c.in_ok-scan_in.ensures.told told).looks;
      counts = falls_then _ _ _ c.records.invariant.counts c.in_ok-scan_in.ensures.counts;
      goes = g.met.W.World.goes_then _ _ _ c.records.invariant.goes c.in_ok-scan_in.ensures.goes;
      shape = shape_then _ _ _ c.records.invariant.shape c.in_ok-scan_in.ensures.shape;
    }

pub returns-in-End-clause-known : goal.returns-in-End-clause-known
returns-in-End-clause-known g c = λ told.
    let known = c.records.invariant.known in
    let scans = c.in_ok-scan_in.ensures.told told in
    let ready = rw c.in-End.is at scans.permits in
    let reads = rw c.in-End.is at (scans.reads (spelled known.0) (known.4 told)) in (
      known.0,
      record {
        after = known.1;
        region = c.records.invariant.region;
        regions = c.records.invariant.regions;
        lawful = known.2;
        volume = (ready, reads.1, reads.2);
      },
    )

use Rattle.std.proofs.Common.{◌≡◌, ◌+◌, ℕ, List, ◌∷◌, length, true, false, Result, Err, Some, unwrap_or, sym, ◌∙◌, ap, subst, ⊎_elim, arith}
use Rattle.std.proofs.lemmas.Bool.{cases_lt}
use Rattle.std.proofs.lemmas.Result.{err_from_is_err_and}
use Rattle.s3r_record.specs.Spelling.{spelling}
use Rattle.s3r_record.proofs.Lengths.{spelling_short, meets_limits}
use Rattle.s3r_journal.specs.declared.writing.AppendFault.{AppendFault}
use Rattle.s3r_journal.specs.declared.writing.AppendFault.TheVariants as append
use Rattle.s3r_store.specs.Writes.{Written}
use Rattle.s3r_store.specs.Knows.{IsAtEnd}
use Rattle.s3r_store.specs.Stands.{spelled}
use Rattle.s3r_store.proofs.Histories.{accepted_as}
use Rattle.s3r_store.proofs.Frames.{frame_length, frame_is, is_frame}
use Rattle.s3r_store.proofs.Committed.{commits, commits_nothing, commit_failed, end_after, length_is, denied}
use Rattle.s3r_store.proofs.loaded_region.LoadedRegion.write_down.Goals as goal

pub encode-requires : goal.encode-requires
encode-requires g c = meets_limits c.args.command.now c.requires.fits

pub write-requires-clause-frame : goal.write-requires-clause-frame
write-requires-clause-frame g c = is_frame (spelling c.args.command.now) _ (c.deref.ensures.value ∙ c.in_ok-frame.ensures.framed)
    (spelling_short c.args.command.now c.requires.fits)

pub returns-in_err-accepts-clause-told : goal.returns-in_err-accepts-clause-told
returns-in_err-accepts-clause-told g c = λ told h n knows.
    let p = err_from_is_err_and c.from_residual.result c.from_residual.ensures.1 in
    rw (p.1, p.2) (denied (Unit {0}) n c.args.v _ _ h c.args.command.now c.in_err-accepts.field-0.0 knows.regions knows.region
    (c.in_err-accepts.ensures h knows.after) _ _ _)

pub returns-in_err-frame-clause-told : goal.returns-in_err-frame-clause-told
returns-in_err-frame-clause-told g c = λ told h n knows.
    let p = err_from_is_err_and c.from_residual-in_err-frame.result c.from_residual-in_err-frame.ensures.1 in
    rw (p.1, p.2) (
      accepted_as _ _ _ _ h c.args.command.now knows.regions knows.region (c.in_ok-accepts.ensures h knows.after),
      commits_nothing n c.args.v c.args.self.now.end h c.args.command.now (g.W.World.outside c.args.world.now) knows.volume knows.lawful,
    )

one_fault : (a b : AppendFault) → (let failed : AppendFault → Result ℕ AppendFault = λ e. Err e in failed a ≡ failed b) → a ≡ b
one_fault a b e = cc

pub returns-in_err-end-clause-told : goal.returns-in_err-end-clause-told
returns-in_err-end-clause-told g c = λ told h n knows.
    let p = err_from_is_err_and c.from_residual-in_err-end.result c.from_residual-in_err-end.ensures.1 in
    let old = g.W.World.outside c.args.world.now in
    let new = g.W.World.outside c.write.new.world in
    let whole = c.deref.ensures.value ∙ c.in_ok-frame.ensures.framed in
    let is = frame_is (spelling c.args.command.now) _ whole in
    let size = length_is c.args.v c.args.self.now.end h c.args.command.now old c.deref.result.now knows.volume whole in
    let accepted = accepted_as _ _ _ _ h c.args.command.now knows.regions knows.region (c.in_ok-accepts.ensures h knows.after) in
    rw (p.1, p.2) (commit_failed n c.args.v h c.args.command.now _ old new c.in_err-end.field-0.0 _ accepted c.in_err-end.ensures.fault
    (λ passes. omega (arith, size, c.in_err-end.ensures.full.0 (ap (λ e. Err e) passes)))
    (λ fault. ⊎_elim
    (λ lt. absurd (let no : append.Volume c.args.v ≡ append.VolumeFull c.args.v =
    sym fault ∙ one_fault _ _ (c.in_err-end.ensures.full.1 (omega (arith, size, lt))) in cc))
    (λ le. le)
    (cases_lt _ _))
    (commits n c.args.v c.args.self.now.end h c.args.command.now old new knows.volume knows.lawful c.requires.fits accepted false
    (subst (λ (s : List ℕ). Written c.args.v c.args.self.now.end s false old new) is (c.in_err-end.ensures.told told))))

pub returns-clause-told : goal.returns-clause-told
returns-clause-told g c = λ told h n knows.
    let old = g.W.World.outside c.args.world.now in
    let new = g.W.World.outside c.write.new.world in
    let whole = c.deref.ensures.value ∙ c.in_ok-frame.ensures.framed in
    let is = frame_is (spelling c.args.command.now) _ whole in
    let size = length_is c.args.v c.args.self.now.end h c.args.command.now old c.deref.result.now knows.volume whole in
    let accepted = accepted_as _ _ _ _ h c.args.command.now knows.regions knows.region (c.in_ok-accepts.ensures h knows.after) in
    let written = subst (λ (s : List ℕ). Written c.args.v c.args.self.now.end s true old new) is (c.in_ok-end.ensures.told told) in
    let end : unwrap_or c.args.self.now.end 16 + length (spelling c.args.command.now) + 5 ≡ c.in_ok-end.end =
    omega (arith, frame_length (spelling c.args.command.now) _ whole, c.in_ok-end.ensures.end) in (
      accepted,
      omega (arith, size, c.in_ok-end.ensures.fits, c.in_ok-end.ensures.end),
      subst (λ (e : ℕ). IsAtEnd c.args.v (Some e) (spelled (c.args.command.now ∷ h)) new) end
          (end_after n c.args.v c.args.self.now.end h c.args.command.now old new knows.volume knows.lawful c.requires.fits accepted written),
      commits n c.args.v c.args.self.now.end h c.args.command.now old new knows.volume knows.lawful c.requires.fits accepted true written,
    )

pub returns-clause-later : goal.returns-clause-later
returns-clause-later g c = omega (
  arith,
  c.in_ok-end.ensures.end,
  frame_length (spelling c.args.command.now) _
      (c.deref.ensures.value ∙ c.in_ok-frame.ensures.framed),
)

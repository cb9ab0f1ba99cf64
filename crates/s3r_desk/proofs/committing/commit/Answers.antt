use Rattle.std.proofs.Common.{◌≡◌, ℕ, length, sym, ◌∙◌, subst, arith}
use Rattle.s3r_world.specs.Outside.{Looks}
use Rattle.s3r_store.specs.Commits.{IsCause}
use Rattle.s3r_store.specs.Stores.{StoreCommits}
use Rattle.s3r_desk.proofs.Places.{get_at}
use Rattle.s3r_desk.proofs.Stepping.{looks_none}
use Rattle.s3r_desk.proofs.Keeps.{numbered_set}
use Rattle.s3r_desk.proofs.CommitsMade.{denied_so, holds_here, commits_one}
use Rattle.s3r_desk.proofs.OneStore.{left_set}
use Rattle.s3r_desk.proofs.OneCommit.{undamaged, cause_told, refused_told, goes_on_told, tied_told, told_undamaged}
use Rattle.s3r_desk.proofs.committing.commit.Goals as goal

pub commit-requires-clause-read : goal.commit-requires-clause-read
commit-requires-clause-read g c =
    let s = c.index_mut.result.now in
    c.requires.read s (get_at c.args.stores.now.items c.args.region s (omega arith) c.index_mut.ensures.value)

pub commit-requires-clause-volume : goal.commit-requires-clause-volume
commit-requires-clause-volume g c =
    let s = c.index_mut.result.now in
    let at = get_at c.args.stores.now.items c.args.region s (omega arith) c.index_mut.ensures.value in
    omega (arith, c.requires.numbered.v c.args.region s at)

pub commit-requires-clause-region : goal.commit-requires-clause-region
commit-requires-clause-region g c =
    let s = c.index_mut.result.now in
    let at = get_at c.args.stores.now.items c.args.region s (omega arith) c.index_mut.ensures.value in
    omega (arith, c.requires.numbered.v c.args.region s at)

pub commit-requires-clause-tied : goal.commit-requires-clause-tied
commit-requires-clause-tied g c = λ told.
    let s = c.index_mut.result.now in
    c.requires.tied told c.args.region s (get_at c.args.stores.now.items c.args.region s (omega arith) c.index_mut.ensures.value)

pub told_as-requires : goal.told_as-requires
told_as-requires g c = undamaged c.index_mut.result.now.v c.commit.result _ _ c.commit.ensures.cause

pub returns-clause-told : goal.returns-clause-told
returns-clause-told g c = λ told before h keeps is.
    let s = c.index_mut.result.now in
    let at = get_at c.args.stores.now.items c.args.region s (omega arith) c.index_mut.ensures.value in
    let number : s.v ≡ c.args.region = c.requires.numbered.v c.args.region s at in
    let regions = c.requires.numbered.regions c.args.region s at in
    let n = length c.args.stores.now.items in
    let old = g.W.World.outside c.args.world.now in
    let new = g.W.World.outside c.commit.new.world in
    let read = c.requires.read s at in
    let holds = holds_here before n c.args.region h c.args.command 0 c.args.stores.now.items s old (omega arith) at number regions keeps is read in
    rw c.told_as.ensures (commits_one before n c.args.region h c.args.command ((g.W.World.shape c.args.world.now).room c.args.region)
    c.args.stores.now.items s old (omega arith) at number regions keeps is read c.commit.new.self new (c.commit.ensures.v ∙ number)
    (c.commit.ensures.regions ∙ regions) c.commit.result (g.W.World.faults c.args.world.now) (g.W.World.faults c.commit.new.world)
    (subst (λ (m : ℕ). StoreCommits s.regions m h c.args.command c.commit.result ((g.W.World.shape c.args.world.now).room m) s c.commit.new.self old new)
    number (c.commit.ensures.told told h holds))
    (denied_so c.commit.result _ _ (λ same. (subst (λ w. Looks old (g.W.World.outside w)) (sym same.1) (looks_none old), same.0)) c.commit.ensures.denied)
    (subst (λ (m : ℕ). IsCause m c.commit.result (g.W.World.faults c.args.world.now) (g.W.World.faults c.commit.new.world)) number c.commit.ensures.cause))

pub returns-clause-refused : goal.returns-clause-refused
returns-clause-refused g c =
    let s = c.index_mut.result.now in
    let at = get_at c.args.stores.now.items c.args.region s (omega arith) c.index_mut.ensures.value in
    rw c.told_as.ensures (refused_told c.args.stores.now.items c.args.region s c.commit.new.self c.args.command (omega arith) at c.commit.result
    c.commit.ensures.refused)

pub returns-clause-goes_on : goal.returns-clause-goes_on
returns-clause-goes_on g c =
    let s = c.index_mut.result.now in
    let at = get_at c.args.stores.now.items c.args.region s (omega arith) c.index_mut.ensures.value in
    rw c.told_as.ensures (goes_on_told c.args.stores.now.items c.args.region s c.commit.new.self c.args.command (omega arith) at c.commit.result
    (c.requires.read s at) c.commit.ensures.after)

pub returns-clause-others : goal.returns-clause-others
returns-clause-others g c = left_set c.args.stores.now.items c.args.region c.commit.new.self

pub returns-clause-numbered : goal.returns-clause-numbered
returns-clause-numbered g c =
    let s = c.index_mut.result.now in
    let at = get_at c.args.stores.now.items c.args.region s (omega arith) c.index_mut.ensures.value in
    numbered_set c.args.stores.now.items c.args.region s c.commit.new.self (omega arith) at c.commit.ensures.v c.commit.ensures.regions c.requires.numbered

pub returns-clause-tied : goal.returns-clause-tied
returns-clause-tied g c = λ told.
    let s = c.index_mut.result.now in
    let at = get_at c.args.stores.now.items c.args.region s (omega arith) c.index_mut.ensures.value in
    let old = g.W.World.outside c.args.world.now in
    let new = g.W.World.outside c.commit.new.world in
    tied_told c.args.stores.now.items c.args.region s c.commit.new.self c.args.command (omega arith) at old new c.requires.numbered (c.requires.tied told)
    c.commit.ensures.v c.commit.ensures.regions ((g.W.World.shape c.args.world.now).room s.v) c.commit.result (c.requires.read s at)
    (c.commit.ensures.told told)
    (denied_so c.commit.result _ _ (λ same. (subst (λ w. Looks old (g.W.World.outside w)) (sym same.1) (looks_none old), same.0)) c.commit.ensures.denied)

pub returns-clause-cause : goal.returns-clause-cause
returns-clause-cause g c =
    let s = c.index_mut.result.now in
    let at = get_at c.args.stores.now.items c.args.region s (omega arith) c.index_mut.ensures.value in
    rw c.told_as.ensures (cause_told s.v (length c.args.stores.now.items) c.commit.result (g.W.World.faults c.args.world.now)
    (g.W.World.faults c.commit.new.world) (omega (arith, c.requires.numbered.v c.args.region s at)) c.commit.ensures.cause)

pub returns-clause-undamaged : goal.returns-clause-undamaged
returns-clause-undamaged g c =
    rw c.told_as.ensures (told_undamaged c.commit.result (undamaged c.index_mut.result.now.v c.commit.result _ _ c.commit.ensures.cause))

-- A store of a volume that is left alone.
use Rattle.std.proofs.Common.{ℕ, List, Option, Some, None, sym, subst}
use Rattle.s3r_world.specs.Outside.{Outside}
use Rattle.s3r_journal.specs.Volume.{StandsTo}
use Rattle.s3r_journal.specs.Leaves.{Leaves}
use Rattle.s3r_journal.proofs.Elsewhere.{ready_left, vacant_left}
use Rattle.s3r_history.specs.Words.{History}
use Rattle.s3r_store.specs.declared.loaded_region.LoadedRegion.{LoadedRegion}
use Rattle.s3r_store.specs.Knows.{IsAtEnd, Knows}

at_end_left : (v : ℕ) (end : Option ℕ) (hs : List (List ℕ)) (a b : Outside) → Leaves v a b → IsAtEnd v end hs a → IsAtEnd v end hs b
at_end_left v None hs a b left at = (at.0, vacant_left v a b left at.1)
at_end_left v (Some end) hs a b left at = (ready_left v a b left end at.0, at.1, subst (λ (l : List ℕ). StandsTo v at.1 hs end l) (sym left.as_read) at.2)

pub knows_left : (n v : ℕ) (held : LoadedRegion) (h : History) (a b : Outside) → Leaves v a b → Knows n v held h a → Knows n v held h b
knows_left n v held h a b left knows = record {
  after = knows.after;
  region = knows.region;
  regions = knows.regions;
  lawful = knows.lawful;
  volume =
      at_end_left v held.end _ a b left knows.volume;
}

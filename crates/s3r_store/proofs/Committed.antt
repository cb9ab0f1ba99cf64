-- What was written, as a commit behind a history.
use Rattle.std.proofs.Common.{◌≡◌, ◌⊎◌, ℕ, ◌+◌, ◌≤◌, ◌<◌, Bool, true, false, List, [], ◌∷◌, ◌++◌, length, Option, Some, None, unwrap_or, Err, refl, inl, inr, ⊎_elim, sym, ap, subst, arith}
use Rattle.s3r_world.specs.Image.{Image, OnVolume, Reached}
use Rattle.s3r_world.specs.Outside.{Outside}
use Rattle.s3r_world.specs.Moments.{elapses_none, elapses_weaker, on_weaker}
use Rattle.s3r_record.specs.declared.command.Command.{Command}
use Rattle.s3r_record.specs.Spelling.{spelling, frame, IsCommand}
use Rattle.s3r_journal.specs.Volume.{header, records, StandsTo, Stands, IsEmptyVolume}
use Rattle.s3r_history.specs.Words.{History}
use Rattle.s3r_history.specs.Accepts.{refusal, IsLawful}
use Rattle.s3r_store.specs.Stands.{spelled, StandsFor, KeepsFormat}
use Rattle.s3r_store.proofs.Formats.{format_none, format_empty, format_made, format_kept}
use Rattle.s3r_store.specs.Writes.{DoesWrite, MayWrite, Written}
use Rattle.s3r_store.specs.Knows.{IsAtEnd, Knows}
use Rattle.s3r_journal.specs.declared.writing.AppendFault.{AppendFault}
use Rattle.s3r_journal.specs.declared.writing.AppendFault.TheVariants as append
use Rattle.s3r_store.specs.declared.loaded_region.LoadedRegion.{LoadedRegion}
use Rattle.s3r_region.specs.declared.state.Deny.{Deny}
use Rattle.s3r_region.specs.declared.state.Deny.TheVariants as deny
use Rattle.s3r_region.specs.Denies.{Accepts}
use Rattle.s3r_store.specs.Faults.{fault_of_append, fault_of_deny}
use Rattle.s3r_store.specs.Commits.{IsEither, IsWith, Commits, HasWritten, length_with}

-- bytes that stand for these spellings up to this end, or are empty
abbrev pub AtEnd : ℕ → Option ℕ → List (List ℕ) → List ℕ → Type 0
AtEnd v None hs bytes = (hs ≡ []) × IsEmptyVolume bytes
AtEnd v (Some end) hs bytes = (format : ℕ) × StandsTo v format hs end bytes

pub at_end_of : (v : ℕ) (end : Option ℕ) (hs : List (List ℕ)) (w : Outside) → IsAtEnd v end hs w → AtEnd v end hs (w.as_read.volume v)
at_end_of v None hs w at = (at.0, at.1.empty)
at_end_of v (Some end) hs w at = (at.1, at.2)

pub stable_at : (v : ℕ) (end : Option ℕ) (hs : List (List ℕ)) (w : Outside) → IsAtEnd v end hs w → (c : Image) → w.images c → c.volume v ≡ w.as_read.volume v
stable_at v None hs w at = at.1.stable
stable_at v (Some end) hs w at = at.0.stable

-- each image stands for them
image_at : (v : ℕ) (end : Option ℕ) (hs : List (List ℕ)) (w : Outside) → IsAtEnd v end hs w → (c : Image) → w.images c → AtEnd v end hs (c.volume v)
image_at v end hs w at c now = subst (AtEnd v end hs) (sym (stable_at v end hs w at c now)) (at_end_of v end hs w at)

pub stands_at : (v : ℕ) (end : Option ℕ) (hs : List (List ℕ)) (bytes : List ℕ) → AtEnd v end hs bytes → Stands v hs bytes
stands_at v None hs bytes at = inl (at.1, at.0)
stands_at v (Some end) hs bytes at = inr (end, at.0, at.1)

either : (v : ℕ) (end : Option ℕ) (hs : List (List ℕ)) (s x y : List ℕ) → AtEnd v end hs x → MayWrite v end s x y → Stands v hs y ⊎ Stands v (hs ++ s ∷ []) y
either v None hs s x y at may = ⊎_elim
    (λ empty. inl (inl (empty, at.0)))
    (λ made. ⊎_elim
    (λ none. inl (inr (16, 1, subst (λ (k : List (List ℕ)). StandsTo v 1 k 16 y) (sym at.0) none)))
    (λ one. inr (inr (16 + length s + 5, 1, subst (λ (k : List (List ℕ)). StandsTo v 1 (k ++ s ∷ []) (16 + length s + 5) y) (sym at.0) one)))
    made)
    (may at.1)
either v (Some end) hs s x y at may =
    ⊎_elim (λ still. inl (inr (end, at.0, still))) (λ with. inr (inr (end + length s + 5, at.0, with))) (may v at.0 hs at.1)

-- where the volume ends then
with_record : (v : ℕ) (end : Option ℕ) (hs : List (List ℕ)) (s x y : List ℕ) → AtEnd v end hs x → DoesWrite v end s x y →
    (format : ℕ) × StandsTo v format (hs ++ s ∷ []) (unwrap_or end 16 + length s + 5) y
with_record v None hs s x y at does = (1, subst (λ (k : List (List ℕ)). StandsTo v 1 (k ++ s ∷ []) (16 + length s + 5) y) (sym at.0) (does at.1))
with_record v (Some end) hs s x y at does = (at.0, does v at.0 hs at.1)

-- and its format
either_format : (v : ℕ) (end : Option ℕ) (hs : List (List ℕ)) (s x y : List ℕ) → AtEnd v end hs x → MayWrite v end s x y → KeepsFormat x y
either_format v None hs s x y at may =
    ⊎_elim (λ empty. format_empty x y at.1 empty)
    (λ made. ⊎_elim (λ none. format_made v 16 [] x y at.1 none) (λ one. format_made v _ _ x y at.1 one) made)
    (may at.1)
either_format v (Some end) hs s x y at may =
    ⊎_elim (λ still. format_kept v at.0 end end hs hs x y at.1 still) (λ with. format_kept v at.0 end _ hs _ x y at.1 with) (may v at.0 hs at.1)

with_format : (v : ℕ) (end : Option ℕ) (hs : List (List ℕ)) (s x y : List ℕ) → AtEnd v end hs x → DoesWrite v end s x y → KeepsFormat x y
with_format v None hs s x y at does = format_made v _ _ x y at.1 (does at.1)
with_format v (Some end) hs s x y at does = format_kept v at.0 end _ hs _ x y at.1 (does v at.0 hs at.1)

-- the place of the next record
pub end_is : (v : ℕ) (end : Option ℕ) (hs : List (List ℕ)) (w : Outside) → IsAtEnd v end hs w → length (header v 1 ++ records hs) ≡ unwrap_or end 16
end_is v None hs w at = ap (λ (k : List (List ℕ)). length (header v 1 ++ records k)) at.0
end_is v (Some end) hs w at = at.2.place

module _ (n v : ℕ) (end : Option ℕ) (h : History) (c : Command) (old new : Outside) (at : IsAtEnd v end (spelled h) old) (lawful : IsLawful n v h)
    (fits : IsCommand c) (accepted : refusal n v h c ≡ None) where
  on_either : (x y : Image) → AtEnd v end (spelled h) (x.volume v) → OnVolume v (MayWrite v end (spelling c)) x y → OnVolume v (IsEither n v h c) x y
  on_either x y was on = on_weaker v (MayWrite v end (spelling c)) (IsEither n v h c) x y
      (λ may. record {
        stands = ⊎_elim (λ still. inl (record { stands = still; lawful = lawful })) (λ with. inr (record { stands = with; lawful = (fits, accepted, lawful) }))
            (either v end (spelled h) (spelling c) (x.volume v) (y.volume v) was may);
        format = either_format v end (spelled h) (spelling c) (x.volume v) (y.volume v) was may;
      }) on

  on_with : (x y : Image) → AtEnd v end (spelled h) (x.volume v) → OnVolume v (DoesWrite v end (spelling c)) x y → OnVolume v (IsWith n v h c) x y
  on_with x y was on = on_weaker v (DoesWrite v end (spelling c)) (IsWith n v h c) x y
      (λ does.
      let now = with_record v end (spelled h) (spelling c) (x.volume v) (y.volume v) was does in
      record {
        stands = record { stands = inr (unwrap_or end 16 + length (spelling c) + 5, now.0, now.1); lawful = (fits, accepted, lawful) };
        format = with_format v end (spelled h) (spelling c) (x.volume v) (y.volume v) was does;
      }) on

  pub commits : (ok : Bool) → Written v end (spelling c) ok old new → Commits n v h c ok old new
  commits ok did = record {
    time = elapses_weaker old new (Reached (OnVolume v (MayWrite v end (spelling c))) old.images) (Reached (OnVolume v (IsEither n v h c)) old.images) did.time
        (λ x (m, was, on). (m, was, on_either m x (image_at v end (spelled h) old at m was) on));
    images = λ x now. let from = did.images x now in (from.0, from.1, on_either from.0 x (image_at v end (spelled h) old at from.0 from.1) from.2);
    as_read = on_either old.as_read new.as_read (at_end_of v end (spelled h) old at) did.as_read;
    done = λ t x now. let from = did.done t x now in (from.0, from.1, on_with from.0 x (image_at v end (spelled h) old at from.0 from.1) from.2);
    read = λ t. on_with old.as_read new.as_read (at_end_of v end (spelled h) old at) (did.read t);
    input = did.input;
  }

  pub end_after : Written v end (spelling c) true old new → IsAtEnd v (Some (unwrap_or end 16 + length (spelling c) + 5)) (spelled (c ∷ h)) new
  end_after did =
      let was = at_end_of v end (spelled h) old at in
      let now = with_record v end (spelled h) (spelling c) (old.as_read.volume v) (new.as_read.volume v) was (did.read refl).here in
      (did.ready refl, now.0, now.1)

still_either : (n v : ℕ) (end : Option ℕ) (h : History) (c : Command) (x : List ℕ) → AtEnd v end (spelled h) x → IsLawful n v h → IsEither n v h c x x
still_either n v end h c x at lawful = record { stands = inl (record { stands = stands_at v end (spelled h) x at; lawful = lawful }); format = format_none x }

-- nothing was done to a volume that stands for the history
pub commits_nothing : (n v : ℕ) (end : Option ℕ) (h : History) (c : Command) (w : Outside) → IsAtEnd v end (spelled h) w → IsLawful n v h
    → Commits n v h c false w w
commits_nothing n v end h c w at lawful = record {
  time = elapses_none w (Reached (OnVolume v (IsEither n v h c)) w.images);
  images = λ x now. (
    x,
    now,
    record { here = still_either n v end h c (x.volume v) (image_at v end (spelled h) w at x now) lawful; elsewhere = λ u ne. refl; output = refl },
  );
  as_read = record { here = still_either n v end h c (w.as_read.volume v) (at_end_of v end (spelled h) w at) lawful; elsewhere = λ u ne. refl; output = refl };
  done = λ t. cc;
  read = λ t. cc;
  input = record { input = refl; connections = refl };
}

-- each image of a commit that was made may be one of a commit in doubt
pub in_doubt : (n v : ℕ) (h : History) (c : Command) (old new : Outside) → Commits n v h c true old new → Commits n v h c false old new
in_doubt n v h c old new did = record { time = did.time; images = did.images; as_read = did.as_read; done = λ t. cc; read = λ t. cc; input = did.input }

-- so many bytes the volume would have with the command
pub length_is : (v : ℕ) (end : Option ℕ) (h : History) (c : Command) (w : Outside) (bytes : List ℕ) → IsAtEnd v end (spelled h) w → bytes ≡ frame (spelling c)
    → length_with v h c ≡ unwrap_or end 16 + 1 + length bytes
length_is v end h c w bytes at is = omega (arith, end_is v end (spelled h) w at, ap length is)

-- a frame that wasn't written
pub commit_failed : (n v : ℕ) (h : History) (c : Command) (room : ℕ) (old new : Outside) (e : AppendFault) (full : Type 0)
    → refusal n v h c ≡ None
    → (e ≡ append.VolumeFull v) ⊎ ((e ≡ append.Volume v) × full)
    → (e ≡ append.VolumeFull v → room < length_with v h c)
    → (e ≡ append.Volume v → length_with v h c ≤ room)
    → Commits n v h c false old new
    → HasWritten n v h c (Err (fault_of_append e)) room old new
commit_failed n v h c room old new (append.Volume u) full accepted why passes fits did = (accepted, fits (⊎_elim (λ is. absurd cc) (λ is. is.0) why), did)
commit_failed n v h c room old new (append.VolumeFull u) full accepted why passes fits did =
    (accepted, passes (⊎_elim (λ is. is) (λ is. let no : append.VolumeFull u ≡ append.Volume v = is.0 in absurd cc) why))

-- what a store knows of its volume's bytes
pub stands_for : (n v : ℕ) (held : LoadedRegion) (h : History) (w : Outside) → Knows n v held h w → StandsFor n v h (w.as_read.volume v)
stands_for n v held h w knows = record {
  stands = stands_at v held.end (spelled h) (w.as_read.volume v) (at_end_of v held.end (spelled h) w knows.volume);
  lawful = knows.lawful;
}

-- what the state refuses, the history of those numbers refuses
pub denied : (A : Type 0) (n v regions region : ℕ) (h : History) (c : Command) (d : Deny) → regions ≡ n → region ≡ v
    → Accepts {A = A} (refusal regions region h c) (Err d) → (room : ℕ) (old new : Outside)
    → HasWritten n v h c (Err (fault_of_deny d)) room old new
denied A n v regions region h c (deny.Refused f) is there refused room old new = subst (λ (k : ℕ). refusal k v h c ≡ Some f) is
    (subst (λ (k : ℕ). refusal regions k h c ≡ Some f) there refused)
denied A n v regions region h c deny.OutOfMemory is there refused room old new = absurd refused

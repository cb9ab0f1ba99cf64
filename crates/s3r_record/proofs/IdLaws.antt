-- The laws of an id and of a stamp: of each number in them, and of all.
use Rattle.std.proofs.Common.{◌≡◌, ℕ, ◌^◌, ◌<◌, ◌≤◌, cond, nat_le, List, [], ◌∷◌, ◌++◌, Ok, Err, refl, subst}
use Rattle.std.specs.Int.{w64, to_be_bytes}
use Rattle.std.proofs.lemmas.Bool.{leb-true, le-leb}
use Rattle.s3r_names.specs.Version.{IsVersionId}
use Rattle.s3r_record.specs.Fields.{id_bytes, stamp_bytes}
use Rattle.s3r_record.specs.Reading.{Unread, place, number_at}
use Rattle.s3r_record.specs.ReadingIds.{region_at, index_at, id_at, stamp_at}
use Rattle.s3r_record.specs.Spelling.{IsStamp}
use Rattle.s3r_record.proofs.ReaderLaws.{IsBytes, guard_passed, Takes, left, Reads, take_field}
use Rattle.s3r_record.proofs.FieldLaws.{wide64, number_law, byte_law}
use Rattle.s3r_record.proofs.SeveralFields.{take_then, take_end, again_then, again_end, reads}

pub region_law : Reads region_at (λ region. region ∷ []) (λ region. region ≤ 7)
unfolding region_at
region_law = byte_law 7

abbrev pub IsIndex : ℕ → Type 0
IsIndex n = (1 ≤ n) × (n < 2 ^ 64)

index_takes : (u : Unread) (x : ℕ × Unread) → IsBytes u.bytes → index_at u ≡ Ok x → Takes u.bytes (to_be_bytes w64 x.0) x.1.bytes × IsIndex x.0
unfolding index_at
index_takes u x fits e =
    let index = take_field (number_law w64 (2 ^ 64) wide64) (λ index. cond (nat_le 1 index.0) (Ok index) (Err (place u))) u x fits e in
    let g = guard_passed (nat_le 1 index.value) (place u) (index.value, index.rest) x index.gave in
    subst (λ (y : ℕ × Unread). Takes u.bytes (to_be_bytes w64 y.0) y.1.bytes × IsIndex y.0) g.1 (index.takes, (leb-true 1 index.value g.0, index.fits))

index_again : (whole index : ℕ) (rest : List ℕ) → IsIndex index → index_at (left whole (to_be_bytes w64 index ++ rest)) ≡ Ok (index, left whole rest)
unfolding index_at
index_again whole index rest is = rw ((number_law w64 (2 ^ 64) wide64).again whole index rest is.1, le-leb 1 index is.0) refl

pub index_law : Reads index_at (to_be_bytes w64) IsIndex
index_law = record { takes = index_takes; again = index_again }

pub id_law : Reads id_at id_bytes IsVersionId
unfolding id_at
id_law =
    reads
    (take_then _ region_law (λ region low. take_then _ index_law (λ index is. take_end (record { region = region; index = index })
    (record { region = low; above = is.0; below = is.1 }))))
    (λ id is. again_then _ region_law id.region is.region (again_then _ index_law id.index (is.above, is.below) (again_end id)))

-- eight bytes
pub eight_law : Reads (number_at w64) (to_be_bytes w64) (λ n. n < 2 ^ 64)
eight_law = number_law w64 (2 ^ 64) wide64

pub stamp_law : Reads stamp_at stamp_bytes IsStamp
unfolding stamp_at
stamp_law =
    reads
    (take_then _ eight_law (λ n wide. take_then _ region_law (λ region low. take_then _ index_law
    (λ index is. take_end (record { n = n; region = region; index = index }) (record { n = wide; region = low; above = is.0; below = is.1 })))))
    (λ stamp is. again_then _ eight_law stamp.n is.n (again_then _ region_law stamp.region is.region
    (again_then _ index_law stamp.index (is.above, is.below) (again_end stamp))))

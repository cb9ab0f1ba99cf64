-- Reading tags one after the other, as a loop does.
use Rattle.std.proofs.Common.{◌≡◌, ℕ, suc, ◌-◌, ◌+◌, ◌≤◌, ◌<◌, List, [], ◌∷◌, ◌++◌, length, Option, Some, Result, Ok, Err, refl, sym, ap, ◌∙◌, append_assoc, arith, length-append}
use Rattle.std.specs.List.{slice_get}
use Rattle.std.proofs.lemmas.List.{append-nil, get_or_push}
use Rattle.std.proofs.lemmas.Option.{slice_get-get_or}
use Rattle.s3r_names.specs.declared.tags.Tag.{Tag}
use Rattle.s3r_record.specs.declared.fault.RecordFault.{RecordFault}
use Rattle.s3r_record.specs.declared.fault.RecordFault.TheVariants as faults
use Rattle.s3r_record.specs.declared.tag_rule.TagRule.{TagRule}
use Rattle.s3r_record.specs.Reading.{◌>>=◌, Fails, Unread}
use Rattle.s3r_record.specs.ReadingTags.{tag_at, tags_after}

abbrev pub last_of : List Tag → Option Tag
last_of tags = slice_get tags (length tags - 1)

last_of-push : (tags : List Tag) (tag : Tag) → last_of (tags ++ tag ∷ []) ≡ Some tag
last_of-push tags tag =
    let place : length (tags ++ tag ∷ []) - 1 ≡ length tags = omega (arith, length-append tags (tag ∷ [])) in
    let inside : length tags < length (tags ++ tag ∷ []) = omega (arith, length-append tags (tag ∷ [])) in
    ap (slice_get (tags ++ tag ∷ [])) place ∙ slice_get-get_or (tags ++ tag ∷ []) (length tags) tag inside
    ∙ ap (λ (t : Tag). Some t) (get_or_push tags tag tag (length tags) refl)

-- what was read before, and what is still read
abbrev pub with_front : List Tag → Result (List Tag × Unread) ℕ → Result (List Tag × Unread) ℕ
with_front front read = read >>= λ x. Ok (front ++ x.0, x.1)

-- the tags that are left, of so many
abbrev pub go_on : TagRule → List Tag → ℕ → ℕ → Unread → Result (List Tag × Unread) ℕ
go_on rule tags count done left = with_front tags (tags_after rule (count - done) (last_of tags) left)

regroup : (front : List Tag) (tag : Tag) (read : Result (List Tag × Unread) ℕ)
    → with_front front (read >>= λ x. Ok (tag ∷ x.0, x.1)) ≡ with_front (front ++ tag ∷ []) read
regroup front tag (Ok x) = ap (λ (tags : List Tag). Ok (tags, x.1)) (simp append_assoc)
regroup front tag (Err place) = refl

pub goes_on : (rule : TagRule) (tags : List Tag) (count done : ℕ) (left : Unread) (tag : Tag) (after : Unread) (total : Result (List Tag × Unread) ℕ)
    → done < count
    → tag_at rule (last_of tags) left ≡ Ok (tag, after) → go_on rule tags count done left ≡ total → go_on rule (tags ++ tag ∷ []) count (done + 1) after ≡ total
unfolding tags_after
goes_on rule tags count done left tag after total lt read so_far =
    let more : count - done ≡ suc (count - (done + 1)) = omega arith in
    let one : go_on rule tags count done left ≡ with_front (tags ++ tag ∷ []) (tags_after rule (count - (done + 1)) (Some tag) after) =
    rw (more, read) (regroup tags tag (tags_after rule (count - (done + 1)) (Some tag) after)) in
    ap (λ before. with_front (tags ++ tag ∷ []) (tags_after rule (count - (done + 1)) before after)) (last_of-push tags tag) ∙ sym one ∙ so_far

pub ends : (fault : RecordFault) (rule : TagRule) (tags : List Tag) (count done : ℕ) (left : Unread) (total : Result (List Tag × Unread) ℕ) → done < count
    → Fails fault (tag_at rule (last_of tags) left) → go_on rule tags count done left ≡ total → Fails fault total
unfolding tags_after
ends faults.OutOfMemory rule tags count done left total lt fails so_far = tt
ends (faults.NotACommand place) rule tags count done left total lt fails so_far =
    let more : count - done ≡ suc (count - (done + 1)) = omega arith in
    let one : go_on rule tags count done left ≡ Err place = rw (more, fails) refl in
    sym so_far ∙ one

pub is_done : (rule : TagRule) (tags : List Tag) (count done : ℕ) (left : Unread) (total : Result (List Tag × Unread) ℕ) → count ≤ done
    → go_on rule tags count done left ≡ total → total ≡ Ok (tags, left)
unfolding tags_after
is_done rule tags count done left total le so_far =
    let none : count - done ≡ 0 = omega arith in
    let one : go_on rule tags count done left ≡ Ok (tags, left) = rw none (ap (λ (all : List Tag). Ok (all, left)) (append-nil tags)) in
    sym so_far ∙ one

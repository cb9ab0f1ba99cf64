use Rattle.std.proofs.Common.{◌≡◌, ℕ, List, ◌∷◌, ◌++◌, ap, ◌∙◌, append_assoc}
use Rattle.std.proofs.lemmas.Result.{on_ok_weaker}
use Rattle.s3r_record.specs.Fields.{text, body, flag, tags_bytes, id_bytes, number_bytes, stamp_bytes}
use Rattle.s3r_record.proofs.effect_encoding.write_effect.Goals as goal

-- a front, and two fields behind it
two : (kind : ℕ) (out front value stamp : List ℕ) → (out ++ (kind ∷ front)) ++ (value ++ stamp) ≡ out ++ (kind ∷ (front ++ value ++ stamp))
two kind out front value stamp = simp append_assoc

-- a front, and all of a Replica's fields behind it
seven : (kind : ℕ) (out front n t ts h hs c b : List ℕ) → (((out ++ (kind ∷ front)) ++ n) ++ (t ++ ts ++ h ++ hs)) ++ (c ++ b)
    ≡ out ++ (kind ∷ (front ++ n ++ t ++ ts ++ h ++ hs ++ c ++ b))
seven kind out front n t ts h hs c b = simp append_assoc

pub returns-in_ok-write_labels-in-Replica-clause-spelled : goal.returns-in_ok-write_labels-in-Replica-clause-spelled
returns-in_ok-write_labels-in-Replica-clause-spelled c =
    let e = c.in-Replica in
    let front = text e.from ++ text e.to ++ text e.key ++ id_bytes e.id in
    let n = number_bytes e.n in
    let labels = tags_bytes e.tags ++ stamp_bytes e.tags_stamp ++ flag e.hold ++ stamp_bytes e.hold_stamp in
    let contents = text e.class ++ body e.body in
    rw c.in-Replica.is (on_ok_weaker c.write_contents.result
    (λ h. h ∙ ap (λ (bytes : List ℕ). bytes ++ contents) (c.in_ok-write_labels-in-Replica.ensures.spelled
    ∙ ap (λ (bytes : List ℕ). bytes ++ labels) (c.in_ok-write_number-in-Replica.ensures
    ∙ ap (λ (bytes : List ℕ). bytes ++ n) c.in_ok-write_front-in-Replica.ensures.spelled))
    ∙ seven 1 c.args.out.now.items front n (tags_bytes e.tags) (stamp_bytes e.tags_stamp) (flag e.hold) (stamp_bytes e.hold_stamp) (text e.class) (body e.body))
    c.write_contents.ensures.spelled)

pub returns-in_ok-write_front-in-Tags-clause-spelled : goal.returns-in_ok-write_front-in-Tags-clause-spelled
returns-in_ok-write_front-in-Tags-clause-spelled c =
    let e = c.in-Tags in
    let front = text e.from ++ text e.to ++ text e.key ++ id_bytes e.id in
    rw c.in-Tags.is (on_ok_weaker c.write_stamped_tags.result
    (λ h. h ∙ ap (λ (bytes : List ℕ). bytes ++ (tags_bytes e.tags ++ stamp_bytes e.stamp)) c.in_ok-write_front-in-Tags.ensures.spelled
    ∙ two 3 c.args.out.now.items front (tags_bytes e.tags) (stamp_bytes e.stamp))
    c.write_stamped_tags.ensures.spelled)

pub returns-in_ok-write_front-in-Hold-clause-spelled : goal.returns-in_ok-write_front-in-Hold-clause-spelled
returns-in_ok-write_front-in-Hold-clause-spelled c =
    let e = c.in-Hold in
    let front = text e.from ++ text e.to ++ text e.key ++ id_bytes e.id in
    rw c.in-Hold.is (on_ok_weaker c.write_stamped_hold.result
    (λ h. h ∙ ap (λ (bytes : List ℕ). bytes ++ (flag e.hold ++ stamp_bytes e.stamp)) c.in_ok-write_front-in-Hold.ensures.spelled
    ∙ two 4 c.args.out.now.items front (flag e.hold) (stamp_bytes e.stamp))
    c.write_stamped_hold.ensures)

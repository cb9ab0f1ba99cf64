-- The laws of all commands: what is read is spelled so, and what is spelled so is read.
use Rattle.std.proofs.Common.{◌≡◌, ◌≤◌, ℕ, eqb, cond, List, [], ◌∷◌, ◌++◌, length, Result, Ok, Err, sym, ap, subst, ◌∙◌}
use Rattle.std.proofs.lemmas.Bool.{eqb-true}
use Rattle.std.proofs.lemmas.List.{append-nil, nil_from_length}
use Rattle.std.specs.Prelude.{IfOk}
use Rattle.s3r_record.specs.declared.fault.RecordFault.{RecordFault}
use Rattle.s3r_record.specs.declared.command.Command.{Command}
use Rattle.s3r_record.specs.declared.command.Command.TheVariants as command
use Rattle.s3r_record.specs.Spelling.{spelling, IsCommand}
use Rattle.s3r_record.specs.Reading.{◌>>=◌, Gives, Unread, place}
use Rattle.s3r_record.specs.Commands.{fields_at, command_at}
use Rattle.s3r_record.proofs.ReaderLaws.{IsBytes, IsBytes-rest, bind_ok, guard_passed, ok_is, left}
use Rattle.s3r_record.proofs.SeveralFields.{TakesBehind, ReadBehind, take_chosen, take_none}
use Rattle.s3r_record.proofs.BucketLaws.{create_bucket_takes, create_bucket_again, delete_bucket_takes, delete_bucket_again, set_versioning_takes, set_versioning_again}
use Rattle.s3r_record.proofs.ReplicationLaws.{set_replication_takes, set_replication_again, drop_replication_takes, drop_replication_again}
use Rattle.s3r_record.proofs.Ruled.{Ruled, ruled_is}
use Rattle.s3r_record.proofs.VersionLaws.{put_takes, put_again, marker_takes, marker_again, remove_takes, remove_again, set_tags_takes, set_tags_again, set_hold_takes, set_hold_again}
use Rattle.s3r_record.proofs.JobLaws.{create_job_takes, create_job_again, move_job_takes, move_job_again, set_priority_takes, set_priority_again}
use Rattle.s3r_record.proofs.JobLaws.{prepare_takes, prepare_again, line_takes, line_again, finish_takes, finish_again}
use Rattle.s3r_record.proofs.TaskLaws.{receive_takes, receive_again, settle_takes, settle_again, attempt_takes, attempt_again}

fields_take : (kind : ℕ) → TakesBehind spelling Ruled (kind ∷ []) (fields_at kind)
unfolding fields_at
fields_take kind =
    take_chosen 1 kind create_bucket_takes (
    take_chosen 2 kind delete_bucket_takes (
    take_chosen 3 kind set_versioning_takes (
    take_chosen 4 kind set_replication_takes (
    take_chosen 5 kind drop_replication_takes (
    take_chosen 6 kind put_takes (
    take_chosen 7 kind marker_takes (
    take_chosen 8 kind remove_takes (
    take_chosen 9 kind set_tags_takes (
    take_chosen 10 kind set_hold_takes (
    take_chosen 11 kind receive_takes (
    take_chosen 12 kind settle_takes (
    take_chosen 13 kind attempt_takes (
    take_chosen 14 kind create_job_takes (
    take_chosen 15 kind move_job_takes (
    take_chosen 16 kind set_priority_takes (
    take_chosen 17 kind prepare_takes (
    take_chosen 18 kind line_takes (
    take_chosen 19 kind finish_takes (
    take_none 0)))))))))))))))))))

-- what is read is spelled so
pub command_takes : (bytes : List ℕ) (c : Command) → IsBytes bytes → command_at bytes ≡ Ok c → Ruled c × (bytes ≡ spelling c)
unfolding command_at
command_takes [] c fits e = absurd cc
command_takes (kind ∷ fields) c fits e =
    let read = bind_ok (fields_at kind (left (length (kind ∷ fields)) fields))
    (λ read. cond (eqb (length read.1.bytes) 0) (Ok read.0) (Err (place read.1))) c e in
    let g = guard_passed (eqb (length read.0.1.bytes) 0) (place read.0.1) read.0.0 c read.2 in
    let taken = (fields_take kind).takes (left (length (kind ∷ fields)) fields) read.0 (IsBytes-rest kind fields fits) read.1 in
    let nothing : read.0.1.bytes ≡ [] = nil_from_length read.0.1.bytes (eqb-true _ _ g.0) in
    let all : (kind ∷ fields) ≡ spelling read.0.0 = taken.0.parts ∙ ap (λ (rest : List ℕ). spelling read.0.0 ++ rest) nothing
    ∙ append-nil (spelling read.0.0) in
    subst (λ (c : Command). Ruled c × ((kind ∷ fields) ≡ spelling c)) g.1 (taken.1, all)

-- A command at the front of bytes that go on behind it, as its byte and its fields.
abbrev front_at : ℕ → List ℕ → Result (Command × Unread) ℕ
front_at whole [] = Err 0
front_at whole (kind ∷ fields) = fields_at kind (left whole fields)

-- its spelling is read, and so is the front of what begins with it
record IsRead (c : Command) : Type 0 where
  pub all : command_at (spelling c) ≡ Ok c
  pub front : (whole : ℕ) (rest : List ℕ) → front_at whole (spelling c ++ rest) ≡ Ok (c, left whole rest)

-- fields that are read behind their command's byte are all of its spelling
is_read : (kind : ℕ) (c : Command) → ReadBehind spelling (kind ∷ []) c (fields_at kind) → IsRead c
unfolding command_at
is_read kind c behind =
    let whole = length (kind ∷ behind.after) in
    let fields : fields_at kind (left whole behind.after) ≡ Ok (c, left whole []) =
    ap (λ (bytes : List ℕ). fields_at kind (left whole bytes)) (sym (append-nil behind.after)) ∙ behind.again whole [] in
    record {
      all = ap command_at (sym behind.parts) ∙ ap (λ r. r >>= λ read. cond (eqb (length read.1.bytes) 0) (Ok read.0) (Err (place read.1))) fields;
      front = λ whole rest. ap (λ (bytes : List ℕ). front_at whole (bytes ++ rest)) (sym behind.parts) ∙ behind.again whole rest;
    }

reads_again : (c : Command) → IsCommand c → IsRead c
unfolding fields_at
reads_again (command.CreateBucket name locked) fits = is_read 1 (command.CreateBucket name locked) (create_bucket_again name locked fits)
reads_again (command.DeleteBucket name) fits = is_read 2 (command.DeleteBucket name) (delete_bucket_again name fits)
reads_again (command.SetVersioning name enabled) fits = is_read 3 (command.SetVersioning name enabled) (set_versioning_again name enabled fits)
reads_again (command.SetReplication name config regions) fits =
    is_read 4 (command.SetReplication name config regions) (set_replication_again name config regions fits)
reads_again (command.DropReplication name) fits = is_read 5 (command.DropReplication name) (drop_replication_again name fits)
reads_again (command.Put bucket key tags hold class bytes) fits =
    is_read 6 (command.Put bucket key tags hold class bytes) (put_again bucket key tags hold class bytes fits)
reads_again (command.Marker bucket key) fits = is_read 7 (command.Marker bucket key) (marker_again bucket key fits)
reads_again (command.Remove bucket key id) fits = is_read 8 (command.Remove bucket key id) (remove_again bucket key id fits)
reads_again (command.SetTags bucket key id tags) fits = is_read 9 (command.SetTags bucket key id tags) (set_tags_again bucket key id tags fits)
reads_again (command.SetHold bucket key id hold) fits = is_read 10 (command.SetHold bucket key id hold) (set_hold_again bucket key id hold fits)
reads_again (command.Receive from n effect) fits = is_read 11 (command.Receive from n effect) (receive_again from n effect fits)
reads_again (command.Settle to n outcome) fits = is_read 12 (command.Settle to n outcome) (settle_again to n outcome fits)
reads_again (command.Attempt to n) fits = is_read 13 (command.Attempt to n) (attempt_again to n fits)
reads_again (command.CreateJob spec manifest) fits = is_read 14 (command.CreateJob spec manifest) (create_job_again spec manifest fits)
reads_again (command.MoveJob job state) fits = is_read 15 (command.MoveJob job state) (move_job_again job state fits)
reads_again (command.SetPriority job priority) fits = is_read 16 (command.SetPriority job priority) (set_priority_again job priority fits)
reads_again (command.Prepare job) fits = is_read 17 (command.Prepare job) (prepare_again job fits)
reads_again (command.Line job line) fits = is_read 18 (command.Line job line) (line_again job line fits)
reads_again (command.Finish job bytes) fits = is_read 19 (command.Finish job bytes) (finish_again job bytes fits)

-- what is spelled so is read
pub command_again : (c : Command) → IsCommand c → command_at (spelling c) ≡ Ok c
command_again c fits = (reads_again c fits).all

pub found : (bytes : List ℕ) (r : Result Command RecordFault) → IsBytes bytes → length bytes ≤ 16777216 → Gives (λ c. c) r (command_at bytes)
    → IfOk r (λ c. IsCommand c × (bytes ≡ spelling c))
found bytes (Ok c) fits short gives =
    let taken = command_takes bytes c fits gives in
    (ruled_is c taken.0 (subst (λ (bytes : List ℕ). length bytes ≤ 16777216) taken.1 short), taken.1)
found bytes (Err fault) fits short gives = tt

pub only : (bytes : List ℕ) (r : Result Command RecordFault) → Gives (λ c. c) r (command_at bytes) → (c : Command) → IsCommand c → bytes ≡ spelling c
    → Gives (λ d. d) r (Ok c)
only bytes r gives c fits spelled = subst (λ (read : Result Command ℕ). Gives (λ d. d) r read) (ap command_at spelled ∙ command_again c fits) gives

pub one : (c d : Command) → IsCommand c → IsCommand d → spelling c ≡ spelling d → c ≡ d
one c d c_fits d_fits same = ok_is c d (sym (command_again c c_fits) ∙ ap command_at same ∙ command_again d d_fits)

-- no spelling begins another: the reader of the front tells the command and what follows it
pub front : (c d : Command) (s t : List ℕ) → IsCommand c → IsCommand d → spelling c ++ s ≡ spelling d ++ t → (c ≡ d) × (s ≡ t)
front c d s t c_fits d_fits same =
    let both = ok_is (c, left 0 s) (d, left 0 t)
    (sym ((reads_again c c_fits).front 0 s) ∙ ap (front_at 0) same ∙ (reads_again d d_fits).front 0 t) in
    (ap (λ (read : Command × Unread). read.0) both, ap (λ (read : Command × Unread). read.1.bytes) both)

-- The laws of each field of a job's commands, and of the commands.
use Rattle.std.proofs.Common.{◌≡◌, ℕ, ◌^◌, ◌<◌, ◌≤◌, Bool, true, false, cond, ◌&&◌, nat_le, List, [], ◌∷◌, ◌++◌, length, Option, Some, None, Ok, Err, IsTrue, refl, subst, arith, lit<, lit≤}
use Rattle.std.specs.Int.{w16, w32, to_be_bytes}
use Rattle.std.specs.Str.{is_utf8}
use Rattle.std.proofs.lemmas.Bool.{and_parts, leb-true, le-leb}
use Rattle.s3r_names.specs.declared.version.VersionId.{VersionId}
use Rattle.s3r_names.proofs.TagTexts.{text-length}
use Rattle.s3r_jobs.specs.Rules.{is_token, is_prefix, OptionIdMeetsLimits, IsPrefix, IsOperation, IsManifest, IsReport, IsJobSpec}
use Rattle.s3r_jobs.specs.declared.spec.JobSpec.{JobSpec}
use Rattle.s3r_jobs.specs.declared.spec.ReportSpec.{ReportSpec}
use Rattle.s3r_jobs.specs.declared.spec.Operation.{Operation}
use Rattle.s3r_jobs.specs.declared.spec.Operation.TheVariants as operations
use Rattle.s3r_jobs.specs.declared.state.JobState.{JobState}
use Rattle.s3r_jobs.specs.declared.state.JobState.TheVariants as states
use Rattle.s3r_record.specs.declared.command.Command.TheVariants as command
use Rattle.s3r_record.specs.Fields.{text, flag, option_text}
use Rattle.s3r_record.specs.JobFields.{option_id, option_body, operation_bytes, manifest_bytes, report_bytes, option_report, spec_bytes, state_byte, is_moved_to}
use Rattle.s3r_record.specs.Reading.{◌>>=◌, Unread, place, tested_at}
use Rattle.s3r_record.specs.ReadingJobs.{number_within, id_if, option_id_at, prefix_if, option_prefix_at, body_if, option_body_at, copy_at, tagging_at, hold_at}
use Rattle.s3r_record.specs.ReadingJobs.{operation_of, operation_at, manifest_at, report_at, report_if, option_report_at, spec_at, state_of, state_at}
use Rattle.s3r_record.specs.JobCommands.{create_job_at, move_job_at, set_priority_at, prepare_at, line_at, finish_at}
use Rattle.s3r_record.specs.Spelling.{spelling, IsCommand, BodyMeetsLimits}
use Rattle.s3r_record.proofs.ReaderLaws.{IsBytes, guard_passed, Takes, left, Reads, take_field}
use Rattle.s3r_record.proofs.FieldLaws.{wide32, number_law, flag_law, short_text_law, bucket_name_law, key_law, body_law}
use Rattle.s3r_record.proofs.TagLaws.{set_law}
use Rattle.s3r_record.proofs.IdLaws.{index_law, id_law}
use Rattle.s3r_record.proofs.Ruled.{Ruled}
use Rattle.s3r_record.proofs.SeveralFields.{TakesBehind, ReadBehind, take_then, take_end, take_chosen, take_none, take_choice}
use Rattle.s3r_record.proofs.SeveralFields.{again_then, again_end, again_choice, reads}

-- ---- numbers of four bytes

abbrev Within : ℕ → ℕ → ℕ → Type 0
Within least most n = (least ≤ n) × (n ≤ most)

within_takes : (least most : ℕ) (u : Unread) (x : ℕ × Unread) → IsBytes u.bytes → number_within least most u ≡ Ok x
    → Takes u.bytes (to_be_bytes w32 x.0) x.1.bytes × Within least most x.0
unfolding number_within
within_takes least most u x fits e =
    let n = take_field (number_law w32 (2 ^ 32) wide32)
    (λ number. cond (nat_le least number.0 && nat_le number.0 most) (Ok number) (Err (place u))) u x fits e in
    let g = guard_passed (nat_le least n.value && nat_le n.value most) (place u) (n.value, n.rest) x n.gave in
    let parts = and_parts (nat_le least n.value) (nat_le n.value most) g.0 in
    subst (λ (y : ℕ × Unread). Takes u.bytes (to_be_bytes w32 y.0) y.1.bytes × Within least most y.0) g.1
    (n.takes, (leb-true least n.value parts.0, leb-true n.value most parts.1))

within_again : (least most : ℕ) → most < 2 ^ 32 → (whole n : ℕ) (rest : List ℕ) → Within least most n
    → number_within least most (left whole (to_be_bytes w32 n ++ rest)) ≡ Ok (n, left whole rest)
unfolding number_within
within_again least most low whole n rest is =
    rw ((number_law w32 (2 ^ 32) wide32).again whole n rest (omega (arith, is.1, low)), le-leb least n is.0, le-leb n most is.1) refl

within_law : (least most : ℕ) → most < 2 ^ 32 → Reads (number_within least most) (to_be_bytes w32) (Within least most)
within_law least most low = record { takes = within_takes least most; again = within_again least most low }

priority_law : Reads (number_within 0 2147483647) (to_be_bytes w32) (Within 0 2147483647)
priority_law = within_law 0 2147483647 (lit< tt)

line_law : Reads (number_within 1 4294967295) (to_be_bytes w32) (Within 1 4294967295)
line_law = within_law 1 4294967295 (lit< tt)

-- ---- fields that need not be there

token_law : Reads (tested_at w16 is_token) text (λ token. is_token token ≡ true)
token_law = short_text_law is_token (λ token named. let s = text-length token 1 64 named in omega arith)

prefix_law : (most : ℕ) → most ≤ 1024 → Reads (tested_at w16 (is_prefix most)) text (λ prefix. is_prefix most prefix ≡ true)
prefix_law most low = short_text_law (is_prefix most) (λ prefix named.
    let short = leb-true (length prefix) most (and_parts (is_utf8 prefix) (nat_le (length prefix) most) named).1 in omega (arith, short, low))

id_if_takes : (given : Bool) → TakesBehind option_id OptionIdMeetsLimits (flag given) (id_if given)
id_if_takes false = take_end None tt
id_if_takes true = take_then _ id_law (λ id is. take_end (Some id) is)

option_id_again : (x : Option VersionId) → OptionIdMeetsLimits x → ReadBehind option_id [] x option_id_at
unfolding option_id_at
option_id_again None is = again_then _ flag_law false tt (again_end None)
option_id_again (Some id) is = again_then _ flag_law true tt (again_then _ id_law id is (again_end (Some id)))

option_id_law : Reads option_id_at option_id OptionIdMeetsLimits
unfolding option_id_at
option_id_law = reads (take_then _ flag_law (λ given _. id_if_takes given)) option_id_again

module _ (most : ℕ) (low : most ≤ 1024) where
  prefix_if_takes : (given : Bool) → TakesBehind option_text (IsPrefix most) (flag given) (prefix_if most given)
  prefix_if_takes false = take_end None tt
  prefix_if_takes true = take_then _ (prefix_law most low) (λ prefix is. take_end (Some prefix) is)

  option_prefix_again : (x : Option (List ℕ)) → IsPrefix most x → ReadBehind option_text [] x (option_prefix_at most)
  unfolding option_prefix_at
  option_prefix_again None is = again_then _ flag_law false tt (again_end None)
  option_prefix_again (Some prefix) is = again_then _ flag_law true tt (again_then _ (prefix_law most low) prefix is (again_end (Some prefix)))

  option_prefix_law : Reads (option_prefix_at most) option_text (IsPrefix most)
  unfolding option_prefix_at
  option_prefix_law = reads (take_then _ flag_law (λ given _. prefix_if_takes given)) option_prefix_again

body_if_takes : (given : Bool) → TakesBehind option_body BodyMeetsLimits (flag given) (body_if given)
body_if_takes false = take_end None tt
body_if_takes true = take_then _ (body_law 15582912 (lit< tt)) (λ bytes short. take_end (Some bytes) short)

option_body_again : (x : Option (List ℕ)) → BodyMeetsLimits x → ReadBehind option_body [] x option_body_at
unfolding option_body_at
option_body_again None is = again_then _ flag_law false tt (again_end None)
option_body_again (Some bytes) short = again_then _ flag_law true tt (again_then _ (body_law 15582912 (lit< tt)) bytes short (again_end (Some bytes)))

option_body_law : Reads option_body_at option_body BodyMeetsLimits
unfolding option_body_at
option_body_law = reads (take_then _ flag_law (λ given _. body_if_takes given)) option_body_again

-- ---- an operation

copy_takes : TakesBehind operation_bytes IsOperation (1 ∷ []) copy_at
unfolding copy_at
copy_takes =
    take_then _ bucket_name_law (λ target t. take_then _ (option_prefix_law 1024 (lit≤ tt)) (λ prefix p. take_end (operations.Copy target prefix) (t, p)))

tagging_takes : TakesBehind operation_bytes IsOperation (2 ∷ []) tagging_at
unfolding tagging_at
tagging_takes = take_then _ set_law (λ tags t. take_end (operations.Tagging tags) t)

hold_takes : TakesBehind operation_bytes IsOperation (3 ∷ []) hold_at
unfolding hold_at
hold_takes = take_then _ flag_law (λ hold _. take_end (operations.Hold hold) tt)

operation_takes : (at byte : ℕ) → TakesBehind operation_bytes IsOperation (byte ∷ []) (operation_of at byte)
unfolding operation_of
operation_takes at byte =
    take_chosen 1 byte copy_takes (
    take_chosen 2 byte tagging_takes (
    take_chosen 3 byte hold_takes (
    take_chosen 4 byte (take_end operations.Replicate tt) (
    take_none at))))

operation_again : (operation : Operation) → IsOperation operation → ReadBehind operation_bytes [] operation operation_at
unfolding operation_at operation_of copy_at tagging_at hold_at
operation_again (operations.Copy target prefix) is =
    again_choice operation_of 1 (lit≤ tt) (λ at u. refl) (again_then _ bucket_name_law target is.0
    (again_then _ (option_prefix_law 1024 (lit≤ tt)) prefix is.1 (again_end (operations.Copy target prefix))))
operation_again (operations.Tagging tags) is =
    again_choice operation_of 2 (lit≤ tt) (λ at u. refl) (again_then _ set_law tags is (again_end (operations.Tagging tags)))
operation_again (operations.Hold hold) is =
    again_choice operation_of 3 (lit≤ tt) (λ at u. refl) (again_then _ flag_law hold tt (again_end (operations.Hold hold)))
operation_again operations.Replicate is = again_choice operation_of 4 (lit≤ tt) (λ at u. refl) (again_end operations.Replicate)

operation_law : Reads operation_at operation_bytes IsOperation
unfolding operation_at
operation_law = reads (take_choice operation_of operation_takes) operation_again

-- ---- a specification

manifest_law : Reads manifest_at manifest_bytes IsManifest
unfolding manifest_at
manifest_law =
    reads
    (take_then _ flag_law (λ versions _. take_then _ bucket_name_law (λ bucket b. take_then _ key_law (λ key k. take_then _ option_id_law
    (λ version v. take_end (record { versions = versions; bucket = bucket; key = key; version = version }) (record { bucket = b; key = k; version = v }))))))
    (λ manifest is. again_then _ flag_law manifest.versions tt (again_then _ bucket_name_law manifest.bucket is.bucket
    (again_then _ key_law manifest.key is.key (again_then _ option_id_law manifest.version is.version (again_end manifest)))))

abbrev IsOneReport : ReportSpec → Type 0
IsOneReport report = IsReport (Some report)

report_law : Reads report_at report_bytes IsOneReport
unfolding report_at
report_law =
    reads
    (take_then _ bucket_name_law (λ bucket b. take_then _ (option_prefix_law 512 (lit≤ tt)) (λ prefix p. take_then _ flag_law
    (λ all _. take_end (record { bucket = bucket; prefix = prefix; all = all }) (b, p)))))
    (λ report is. again_then _ bucket_name_law report.bucket is.0 (again_then _ (option_prefix_law 512 (lit≤ tt)) report.prefix is.1
    (again_then _ flag_law report.all tt (again_end report))))

report_if_takes : (given : Bool) → TakesBehind option_report IsReport (flag given) (report_if given)
report_if_takes false = take_end None tt
report_if_takes true = take_then _ report_law (λ report is. take_end (Some report) is)

option_report_again : (x : Option ReportSpec) → IsReport x → ReadBehind option_report [] x option_report_at
unfolding option_report_at
option_report_again None is = again_then _ flag_law false tt (again_end None)
option_report_again (Some report) is = again_then _ flag_law true tt (again_then _ report_law report is (again_end (Some report)))

option_report_law : Reads option_report_at option_report IsReport
unfolding option_report_at
option_report_law = reads (take_then _ flag_law (λ given _. report_if_takes given)) option_report_again

spec_law : Reads spec_at spec_bytes IsJobSpec
unfolding spec_at
spec_law =
    reads
    (take_then _ token_law (λ token t. take_then _ priority_law (λ priority p. take_then _ flag_law (λ confirm _. take_then _ operation_law
    (λ operation o. take_then _ manifest_law (λ manifest m. take_then _ option_report_law (λ report r.
    take_end (record { token = token; priority = priority; confirm = confirm; operation = operation; manifest = manifest; report = report })
    (record { token = t; priority = p.1; operation = o; manifest = m; report = r }))))))))
    (λ spec is. again_then _ token_law spec.token is.token (again_then _ priority_law spec.priority (omega arith, is.priority)
    (again_then _ flag_law spec.confirm tt (again_then _ operation_law spec.operation is.operation
    (again_then _ manifest_law spec.manifest is.manifest (again_then _ option_report_law spec.report is.report (again_end spec)))))))

-- ---- a state

abbrev spelled_state : JobState → List ℕ
spelled_state state = state_byte state ∷ []

abbrev IsMovedTo : JobState → Type 0
IsMovedTo state = IsTrue (is_moved_to state)

state_takes : (at byte : ℕ) → TakesBehind spelled_state IsMovedTo (byte ∷ []) (state_of at byte)
unfolding state_of
state_takes at byte =
    take_chosen 1 byte (take_end states.Preparing refl) (
    take_chosen 2 byte (take_end states.Ready refl) (
    take_chosen 3 byte (take_end states.Active refl) (
    take_chosen 4 byte (take_end states.Pausing refl) (
    take_chosen 5 byte (take_end states.Paused refl) (
    take_chosen 6 byte (take_end states.Failing refl) (
    take_chosen 7 byte (take_end states.Cancelling refl) (
    take_none at)))))))

state_again : (state : JobState) → IsMovedTo state → ReadBehind spelled_state [] state state_at
unfolding state_at state_of
state_again states.New is = absurd cc
state_again states.Preparing is = again_choice state_of 1 (lit≤ tt) (λ at u. refl) (again_end states.Preparing)
state_again states.Suspended is = absurd cc
state_again states.Ready is = again_choice state_of 2 (lit≤ tt) (λ at u. refl) (again_end states.Ready)
state_again states.Active is = again_choice state_of 3 (lit≤ tt) (λ at u. refl) (again_end states.Active)
state_again states.Pausing is = again_choice state_of 4 (lit≤ tt) (λ at u. refl) (again_end states.Pausing)
state_again states.Paused is = again_choice state_of 5 (lit≤ tt) (λ at u. refl) (again_end states.Paused)
state_again states.Failing is = again_choice state_of 6 (lit≤ tt) (λ at u. refl) (again_end states.Failing)
state_again states.Cancelling is = again_choice state_of 7 (lit≤ tt) (λ at u. refl) (again_end states.Cancelling)
state_again states.Complete is = absurd cc
state_again states.Cancelled is = absurd cc
state_again states.Failed is = absurd cc

state_law : Reads state_at spelled_state IsMovedTo
unfolding state_at
state_law = reads (take_choice state_of state_takes) state_again

-- ---- the commands

pub create_job_takes : TakesBehind spelling Ruled (14 ∷ []) create_job_at
unfolding create_job_at
create_job_takes = take_then _ spec_law (λ spec s. take_then _ id_law (λ manifest m. take_end (command.CreateJob spec manifest) (s, m)))

pub create_job_again : (spec : JobSpec) (manifest : VersionId) → IsCommand (command.CreateJob spec manifest)
    → ReadBehind spelling (14 ∷ []) (command.CreateJob spec manifest) create_job_at
unfolding create_job_at
create_job_again spec manifest fits =
    again_then _ spec_law spec fits.0 (again_then _ id_law manifest fits.1 (again_end (command.CreateJob spec manifest)))

pub move_job_takes : TakesBehind spelling Ruled (15 ∷ []) move_job_at
unfolding move_job_at
move_job_takes =
    take_then _ index_law (λ job j. take_then _ state_law (λ state s. take_end (command.MoveJob job state) (record { above = j.0; below = j.1 }, s)))

pub move_job_again : (job : ℕ) (state : JobState) → IsCommand (command.MoveJob job state)
    → ReadBehind spelling (15 ∷ []) (command.MoveJob job state) move_job_at
unfolding move_job_at
move_job_again job state fits =
    again_then _ index_law job (fits.0.above, fits.0.below) (again_then _ state_law state fits.1 (again_end (command.MoveJob job state)))

pub set_priority_takes : TakesBehind spelling Ruled (16 ∷ []) set_priority_at
unfolding set_priority_at
set_priority_takes =
    take_then _ index_law (λ job j. take_then _ priority_law (λ priority p.
    take_end (command.SetPriority job priority) (record { above = j.0; below = j.1 }, p.1)))

pub set_priority_again : (job priority : ℕ) → IsCommand (command.SetPriority job priority)
    → ReadBehind spelling (16 ∷ []) (command.SetPriority job priority) set_priority_at
unfolding set_priority_at
set_priority_again job priority fits =
    again_then _ index_law job (fits.0.above, fits.0.below)
    (again_then _ priority_law priority (omega arith, fits.1) (again_end (command.SetPriority job priority)))

pub prepare_takes : TakesBehind spelling Ruled (17 ∷ []) prepare_at
unfolding prepare_at
prepare_takes = take_then _ index_law (λ job j. take_end (command.Prepare job) (record { above = j.0; below = j.1 }))

pub prepare_again : (job : ℕ) → IsCommand (command.Prepare job) → ReadBehind spelling (17 ∷ []) (command.Prepare job) prepare_at
unfolding prepare_at
prepare_again job fits = again_then _ index_law job (fits.above, fits.below) (again_end (command.Prepare job))

pub line_takes : TakesBehind spelling Ruled (18 ∷ []) line_at
unfolding line_at
line_takes =
    take_then _ index_law (λ job j. take_then _ line_law (λ line l. take_end (command.Line job line) (record { above = j.0; below = j.1 }, l.0, l.1)))

pub line_again : (job line : ℕ) → IsCommand (command.Line job line) → ReadBehind spelling (18 ∷ []) (command.Line job line) line_at
unfolding line_at
line_again job line fits =
    again_then _ index_law job (fits.0.above, fits.0.below) (again_then _ line_law line (fits.1, fits.2) (again_end (command.Line job line)))

pub finish_takes : TakesBehind spelling Ruled (19 ∷ []) finish_at
unfolding finish_at
finish_takes =
    take_then _ index_law (λ job j. take_then _ option_body_law (λ bytes b. take_end (command.Finish job bytes) (record { above = j.0; below = j.1 }, b)))

pub finish_again : (job : ℕ) (bytes : Option (List ℕ)) → IsCommand (command.Finish job bytes)
    → ReadBehind spelling (19 ∷ []) (command.Finish job bytes) finish_at
unfolding finish_at
finish_again job bytes fits =
    again_then _ index_law job (fits.0.above, fits.0.below) (again_then _ option_body_law bytes fits.1 (again_end (command.Finish job bytes)))

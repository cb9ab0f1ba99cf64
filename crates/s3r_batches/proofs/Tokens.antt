-- No token is that of two jobs.
use Rattle.std.proofs.Common.{◌≡◌, ℕ, zero, suc, ◌+◌, Bool, true, false, cond, not, List, [], ◌∷◌, ◌++◌, map, filter, length, find, Option, Some, None, Ok, Err, Contains, refl, sym, ap, subst, ◌∙◌, arith}
use Rattle.std.specs.List.{AllByRecursion}
use Rattle.std.specs.Option.{option_or}
use Rattle.std.specs.Str.{bytes_eq}
use Rattle.std.proofs.lemmas.Slice.Eq.{bytes_eq-Decides}
use Rattle.s3r_jobs.specs.Facts.{JobFacts, new_job}
use Rattle.s3r_jobs.specs.Jobs.{is_ended, is_unended, is_job, has_token, token_job}
use Rattle.s3r_jobs.specs.declared.result.LineResult.{LineResult}
use Rattle.s3r_jobs.specs.declared.spec.JobSpec.{JobSpec}
use Rattle.s3r_jobs.specs.States.{has_ended}
use Rattle.s3r_record.specs.declared.command.Command.{Command}
use Rattle.s3r_record.specs.declared.command.Command.TheVariants as command
use Rattle.s3r_history.specs.Words.{History}
use Rattle.s3r_history.specs.BucketView.{BucketView}
use Rattle.s3r_history.specs.Past.{ReadLines}
use Rattle.s3r_history.specs.Deeds.{deeds, deed}
use Rattle.s3r_history.specs.Jobs.{jobs, jobs_at}
use Rattle.s3r_history.specs.JobSteps.{move_to, set_priority, read_lines, did_line, finish}
use Rattle.s3r_history.specs.Told.{told}
use Rattle.s3r_history.specs.Accepts.{Cause, first_of_causes, in_bucket, of_token, IsLawful}
use Rattle.s3r_history.proofs.JobLists.{at_job}
use Rattle.s3r_history.proofs.JobSteps.{map-snoc, jobs-create, jobs-move, jobs-priority, jobs-prepare, jobs-line, jobs-finish}
use Rattle.s3r_batches.specs.JobLaws.{TokensAreOnce}

abbrev Token : Type 0
Token = List ℕ

abbrev token : JobFacts → Token
token j = j.spec.token

abbrev IsApart : Token → Token → Type 0
IsApart t u = u ≡ t → ⊥

abbrev AreApart : List Token → Type 0
AreApart [] = Unit {0}
AreApart (t ∷ ts) = AllByRecursion (IsApart t) ts × AreApart ts

-- ---- lists of tokens

apart_at : (t : Token) (js : List JobFacts) (j : JobFacts) → AllByRecursion (IsApart t) (map token js) → Contains js j → token j ≡ t → ⊥
apart_at t [] j all (k, below, is) same = omega (arith, below)
apart_at t (x ∷ xs) j all (zero, below, is) same = all.0 (ap token is ∙ same)
apart_at t (x ∷ xs) j all (suc k, below, is) same = apart_at t xs j all.1 (k, omega (arith, below), is) same

one_of_token : (js : List JobFacts) (a b : JobFacts) → AreApart (map token js) → Contains js a → Contains js b → token a ≡ token b → a ≡ b
one_of_token [] a b apart (k, below, is) there same = absurd (omega (arith, below))
one_of_token (x ∷ xs) a b apart (zero, below, is) (zero, under, at) same = sym is ∙ at
one_of_token (x ∷ xs) a b apart (zero, below, is) (suc k, under, at) same =
    absurd (apart_at (token x) xs b apart.0 (k, omega (arith, under), at) (sym same ∙ sym (ap token is)))
one_of_token (x ∷ xs) a b apart (suc k, below, is) (zero, under, at) same =
    absurd (apart_at (token x) xs a apart.0 (k, omega (arith, below), is) (same ∙ sym (ap token at)))
one_of_token (x ∷ xs) a b apart (suc k, below, is) (suc l, under, at) same =
    one_of_token xs a b apart.1 (k, omega (arith, below), is) (l, omega (arith, under), at) same

all_snoc : (t u : Token) (ts : List Token) → AllByRecursion (IsApart t) ts → IsApart t u → AllByRecursion (IsApart t) (ts ++ u ∷ [])
all_snoc t u [] all last = (last, tt)
all_snoc t u (x ∷ xs) all last = (all.0, all_snoc t u xs all.1 last)

-- a token that none of them is goes behind them
apart_snoc : (t : Token) (ts : List Token) → AreApart ts → AllByRecursion (IsApart t) ts → AreApart (ts ++ t ∷ [])
apart_snoc t [] apart all = (tt, tt)
apart_snoc t (x ∷ xs) apart all = (all_snoc x t xs apart.0 (λ is. all.0 (sym is)), apart_snoc t xs apart.1 all.1)

-- ---- what has no job

is_token : (a : Token) → bytes_eq a a ≡ true
is_token a = (bytes_eq-Decides a a).1 refl

none_has : (t : Token) (js : List JobFacts) → find (has_token t) (filter is_unended js) ≡ None → find (has_token t) (filter is_ended js) ≡ None
    → AllByRecursion (IsApart t) (map token js)
none_has t [] live ended = tt
none_has t (x ∷ xs) live ended = go (has_ended x.state) (has_token t x) refl live ended (none_has t xs)
  where
    other : has_token t x ≡ false → IsApart t (token x)
    other is same = let no : bytes_eq t t ≡ false = subst (λ (u : Token). bytes_eq u t ≡ false) same is in let yes = is_token t in cc

    go : (e u : Bool) → has_token t x ≡ u → find (has_token t) (cond (not e) (x ∷ filter is_unended xs) (filter is_unended xs)) ≡ None
        → find (has_token t) (cond e (x ∷ filter is_ended xs) (filter is_ended xs)) ≡ None
        → (find (has_token t) (filter is_unended xs) ≡ None → find (has_token t) (filter is_ended xs) ≡ None → AllByRecursion (IsApart t) (map token xs))
        → IsApart t (token x) × AllByRecursion (IsApart t) (map token xs)
    go true true is live ended behind = absurd (let no : cond true (Some x) (find (has_token t) (filter is_ended xs)) ≡ None = rw is at ended in cc)
    go false true is live ended behind = absurd (let no : cond true (Some x) (find (has_token t) (filter is_unended xs)) ≡ None = rw is at live in cc)
    go true false is live ended behind = (other is, behind live (rw is at ended))
    go false false is live ended behind = (other is, behind (rw is at live) ended)

or_none : (x y : Option JobFacts) → option_or x y ≡ None → (x ≡ None) × (y ≡ None)
or_none None y e = (refl, e)
or_none (Some j) y e = absurd cc

-- an accepted creation's token is that of none
new_token : (r : ℕ) (o : Option JobFacts) (more : List Cause) → first_of_causes (of_token r o more) ≡ None → o ≡ None
new_token r None more e = refl
new_token r (Some j) more e = absurd cc

none_known : (r : ℕ) (h : History) (spec : JobSpec) (at : Option BucketView) (more : BucketView → List Cause)
    → first_of_causes (in_bucket (λ (b : BucketView). of_token r (token_job spec.token (jobs_at (deeds r h))) (more b)) at) ≡ None
    → token_job spec.token (jobs_at (deeds r h)) ≡ None
none_known r h spec None more e = absurd cc
none_known r h spec (Some b) more e = new_token r _ (more b) e

-- ---- history by history

same_tokens : (id : ℕ) (f : JobFacts → JobFacts) (js : List JobFacts) → ((j : JobFacts) → token (f j) ≡ token j)
    → map token (map (at_job id f) js) ≡ map token js
same_tokens id f [] keeps = refl
same_tokens id f (x ∷ xs) keeps = go (is_job id x) (same_tokens id f xs keeps)
  where
    go : (t : Bool) → map token (map (at_job id f) xs) ≡ map token xs → token (cond t (f x) x) ∷ map token (map (at_job id f) xs) ≡ token x ∷ map token xs
    go true behind = λ i. keeps x i ∷ behind i
    go false behind = λ i. token x ∷ behind i

changed : (r : ℕ) (h : History) (c : Command) (id : ℕ) (f : JobFacts → JobFacts) → jobs (deeds r (c ∷ h)) ≡ map (at_job id f) (jobs (deeds r h))
    → ((j : JobFacts) → token (f j) ≡ token j) → AreApart (map token (jobs (deeds r h))) → AreApart (map token (jobs (deeds r (c ∷ h))))
changed r h c id f is keeps apart =
    subst AreApart (sym (same_tokens id f (jobs (deeds r h)) keeps) ∙ ap (map token) (sym is)) apart

read_keeps : (read : Option ReadLines) (j : JobFacts) → token (read_lines read j) ≡ token j
read_keeps None j = refl
read_keeps (Some (Ok lines)) j = refl
read_keeps (Some (Err why)) j = refl

line_keeps : (result : Option LineResult) (j : JobFacts) → token (did_line result j) ≡ token j
line_keeps None j = refl
line_keeps (Some result) j = refl

apart : (n r : ℕ) (h : History) → IsLawful n r h → AreApart (map token (jobs (deeds r h)))
apart n r [] lawful = tt
apart n r (command.CreateBucket name locked ∷ h) lawful = apart n r h lawful.2
apart n r (command.DeleteBucket name ∷ h) lawful = apart n r h lawful.2
apart n r (command.SetVersioning name enabled ∷ h) lawful = apart n r h lawful.2
apart n r (command.SetReplication name config regions ∷ h) lawful = apart n r h lawful.2
apart n r (command.DropReplication name ∷ h) lawful = apart n r h lawful.2
apart n r (command.Put b key tags hold class body ∷ h) lawful = apart n r h lawful.2
apart n r (command.Marker b key ∷ h) lawful = apart n r h lawful.2
apart n r (command.Remove b key id ∷ h) lawful = apart n r h lawful.2
apart n r (command.SetTags b key id tags ∷ h) lawful = apart n r h lawful.2
apart n r (command.SetHold b key id hold ∷ h) lawful = apart n r h lawful.2
apart n r (command.Receive from number effect ∷ h) lawful = apart n r h lawful.2
apart n r (command.Settle to number outcome ∷ h) lawful = apart n r h lawful.2
apart n r (command.Attempt to number ∷ h) lawful = apart n r h lawful.2
apart n r (command.CreateJob spec manifest ∷ h) lawful =
    let none = none_known r h spec (told r h spec.manifest.bucket) _ lawful.1 in
    let both = or_none (find (has_token spec.token) (jobs_at (deeds r h)).live) (find (has_token spec.token) (jobs_at (deeds r h)).ended) none in
    subst AreApart
    (sym (map-snoc token (jobs (deeds r h)) (new_job (length (deeds r h) + 1) spec)) ∙ ap (map token) (sym (jobs-create r h spec manifest)))
    (apart_snoc spec.token (map token (jobs (deeds r h))) (apart n r h lawful.2) (none_has spec.token (jobs (deeds r h)) both.0 both.1))
apart n r (command.MoveJob id to ∷ h) lawful =
    changed r h (command.MoveJob id to) id (move_to to) (jobs-move r h id to) (λ j. refl) (apart n r h lawful.2)
apart n r (command.SetPriority id priority ∷ h) lawful =
    changed r h (command.SetPriority id priority) id (set_priority priority) (jobs-priority r h id priority) (λ j. refl) (apart n r h lawful.2)
apart n r (command.Prepare id ∷ h) lawful = changed r h (command.Prepare id) id (read_lines (deed r h (deeds r h) (command.Prepare id)).read)
    (jobs-prepare r h id) (read_keeps (deed r h (deeds r h) (command.Prepare id)).read) (apart n r h lawful.2)
apart n r (command.Line id line ∷ h) lawful = changed r h (command.Line id line) id (did_line (deed r h (deeds r h) (command.Line id line)).result)
    (jobs-line r h id line) (line_keeps (deed r h (deeds r h) (command.Line id line)).result) (apart n r h lawful.2)
apart n r (command.Finish id body ∷ h) lawful =
    changed r h (command.Finish id body) id finish (jobs-finish r h id body) (λ j. refl) (apart n r h lawful.2)

pub tokens_are_once : TokensAreOnce
tokens_are_once n r h one other lawful a b same = one_of_token (jobs (deeds r h)) one other (apart n r h lawful) a b same

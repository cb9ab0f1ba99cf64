-- A state after a command about a job that writes nothing of buckets.
use Rattle.std.proofs.Common.{◌≡◌, ℕ, ◌+◌, max, List, [], ◌∷◌, Option, None, length, refl, sym, ap, ◌∙◌, subst, add-one}
use Rattle.s3r_names.specs.declared.version.VersionId.{VersionId}
use Rattle.s3r_jobs.specs.declared.spec.JobSpec.{JobSpec}
use Rattle.s3r_jobs.specs.declared.state.JobState.{JobState}
use Rattle.s3r_record.specs.declared.command.Command.{Command}
use Rattle.s3r_record.specs.declared.command.Command.TheVariants as command
use Rattle.s3r_history.specs.Words.{History}
use Rattle.s3r_history.specs.Buckets.{names}
use Rattle.s3r_history.specs.Past.{clock, n_of}
use Rattle.s3r_history.specs.Sending.{sends_by}
use Rattle.s3r_history.specs.Deeds.{deeds, deed, next_stamp, effects_after}
use Rattle.s3r_history.specs.Accepts.{refusal}
use Rattle.s3r_history.proofs.Ahead.{IsWithin}
use Rattle.s3r_history.proofs.QueueSteps.{IsPlain}
use Rattle.s3r_history.proofs.Beyond.{there-kept, beyond-kept}
use Rattle.s3r_history.proofs.LineTold.{IsQuiet, told-quiet, quiet-line}
use Rattle.s3r_region.specs.declared.bucket.Bucket.{Bucket}
use Rattle.s3r_region.specs.Contents.{Contents}
use Rattle.s3r_region.specs.KeptJobs.{KeptJobs}
use Rattle.s3r_region.specs.KeptJobs as jobs
use Rattle.s3r_region.specs.Waiting.{Waiting}
use Rattle.s3r_region.specs.After.{IsAfter}
use Rattle.s3r_region.specs.Applies.{Applies}
use Rattle.s3r_region.proofs.Steps.{pushed, zero_max}
use Rattle.s3r_region.proofs.Applied.{kept}

-- the command writes nothing, sends nothing, and is about no task
pub record IsAboutJob (r : ℕ) (h : History) (c : Command) : Type 0 where
  pub quiet : IsQuiet r h c
  pub plain : IsPlain c
  pub within : IsWithin (deeds r h) c
  pub sends : effects_after r h c ≡ []
  pub clock : clock (deeds r (c ∷ h)) ≡ clock (deeds r h)
  pub names : names (c ∷ h) ≡ names h

pub after-job : (s : Contents) (h : History) (c : Command) (after : KeptJobs) → IsAfter s h → refusal s.regions s.region h c ≡ None
    → IsAboutJob s.region h c → jobs.IsAfter s.region after (c ∷ h) → IsAfter (record s { commands = s.commands + 1; jobs = after }) (c ∷ h)
after-job s h c after a accepted about still = record {
  commands = ap (λ m. m + 1) a.commands ∙ add-one (length h);
  clock = a.clock ∙ sym about.clock;
  buckets = λ b. a.buckets b ∙ sym (told-quiet s.region h c about.quiet b);
  count = a.count ∙ sym (ap length about.names);
  once = a.once;
  some = a.some;
  queues = pushed s h c [] a about.plain about.within (sym about.sends);
  jobs = still;
  there = there-kept s.regions s.region h c accepted a.there;
  beyond = beyond-kept s.regions s.region h c a.some a.there a.beyond;
}

-- what such a command does to a state of these parts
pub job-applied : (region commands clock : ℕ) (buckets : List Bucket) (q : Waiting) (before after : KeptJobs) (now : Contents) (c : Command)
    → kept region commands clock buckets q before ≡ now → ((h : History) → IsAboutJob region h c)
    → ((h : History) → IsAfter (kept region commands clock buckets q before) h → refusal q.regions region h c ≡ None → jobs.IsAfter region after (c ∷ h))
    → Applies c now (kept region (commands + 1) clock buckets q after)
job-applied region commands clock buckets q before after now c view about still =
    subst (λ (old : Contents). Applies c old (kept region (commands + 1) clock buckets q after)) view (record {
      after = λ h a ok. after-job (kept region commands clock buckets q before) h c after a ok (about h) (still h a ok);
      count = refl;
      region = refl;
      regions = refl;
    })

-- ---- command by command

pub about-create : (r : ℕ) (h : History) (spec : JobSpec) (manifest : VersionId) → IsAboutJob r h (command.CreateJob spec manifest)
about-create r h spec manifest = record {
  quiet = record {
    creates = λ b. refl;
    adds = refl;
    removes = λ b k i. refl;
    tags = λ b k i. refl;
    hold = λ b k i. refl;
    bucket = λ b. refl;
    removed = λ b. refl;
  };
  plain = record { settles = λ d. refl; tries = λ d. refl; receives = λ s. refl };
  within = tt;
  sends = refl;
  clock = sym (zero_max (clock (deeds r h)));
  names = refl;
}

pub about-move : (r : ℕ) (h : History) (job : ℕ) (to : JobState) → IsAboutJob r h (command.MoveJob job to)
about-move r h job to = record {
  quiet = record {
    creates = λ b. refl;
    adds = refl;
    removes = λ b k i. refl;
    tags = λ b k i. refl;
    hold = λ b k i. refl;
    bucket = λ b. refl;
    removed = λ b. refl;
  };
  plain = record { settles = λ d. refl; tries = λ d. refl; receives = λ s. refl };
  within = tt;
  sends = refl;
  clock = sym (zero_max (clock (deeds r h)));
  names = refl;
}

pub about-priority : (r : ℕ) (h : History) (job priority : ℕ) → IsAboutJob r h (command.SetPriority job priority)
about-priority r h job priority = record {
  quiet = record {
    creates = λ b. refl;
    adds = refl;
    removes = λ b k i. refl;
    tags = λ b k i. refl;
    hold = λ b k i. refl;
    bucket = λ b. refl;
    removed = λ b. refl;
  };
  plain = record { settles = λ d. refl; tries = λ d. refl; receives = λ s. refl };
  within = tt;
  sends = refl;
  clock = sym (zero_max (clock (deeds r h)));
  names = refl;
}

pub about-prepare : (r : ℕ) (h : History) (job : ℕ) → IsAboutJob r h (command.Prepare job)
about-prepare r h job = record {
  quiet = record {
    creates = λ b. refl;
    adds = refl;
    removes = λ b k i. refl;
    tags = λ b k i. refl;
    hold = λ b k i. refl;
    bucket = λ b. refl;
    removed = λ b. refl;
  };
  plain = record { settles = λ d. refl; tries = λ d. refl; receives = λ s. refl };
  within = tt;
  sends = refl;
  clock = sym (zero_max (clock (deeds r h)));
  names = refl;
}

pub about-finish : (r : ℕ) (h : History) (job : ℕ) (body : Option (List ℕ)) → IsAboutJob r h (command.Finish job body)
about-finish r h job body = record {
  quiet = record {
    creates = λ b. refl;
    adds = refl;
    removes = λ b k i. refl;
    tags = λ b k i. refl;
    hold = λ b k i. refl;
    bucket = λ b. refl;
    removed = λ b. refl;
  };
  plain = record { settles = λ d. refl; tries = λ d. refl; receives = λ s. refl };
  within = tt;
  sends = refl;
  clock = sym (zero_max (clock (deeds r h)));
  names = refl;
}

-- a line that does nothing
pub about-line : (r : ℕ) (h : History) (job line : ℕ) → (deed r h (deeds r h) (command.Line job line)).does ≡ command.Line job line
    → IsAboutJob r h (command.Line job line)
about-line r h job line is = record {
  quiet = quiet-line r h job line is;
  plain = record { settles = λ d. refl; tries = λ d. refl; receives = λ s. refl };
  within = tt;
  sends = ap (sends_by h (deeds r h) (next_stamp r (deeds r h)) None) is;
  clock = ap (λ (c : Command). max (n_of c (next_stamp r (deeds r h))) (clock (deeds r h))) is ∙ sym (zero_max (clock (deeds r h)));
  names = refl;
}

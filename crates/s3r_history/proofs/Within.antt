-- The counts of two regions that agree.
use Rattle.std.proofs.Common.{◌≡◌, ℕ, suc, ◌<◌, ◌≤◌, inl, inr, cond, max, List, [], ◌∷◌, Option, Some, None, is_some, refl, arith}
use Rattle.std.specs.List.{AllByRecursion}
use Rattle.s3r_names.specs.declared.outcome.Outcome.{Outcome}
use Rattle.s3r_queue.specs.Tasks.{answered_from}
use Rattle.s3r_queue.specs.Received.{watermark_of}
use Rattle.s3r_history.specs.Words.{History}
use Rattle.s3r_history.specs.Past.{Carried, Past}
use Rattle.s3r_history.specs.Placed.{prescribed}
use Rattle.s3r_history.specs.Deeds.{deeds}
use Rattle.s3r_history.specs.Tasks.{sent, settled_with, tasks_from, first, Received, received, last_of}
use Rattle.s3r_history.specs.Agree.{Rise, IsSent, CameTo}
use Rattle.s3r_history.specs.AgreeLaws.{AgreeingIsWithin}

came-less : (n k : ℕ) (o : Outcome) (rs : List Received) → AllByRecursion (λ (r : Received). r.number < k) rs → CameTo n o rs → n < k
came-less n k o [] below came = absurd came
came-less n k o (r ∷ rs) below (inl here) = omega (arith, below.0, here.0)
came-less n k o (r ∷ rs) below (inr there) = came-less n k o rs below.1 there

came-below : (n : ℕ) (o : Outcome) (rs : List Received) → Rise rs → CameTo n o rs → n ≤ watermark_of (last_of rs)
came-below n o [] up came = absurd came
came-below n o (r ∷ rs) up (inl here) = omega (arith, here.0)
came-below n o (r ∷ rs) up (inr there) = omega (arith, came-less n r.number o rs up.0 there)

answered-below : (h : History) (d n w : ℕ) (es : List Carried) → ((m : ℕ) (o : Outcome) → settled_with h d m ≡ Some o → m ≤ w)
    → answered_from n (tasks_from h d n es) ≤ w
answered-below h d n w [] each = omega arith
answered-below h d n w (e ∷ es) each = go (settled_with h d n) refl (answered-below h d (suc n) w es each)
  where
    go : (o : Option Outcome) → settled_with h d n ≡ o → answered_from (suc n) (tasks_from h d (suc n) es) ≤ w
        → max (cond (is_some o) n 0) (answered_from (suc n) (tasks_from h d (suc n) es)) ≤ w
    go None e' ih = omega (arith, ih)
    go (Some o) e' ih = omega (arith, ih, each n o e')

last-first : (h : History) (past : Past) (d : ℕ) (rs : List Received) → AllByRecursion (IsSent h past d) rs
    → (watermark_of (last_of rs) ≤ first h past d) × (watermark_of (last_of rs) ≤ sent past d)
last-first h past d [] all = (omega arith, omega arith)
last-first h past d (r ∷ rs) all = (all.0.to_first, all.0.to_sent)

pub is_within : AgreeingIsWithin
is_within s d h k a =
    let bounds = last-first h (deeds s h) d (received (deeds d k) s) a.sent_so in (
      answered-below h d 1 (watermark_of (last_of (received (deeds d k) s))) (prescribed (deeds s h) d)
          (λ m o w. came-below m o (received (deeds d k) s) a.rising (a.settled m o w)),
      bounds.0,
      bounds.1,
    )

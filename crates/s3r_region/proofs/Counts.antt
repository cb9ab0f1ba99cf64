-- How far the tasks of a state are is how far those of its history are.
use Rattle.std.proofs.Common.{◌≡◌, ℕ, suc, ◌<◌, max, cond, is_some, List, [], ◌∷◌, length, refl, ap, ◌∙◌, arith}
use Rattle.s3r_queue.specs.Tasks.{first_of, answered_from, answered_of}
use Rattle.s3r_queue.specs.Queues.{to_region}
use Rattle.s3r_queue.specs.Received as queue
use Rattle.s3r_queue.specs.Received.{watermark_of}
use Rattle.s3r_history.specs.Words.{History}
use Rattle.s3r_history.specs.Placed.{prescribed, placed}
use Rattle.s3r_history.specs.Tasks.{sent, settled_with, tasks_from, tasks_to, first, last_from}
use Rattle.s3r_history.specs.Deeds.{deeds}
use Rattle.s3r_history.proofs.QueueSteps.{same-first, length-placed}
use Rattle.s3r_region.specs.Contents.{Contents}
use Rattle.s3r_region.specs.After.{IsAfter}
use Rattle.s3r_region.proofs.Views.{region-tasks}

length-tasks : {E : Type 0} (h : History) (d n : ℕ) (es : List E) → length (tasks_from h d n es) ≡ length es
length-tasks h d n [] = refl
length-tasks h d n (e ∷ es) = ap suc (length-tasks h d (suc n) es)

-- which number was answered last doesn't depend on what the effects are
same-answered : {E F : Type 0} (h : History) (d n m : ℕ) (es : List E) (fs : List F) → length es ≡ length fs
    → answered_from m (tasks_from h d n es) ≡ answered_from m (tasks_from h d n fs)
same-answered h d n m [] [] same = refl
same-answered h d n m [] (f ∷ fs) same = absurd (omega arith)
same-answered h d n m (e ∷ es) [] same = absurd (omega arith)
same-answered h d n m (e ∷ es) (f ∷ fs) same =
    ap (max (cond (is_some (settled_with h d n)) m 0)) (same-answered h d (suc n) (suc m) es fs (omega arith))

pub counts-are : (s : Contents) (h : History) → IsAfter s h → (d : ℕ)
    → (length (to_region s.outbox d) ≡ sent (deeds s.region h) d)
    × (answered_of (to_region s.outbox d) ≡ answered_of (tasks_to h (deeds s.region h) d))
    × (first_of (to_region s.outbox d) ≡ first h (deeds s.region h) d)
counts-are s h a d =
    let is = region-tasks s h a d in
    let here = placed (deeds s.region h) d in
    let there = prescribed (deeds s.region h) d in
    let alike = length-placed (deeds s.region h) d in (
      ap length is ∙ length-tasks h d 1 here ∙ alike,
      ap answered_of is ∙ same-answered h d 1 1 here there alike,
      ap first_of is ∙ (same-first h d 1 here there alike).1,
    )

pub watermark-is : (s : Contents) (h : History) → IsAfter s h → (d : ℕ) → d < s.regions
    → watermark_of (queue.last_from s.inbox d) ≡ watermark_of (last_from (deeds s.region h) d)
watermark-is s h a d lt = ap watermark_of (a.queues.last d lt)

-- The turns of rounds: between regions that are there, and few.
use Rattle.std.proofs.Common.{◌≡◌, ℕ, zero, suc, ◌*◌, ◌<◌, ◌≤◌, List, [], ◌∷◌, ◌++◌, length, length-append, arith}
use Rattle.std.specs.List.{AllByRecursion}
use Rattle.s3r_desk.specs.declared.worker_turn.WorkerTurn.{WorkerTurn}
use Rattle.s3r_desk.specs.declared.worker_turn.WorkerTurn.TheVariants as turn
use Rattle.s3r_desk.specs.Rounds.{copies_from, copies_below, jobs_below, round, rounds, IsThere}

all_append : (n : ℕ) (xs ys : List WorkerTurn) → AllByRecursion (IsThere n) xs → AllByRecursion (IsThere n) ys → AllByRecursion (IsThere n) (xs ++ ys)
all_append n [] ys first second = second
all_append n (x ∷ xs) ys first second = (first.0, all_append n xs ys first.1 second)

copies_from_there : (n from to : ℕ) → from < n → to ≤ n → AllByRecursion (IsThere n) (copies_from from to)
copies_from_there n from zero lt le = tt
copies_from_there n from (suc to) lt le =
    all_append n (copies_from from to) _ (copies_from_there n from to lt (omega (arith, le))) ((lt, omega (arith, le)), tt)

copies_there : (n m : ℕ) → m ≤ n → AllByRecursion (IsThere n) (copies_below m n)
copies_there n zero le = tt
copies_there n (suc m) le =
    all_append n (copies_below m n) _ (copies_there n m (omega (arith, le))) (copies_from_there n m n (omega (arith, le)) (omega arith))

jobs_there : (n m : ℕ) → m ≤ n → AllByRecursion (IsThere n) (jobs_below m)
jobs_there n zero le = tt
jobs_there n (suc m) le = all_append n (jobs_below m) _ (jobs_there n m (omega (arith, le))) (omega (arith, le), tt)

pub round_there : (n : ℕ) → AllByRecursion (IsThere n) (round n)
round_there n = all_append n (copies_below n n) _ (copies_there n n (omega arith)) (jobs_there n n (omega arith))

pub rounds_there : (k n : ℕ) → AllByRecursion (IsThere n) (rounds k n)
rounds_there zero n = tt
rounds_there (suc k) n = all_append n (rounds k n) _ (rounds_there k n) (round_there n)

-- ---- how many

copies_from_count : (from to : ℕ) → length (copies_from from to) ≡ to
copies_from_count from zero = omega arith
copies_from_count from (suc to) =
    let ih = copies_from_count from to in
    let sum = length-append (copies_from from to) (turn.Copy from to ∷ []) in
    omega (arith, ih, sum)

copies_few : (m n : ℕ) → n ≤ 8 → length (copies_below m n) ≤ 8 * m
copies_few zero n few = omega arith
copies_few (suc m) n few =
    let ih = copies_few m n few in
    let sum = length-append (copies_below m n) (copies_from m n) in
    let last = copies_from_count m n in
    omega (arith, ih, sum, last, few)

jobs_count : (m : ℕ) → length (jobs_below m) ≡ m
jobs_count zero = omega arith
jobs_count (suc m) =
    let ih = jobs_count m in
    let sum = length-append (jobs_below m) (turn.Jobs m ∷ []) in
    omega (arith, ih, sum)

pub round_few : (n : ℕ) → n ≤ 8 → length (round n) ≤ 72
round_few n few =
    let copies = copies_few n n few in
    let jobs = jobs_count n in
    let sum = length-append (copies_below n n) (jobs_below n) in
    omega (arith, copies, jobs, sum, few)

-- Reading rules one after the other, as a loop does.
use Rattle.std.proofs.Common.{◌≡◌, ℕ, suc, ◌-◌, ◌+◌, ◌≤◌, ◌<◌, List, [], ◌∷◌, ◌++◌, Result, Ok, Err, sym, ◌∙◌, refl, arith}
use Rattle.s3r_rules.specs.declared.rule.Rule.{Rule}
use Rattle.s3r_record.specs.declared.fault.RecordFault.{RecordFault}
use Rattle.s3r_record.specs.declared.fault.RecordFault.TheVariants as faults
use Rattle.s3r_record.specs.Reading.{Fails, Unread}
use Rattle.s3r_record.specs.ReadingRules.{rule_at, rules_after}

pub goes_on : (rules : List Rule) (regions : List ℕ) (count done : ℕ) (left : Unread) (rule : Rule) (region : ℕ) (after : Unread)
    (total : Result ((List Rule × List ℕ) × Unread) ℕ) → done < count
    → rule_at rules regions left ≡ Ok ((rule, region), after) → rules_after (count - done) rules regions left ≡ total
    → rules_after (count - (done + 1)) (rules ++ rule ∷ []) (regions ++ region ∷ []) after ≡ total
unfolding rules_after
goes_on rules regions count done left rule region after total lt read so_far =
    let more : count - done ≡ suc (count - (done + 1)) = omega arith in
    let one : rules_after (count - done) rules regions left ≡ rules_after (count - (done + 1)) (rules ++ rule ∷ []) (regions ++ region ∷ []) after =
    rw (more, read) refl in
    sym one ∙ so_far

pub ends : (fault : RecordFault) (rules : List Rule) (regions : List ℕ) (count done : ℕ) (left : Unread) (total : Result ((List Rule × List ℕ) × Unread) ℕ)
    → done < count
    → Fails fault (rule_at rules regions left) → rules_after (count - done) rules regions left ≡ total → Fails fault total
unfolding rules_after
ends faults.OutOfMemory rules regions count done left total lt fails so_far = tt
ends (faults.NotACommand place) rules regions count done left total lt fails so_far =
    let more : count - done ≡ suc (count - (done + 1)) = omega arith in
    let one : rules_after (count - done) rules regions left ≡ Err place = rw (more, fails) refl in
    sym so_far ∙ one

pub is_done : (rules : List Rule) (regions : List ℕ) (count done : ℕ) (left : Unread) (total : Result ((List Rule × List ℕ) × Unread) ℕ) → count ≤ done
    → rules_after (count - done) rules regions left ≡ total → total ≡ Ok ((rules, regions), left)
unfolding rules_after
is_done rules regions count done left total le so_far =
    let none : count - done ≡ 0 = omega arith in
    let one : rules_after (count - done) rules regions left ≡ Ok ((rules, regions), left) = rw none refl in
    sym so_far ∙ one

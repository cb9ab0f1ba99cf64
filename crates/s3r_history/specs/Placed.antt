-- What was prescribed to each region.
use Rattle.std.specs.Prelude.{ℕ, ◌==◌, List, [], ◌∷◌, ◌++◌, if◌then◌else◌}
use Rattle.s3r_history.specs.declared.sent.Sent.{Sent}
use Rattle.s3r_history.specs.declared.sent.Prescribed.{Prescribed}
use Rattle.s3r_history.specs.Past.{Carried, Past}

-- the effects that go to a region, the first first
abbrev pub sends_to : ℕ → List Sent → List Carried
sends_to d [] = []
sends_to d (s ∷ sends) = if s.region == d then s.effect ∷ sends_to d sends else sends_to d sends

-- what was prescribed to a region, the first first: number n stands at place n - 1
abbrev pub prescribed : Past → ℕ → List Carried
prescribed [] d = []
prescribed (e ∷ past) d = prescribed past d ++ sends_to d e.sends

-- the same, each effect with the index of the command that prescribed it
abbrev pub placed_to : ℕ → ℕ → List Sent → List Prescribed
placed_to place d [] = []
placed_to place d (s ∷ sends) = if s.region == d then record { effect = s.effect; place = place } ∷ placed_to place d sends else placed_to place d sends

abbrev pub placed : Past → ℕ → List Prescribed
placed [] d = []
placed (e ∷ past) d = placed past d ++ placed_to e.stamp.index d e.sends

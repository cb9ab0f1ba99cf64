-- The law of what bytes stand for.
use Rattle.std.specs.Prelude.{◌≡◌, ℕ, List}
use Rattle.s3r_history.specs.Words.{History}
use Rattle.s3r_store.specs.Stands.{StandsFor}

-- no bytes stand for two lawful histories
abbrev pub OneLawfulHistory : Type 0
OneLawfulHistory = (n region : ℕ) (bytes : List ℕ) (h k : History) → StandsFor n region h bytes → StandsFor n region k bytes → h ≡ k

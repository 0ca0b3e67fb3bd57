-- How many different numbers there are among some.
use Rattle.std.specs.Prelude.{◌==◌, ℕ, suc, List, [], ◌∷◌, if◌then◌else◌}
use Rattle.std.specs.List.{list_any}

abbrev pub how_many_different : List ℕ → ℕ
how_many_different [] = 0
how_many_different (a ∷ rest) = if list_any (λ b. b == a) rest then how_many_different rest else suc (how_many_different rest)

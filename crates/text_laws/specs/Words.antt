-- Braid words by their parts.
use Rattle.std.specs.Prelude.{ℕ, ℤ, List}
use Rattle.braid_core.specs.Braid.{Word}

abbrev pub braid_word : ℕ → List ℤ → Word
braid_word m letters = record { strands = m; letters = letters }

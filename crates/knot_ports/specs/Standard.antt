-- A port over a reader or a writer of std, as contracts see it.
use Rattle.std.specs.Prelude.{ℕ}

-- the reader or writer, and how many of its faults were counted
pub record Counted (X : Type 0) : Type 0 where
  pub port : X
  pub errors : ℕ

-- of which no fault was counted yet
abbrev pub uncounted : {X : Type 0} → X → Counted X
uncounted port = record { port = port; errors = 0 }

-- A diagram with two neighbouring columns, or rows, in each other's place: what an exchange makes, and a slide.
use Rattle.std.specs.Prelude.{ℕ, ◌+◌, map}
use Rattle.std.specs.List.{swap}
use Rattle.grid_core.specs.Diagram.{Diagram}
use Rattle.grid_moves.specs.Exchange.{exchanged}

-- columns c and c + 1
abbrev pub columns_exchanged : ℕ → Diagram → Diagram
columns_exchanged c d = record { x = swap d.x c (c + 1); o = swap d.o c (c + 1) }

-- rows r and r + 1
abbrev pub rows_exchanged : ℕ → Diagram → Diagram
rows_exchanged r d = record { x = map (exchanged r) d.x; o = map (exchanged r) d.o }

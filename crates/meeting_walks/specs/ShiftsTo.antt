-- Shifts that lead from a diagram to another one, of which it then is a translate. A shift by 0 is none.
use Rattle.std.specs.Prelude.{◌≡◌, ◌≢◌, ◌<◌, ℕ}
use Rattle.grid_core.specs.Diagram.{Diagram, size}
use Rattle.grid_keys.specs.Translation.{translate}

-- the shift of columns by a, and then that of rows by b, lead from d to e; each is less than a whole round
abbrev pub AreShiftsTo : Diagram → Diagram → ℕ → ℕ → Type 0
AreShiftsTo d e a b = (a < size d) × (b < size d) × (translate d a b ≡ e)

-- behind the shift of columns by a, none of rows leads from d to e
abbrev pub HasNoRowShiftTo : Diagram → Diagram → ℕ → Type 0
HasNoRowShiftTo d e a = (b : ℕ) → b < size d → translate d a b ≢ e

-- no shifts lead from d to e
abbrev pub HasNoShiftsTo : Diagram → Diagram → Type 0
HasNoShiftsTo d e = (a b : ℕ) → a < size d → b < size d → translate d a b ≢ e

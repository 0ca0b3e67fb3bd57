-- A move along a path of forms, with the shifts before it, and the diagram to which it leads.
use Rattle.std.specs.Prelude.{◌≡◌, ◌++◌, ◌∷◌, [], ℕ}
use Rattle.grid_core.specs.Diagram.{Diagram}
use Rattle.grid_moves.specs.declared.step.Move.{Move}
use Rattle.grid_moves.specs.Joining.{Joins}
use Rattle.grid_keys.specs.declared.key.Packed.{Packed}
use Rattle.grid_keys.specs.CanonicalForm.{IsCanonicalForm}
use Rattle.grid_keys.specs.Key.{key_of}
use Rattle.grid_keys.specs.Shifts.{shift_moves}

-- the shifts of columns and of rows, and the move behind them, lead from d to e
abbrev pub LeadsBehindShifts : Diagram → ℕ × ℕ → Move → Diagram → Type 0
LeadsBehindShifts d shifts step e = Joins d (shift_moves shifts.0 shifts.1 ++ step ∷ []) e

-- a diagram is a translate of the one that a key names: the key is that of its canonical form
abbrev pub HasKey : Diagram → Packed → Type 0
HasKey d key = (f : Diagram) × (IsCanonicalForm d f × (key_of f ≡ key))

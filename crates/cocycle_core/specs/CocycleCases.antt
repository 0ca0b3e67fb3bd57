-- The faults of a table of numbers case by case, and which of two faults comes first.
use Rattle.std.specs.Prelude.{◌≡◌, ◌≢◌, ◌<◌, ◌≤◌, ◌+◌, ◌*◌, ◌%◌, ℕ, List, [], ◌∷◌, length}
use Rattle.quandle_core.specs.Quandle.{over}
use Rattle.quandle_core.specs.Colours.{ComesBefore}
use Rattle.cocycle_core.specs.Cocycle.{Cochain, value}
use Rattle.cocycle_core.specs.declared.fault.CocycleFault.{CocycleFault}
use Rattle.cocycle_core.specs.declared.fault.CocycleFault.TheVariants.{Modulus, Length, Range, Diagonal, Law}

-- the law fails for this case
abbrev pub IsCocycleFaultOf : Cochain → CocycleFault → Type 0
IsCocycleFaultOf w Modulus = w.modulus < 2
IsCocycleFaultOf w Length = length w.entries ≢ w.quandle.order * w.quandle.order
IsCocycleFaultOf w (Range x y) = (x < w.quandle.order) × (y < w.quandle.order) × (w.modulus ≤ value w x y)
IsCocycleFaultOf w (Diagonal x) = (x < w.quandle.order) × (value w x x ≢ 0)
IsCocycleFaultOf w (Law x y z) = (x < w.quandle.order) × (y < w.quandle.order) × (z < w.quandle.order)
    × ((value w x y + value w (over w.quandle x y) z) % w.modulus ≢ (value w x z + value w (over w.quandle x z) (over w.quandle y z)) % w.modulus)

-- the place of a fault's law among the laws
abbrev pub cocycle_law_rank : CocycleFault → ℕ
cocycle_law_rank Modulus = 0
cocycle_law_rank Length = 1
cocycle_law_rank (Range x y) = 2
cocycle_law_rank (Diagonal x) = 3
cocycle_law_rank (Law x y z) = 4

-- the colours of a fault's case, as the fault names them
abbrev pub cocycle_case_of : CocycleFault → List ℕ
cocycle_case_of Modulus = []
cocycle_case_of Length = []
cocycle_case_of (Range x y) = x ∷ y ∷ []
cocycle_case_of (Diagonal x) = x ∷ []
cocycle_case_of (Law x y z) = x ∷ y ∷ z ∷ []

-- a fault of the table, of the first law that fails, with the lexicographically first of its cases
pub record IsFirstCocycleFault (w : Cochain) (fault : CocycleFault) : Type 0 where
  pub fails : IsCocycleFaultOf w fault
  pub earlier : (other : CocycleFault) → cocycle_law_rank other < cocycle_law_rank fault → IsCocycleFaultOf w other → ⊥
  pub smaller : (other : CocycleFault) → cocycle_law_rank other ≡ cocycle_law_rank fault → ComesBefore (cocycle_case_of other) (cocycle_case_of fault)
      → IsCocycleFaultOf w other → ⊥

-- The faults of a table of numbers case by case, and which of two faults comes first.
use Rattle.std.specs.Prelude.{◌≡◌, ◌≢◌, ◌<◌, ◌≤◌, ◌*◌, ◌%◌, ℕ, List, [], ◌∷◌, length}
use Rattle.quandle_core.specs.Colours.{ComesBefore}
use Rattle.cocycle_core.specs.ShadowCocycle.{ShadowCochain, shadow_value, one_side, other_side}
use Rattle.cocycle_core.specs.declared.shadow_fault.ShadowFault.{ShadowFault}
use Rattle.cocycle_core.specs.declared.shadow_fault.ShadowFault.TheVariants.{Modulus, Length, Range, Diagonal, Law}

-- the law fails for this case
abbrev pub IsShadowFaultOf : ShadowCochain → ShadowFault → Type 0
IsShadowFaultOf t Modulus = t.modulus < 2
IsShadowFaultOf t Length = length t.entries ≢ t.quandle.order * t.quandle.order * t.quandle.order
IsShadowFaultOf t (Range w x y) = (w < t.quandle.order) × (x < t.quandle.order) × (y < t.quandle.order) × (t.modulus ≤ shadow_value t w x y)
IsShadowFaultOf t (Diagonal w x) = (w < t.quandle.order) × (x < t.quandle.order) × (shadow_value t w x x ≢ 0)
IsShadowFaultOf t (Law a b c d) = (a < t.quandle.order) × (b < t.quandle.order) × (c < t.quandle.order) × (d < t.quandle.order)
    × (one_side t a b c d % t.modulus ≢ other_side t a b c d % t.modulus)

-- the place of a fault's law among the laws
abbrev pub shadow_law_rank : ShadowFault → ℕ
shadow_law_rank Modulus = 0
shadow_law_rank Length = 1
shadow_law_rank (Range w x y) = 2
shadow_law_rank (Diagonal w x) = 3
shadow_law_rank (Law a b c d) = 4

-- the colours of a fault's case, as the fault names them
abbrev pub shadow_case_of : ShadowFault → List ℕ
shadow_case_of Modulus = []
shadow_case_of Length = []
shadow_case_of (Range w x y) = w ∷ x ∷ y ∷ []
shadow_case_of (Diagonal w x) = w ∷ x ∷ []
shadow_case_of (Law a b c d) = a ∷ b ∷ c ∷ d ∷ []

-- a fault of the table, of the first law that fails, with the lexicographically first of its cases
pub record IsFirstShadowFault (t : ShadowCochain) (fault : ShadowFault) : Type 0 where
  pub fails : IsShadowFaultOf t fault
  pub earlier : (other : ShadowFault) → shadow_law_rank other < shadow_law_rank fault → IsShadowFaultOf t other → ⊥
  pub smaller : (other : ShadowFault) → shadow_law_rank other ≡ shadow_law_rank fault → ComesBefore (shadow_case_of other) (shadow_case_of fault)
      → IsShadowFaultOf t other → ⊥

-- The faults of a table case by case, and which of two faults comes first.
use Rattle.std.specs.Prelude.{◌≡◌, ◌≢◌, ◌<◌, ◌≤◌, ◌*◌, ◌⊎◌, ℕ, List, [], ◌∷◌, length}
use Rattle.quandle_core.specs.Quandle.{Table, over}
use Rattle.quandle_core.specs.Colours.{ComesBefore}
use Rattle.quandle_core.specs.declared.fault.QuandleFault.{QuandleFault}
use Rattle.quandle_core.specs.declared.fault.QuandleFault.TheVariants.{Order, Length, Range, Idempotent, Collision, Distributive, NoInverse}

-- the law fails for this case, where the order is to be at most the first number
abbrev pub IsQuandleFaultOf : ℕ → Table → QuandleFault → Type 0
IsQuandleFaultOf most t Order = (t.order < 1) ⊎ (most < t.order)
IsQuandleFaultOf most t Length = length t.entries ≢ t.order * t.order
IsQuandleFaultOf most t (Range x y) = (x < t.order) × (y < t.order) × (t.order ≤ over t x y)
IsQuandleFaultOf most t (Idempotent x) = (x < t.order) × (over t x x ≢ x)
IsQuandleFaultOf most t (Collision x z y) = (x < z) × (z < t.order) × (y < t.order) × (over t x y ≡ over t z y)
IsQuandleFaultOf most t (Distributive x y z) = (x < t.order) × (y < t.order) × (z < t.order) × (over t (over t x y) z ≢ over t (over t x z) (over t y z))
IsQuandleFaultOf most t NoInverse = ⊥

-- the place of a fault's law among the laws
abbrev pub quandle_law_rank : QuandleFault → ℕ
quandle_law_rank Order = 0
quandle_law_rank Length = 1
quandle_law_rank (Range x y) = 2
quandle_law_rank (Idempotent x) = 3
quandle_law_rank (Collision x z y) = 4
quandle_law_rank (Distributive x y z) = 5
quandle_law_rank NoInverse = 6

-- the colours of a fault's case, as the fault names them
abbrev pub quandle_case_of : QuandleFault → List ℕ
quandle_case_of Order = []
quandle_case_of Length = []
quandle_case_of (Range x y) = x ∷ y ∷ []
quandle_case_of (Idempotent x) = x ∷ []
quandle_case_of (Collision x z y) = x ∷ z ∷ y ∷ []
quandle_case_of (Distributive x y z) = x ∷ y ∷ z ∷ []
quandle_case_of NoInverse = []

-- a fault of the table, of the first law that fails, with the lexicographically first of its cases
pub record IsFirstQuandleFault (most : ℕ) (t : Table) (fault : QuandleFault) : Type 0 where
  pub fails : IsQuandleFaultOf most t fault
  pub earlier : (other : QuandleFault) → quandle_law_rank other < quandle_law_rank fault → IsQuandleFaultOf most t other → ⊥
  pub smaller : (other : QuandleFault) → quandle_law_rank other ≡ quandle_law_rank fault → ComesBefore (quandle_case_of other) (quandle_case_of fault)
      → IsQuandleFaultOf most t other → ⊥

-- The faults of a move of a diagram, case by case, by the rows and columns of marks.
use Rattle.std.specs.Prelude.{◌≡◌, ◌≢◌, ◌<◌, ◌≤◌, ◌+◌, ◌⊎◌, ℕ}
use Rattle.grid_core.specs.declared.grid.TheConstants.{MAX_SIZE}
use Rattle.grid_core.specs.declared.mark.Kind.TheVariants.{Cross, Ring}
use Rattle.grid_core.specs.Diagram.{Diagram, size, row_of}
use Rattle.grid_core.specs.Span.{IsBetween}
use Rattle.grid_core.specs.Parts.{column_of}
use Rattle.grid_moves.specs.declared.step.Move.{Move}
use Rattle.grid_moves.specs.declared.step.Move.TheVariants.{ShiftColumns, ShiftRows, ExchangeColumns, ExchangeRows, SlideColumns, SlideRows, Stabilise}
use Rattle.grid_moves.specs.declared.step.Move.TheVariants.{Destabilise}
use Rattle.grid_moves.specs.declared.step.MoveFault.{MoveFault}
use Rattle.grid_moves.specs.declared.step.MoveFault.TheVariants.{Range, Touching, Interleaved, Block, Full, Apart}
use Rattle.grid_moves.specs.Destabilisation.{marks_in_block}

-- a move has a number that is out of range
abbrev pub IsOutOfRange : Diagram → Move → Type 0
IsOutOfRange d (ShiftColumns k) = (k < 1) ⊎ (size d ≤ k)
IsOutOfRange d (ShiftRows k) = (k < 1) ⊎ (size d ≤ k)
IsOutOfRange d (ExchangeColumns c) = size d ≤ c + 1
IsOutOfRange d (ExchangeRows r) = size d ≤ r + 1
IsOutOfRange d (SlideColumns c) = size d ≤ c + 1
IsOutOfRange d (SlideRows r) = size d ≤ r + 1
IsOutOfRange d (Stabilise c kind corner) = size d ≤ c
IsOutOfRange d (Destabilise c r) = (size d ≤ c + 1) ⊎ (size d ≤ r + 1)

-- an end of an interval lies outside the other one
abbrev pub IsBeyond : ℕ → ℕ → ℕ → Type 0
IsBeyond a b r = ((r < a) × (r < b)) ⊎ ((a < r) × (b < r))

-- of two intervals, from a to b and from p to q in any order: an end of one is an end of the other
abbrev pub HaveOneEnd : ℕ → ℕ → ℕ → ℕ → Type 0
HaveOneEnd a b p q = (a ≡ p) ⊎ ((a ≡ q) ⊎ ((b ≡ p) ⊎ (b ≡ q)))

-- both ends of one are those of the other
abbrev pub HaveBothEnds : ℕ → ℕ → ℕ → ℕ → Type 0
HaveBothEnds a b p q = ((a ≡ p) × (b ≡ q)) ⊎ ((a ≡ q) × (b ≡ p))

-- one end of the second lies strictly between those of the first, and the other beyond them
abbrev pub Interleave : ℕ → ℕ → ℕ → ℕ → Type 0
Interleave a b p q = (IsBetween a b p × IsBeyond a b q) ⊎ (IsBetween a b q × IsBeyond a b p)

-- what is so of the rows of the two marks of column c and of those of column c + 1
abbrev pub OfColumns : (ℕ → ℕ → ℕ → ℕ → Type 0) → Diagram → ℕ → Type 0
OfColumns Are d c = Are (row_of Cross d c) (row_of Ring d c) (row_of Cross d (c + 1)) (row_of Ring d (c + 1))

-- and of the columns of the two marks of row r and of those of row r + 1
abbrev pub OfRows : (ℕ → ℕ → ℕ → ℕ → Type 0) → Diagram → ℕ → Type 0
OfRows Are d r = Are (column_of Cross d r) (column_of Ring d r) (column_of Cross d (r + 1)) (column_of Ring d (r + 1))

-- the two neighbours of an exchange have a common row or column, and those of a slide both
abbrev pub AreTouching : Diagram → Move → Type 0
AreTouching d (ExchangeColumns c) = OfColumns HaveOneEnd d c
AreTouching d (ExchangeRows r) = OfRows HaveOneEnd d r
AreTouching d (SlideColumns c) = OfColumns HaveBothEnds d c
AreTouching d (SlideRows r) = OfRows HaveBothEnds d r
AreTouching d other = ⊥

abbrev pub AreInterleaved : Diagram → Move → Type 0
AreInterleaved d (ExchangeColumns c) = OfColumns Interleave d c
AreInterleaved d (ExchangeRows r) = OfRows Interleave d r
AreInterleaved d other = ⊥

-- the block of a destabilisation has so many marks, and not three
abbrev pub HasBlockOf : Diagram → ℕ → Move → Type 0
HasBlockOf d marks (Destabilise c r) = (marks_in_block d c r ≡ marks) × (marks ≢ 3)
HasBlockOf d marks other = ⊥

-- a stabilisation has no room
abbrev pub IsFull : Diagram → Move → Type 0
IsFull d (Stabilise c kind corner) = MAX_SIZE ≤ size d
IsFull d other = ⊥

-- the two neighbours of a slide have no common row or column
abbrev pub HaveNoCommonEnd : Diagram → Move → Type 0
HaveNoCommonEnd d (SlideColumns c) = OfColumns HaveOneEnd d c → ⊥
HaveNoCommonEnd d (SlideRows r) = OfRows HaveOneEnd d r → ⊥
HaveNoCommonEnd d other = ⊥

-- the law fails for this case
abbrev pub IsMoveFault : Diagram → Move → MoveFault → Type 0
IsMoveFault d move Range = IsOutOfRange d move
IsMoveFault d move Touching = AreTouching d move
IsMoveFault d move Interleaved = AreInterleaved d move
IsMoveFault d move (Block marks) = HasBlockOf d marks move
IsMoveFault d move Full = IsFull d move
IsMoveFault d move Apart = HaveNoCommonEnd d move

abbrev pub move_rank : MoveFault → ℕ
move_rank Range = 0
move_rank Touching = 1
move_rank Interleaved = 2
move_rank (Block marks) = 3
move_rank Full = 4
move_rank Apart = 5

-- the marks of a block
abbrev pub move_number : MoveFault → ℕ
move_number Range = 0
move_number Touching = 0
move_number Interleaved = 0
move_number (Block marks) = marks
move_number Full = 0
move_number Apart = 0

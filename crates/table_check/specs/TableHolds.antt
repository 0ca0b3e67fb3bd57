-- When what a table of knots says holds.
use Rattle.std.specs.Prelude.{◌≡◌, ◌≢◌, ◌<◌, ◌⊎◌, ℕ, List, length, Option, Some, None, slice_index_or}
use Rattle.std.specs.List.{Contains, slice_get}
use Rattle.grid_moves.specs.Joining.{Joins, Equivalent}
use Rattle.colour_seeds.specs.Settled.{Determine}
use Rattle.evidence_core.specs.declared.blocks.Block.{Block}
use Rattle.evidence_core.specs.declared.evidence.Counted.{Counted}
use Rattle.verdict_core.specs.Diagrams.{grid_of}
use Rattle.number_check.specs.EvidenceHolds.{AreNumbersOf}
use Rattle.table_check.specs.declared.class_items.Class.{Class}
use Rattle.table_check.specs.declared.row_items.KnotRow.{KnotRow}
use Rattle.table_check.specs.declared.tables.KnotTable.{KnotTable}

-- ---- classes

-- the numbers of a class by the block at this place, counted from 0, if they are said
abbrev pub numbers_at : Class → ℕ → Option (List ℕ)
numbers_at c at = slice_index_or c.counts at None

-- the seeds of a class with such numbers, as evidence has them
abbrev pub counted_of_class : Class → List ℕ → Counted
counted_of_class c numbers = record { seeds = c.seeds; numbers = numbers }

-- numbers by a block, if they are said, are the diagram's own, by the seeds of the class
abbrev pub IsShown : Class → Block → Option (List ℕ) → Type 0
IsShown c b None = Unit {0}
IsShown c b (Some numbers) = AreNumbersOf b (grid_of c.diagram) (counted_of_class c numbers)

-- so it is by the block at this place
abbrev pub ShownAt : List Block → Class → ℕ → Type 0
ShownAt blocks c at = (b : Block) → slice_get blocks at ≡ Some b → IsShown c b (numbers_at c at)

-- the seeds settle the diagram, and so it is by each block
pub record ClassHolds (blocks : List Block) (c : Class) : Type 0 where
  pub settled : Determine c.seeds.items (grid_of c.diagram)
  pub shown : (at : ℕ) → at < length blocks → ShownAt blocks c at

-- the class at this place
abbrev pub ClassAt : KnotTable → ℕ → Type 0
ClassAt t at = (c : Class) → slice_get t.classes at ≡ Some c → ClassHolds t.blocks c

-- each class below this place
abbrev pub ClassesHold : KnotTable → ℕ → Type 0
ClassesHold t many = (at : ℕ) → at < many → ClassAt t at

-- ---- pairs of classes

-- both are said, and differ
abbrev pub Differ : Option (List ℕ) → Option (List ℕ) → Type 0
Differ (Some one) (Some two) = one ≢ two
Differ one two = ⊥

-- some block has numbers of both that differ
pub record AreToldApart (blocks : List Block) (c d : Class) : Type 0 where
  pub at : ℕ
  pub within : at < length blocks
  pub differ : Differ (numbers_at c at) (numbers_at d at)

-- the classes at these places are left open, or told apart
abbrev pub PairHolds : KnotTable → ℕ → ℕ → Type 0
PairHolds t first second = (c d : Class) → slice_get t.classes first ≡ Some c → slice_get t.classes second ≡ Some d → first < second
    → Contains t.left (record { first = first; second = second }) ⊎ AreToldApart t.blocks c d

-- this class with each one below a place
abbrev pub PairsWith : KnotTable → ℕ → ℕ → Type 0
PairsWith t first many = (second : ℕ) → second < many → PairHolds t first second

-- each class below this place with each one
abbrev pub PairsHold : KnotTable → ℕ → Type 0
PairsHold t many = (first : ℕ) → first < many → PairsWith t first (length t.classes)

-- ---- rows

-- its moves lead from its diagram to that of its class
abbrev pub RowHolds : List Class → KnotRow → Type 0
RowHolds classes r = (c : Class) → slice_get classes r.class ≡ Some c → Joins (grid_of r.diagram) r.moves (grid_of c.diagram)

-- the row at this place
abbrev pub RowAt : KnotTable → ℕ → Type 0
RowAt t at = (r : KnotRow) → slice_get t.rows at ≡ Some r → RowHolds t.classes r

-- each row below this place
abbrev pub RowsHold : KnotTable → ℕ → Type 0
RowsHold t many = (at : ℕ) → at < many → RowAt t at

-- ---- a table

-- each class, each pair of classes and each row holds
pub record TableHolds (t : KnotTable) : Type 0 where
  pub classes : ClassesHold t (length t.classes)
  pub pairs : PairsHold t (length t.classes)
  pub rows : RowsHold t (length t.rows)

-- ---- what a table claims

-- two rows of one class of the table are equivalent, and each is to the diagram of the class
pub record RowsJoined (t : KnotTable) : Type 0 where
  pub to_class : (r : KnotRow) (c : Class) → Contains t.rows r → slice_get t.classes r.class ≡ Some c → Joins (grid_of r.diagram) r.moves (grid_of c.diagram)
  pub to_row : (r s : KnotRow) (c : Class) → Contains t.rows r → Contains t.rows s → slice_get t.classes r.class ≡ Some c → s.class ≡ r.class
      → Equivalent (grid_of r.diagram) (grid_of s.diagram)

-- two classes are left open
abbrev pub AreOpen : KnotTable → ℕ → ℕ → Type 0
AreOpen t one two = Contains t.left (record { first = one; second = two }) ⊎ Contains t.left (record { first = two; second = one })

-- no list of moves joins the diagrams of two classes of the table, unless these are left open
abbrev pub ClassesApart : KnotTable → Type 0
ClassesApart t = (one two : ℕ) (c d : Class) → slice_get t.classes one ≡ Some c → slice_get t.classes two ≡ Some d → one ≢ two
    → (AreOpen t one two → ⊥) → Equivalent (grid_of c.diagram) (grid_of d.diagram) → ⊥

-- nor does one join rows of two such classes
abbrev pub RowsApart : KnotTable → Type 0
RowsApart t = (r s : KnotRow) → Contains t.rows r → Contains t.rows s → r.class < length t.classes → s.class < length t.classes → r.class ≢ s.class
    → (AreOpen t r.class s.class → ⊥) → Equivalent (grid_of r.diagram) (grid_of s.diagram) → ⊥

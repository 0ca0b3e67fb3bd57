-- The first cause for which a table of knots does not hold: of its classes in turn, then of its pairs of classes, then of its rows.
use Rattle.std.specs.Prelude.{◌≡◌, ◌<◌, ℕ, List, length, Option, Some, None}
use Rattle.std.specs.List.{Contains, slice_get}
use Rattle.std.specs.Option.{option_map}
use Rattle.colour_seeds.specs.Settled.{Determine}
use Rattle.colour_seeds.specs.Seeded.{IsFault}
use Rattle.colour_seeds.specs.declared.seeding.SeedFault.TheVariants as fault
use Rattle.evidence_core.specs.declared.blocks.Block.{Block}
use Rattle.verdict_core.specs.Diagrams.{grid_of}
use Rattle.verdict_core.specs.declared.verdict.Verdict.TheVariants.{Equal}
use Rattle.evidence_core.specs.declared.cause.Cause.{Cause}
use Rattle.evidence_core.specs.declared.cause.Cause.TheVariants as number
use Rattle.number_check.specs.Cause.{settled_cause}
use Rattle.cert_check.specs.declared.ruling.Why.{Why}
use Rattle.cert_check.specs.Cause as moves
use Rattle.table_check.specs.declared.class_items.Class.{Class}
use Rattle.table_check.specs.declared.row_items.KnotRow.{KnotRow}
use Rattle.table_check.specs.declared.tables.KnotTable.{KnotTable}
use Rattle.table_check.specs.declared.cause.ClassCause.{ClassCause}
use Rattle.table_check.specs.declared.cause.ClassCause.TheVariants.{Outside, Unsettled, Wide, Numbers}
use Rattle.table_check.specs.declared.cause.TableCause.{TableCause}
use Rattle.table_check.specs.declared.cause.TableCause.TheVariants as cause
use Rattle.table_check.specs.TableHolds.{numbers_at, ShownAt, ClassesHold, AreToldApart, PairsWith, PairsHold, RowsHold}

-- ---- classes

-- numbers by the block at this place are no diagram's own: a number differs, or else there are too many choices of colours
abbrev pub in_block : ℕ → Cause → ClassCause
in_block at (number.Number which place) = Numbers at place
in_block at _ = Wide at

-- why numbers by a block, if they are said, are not shown to be the diagram's own
abbrev pub shown_cause : Class → ℕ → Block → Option (List ℕ) → Option ClassCause
shown_cause c at b None = None
shown_cause c at b (Some numbers) = option_map (in_block at) (settled_cause b 1 (grid_of c.diagram) (length c.seeds.items) numbers)

-- the first block by which they are not
pub record FailsBy (blocks : List Block) (c : Class) (at : ℕ) (why : ClassCause) : Type 0 where
  pub settled : Determine c.seeds.items (grid_of c.diagram)
  pub before : (place : ℕ) → place < at → ShownAt blocks c place
  pub within : at < length blocks
  pub block : Block
  pub here : slice_get blocks at ≡ Some block
  pub cause : shown_cause c at block (numbers_at c at) ≡ Some why

abbrev pub IsClassCause : List Block → Class → ClassCause → Type 0
IsClassCause blocks c (Outside column) = IsFault c.seeds.items (grid_of c.diagram) (fault.Outside column)
IsClassCause blocks c (Unsettled column) = IsFault c.seeds.items (grid_of c.diagram) (fault.Unsettled column)
IsClassCause blocks c (Wide at) = FailsBy blocks c at (Wide at)
IsClassCause blocks c (Numbers at place) = FailsBy blocks c at (Numbers at place)

-- the class at this place does not hold, for this cause
pub record ClassFails (t : KnotTable) (at : ℕ) (why : ClassCause) : Type 0 where
  pub class : Class
  pub here : slice_get t.classes at ≡ Some class
  pub cause : IsClassCause t.blocks class why

-- ---- pairs of classes

-- the classes at these places are neither left open nor told apart
pub record PairFails (t : KnotTable) (first second : ℕ) : Type 0 where
  pub one : Class
  pub two : Class
  pub here : slice_get t.classes first ≡ Some one
  pub there : slice_get t.classes second ≡ Some two
  pub less : first < second
  pub closed : Contains t.left (record { first = first; second = second }) → ⊥
  pub same : AreToldApart t.blocks one two → ⊥

-- ---- rows

-- the moves of the row at this place do not lead to the diagram of its class, for this cause
pub record RowFails (t : KnotTable) (at : ℕ) (why : Why) : Type 0 where
  pub row : KnotRow
  pub class : Class
  pub here : slice_get t.rows at ≡ Some row
  pub known : slice_get t.classes row.class ≡ Some class
  pub cause : moves.IsVerdictCause (grid_of row.diagram) (grid_of class.diagram) (Equal row.moves) why

-- ---- a table

abbrev pub IsTableCause : KnotTable → TableCause → Type 0
IsTableCause t (cause.Class at why) = ClassesHold t at × ClassFails t at why
IsTableCause t (cause.Same first second) =
    ClassesHold t (length t.classes) × (PairsHold t first × (PairsWith t first second × PairFails t first second))
IsTableCause t (cause.Row at why) = ClassesHold t (length t.classes) × (PairsHold t (length t.classes) × (RowsHold t at × RowFails t at why))

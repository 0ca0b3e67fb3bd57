-- The diagrams of a table that was read are grids.
use Rattle.std.proofs.Common.{◌≡◌, ℕ, zero, suc, List, [], ◌∷◌, length, Result, Ok, codes}
use Rattle.std.specs.List.{All}
use Rattle.std.proofs.lemmas.List.Elements.{All-nil, All-cons}
use Rattle.grid_core.specs.Diagram.{IsGrid}
use Rattle.text_lines.specs.Lines.{Text, text_of}
use Rattle.text_items.specs.declared.fault.TextFault.{TextFault}
use Rattle.text_items.specs.Reading.{in_turn, next_line, text_end}
use Rattle.verdict_core.specs.Diagrams.{grid_of}
use Rattle.verdict_text.specs.Diagrams.{diagram_item}
use Rattle.verdict_text.specs.Moves.{moves_item}
use Rattle.knot_text.proofs.GridsRead.{diagram_is}
use Rattle.knot_text.proofs.Says.{Says, says_ok, says_bind}
use Rattle.certificates.proofs.Earlier.{anything}
use Rattle.evidence_core.specs.declared.blocks.Block.{Block}
use Rattle.number_text.specs.NumberLines.{seeds_at}
use Rattle.table_check.specs.declared.class_items.Class.{Class}
use Rattle.table_check.specs.declared.row_items.KnotRow.{KnotRow}
use Rattle.table_check.specs.declared.tables.KnotTable.{KnotTable}
use Rattle.table_check.specs.Tables.{how_many, blocks_item, counts_item, class_item, classes_item, left_item, class_at, row_item, knot_rows_item, fourth_at}
use Rattle.table_check.specs.Tables.{table_in, knot_table_of}

turns_say : {A : Type 0} (P : A → Type 0) (item : Text → Result (A × Text) TextFault) (count : ℕ) (text : Text)
    → ((t : Text) → Says (item t) (λ x. P x.0)) → Says (in_turn item count text) (λ xs. All P xs.0)
unfolding in_turn
turns_say P item zero text each = says_ok ([], text) (All-nil P)
turns_say P item (suc count) text each =
    says_bind (λ x. P x.0) (each text) (λ first holds.
    says_bind (λ xs. All P xs.0) (turns_say P item count first.1 each) (λ others all.
    says_ok (first.0 ∷ others.0, others.1) (All-cons P first.0 others.0 holds all)))

diagram_says : (text : Text) → Says (diagram_item text) (λ d. IsGrid (grid_of d.0))
diagram_says text = record { of = λ x is. diagram_is text x.0 x.1 is }

abbrev HasGrid : Class → Type 0
HasGrid c = IsGrid (grid_of c.diagram)

abbrev RowHasGrid : KnotRow → Type 0
RowHasGrid r = IsGrid (grid_of r.diagram)

class_says : (blocks : List Block) (text : Text) → Says (class_item blocks text) (λ c. HasGrid c.0)
unfolding class_item
class_says blocks text =
    says_bind (λ d. IsGrid (grid_of d.0)) (diagram_says text) (λ diagram grid.
    says_bind (λ x. Unit {0}) (anything (next_line diagram.1)) (λ line a.
    says_bind (λ x. Unit {0}) (anything (seeds_at line.0)) (λ seeds b.
    says_bind (λ x. Unit {0}) (anything (counts_item blocks line.1)) (λ counts c.
    says_ok (record { diagram = diagram.0; seeds = seeds; counts = counts.0 }, counts.1) grid))))

row_says : (classes : ℕ) (text : Text) → Says (row_item classes text) (λ r. RowHasGrid r.0)
unfolding row_item
row_says classes text =
    says_bind (λ d. IsGrid (grid_of d.0)) (diagram_says text) (λ diagram grid.
    says_bind (λ x. Unit {0}) (anything (next_line diagram.1)) (λ line a.
    says_bind (λ x. Unit {0}) (anything (class_at classes line.0)) (λ class b.
    says_bind (λ x. Unit {0}) (anything (moves_item line.1)) (λ moves c.
    says_ok (record { diagram = diagram.0; class = class; moves = moves.0 }, moves.1) grid))))

classes_say : (blocks : List Block) (text : Text) → Says (classes_item blocks text) (λ cs. All HasGrid cs.0)
unfolding classes_item
classes_say blocks text =
    says_bind (λ x. Unit {0}) (anything (how_many (codes "classes") text)) (λ count a.
    turns_say HasGrid (class_item blocks) count.0 count.1 (class_says blocks))

rows_say : (classes : ℕ) (text : Text) → Says (knot_rows_item classes text) (λ rs. All RowHasGrid rs.0)
unfolding knot_rows_item
rows_say classes text =
    says_bind (λ x. Unit {0}) (anything (how_many (codes "rows") text)) (λ count a.
    turns_say RowHasGrid (row_item classes) count.0 count.1 (row_says classes))

abbrev AreGrids : KnotTable → Type 0
AreGrids t = All HasGrid t.classes × All RowHasGrid t.rows

table_says : (text : Text) → Says (table_in text) AreGrids
unfolding table_in
table_says text =
    says_bind (λ x. Unit {0}) (anything (next_line text)) (λ head a.
    says_bind (λ x. Unit {0}) (anything (fourth_at head.0)) (λ version b.
    says_bind (λ x. Unit {0}) (anything (blocks_item head.1)) (λ blocks c.
    says_bind (λ cs. All HasGrid cs.0) (classes_say blocks.0 blocks.1) (λ classes class_grids.
    says_bind (λ x. Unit {0}) (anything (left_item (length classes.0) classes.1)) (λ left d.
    says_bind (λ rs. All RowHasGrid rs.0) (rows_say (length classes.0) left.1) (λ rows row_grids.
    says_bind (λ x. Unit {0}) (anything (text_end rows.1)) (λ end e.
    says_ok (record { blocks = blocks.0; classes = classes.0; left = left.0; rows = rows.0 }) (class_grids, row_grids))))))))

pub table_grids : (bytes : List ℕ) (t : KnotTable) → knot_table_of bytes ≡ Ok t
    → All (λ c. IsGrid (grid_of c.diagram)) t.classes × All (λ r. IsGrid (grid_of r.diagram)) t.rows
table_grids bytes t is = (table_says (text_of bytes)).of t is

-- What a table that holds claims is true.
use Rattle.std.proofs.Common.{◌≡◌, ◌<◌, ◌∙◌, inl, inr, ℕ, List, length, Option, Some, None, refl, sym, ap, subst, arith}
use Rattle.std.specs.List.{All, Contains, slice_get}
use Rattle.std.proofs.lemmas.Bool.{cases_lt}
use Rattle.std.proofs.lemmas.Option.{slice_get_cases, slice_get_within, slice_get_read, get_or_from_slice_get}
use Rattle.std.proofs.lemmas.List.Elements.{All-get_or}
use Rattle.grid_moves.specs.Joining.{Joins, Equivalent}
use Rattle.grid_moves.proofs.Equivalence.{equivalent_back, equivalent_after}
use Rattle.quandle_core.specs.Quandle.{IsQuandle}
use Rattle.colour_numbers.specs.Numbers.{IsCocycleOrNone}
use Rattle.evidence_core.specs.declared.blocks.Block.{Block}
use Rattle.verdict_core.specs.Diagrams.{grid_of}
use Rattle.number_check.proofs.Rulings.{numbers_apart}
use Rattle.table_check.specs.declared.class_items.Class.{Class}
use Rattle.table_check.specs.declared.row_items.KnotRow.{KnotRow}
use Rattle.table_check.specs.declared.tables.KnotTable.{KnotTable}
use Rattle.table_check.specs.TableHolds.{numbers_at, counted_of_class, IsShown, ClassHolds, Differ, AreToldApart, TableHolds, RowsJoined, ClassesApart}
use Rattle.table_check.specs.TableHolds.{RowsApart}

-- each place of a list has an element
element : {X : Type 0} (xs : List X) (i : ℕ) → i < length xs → (x : X) × (slice_get xs i ≡ Some x)
element xs i lt = elim (slice_get_cases xs i).1 [
  | inl found ↦ (found.0, found.2)
  | inr past ↦ absurd (omega (arith, lt, past.0))
]

-- each element of a list has a place
pub place : {X : Type 0} (xs : List X) (x : X) → Contains xs x → (i : ℕ) × ((i < length xs) × (slice_get xs i ≡ Some x))
place xs x is = (is.0, (is.1, slice_get_read xs (length xs) is.0 x refl is.1 (sym is.2)))

-- what holds of each element holds of the one at a place
pub of_each : {X : Type 0} (P : X → Type 0) (xs : List X) (i : ℕ) (x : X) → All P xs → slice_get xs i ≡ Some x → P x
of_each P xs i x all here = subst P (get_or_from_slice_get xs i x x here) (All-get_or P xs i x (slice_get_within xs i x here) all)

-- ---- rows of one class

row_joined : (t : KnotTable) → TableHolds t → (r : KnotRow) (c : Class) → Contains t.rows r → slice_get t.classes r.class ≡ Some c
    → Joins (grid_of r.diagram) r.moves (grid_of c.diagram)
row_joined t holds r c among known =
    let at = place t.rows r among in
    holds.rows at.0 at.1.0 r at.1.1 c known

pub rows_joined : (t : KnotTable) → TableHolds t → RowsJoined t
rows_joined t holds = record {
  to_class = λ r c among known. row_joined t holds r c among known;
  to_row = λ r s c among_r among_s known same.
      equivalent_after (grid_of r.diagram) (grid_of c.diagram) (grid_of s.diagram) (r.moves, row_joined t holds r c among_r known)
      (equivalent_back (grid_of s.diagram) (grid_of c.diagram)
      (s.moves, row_joined t holds s c among_s (ap (λ (k : ℕ). slice_get t.classes k) same ∙ known)));
}

-- ---- two classes, and rows of them

abbrev pub AreLawful : List Block → Type 0
AreLawful blocks = All (λ (b : Block). IsQuandle b.listed.table) blocks × All (λ (b : Block). IsCocycleOrNone b.cocycle) blocks

numbers_apart_by : (b : Block) (c d : Class) (o p : Option (List ℕ)) → IsQuandle b.listed.table → IsCocycleOrNone b.cocycle → IsShown c b o → IsShown d b p
    → Differ o p → Equivalent (grid_of c.diagram) (grid_of d.diagram) → ⊥
numbers_apart_by b c d None None quandle cocycle first second differ joined = differ
numbers_apart_by b c d None (Some two) quandle cocycle first second differ joined = differ
numbers_apart_by b c d (Some one) None quandle cocycle first second differ joined = differ
numbers_apart_by b c d (Some one) (Some two) quandle cocycle first second differ joined =
    numbers_apart (grid_of c.diagram) (grid_of d.diagram) b (counted_of_class c one) (counted_of_class d two) quandle cocycle
    (record { first = first; second = second; differ = differ }) joined

told_apart : (blocks : List Block) (c d : Class) → AreLawful blocks → ClassHolds blocks c → ClassHolds blocks d → AreToldApart blocks c d
    → Equivalent (grid_of c.diagram) (grid_of d.diagram) → ⊥
told_apart blocks c d lawful one two told joined =
    let block = element blocks told.at told.within in
    numbers_apart_by block.0 c d (numbers_at c told.at) (numbers_at d told.at)
    (of_each (λ (b : Block). IsQuandle b.listed.table) blocks told.at block.0 lawful.0 block.1)
    (of_each (λ (b : Block). IsCocycleOrNone b.cocycle) blocks told.at block.0 lawful.1 block.1)
    (one.shown told.at told.within block.0 block.1) (two.shown told.at told.within block.0 block.1) told.differ joined

pub classes_apart : (t : KnotTable) → AreLawful t.blocks → TableHolds t → ClassesApart t
classes_apart t lawful holds = λ one two c d here there other closed joined.
    let first = slice_get_within t.classes one c here in
    let second = slice_get_within t.classes two d there in
    let hold_one = holds.classes one first c here in
    let hold_two = holds.classes two second d there in
    elim (cases_lt one two) [
      | inl less ↦ elim (holds.pairs one first two second c d here there less) [
        | inl left ↦ closed (inl left)
        | inr told ↦ told_apart t.blocks c d lawful hold_one hold_two told joined
      ]
      | inr more ↦ elim (holds.pairs two second one first d c there here (omega (arith, more, other))) [
        | inl left ↦ closed (inr left)
        | inr told ↦ told_apart t.blocks d c lawful hold_two hold_one told (equivalent_back (grid_of c.diagram) (grid_of d.diagram) joined)
      ]
    ]

pub rows_apart : (t : KnotTable) → AreLawful t.blocks → TableHolds t → RowsApart t
rows_apart t lawful holds = λ r s among_r among_s known_r known_s other closed joined.
    let one = element t.classes r.class known_r in
    let two = element t.classes s.class known_s in
    let c = one.0 in
    let d = two.0 in
    let to_one : Equivalent (grid_of r.diagram) (grid_of c.diagram) = (r.moves, row_joined t holds r c among_r one.1) in
    let to_two : Equivalent (grid_of s.diagram) (grid_of d.diagram) = (s.moves, row_joined t holds s d among_s two.1) in
    let same : Equivalent (grid_of c.diagram) (grid_of d.diagram) =
    equivalent_after (grid_of c.diagram) (grid_of r.diagram) (grid_of d.diagram) (equivalent_back (grid_of r.diagram) (grid_of c.diagram) to_one)
    (equivalent_after (grid_of r.diagram) (grid_of s.diagram) (grid_of d.diagram) joined to_two) in
    classes_apart t lawful holds r.class s.class c d one.1 two.1 other closed same

-- The colourings of the closure, read at its feet, are the fixed points of the braid's action.
use Rattle.std.proofs.Common.{◌≡◌, ◌<◌, ◌≤◌, ◌+◌, ◌∙◌, ℕ, List, length, map, take, get_or, All, arith, sym, refl, ap, subst, zero-add}
use Rattle.std.specs.Prelude.{slice_index}
use Rattle.std.specs.List.{range_with_len}
use Rattle.std.proofs.lemmas.List.{ext_get_or, length-map, get_or-map, nil_from_length}
use Rattle.std.proofs.lemmas.Simd.{map-map}
use Rattle.std.proofs.lemmas.List.FromFn.{get_or-map-range_with_len, length-map-range_with_len}
use Rattle.std.proofs.lemmas.List.Elements.{All-get_or, All-from_get_or, All-take}
use Rattle.grid_core.specs.declared.mark.Kind.TheVariants.{Cross}
use Rattle.grid_core.specs.Diagram.{size, row_of}
use Rattle.grid_core.specs.Parts.{column_of, ends}
use Rattle.grid_core.proofs.Marks.{column_is, column_mark, mark_at}
use Rattle.quandle_core.specs.Quandle.{Table, IsQuandle}
use Rattle.colour_rows.specs.Walk.{walk}
use Rattle.colour_rows.specs.Colouring.{IsColouring}
use Rattle.braid_core.specs.Braid.{Word, IsBraid, IsLetter}
use Rattle.braid_core.specs.Action.{action}
use Rattle.braid_core.specs.FixedPoints.{IsFixedPoint}
use Rattle.braid_closure.specs.declared.columns.Column.{Column}
use Rattle.braid_closure.specs.Columns.{begun, open_columns}
use Rattle.braid_closure.specs.Closure.{after_letters, feet_columns, top_row, ended_at_the_top, closing, closure_size, columns, closure, at_closure_feet}
use Rattle.braid_closure.specs.Closure.{colour_of_column}
use Rattle.braid_closure.proofs.Stages.{IsStage, x_rows, first_stage, stage_as, stage_letters, begun_open}
use Rattle.braid_closure.proofs.Grids.{body_stage, closure_grid, size_closure}
use Rattle.braid_laws.proofs.Cut.{cut, cut_letters, cut_ended_at_top}
use Rattle.braid_laws.proofs.Walked.{colours_of}
use Rattle.braid_laws.proofs.Covered.{all_rising}
use Rattle.braid_laws.proofs.Strands.{open_colours}
use Rattle.braid_laws.proofs.Followed.{Closes, IsBelow, Parts, Follows, closes_follows, follows_action, follows_front}
use Rattle.braid_laws.proofs.Turned.{bottom_where, top_colours, closes_tops}

-- the columns after all letters, and those below the closing columns
abbrev pub built : Word → List Column
built b = after_letters b.strands (feet_columns b.strands) b.letters

abbrev pub body : Word → List Column
body b = ended_at_the_top (closure_size b) b.strands (built b)

pub built_stage : (b : Word) → IsBraid b → IsStage b.strands b.strands (b.strands + length b.letters) (length b.letters) (built b)
built_stage b braid =
    stage_as b.strands b.strands b.strands (b.strands + length b.letters) (b.strands + length b.letters) (0 + length b.letters) (length b.letters) (built b)
    (built b) refl refl refl (zero-add (length b.letters))
    (stage_letters b.strands b.strands 0 b.letters (feet_columns b.strands) (omega arith) braid.crossings (first_stage b.strands))

pub parts_of : (b : Word) → IsBraid b → Parts (body b) (closing (closure_size b) b.strands)
parts_of b braid = record {
  grid = closure_grid b braid;
  rising = let stage = body_stage b braid in all_rising (body b) (nil_from_length (open_columns (body b)) stage.standing) stage.up;
}

pub letter_cuts : (b : Word) → IsBraid b → (s : ℕ) → s < b.strands + length b.letters → cut s (body b) ≡ cut s (built b)
letter_cuts b braid s lt =
    cut_ended_at_top s b.strands (closure_size b) b.strands (b.strands + length b.letters) (length b.letters) (built b) lt (omega arith) (omega arith)
    (built_stage b braid)

pub foot_cuts : (b : Word) → IsBraid b → (i : ℕ) → i < b.strands → cut i (body b) ≡ cut i (feet_columns b.strands)
foot_cuts b braid i lt =
    letter_cuts b braid i (omega arith)
    ∙ cut_letters i b.strands b.strands 0 b.letters (feet_columns b.strands) lt (omega arith) braid.crossings (first_stage b.strands)

-- the colour of the column with its X in a row
abbrev pub colour_by : Word → List ℕ → ℕ → ℕ
colour_by b colours x = slice_index colours (column_of Cross (closure b) x)

by_rows : (colour : ℕ → ℕ) (cs : List Column) → colours_of colour cs ≡ map colour (x_rows cs)
by_rows colour cs = sym (map-map colour (λ (c : Column). c.x) cs)

pub colours_long : (colour : ℕ → ℕ) (b : Word) → length (colours_of colour (columns b)) ≡ size (closure b)
colours_long colour b = length-map (columns b) (λ (c : Column). colour c.x) ∙ sym (length-map (columns b) (λ (c : Column). c.x))

-- colours by columns are colours by rows
pub colours_back : (b : Word) → IsBraid b → (colours : List ℕ) → length colours ≡ size (closure b) → colours ≡ colours_of (colour_by b colours) (columns b)
colours_back b braid colours long =
    ext_get_or 0 colours (colours_of (colour_by b colours) (columns b)) (long ∙ sym (colours_long (colour_by b colours) b))
    (λ i lt.
    let inside : i < size (closure b) = omega (arith, long, lt) in
    sym (ap (λ (xs : List ℕ). get_or xs i 0) (by_rows (colour_by b colours) (columns b))
    ∙ (get_or-map (colour_by b colours) (x_rows (columns b)) i 0 0 inside
    ∙ ap (λ (z : ℕ). get_or colours z 0)
    (column_is (closure b) (closure_grid b braid) Cross i (row_of Cross (closure b) i) (mark_at (closure b) Cross i inside)))))

pub colour_read : (colour : ℕ → ℕ) (b : Word) → IsBraid b → (x : ℕ) → x < closure_size b
    → slice_index (colours_of colour (columns b)) (column_of Cross (closure b) x) ≡ colour x
colour_read colour b braid x lt =
    let mark = column_mark (closure b) (closure_grid b braid) Cross x (omega (arith, lt, size_closure b braid)) in
    ap (λ (xs : List ℕ). get_or xs (column_of Cross (closure b) x) 0) (by_rows colour (columns b))
    ∙ (get_or-map colour (x_rows (columns b)) (column_of Cross (closure b) x) 0 0 mark.inside
    ∙ ap colour mark.row)

pub range_agree : (f g : ℕ → ℕ) (m : ℕ) → ((i : ℕ) → i < m → f i ≡ g i) → map f (range_with_len 0 m) ≡ map g (range_with_len 0 m)
range_agree f g m each =
    let long = length-map-range_with_len f 0 m in
    ext_get_or 0 (map f (range_with_len 0 m)) (map g (range_with_len 0 m)) (long ∙ sym (length-map-range_with_len g 0 m))
    (λ i lt.
    let inside : i < m = omega (arith, lt, long) in
    get_or-map-range_with_len f 0 m i i 0 inside (zero-add i) ∙ (each i inside ∙ sym (get_or-map-range_with_len g 0 m i i 0 inside (zero-add i))))

pub feet_read : (b : Word) (colours : List ℕ) → at_closure_feet b colours ≡ map (colour_by b colours) (range_with_len 0 b.strands)
feet_read b colours = map-map (slice_index colours) (column_of Cross (closure b)) (range_with_len 0 b.strands)

pub feet_columns_read : (colour : ℕ → ℕ) (m : ℕ) → open_colours colour (feet_columns m) ≡ map colour (range_with_len 0 m)
feet_columns_read colour m = ap (colours_of colour) (begun_open 0 m) ∙ map-map (λ (c : Column). colour c.x) begun (range_with_len 0 m)

-- what all rows say of a colouring by rows
closing_rows : (t : Table) (colour : ℕ → ℕ) (b : Word) → IsBraid b → ((r : ℕ) → r < closure_size b → Closes t colour r (columns b))
    → top_colours colour (closure_size b) b.strands ≡ map colour (range_with_len 0 b.strands)
closing_rows t colour b braid closes =
    range_agree (λ (i : ℕ). colour (top_row (closure_size b) (i + 1))) colour b.strands
    (λ i lt. sym
    ((bottom_where t colour (closure_size b) b.strands i (body b) lt (omega arith) (parts_of b braid) (foot_cuts b braid i lt)).equal (closes i (omega arith))))

pub rows_follow : (t : Table) (colour : ℕ → ℕ) (b : Word) → IsBraid b → IsBelow t colour (closure_size b)
    → ((r : ℕ) → r < closure_size b → Closes t colour r (columns b)) → Follows t colour b.strands (map colour (range_with_len 0 b.strands)) b.letters
rows_follow t colour b braid is closes =
    subst (λ (xs : List ℕ). Follows t colour b.strands xs b.letters) (feet_columns_read colour b.strands)
    (closes_follows t colour (closure_size b) b.strands b.strands 0 b.letters (feet_columns b.strands) (body b) (closing (closure_size b) b.strands) is
    (omega arith) (omega arith) braid.crossings (first_stage b.strands) (parts_of b braid)
    (letter_cuts b braid) (λ s from lt. closes s (omega arith)))

rows_fixed : (t : Table) (colour : ℕ → ℕ) (b : Word) → IsBraid b → IsBelow t colour (closure_size b)
    → ((r : ℕ) → r < closure_size b → Closes t colour r (columns b))
    → action t b.letters (map colour (range_with_len 0 b.strands)) ≡ map colour (range_with_len 0 b.strands)
rows_fixed t colour b braid is closes =
    let follows = rows_follow t colour b braid is closes in
    let image =
    follows_action t colour b.strands b.strands 0 b.letters (feet_columns b.strands) (omega arith) braid.crossings (first_stage b.strands)
    (subst (λ (xs : List ℕ). Follows t colour b.strands xs b.letters) (sym (feet_columns_read colour b.strands)) follows) in
    let tops =
    closes_tops t colour (closure_size b) b.strands b.strands (b.strands + length b.letters) (length b.letters) (built b) (body b) (omega arith)
    (omega arith) (omega arith) (omega arith) (built_stage b braid) (parts_of b braid)
    (λ s from. refl) (λ i lt. closes (top_row (closure_size b) (i + 1)) (omega arith)) in
    ap (action t b.letters) (sym (feet_columns_read colour b.strands)) ∙ (sym image ∙ (tops ∙ closing_rows t colour b braid closes))

-- what is known of a colouring
pub colouring_below : (t : Table) → IsQuandle t → (b : Word) → IsBraid b → (colours : List ℕ) → IsColouring t (closure b) colours
    → IsBelow t (colour_by b colours) (closure_size b)
colouring_below t q b braid colours is = record {
  quandle = q;
  below = λ x lt.
      let mark = column_mark (closure b) (closure_grid b braid) Cross x (omega (arith, lt, size_closure b braid)) in
      let long = is.colours_are.0 in
      All-get_or (λ y. y < t.order) colours (column_of Cross (closure b) x) 0 (omega (arith, mark.inside, long)) is.colours_are.1;
}

pub colouring_closes : (t : Table) (b : Word) → IsBraid b → (colours : List ℕ) → IsColouring t (closure b) colours → (r : ℕ) → r < closure_size b
    → Closes t (colour_by b colours) r (columns b)
colouring_closes t b braid colours is r lt =
    let same = colours_back b braid colours is.colours_are.0 in
    subst (λ (xs : List ℕ). walk t (closure b) xs r ≡ slice_index xs (ends (closure b) r).high) same (is.rows r (omega (arith, lt, size_closure b braid)))

-- a colouring read at the feet is a fixed point
pub feet_fixed : (t : Table) → IsQuandle t → (b : Word) → IsBraid b → (colours : List ℕ) → IsColouring t (closure b) colours
    → IsFixedPoint t b (at_closure_feet b colours)
feet_fixed t q b braid colours is =
    let colour = colour_by b colours in
    let below = colouring_below t q b braid colours is in
    let read = feet_read b colours in
    record {
      tuple = (
        ap length read ∙ length-map-range_with_len colour 0 b.strands,
        subst (All (λ y. y < t.order)) (sym read)
            (All-from_get_or (λ y. y < t.order) (map colour (range_with_len 0 b.strands)) 0
            (λ i lt. let inside : i < b.strands = omega (arith, lt, length-map-range_with_len colour 0 b.strands) in
            subst (λ (z : ℕ). z < t.order) (sym (get_or-map-range_with_len colour 0 b.strands i i 0 inside (zero-add i))) (below.below i (omega arith)))),
      );
      fixed = ap (action t b.letters) read ∙ (rows_fixed t colour b braid below (colouring_closes t b braid colours is) ∙ sym read);
    }

-- at each height the open columns have the feet's colours after the letters so far
pub heights : (t : Table) → IsQuandle t → (b : Word) → IsBraid b → (colours : List ℕ) → IsColouring t (closure b) colours → (i : ℕ)
    → i ≤ length b.letters
    → map (colour_of_column b colours) (open_columns (after_letters b.strands (feet_columns b.strands) (take i b.letters))) ≡ action t (take i b.letters) (at_closure_feet b colours)
heights t q b braid colours is i most =
    let colour = colour_by b colours in
    let follows = rows_follow t colour b braid (colouring_below t q b braid colours is) (colouring_closes t b braid colours is) in
    let front = follows_front t colour b.strands i (map colour (range_with_len 0 b.strands)) b.letters follows in
    follows_action t colour b.strands b.strands 0 (take i b.letters) (feet_columns b.strands) (omega arith)
    (All-take (IsLetter b.strands) i b.letters braid.crossings) (first_stage b.strands)
    (subst (λ (xs : List ℕ). Follows t colour b.strands xs (take i b.letters)) (sym (feet_columns_read colour b.strands)) front)
    ∙ ap (action t (take i b.letters)) (feet_columns_read colour b.strands ∙ sym (feet_read b colours))

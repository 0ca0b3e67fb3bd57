-- Each fixed point of the braid's action is read at the feet of exactly one colouring of the closure.
use Rattle.std.proofs.Common.{◌≡◌, ◌<◌, ◌≤◌, ◌+◌, ◌-◌, ◌∷◌, ◌∙◌, inl, inr, [], ℕ, List, Bool, cond, length, map, get_or, All, arith, sym}
use Rattle.std.proofs.Common.{refl, ap, ap₂, subst, zero-add, nat_lt}
use Rattle.std.specs.List.{range_with_len}
use Rattle.std.proofs.lemmas.Bool.{lt-ltb, le-ltb, cases_lt}
use Rattle.std.proofs.lemmas.List.{ext_get_or}
use Rattle.std.proofs.lemmas.List.FromFn.{get_or-map-range_with_len, length-map-range_with_len}
use Rattle.std.proofs.lemmas.List.Elements.{All-get_or, All-map, All-weaker, All-head, All-tail}
use Rattle.grid_core.specs.Diagram.{size}
use Rattle.grid_core.proofs.OneEach.{each_below}
use Rattle.quandle_core.specs.Quandle.{Table, IsQuandle}
use Rattle.colour_rows.specs.Colouring.{IsColouring}
use Rattle.braid_core.specs.Braid.{Word, IsBraid}
use Rattle.braid_core.specs.Action.{action}
use Rattle.braid_core.specs.FixedPoints.{IsFixedPoint}
use Rattle.braid_closure.specs.declared.columns.Column.{Column}
use Rattle.braid_closure.specs.Closure.{feet_columns, top_row, closing, closure_size, columns, closure, at_closure_feet}
use Rattle.braid_closure.proofs.Stages.{x_rows, x_below, first_stage}
use Rattle.braid_closure.proofs.Grids.{closure_grid, size_closure}
use Rattle.braid_laws.proofs.Walked.{colours_of}
use Rattle.braid_laws.proofs.Strands.{open_colours}
use Rattle.braid_laws.proofs.Followed.{Closes, IsBelow, Follows, follows_closes, follows_action, follows_agree, made_colours}
use Rattle.braid_laws.proofs.Followed.{made_follows, made_length, made_below}
use Rattle.braid_laws.proofs.Turned.{bottom_where, top_colours, tops_close}
use Rattle.braid_laws.proofs.Feet.{built, body, built_stage, parts_of, letter_cuts, foot_cuts, colour_by, colours_back, colours_long}
use Rattle.braid_laws.proofs.Feet.{colour_read, range_agree, feet_read, feet_columns_read, rows_follow, colouring_below}
use Rattle.braid_laws.proofs.Feet.{colouring_closes}

-- the rows of the Xs of all columns lie below the size
columns_below : (b : Word) → IsBraid b → All (λ (c : Column). c.x < closure_size b) (columns b)
columns_below b braid =
    let grid = closure_grid b braid in
    x_below (closure_size b) (columns b)
    (subst (λ (z : ℕ). All (λ r. r < z) (x_rows (columns b))) (size_closure b braid) (each_below (size (closure b)) (x_rows (columns b)) grid.crosses))

-- two colourings by rows that agree at these rows
agree_columns : (colour other : ℕ → ℕ) (n : ℕ) → ((x : ℕ) → x < n → colour x ≡ other x) → (cs : List Column) → All (λ (c : Column). c.x < n) cs
    → colours_of colour cs ≡ colours_of other cs
agree_columns colour other n each [] all = refl
agree_columns colour other n each (c ∷ cs) all =
    ap₂ (λ (y : ℕ) (ys : List ℕ). y ∷ ys) (each c.x (All-head (λ (d : Column). d.x < n) c cs all))
    (agree_columns colour other n each cs (All-tail (λ (d : Column). d.x < n) c cs all))

map_range_at : (f g : ℕ → ℕ) (m i : ℕ) → i < m → map f (range_with_len 0 m) ≡ map g (range_with_len 0 m) → f i ≡ g i
map_range_at f g m i lt e =
    sym (get_or-map-range_with_len f 0 m i i 0 lt (zero-add i))
    ∙ (ap (λ (xs : List ℕ). get_or xs i 0) e ∙ get_or-map-range_with_len g 0 m i i 0 lt (zero-add i))

-- two colourings that agree at the feet are one
rows_agree : (t : Table) → IsQuandle t → (b : Word) → IsBraid b → (colours others : List ℕ) → IsColouring t (closure b) colours
    → IsColouring t (closure b) others → at_closure_feet b colours ≡ at_closure_feet b others → (x : ℕ) → x < closure_size b
    → colour_by b colours x ≡ colour_by b others x
rows_agree t q b braid colours others one two same x lt =
    let colour = colour_by b colours in
    let other = colour_by b others in
    let at_rows = sym (feet_read b colours) ∙ (same ∙ feet_read b others) in
    let low : (i : ℕ) → i < b.strands → colour i ≡ other i = λ i at. map_range_at colour other b.strands i at at_rows in
    elim (cases_lt x b.strands) [
      | inl foot ↦ low x foot
      | inr above ↦ elim (cases_lt x (b.strands + length b.letters)) [
        | inl letter ↦ follows_agree t colour other b.strands (map colour (range_with_len 0 b.strands)) b.letters
            (rows_follow t colour b braid (colouring_below t q b braid colours one) (colouring_closes t b braid colours one))
            (subst (λ (xs : List ℕ). Follows t other b.strands xs b.letters) (sym at_rows)
            (rows_follow t other b braid (colouring_below t q b braid others two) (colouring_closes t b braid others two)))
            x above letter
        | inr top ↦
            let i = closure_size b - 1 - x in
            let within : i < b.strands = omega arith in
            let row : top_row (closure_size b) (i + 1) ≡ x = omega arith in
            let first =
            (bottom_where t colour (closure_size b) b.strands i (body b) within (omega arith) (parts_of b braid) (foot_cuts b braid i within)).equal
            (colouring_closes t b braid colours one i (omega arith)) in
            let second =
            (bottom_where t other (closure_size b) b.strands i (body b) within (omega arith) (parts_of b braid) (foot_cuts b braid i within)).equal
            (colouring_closes t b braid others two i (omega arith)) in
            ap colour (sym row) ∙ (sym first ∙ (low i within ∙ (second ∙ ap other row)))
      ]
    ]

pub feet_one : (t : Table) → IsQuandle t → (b : Word) → IsBraid b → (colours others : List ℕ) → IsColouring t (closure b) colours
    → IsColouring t (closure b) others → at_closure_feet b colours ≡ at_closure_feet b others → colours ≡ others
feet_one t q b braid colours others one two same =
    colours_back b braid colours one.colours_are.0
    ∙ (agree_columns (colour_by b colours) (colour_by b others) (closure_size b) (rows_agree t q b braid colours others one two same) (columns b)
    (columns_below b braid)
    ∙ sym (colours_back b braid others two.colours_are.0))

-- the colouring by rows that a tuple gives: its own colours at the feet, those that the letters make, and its own again
by_tuple : Table → Word → List ℕ → ℕ → ℕ
by_tuple t b xs x =
    cond (nat_lt x b.strands) (get_or xs x 0)
    (cond (nat_lt x (b.strands + length b.letters)) (get_or (made_colours t xs b.letters) (x - b.strands) 0) (get_or xs (closure_size b - 1 - x) 0))

at_foot : (t : Table) (b : Word) (xs : List ℕ) (x : ℕ) → x < b.strands → by_tuple t b xs x ≡ get_or xs x 0
unfolding by_tuple
at_foot t b xs x lt =
    ap (λ (s : Bool). cond s (get_or xs x 0)
    (cond (nat_lt x (b.strands + length b.letters)) (get_or (made_colours t xs b.letters) (x - b.strands) 0)
    (get_or xs (closure_size b - 1 - x) 0))) (lt-ltb x b.strands lt)

at_letter : (t : Table) (b : Word) (xs : List ℕ) (x : ℕ) → b.strands ≤ x → x < b.strands + length b.letters
    → by_tuple t b xs x ≡ get_or (made_colours t xs b.letters) (x - b.strands) 0
unfolding by_tuple
at_letter t b xs x from lt =
    ap (λ (s : Bool). cond s (get_or xs x 0)
    (cond (nat_lt x (b.strands + length b.letters)) (get_or (made_colours t xs b.letters) (x - b.strands) 0)
    (get_or xs (closure_size b - 1 - x) 0))) (le-ltb x b.strands from)
    ∙ ap (λ (s : Bool). cond s (get_or (made_colours t xs b.letters) (x - b.strands) 0) (get_or xs (closure_size b - 1 - x) 0))
    (lt-ltb x (b.strands + length b.letters) lt)

at_top : (t : Table) (b : Word) (xs : List ℕ) (x : ℕ) → b.strands + length b.letters ≤ x → by_tuple t b xs x ≡ get_or xs (closure_size b - 1 - x) 0
unfolding by_tuple
at_top t b xs x from =
    ap (λ (s : Bool). cond s (get_or xs x 0)
    (cond (nat_lt x (b.strands + length b.letters)) (get_or (made_colours t xs b.letters) (x - b.strands) 0)
    (get_or xs (closure_size b - 1 - x) 0))) (le-ltb x b.strands (omega arith))
    ∙ ap (λ (s : Bool). cond s (get_or (made_colours t xs b.letters) (x - b.strands) 0) (get_or xs (closure_size b - 1 - x) 0))
    (le-ltb x (b.strands + length b.letters) from)

tuple_below : (t : Table) → IsQuandle t → (b : Word) → IsBraid b → (xs : List ℕ) → IsFixedPoint t b xs → IsBelow t (by_tuple t b xs) (closure_size b)
tuple_below t q b braid xs point = record {
  quandle = q;
  below = λ x lt.
      let long = point.tuple.0 in
      elim (cases_lt x b.strands) [
        | inl foot ↦ subst (λ (z : ℕ). z < t.order) (sym (at_foot t b xs x foot)) (All-get_or (λ y. y < t.order) xs x 0 (omega arith) point.tuple.1)
        | inr above ↦ elim (cases_lt x (b.strands + length b.letters)) [
          | inl letter ↦ subst (λ (z : ℕ). z < t.order) (sym (at_letter t b xs x above letter))
              (All-get_or (λ y. y < t.order) (made_colours t xs b.letters) (x - b.strands) 0 (omega (arith, made_length t xs b.letters))
              (made_below t q b.strands b.letters braid.crossings xs point.tuple))
          | inr top ↦
              subst (λ (z : ℕ). z < t.order) (sym (at_top t b xs x top))
              (All-get_or (λ y. y < t.order) xs (closure_size b - 1 - x) 0 (omega arith) point.tuple.1)
        ]
      ];
}

-- the tuple at the feet
tuple_feet : (t : Table) (b : Word) (xs : List ℕ) → length xs ≡ b.strands → map (by_tuple t b xs) (range_with_len 0 b.strands) ≡ xs
tuple_feet t b xs long =
    let size = length-map-range_with_len (by_tuple t b xs) 0 b.strands in
    ext_get_or 0 (map (by_tuple t b xs) (range_with_len 0 b.strands)) xs (size ∙ sym long)
    (λ i lt.
    let inside : i < b.strands = omega (arith, lt, size) in
    get_or-map-range_with_len (by_tuple t b xs) 0 b.strands i i 0 inside (zero-add i) ∙ at_foot t b xs i inside)

tuple_tops : (t : Table) (b : Word) (xs : List ℕ) (i : ℕ) → i < b.strands → by_tuple t b xs (top_row (closure_size b) (i + 1)) ≡ by_tuple t b xs i
tuple_tops t b xs i lt =
    at_top t b xs (top_row (closure_size b) (i + 1)) (omega arith)
    ∙ (ap (λ (z : ℕ). get_or xs z 0) (let e : closure_size b - 1 - top_row (closure_size b) (i + 1) ≡ i = omega arith in e)
    ∙ sym (at_foot t b xs i lt))

tuple_follows : (t : Table) (b : Word) (xs : List ℕ) → Follows t (by_tuple t b xs) b.strands xs b.letters
tuple_follows t b xs =
    made_follows t (by_tuple t b xs) b.strands xs b.letters
    (λ i lt. at_letter t b xs (b.strands + i) (omega arith) (omega arith)
    ∙ ap (λ (z : ℕ). get_or (made_colours t xs b.letters) z 0) (let e : b.strands + i - b.strands ≡ i = omega arith in e))

-- each row closes
tuple_closes : (t : Table) → IsQuandle t → (b : Word) → IsBraid b → (xs : List ℕ) → IsFixedPoint t b xs → (r : ℕ) → r < closure_size b
    → Closes t (by_tuple t b xs) r (columns b)
tuple_closes t q b braid xs point r lt =
    let colour = by_tuple t b xs in
    let start : open_colours colour (feet_columns b.strands) ≡ xs = feet_columns_read colour b.strands ∙ tuple_feet t b xs point.tuple.0 in
    let follows = subst (λ (ys : List ℕ). Follows t colour b.strands ys b.letters) (sym start) (tuple_follows t b xs) in
    elim (cases_lt r b.strands) [
      | inl foot ↦
          (bottom_where t colour (closure_size b) b.strands r (body b) foot (omega arith) (parts_of b braid) (foot_cuts b braid r foot)).closes
          (sym (tuple_tops t b xs r foot))
      | inr above ↦ elim (cases_lt r (b.strands + length b.letters)) [
        | inl letter ↦
            follows_closes t colour (closure_size b) b.strands b.strands 0 b.letters (feet_columns b.strands) (body b) (closing (closure_size b) b.strands)
            (tuple_below t q b braid xs point) (omega arith) (omega arith) braid.crossings (first_stage b.strands) (parts_of b braid)
            (letter_cuts b braid) follows r above letter
        | inr top ↦
            let image : open_colours colour (built b) ≡ xs =
            follows_action t colour b.strands b.strands 0 b.letters (feet_columns b.strands) (omega arith) braid.crossings (first_stage b.strands) follows
            ∙ (ap (action t b.letters) start ∙ point.fixed) in
            let tops : top_colours colour (closure_size b) b.strands ≡ xs =
            range_agree (λ (i : ℕ). colour (top_row (closure_size b) (i + 1))) colour b.strands (λ i at. tuple_tops t b xs i at)
            ∙ tuple_feet t b xs point.tuple.0 in
            let row : top_row (closure_size b) (closure_size b - 1 - r + 1) ≡ r = omega arith in
            subst (λ (z : ℕ). Closes t colour z (columns b)) row
            (tops_close t colour (closure_size b) b.strands b.strands (b.strands + length b.letters) (length b.letters) (built b) (body b) (omega arith)
            (omega arith) (omega arith) (omega arith) (built_stage b braid) (parts_of b braid)
            (λ s from. refl) (image ∙ sym tops) (closure_size b - 1 - r) (omega arith))
      ]
    ]

-- a fixed point is read at the feet of a colouring
pub feet_onto : (t : Table) → IsQuandle t → (b : Word) → IsBraid b → (xs : List ℕ) → IsFixedPoint t b xs
    → (colours : List ℕ) × IsColouring t (closure b) colours × (at_closure_feet b colours ≡ xs)
feet_onto t q b braid xs point =
    let colour = by_tuple t b xs in
    let is = tuple_below t q b braid xs point in (
      colours_of colour (columns b),
      record {
        colours_are = (
          colours_long colour b,
          All-map (λ y. y < t.order) (λ (c : Column). colour c.x) (columns b)
              (All-weaker (λ (c : Column). c.x < closure_size b) (λ (c : Column). colour c.x < t.order) (λ c lt. is.below c.x lt) (columns b)
              (columns_below b braid)),
        );
        rows = λ r lt. tuple_closes t q b braid xs point r (omega (arith, lt, size_closure b braid));
      },
      feet_read b (colours_of colour (columns b))
          ∙ (range_agree (colour_by b (colours_of colour (columns b))) colour b.strands (λ i lt. colour_read colour b braid i (omega arith))
          ∙ tuple_feet t b xs point.tuple.0),
    )

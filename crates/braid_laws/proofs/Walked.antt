-- The walk of a row of a diagram that is given by its columns, under a colour for each row of an X.
use Rattle.std.proofs.Common.{◌≡◌, ◌<◌, ◌+◌, ◌-◌, ◌∷◌, ◌++◌, ◌∙◌, ◌⊎◌, inl, inr, [], ℕ, suc, List, Bool, true, false, cond, Option, Some}
use Rattle.std.proofs.Common.{unwrap_or, length, map, filter, fold, get_or, arith, sym, refl, ap, ap₂, append_assoc, length-append, nat_lt}
use Rattle.std.specs.Prelude.{slice_index}
use Rattle.std.specs.List.{range_with_len}
use Rattle.std.proofs.lemmas.List.{length-map}
use Rattle.grid_core.specs.declared.mark.Kind.TheVariants.{Cross, Ring}
use Rattle.grid_core.specs.Diagram.{Diagram, IsGrid, size, row_of}
use Rattle.grid_core.specs.Span.{span, lies_within}
use Rattle.grid_core.specs.Parts.{column_of, covers, ends}
use Rattle.grid_core.proofs.Marks.{column_is}
use Rattle.quandle_core.specs.Quandle.{Table, over, back}
use Rattle.colour_rows.specs.Walk.{under, walk}
use Rattle.grid_core.proofs.Ends.{span_low, span_high}
use Rattle.braid_closure.specs.declared.columns.Column.{Column}
use Rattle.braid_closure.specs.Columns.{diagram_of}

-- the column covers row r, where it has ended
abbrev pub column_covers : ℕ → Column → Bool
column_covers r c = lies_within (span c.x (unwrap_or c.o 0)) r

-- what a colour becomes under the column, from left to right
abbrev pub under_column : Table → (ℕ → ℕ) → ℕ → Column → ℕ
under_column t colour y c = cond (nat_lt c.x (unwrap_or c.o 0)) (back t y (colour c.x)) (over t y (colour c.x))

-- the colours of the columns
abbrev pub colours_of : (ℕ → ℕ) → List Column → List ℕ
colours_of colour columns = map (λ (c : Column). colour c.x) columns

-- the number for the column behind these
read_at : (f : Column → ℕ) (front : List Column) (c : Column) (rest : List Column) (d : ℕ) → get_or (map f (front ++ c ∷ rest)) (length front) d ≡ f c
read_at f [] c rest d = refl
read_at f (b ∷ front) c rest d = read_at f front c rest d

pub x_at : (columns front : List Column) (c : Column) (rest : List Column) → columns ≡ front ++ c ∷ rest
    → row_of Cross (diagram_of columns) (length front) ≡ c.x
x_at columns front c rest is =
    ap (λ (zs : List Column). get_or (map (λ (b : Column). b.x) zs) (length front) 0) is ∙ read_at (λ (b : Column). b.x) front c rest 0

pub o_at : (columns front : List Column) (c : Column) (rest : List Column) → columns ≡ front ++ c ∷ rest
    → row_of Ring (diagram_of columns) (length front) ≡ unwrap_or c.o 0
o_at columns front c rest is =
    ap (λ (zs : List Column). get_or (map (λ (b : Column). unwrap_or b.o 0) zs) (length front) 0) is ∙ read_at (λ (b : Column). unwrap_or b.o 0) front c rest 0

colour_at_column : (colour : ℕ → ℕ) (columns front : List Column) (c : Column) (rest : List Column) → columns ≡ front ++ c ∷ rest
    → slice_index (colours_of colour columns) (length front) ≡ colour c.x
colour_at_column colour columns front c rest is =
    ap (λ (zs : List Column). get_or (colours_of colour zs) (length front) 0) is ∙ read_at (λ (b : Column). colour b.x) front c rest 0

pub covers_at : (r : ℕ) (columns front : List Column) (c : Column) (rest : List Column) → columns ≡ front ++ c ∷ rest
    → covers (diagram_of columns) (length front) r ≡ column_covers r c
covers_at r columns front c rest is = ap₂ (λ (x o : ℕ). lies_within (span x o) r) (x_at columns front c rest is) (o_at columns front c rest is)

under_at : (t : Table) (colour : ℕ → ℕ) (y : ℕ) (columns front : List Column) (c : Column) (rest : List Column) → columns ≡ front ++ c ∷ rest
    → under t (diagram_of columns) (colours_of colour columns) y (length front) ≡ under_column t colour y c
under_at t colour y columns front c rest is =
    ap₂ (λ (x o : ℕ). cond (nat_lt x o) (back t y (slice_index (colours_of colour columns) (length front)))
    (over t y (slice_index (colours_of colour columns) (length front)))) (x_at columns front c rest is) (o_at columns front c rest is)
    ∙ ap (λ (z : ℕ). cond (nat_lt c.x (unwrap_or c.o 0)) (back t y z) (over t y z)) (colour_at_column colour columns front c rest is)

-- the part of a walk under neighbouring columns
walk_step : (t : Table) (colour : ℕ → ℕ) (r y : ℕ) (columns front : List Column) (v : Column) (vs rest : List Column) → columns ≡ front ++ v ∷ rest
    → (b : Bool) → column_covers r v ≡ b
    → ((z : ℕ) → fold (under t (diagram_of columns) (colours_of colour columns)) z (filter (λ c. covers (diagram_of columns) c r) (range_with_len (length front + 1) (length vs))) ≡ fold (under_column t colour) z (filter (column_covers r) vs))
    → fold (under t (diagram_of columns) (colours_of colour columns)) y (filter (λ c. covers (diagram_of columns) c r) (range_with_len (length front) (suc (length vs)))) ≡ fold (under_column t colour) y (filter (column_covers r) (v ∷ vs))
walk_step t colour r y columns front v vs rest is true covered more =
    let later = filter (λ c. covers (diagram_of columns) c r) (range_with_len (length front + 1) (length vs)) in
    ap (λ (b : Bool). fold (under t (diagram_of columns) (colours_of colour columns)) y (cond b (length front ∷ later) later))
    (covers_at r columns front v rest is ∙ covered)
    ∙ (ap (λ (z : ℕ). fold (under t (diagram_of columns) (colours_of colour columns)) z later) (under_at t colour y columns front v rest is)
    ∙ (more (under_column t colour y v)
    ∙ sym (ap (λ (b : Bool). fold (under_column t colour) y (cond b (v ∷ filter (column_covers r) vs) (filter (column_covers r) vs))) covered)))
walk_step t colour r y columns front v vs rest is false covered more =
    let later = filter (λ c. covers (diagram_of columns) c r) (range_with_len (length front + 1) (length vs)) in
    ap (λ (b : Bool). fold (under t (diagram_of columns) (colours_of colour columns)) y (cond b (length front ∷ later) later))
    (covers_at r columns front v rest is ∙ covered)
    ∙ (more y
    ∙ sym (ap (λ (b : Bool). fold (under_column t colour) y (cond b (v ∷ filter (column_covers r) vs) (filter (column_covers r) vs))) covered))

pub walk_part : (t : Table) (colour : ℕ → ℕ) (r : ℕ) (columns front vs rest : List Column) (y n : ℕ) → columns ≡ front ++ (vs ++ rest)
    → n ≡ length front
    → fold (under t (diagram_of columns) (colours_of colour columns)) y (filter (λ c. covers (diagram_of columns) c r) (range_with_len n (length vs))) ≡ fold (under_column t colour) y (filter (column_covers r) vs)
walk_part t colour r columns front [] rest y n is n_is = refl
walk_part t colour r columns front (v ∷ vs) rest y n is n_is =
    ap (λ (z : ℕ). fold (under t (diagram_of columns) (colours_of colour columns)) y
    (filter (λ c. covers (diagram_of columns) c r) (range_with_len z (suc (length vs))))) n_is
    ∙ walk_step t colour r y columns front v vs (vs ++ rest) is (column_covers r v) refl
    (λ z. walk_part t colour r columns (front ++ v ∷ []) vs rest z (length front + 1) (is ∙ sym (append_assoc front (v ∷ []) (vs ++ rest)))
    (sym (length-append front (v ∷ []))))

-- the two columns with a mark in row r, and the columns around them
pub record Row (r : ℕ) (columns : List Column) : Type 0 where
  pub front : List Column
  pub first : Column
  pub between : List Column
  pub last : Column
  pub behind : List Column
  pub is : columns ≡ front ++ first ∷ (between ++ last ∷ behind)
  pub marks : ((first.x ≡ r) × (last.o ≡ Some r)) ⊎ ((first.o ≡ Some r) × (last.x ≡ r))

pub record HasEnds (d : Diagram) (r low high : ℕ) : Type 0 where
  pub low_is : (ends d r).low ≡ low
  pub high_is : (ends d r).high ≡ high

ends_from : (d : Diagram) (r low high : ℕ) → low < high
    → ((column_of Cross d r ≡ low) × (column_of Ring d r ≡ high)) ⊎ ((column_of Ring d r ≡ low) × (column_of Cross d r ≡ high)) → HasEnds d r low high
ends_from d r low high lt (inl at) = record {
  low_is = span_low (column_of Cross d r) (column_of Ring d r) ∙ (let a = at.0 in let b = at.1 in omega arith);
  high_is = span_high (column_of Cross d r) (column_of Ring d r) ∙ (let a = at.0 in let b = at.1 in omega arith);
}
ends_from d r low high lt (inr at) = record {
  low_is = span_low (column_of Cross d r) (column_of Ring d r) ∙ (let a = at.0 in let b = at.1 in omega arith);
  high_is = span_high (column_of Cross d r) (column_of Ring d r) ∙ (let a = at.0 in let b = at.1 in omega arith);
}

pub inside_of : (columns front : List Column) (c : Column) (rest : List Column) → columns ≡ front ++ c ∷ rest → length front < size (diagram_of columns)
inside_of columns front c rest is =
    let long = length-map columns (λ (b : Column). b.x) in
    let parts = ap length is ∙ length-append front (c ∷ rest) in
    omega arith

pub mark_x : (columns front : List Column) (c : Column) (rest : List Column) (r : ℕ) → IsGrid (diagram_of columns) → columns ≡ front ++ c ∷ rest
    → c.x ≡ r → column_of Cross (diagram_of columns) r ≡ length front
mark_x columns front c rest r grid is x_is =
    column_is (diagram_of columns) grid Cross (length front) r
    (record { inside = inside_of columns front c rest is; row = x_at columns front c rest is ∙ x_is })

pub mark_o : (columns front : List Column) (c : Column) (rest : List Column) (r : ℕ) → IsGrid (diagram_of columns) → columns ≡ front ++ c ∷ rest
    → c.o ≡ Some r → column_of Ring (diagram_of columns) r ≡ length front
mark_o columns front c rest r grid is o_is =
    column_is (diagram_of columns) grid Ring (length front) r
    (record { inside = inside_of columns front c rest is; row = o_at columns front c rest is ∙ ap (λ (o : Option ℕ). unwrap_or o 0) o_is })

pub last_is : (r : ℕ) (columns : List Column) (row : Row r columns) → columns ≡ (row.front ++ row.first ∷ row.between) ++ row.last ∷ row.behind
last_is r columns row = row.is ∙ sym (append_assoc row.front (row.first ∷ row.between) (row.last ∷ row.behind))

pub row_ends : (r : ℕ) (columns : List Column) → IsGrid (diagram_of columns) → (row : Row r columns)
    → HasEnds (diagram_of columns) r (length row.front) (length (row.front ++ row.first ∷ row.between))
row_ends r columns grid row =
    let size = length-append row.front (row.first ∷ row.between) in
    ends_from (diagram_of columns) r (length row.front) (length (row.front ++ row.first ∷ row.between)) (omega arith)
    (elim row.marks [
      | inl at ↦
          inl (
            mark_x columns row.front row.first (row.between ++ row.last ∷ row.behind) r grid row.is at.0,
            mark_o columns
                (row.front ++ row.first ∷ row.between) row.last row.behind r grid (last_is r columns row) at.1,
          )
      | inr at ↦
          inr (
            mark_o columns row.front row.first (row.between ++ row.last ∷ row.behind) r grid row.is at.0,
            mark_x columns
                (row.front ++ row.first ∷ row.between) row.last row.behind r grid (last_is r columns row) at.1,
          )
    ])

-- the walk of the row goes under the columns between that cover it, and ends at the last column
pub row_walk : (t : Table) (colour : ℕ → ℕ) (r : ℕ) (columns : List Column) → IsGrid (diagram_of columns) → (row : Row r columns)
    → walk t (diagram_of columns) (colours_of colour columns) r ≡ fold (under_column t colour) (colour row.first.x) (filter (column_covers r) row.between)
row_walk t colour r columns grid row =
    let e = row_ends r columns grid row in
    let size = length-append row.front (row.first ∷ row.between) in
    let d = diagram_of columns in
    ap₂ (λ (low high : ℕ). fold (under t d (colours_of colour columns)) (slice_index (colours_of colour columns) low)
    (filter (λ c. covers d c r) (range_with_len (low + 1) (high - low - 1)))) e.low_is e.high_is
    ∙ (ap₂ (λ (z n : ℕ). fold (under t d (colours_of colour columns)) z (filter (λ c. covers d c r) (range_with_len (length row.front + 1) n)))
    (colour_at_column colour columns row.front row.first (row.between ++ row.last ∷ row.behind) row.is) (omega arith)
    ∙ walk_part t colour r columns (row.front ++ row.first ∷ []) row.between (row.last ∷ row.behind) (colour row.first.x) (length row.front + 1)
    (row.is ∙ sym (append_assoc row.front (row.first ∷ []) (row.between ++ row.last ∷ row.behind))) (sym (length-append row.front (row.first ∷ []))))

pub row_end : (colour : ℕ → ℕ) (r : ℕ) (columns : List Column) → IsGrid (diagram_of columns) → (row : Row r columns)
    → slice_index (colours_of colour columns) (ends (diagram_of columns) r).high ≡ colour row.last.x
row_end colour r columns grid row =
    ap (slice_index (colours_of colour columns)) (row_ends r columns grid row).high_is
    ∙ colour_at_column colour columns (row.front ++ row.first ∷ row.between) row.last row.behind (last_is r columns row)

-- The rows of the closure: the columns that each passes under.
use Rattle.std.proofs.Common.{◌≡◌, ◌<◌, ◌+◌, ◌∷◌, ◌++◌, ◌∙◌, ◌⊎◌, inl, inr, [], ℕ, zero, suc, List, Bool, true, false, Some, filter, fold}
use Rattle.std.proofs.Common.{All, arith, sym, refl, ap, ap₂, subst, append_assoc}
use Rattle.std.specs.Prelude.{slice_index}
use Rattle.std.proofs.lemmas.Bool.{cases_eq}
use Rattle.std.proofs.lemmas.List.Elements.{All-head, All-tail, All-nil, All-cons, All-weaker, filter-append}
use Rattle.grid_core.specs.Diagram.{IsGrid}
use Rattle.grid_core.specs.Parts.{ends}
use Rattle.quandle_core.specs.Quandle.{Table, back}
use Rattle.colour_rows.specs.Walk.{walk}
use Rattle.braid_closure.specs.declared.columns.Column.{Column}
use Rattle.braid_closure.specs.Columns.{begun, ended, diagram_of}
use Rattle.braid_closure.specs.Closure.{positive_columns, negative_columns, closing, top_row}
use Rattle.braid_closure.proofs.Positions.{Pair, positive_is, negative_is}
use Rattle.braid_closure.proofs.Stages.{x_rows, up_front, up_back}
use Rattle.braid_laws.proofs.Cut.{cut, cut_split, here_x, here_o}
use Rattle.braid_laws.proofs.Walked.{Row, column_covers, under_column, colours_of, row_walk, row_end}
use Rattle.braid_laws.proofs.Covered.{Rising, stands_under, rising_part, ended_under, open_under}

-- two columns of the body with marks in a row
whole_is : (body behind left : List Column) (here : Column) (right left₂ : List Column) (here₂ : Column) (right₂ : List Column)
    → body ≡ left ++ here ∷ right → right ≡ left₂ ++ here₂ ∷ right₂ → body ++ behind ≡ left ++ here ∷ (left₂ ++ here₂ ∷ (right₂ ++ behind))
whole_is body behind left here right left₂ here₂ right₂ is is₂ =
    ap (λ (zs : List Column). zs ++ behind) (is ∙ ap (λ (zs : List Column). left ++ here ∷ zs) is₂)
    ∙ (append_assoc left (here ∷ (left₂ ++ here₂ ∷ right₂)) behind
    ∙ ap (λ (zs : List Column). left ++ here ∷ zs) (append_assoc left₂ (here₂ ∷ right₂) behind))

-- what a colouring by rows gives for a row: the last colour of its walk, and the colour of its right end
pub record Reads (t : Table) (colour : ℕ → ℕ) (r : ℕ) (columns : List Column) (last end : ℕ) : Type 0 where
  pub walks : walk t (diagram_of columns) (colours_of colour columns) r ≡ last
  pub ends_at : slice_index (colours_of colour columns) (ends (diagram_of columns) r).high ≡ end

between_rising : (body left : List Column) (here : Column) (right left₂ : List Column) (here₂ : Column) (right₂ : List Column)
    → body ≡ left ++ here ∷ right → right ≡ left₂ ++ here₂ ∷ right₂ → All Rising body → All Rising left₂
between_rising body left here right left₂ here₂ right₂ is is₂ all =
    up_front Rising left₂ (here₂ ∷ right₂)
    (subst (All Rising) is₂ (All-tail Rising here right (up_back Rising left (here ∷ right) (subst (All Rising) is all))))

-- the columns with the marks of a row that runs to the right, or to the left
abbrev pub Runs : Bool → ℕ → Column → Column → Type 0
Runs true r first last = (first.o ≡ Some r) × (last.x ≡ r)
Runs false r first last = (first.x ≡ r) × (last.o ≡ Some r)

-- a row from the column that begins in row low to the one that begins in row high, under the one that begins in row over alone
pub record PassesUnder (r : ℕ) (columns : List Column) (low over high : ℕ) (right : Bool) : Type 0 where
  pub row : Row r columns
  pub runs : Runs right r row.first row.last
  pub rising : All Rising row.between
  pub passes : x_rows (filter (stands_under r) (cut r row.between)) ≡ over ∷ []
  pub low_is : row.first.x ≡ low
  pub high_is : row.last.x ≡ high

reads_under : (t : Table) (colour : ℕ → ℕ) (r : ℕ) (columns : List Column) (low over high : ℕ) (right : Bool)
    → IsGrid (diagram_of columns) → PassesUnder r columns low over high right
    → Reads t colour r columns (back t (colour low) (colour over)) (colour high)
reads_under t colour r columns low over high right grid at = record {
  walks =
      row_walk t colour r columns grid at.row
      ∙ (rising_part t colour r (colour at.row.first.x) at.row.between (over ∷ []) at.rising at.passes
      ∙ ap (λ (z : ℕ). back t (colour z) (colour over)) at.low_is);
  ends_at = row_end colour r columns grid at.row ∙ ap colour at.high_is;
}

-- the columns that begin below the row
abbrev Low : ℕ → Column → Type 0
Low r c = c.x < r

-- the row of letter +k: from the new column under the column of position k to the one that ends
pub positive_under : (r k : ℕ) (columns body behind : List Column) (pair : Pair k columns)
    → All Rising body → All (Low r) columns → cut r body ≡ positive_columns k r columns
    → PassesUnder r (body ++ behind) r pair.first.x pair.second.x false
positive_under r k columns body behind pair rising below cut_is =
    let after = pair.between ++ ended r pair.second ∷ pair.right in
    let one = cut_split r body pair.left (begun r) (pair.first ∷ after) (cut_is ∙ positive_is k r columns pair) in
    let two = cut_split r one.right (pair.first ∷ pair.between) (ended r pair.second) pair.right one.cut_right in
    let marks : Runs false r one.here two.here =
    (here_x r one.here (begun r) one.cut_here, here_o r r two.here (ended r pair.second) two.cut_here refl) in
    let rest = pair.between ++ pair.second ∷ pair.right in
    let low : pair.first.x < r = All-head (Low r) pair.first rest (up_back (Low r) pair.left (pair.first ∷ rest) (subst (All (Low r)) pair.is below)) in
    let none = ended_under r pair.between pair.none_between in
    record {
      row = record {
        front = one.left;
        first = one.here;
        between = two.left;
        last = two.here;
        behind = two.right ++ behind;
        is = whole_is body behind one.left one.here one.right two.left two.here two.right one.is two.is;
        marks = inl marks;
      };
      runs = marks;
      rising = between_rising body one.left one.here one.right two.left two.here two.right one.is two.is rising;
      passes =
          ap (λ (zs : List Column). x_rows (filter (stands_under r) zs)) two.cut_left
          ∙ ap x_rows (open_under r pair.first pair.between pair.first_open low ∙ ap (λ (zs : List Column). pair.first ∷ zs) none);
      low_is = marks.0;
      high_is = here_x r two.here (ended r pair.second) two.cut_here;
    }

pub positive_row : (t : Table) (colour : ℕ → ℕ) (r k : ℕ) (columns body behind : List Column) (pair : Pair k columns)
    → IsGrid (diagram_of (body ++ behind)) → All Rising body → All (Low r) columns → cut r body ≡ positive_columns k r columns
    → Reads t colour r (body ++ behind) (back t (colour r) (colour pair.first.x)) (colour pair.second.x)
positive_row t colour r k columns body behind pair grid rising below cut_is =
    reads_under t colour r (body ++ behind) r pair.first.x pair.second.x false grid (positive_under r k columns body behind pair rising below cut_is)

-- the row of letter -k: from the column that ends under the column of position k+1 to the new one
pub negative_under : (r k : ℕ) (columns body behind : List Column) (pair : Pair k columns)
    → All Rising body → All (Low r) columns → cut r body ≡ negative_columns k r columns
    → PassesUnder r (body ++ behind) pair.first.x pair.second.x r true
negative_under r k columns body behind pair rising below cut_is =
    let after = begun r ∷ pair.right in
    let one = cut_split r body pair.left (ended r pair.first) (pair.between ++ pair.second ∷ after) (cut_is ∙ negative_is k r columns pair) in
    let two = cut_split r one.right (pair.between ++ pair.second ∷ []) (begun r) pair.right
    (one.cut_right ∙ sym (append_assoc pair.between (pair.second ∷ []) after)) in
    let marks : Runs true r one.here two.here =
    (here_o r r one.here (ended r pair.first) one.cut_here refl, here_x r two.here (begun r) two.cut_here) in
    let rest = pair.between ++ pair.second ∷ pair.right in
    let behind_first = All-tail (Low r) pair.first rest (up_back (Low r) pair.left (pair.first ∷ rest) (subst (All (Low r)) pair.is below)) in
    let low : pair.second.x < r = All-head (Low r) pair.second pair.right (up_back (Low r) pair.between (pair.second ∷ pair.right) behind_first) in
    let none = ended_under r pair.between pair.none_between in
    record {
      row = record {
        front = one.left;
        first = one.here;
        between = two.left;
        last = two.here;
        behind = two.right ++ behind;
        is = whole_is body behind one.left one.here one.right two.left two.here two.right one.is two.is;
        marks = inr marks;
      };
      runs = marks;
      rising = between_rising body one.left one.here one.right two.left two.here two.right one.is two.is rising;
      passes =
          ap (λ (zs : List Column). x_rows (filter (stands_under r) zs)) two.cut_left
          ∙ ap x_rows (filter-append (stands_under r) pair.between (pair.second ∷ [])
          ∙ ap₂ (λ (us vs : List Column). us ++ vs) none (open_under r pair.second [] pair.second_open low));
      low_is = here_x r one.here (ended r pair.first) one.cut_here;
      high_is = marks.1;
    }

pub negative_row : (t : Table) (colour : ℕ → ℕ) (r k : ℕ) (columns body behind : List Column) (pair : Pair k columns)
    → IsGrid (diagram_of (body ++ behind)) → All Rising body → All (Low r) columns → cut r body ≡ negative_columns k r columns
    → Reads t colour r (body ++ behind) (back t (colour pair.first.x) (colour pair.second.x)) (colour r)
negative_row t colour r k columns body behind pair grid rising below cut_is =
    reads_under t colour r (body ++ behind) pair.first.x pair.second.x r true grid (negative_under r k columns body behind pair rising below cut_is)

-- the closing columns around that of position i + 1
pub record Closer (n m i : ℕ) (c : Column) : Type 0 where
  pub position : ℕ
  pub later : i < position
  pub within : position < m
  pub is : c ≡ ended position (begun (top_row n (position + 1)))

pub record ClosingSplit (n m i : ℕ) : Type 0 where
  pub above : List Column
  pub is : closing n m ≡ above ++ ended i (begun (top_row n (i + 1))) ∷ closing n i
  pub each : All (Closer n m i) above

closer_wider : (n m i : ℕ) (c : Column) → Closer n m i c → Closer n (suc m) i c
closer_wider n m i c closer = record { position = closer.position; later = closer.later; within = let lt = closer.within in omega arith; is = closer.is }

pub closing_split : (n m i : ℕ) → i < m → ClosingSplit n m i
closing_split n zero i lt = absurd (omega arith)
closing_split n (suc p) i lt = elim (cases_eq i p) [
  | inl same ↦ record { above = []; is = ap (λ (z : ℕ). ended z (begun (top_row n (z + 1))) ∷ closing n z) (sym same); each = All-nil (Closer n (suc p) i) }
  | inr other ↦
      let rest = closing_split n p i (omega (arith, other)) in
      record {
        above = ended p (begun (top_row n (p + 1))) ∷ rest.above;
        is = ap (λ (zs : List Column). ended p (begun (top_row n (p + 1))) ∷ zs) rest.is;
        each = All-cons (Closer n (suc p) i) (ended p (begun (top_row n (p + 1)))) rest.above
            (record { position = p; later = omega (arith, other); within = omega arith; is = refl })
            (All-weaker (Closer n p i) (Closer n (suc p) i) (closer_wider n p i) rest.above rest.each);
      }
]

-- a row from the column that begins in row low to the one that begins in row high, under no column
pub record IsClear (r : ℕ) (columns : List Column) (low high : ℕ) : Type 0 where
  pub row : Row r columns
  pub none : filter (column_covers r) row.between ≡ []
  pub low_is : row.first.x ≡ low
  pub high_is : row.last.x ≡ high

pub reads_clear : (t : Table) (colour : ℕ → ℕ) (r : ℕ) (columns : List Column) (low high : ℕ)
    → IsGrid (diagram_of columns) → IsClear r columns low high → Reads t colour r columns (colour low) (colour high)
reads_clear t colour r columns low high grid at = record {
  walks =
      row_walk t colour r columns grid at.row
      ∙ (ap (fold (under_column t colour) (colour at.row.first.x)) at.none ∙ ap colour at.low_is);
  ends_at = row_end colour r columns grid at.row ∙ ap colour at.high_is;
}

-- a row from a column of the body to a closing column, with nothing that covers it between
pub closing_clear : (r n m i low : ℕ) (body left : List Column) (here : Column) (right : List Column) (split : ClosingSplit n m i)
    → body ≡ left ++ here ∷ right → here.x ≡ low → ((here.x ≡ r) × (i ≡ r)) ⊎ ((here.o ≡ Some r) × (top_row n (i + 1) ≡ r))
    → filter (column_covers r) right ≡ [] → filter (column_covers r) split.above ≡ []
    → IsClear r (body ++ closing n m) low (top_row n (i + 1))
closing_clear r n m i low body left here right split body_is low_is marks none_right none_above =
    let closer = ended i (begun (top_row n (i + 1))) in
    record {
      row = record {
        front = left;
        first = here;
        between = right ++ split.above;
        last = closer;
        behind = closing n i;
        is =
            ap₂ (λ (us vs : List Column). us ++ vs) body_is split.is
            ∙ (append_assoc left (here ∷ right) (split.above ++ closer ∷ closing n i)
            ∙ ap (λ (zs : List Column). left ++ here ∷ zs) (sym (append_assoc right split.above (closer ∷ closing n i))));
        marks = elim marks [ inl at ↦ inl (at.0, ap (λ (z : ℕ). Some z) at.1) | inr at ↦ inr (at.0, at.1) ];
      };
      none = filter-append (column_covers r) right split.above ∙ ap₂ (λ (us vs : List Column). us ++ vs) none_right none_above;
      low_is = low_is;
      high_is = refl;
    }

-- Columns that run upward: which of them cover a row, by the part of them at or below it.
use Rattle.std.proofs.Common.{◌≡◌, ◌<◌, ◌≤◌, ◌&&◌, ◌∷◌, ◌++◌, ◌∙◌, [], ℕ, List, Bool, true, false, cond, Option, Some, None, is_none}
use Rattle.std.proofs.Common.{unwrap_or, filter, fold, All, arith, sym, refl, ap, ap₂, nat_lt, nat_le}
use Rattle.std.proofs.lemmas.Bool.{lt-ltb, le-ltb, leb-true, leb-false, ltb-true, ltb-false}
use Rattle.std.proofs.lemmas.List.Elements.{All-head, All-tail, All-nil, All-cons, All-filter}
use Rattle.grid_core.specs.Span.{span, lies_within}
use Rattle.grid_core.proofs.Ends.{span_low, span_high}
use Rattle.quandle_core.specs.Quandle.{Table, over, back}
use Rattle.braid_closure.specs.declared.columns.Column.{Column}
use Rattle.braid_closure.specs.Columns.{begun, is_open, open_columns}
use Rattle.braid_closure.proofs.Stages.{x_rows, IsUp}
use Rattle.braid_laws.proofs.Cut.{cut, cut_row}
use Rattle.braid_laws.proofs.Walked.{column_covers, under_column}

-- the column has ended, above where it began
pub record Rising (c : Column) : Type 0 where
  pub top : ℕ
  pub ends_there : c.o ≡ Some top
  pub up : c.x < top

rising_by : (c : Column) (o : Option ℕ) (columns : List Column) → c.o ≡ o → cond (is_none o) (c ∷ open_columns columns) (open_columns columns) ≡ []
    → IsUp c → Rising c × (open_columns columns ≡ [])
rising_by c None columns is none up = absurd (let no : ◌≡◌ {A = List Column} (c ∷ open_columns columns) [] = none in cc)
rising_by c (Some s) columns is none up = (record { top = s; ends_there = is; up = up s is }, none)

pub all_rising : (columns : List Column) → open_columns columns ≡ [] → All IsUp columns → All Rising columns
all_rising [] none all = All-nil Rising
all_rising (c ∷ columns) none all =
    let here = rising_by c c.o columns refl none (All-head IsUp c columns all) in
    All-cons Rising c columns here.0 (all_rising columns here.1 (All-tail IsUp c columns all))

-- the column is open, and begins below row r
abbrev pub stands_under : ℕ → Column → Bool
stands_under r c = is_open c && nat_lt c.x r

-- where a column covers the row
pub covers_above : (r : ℕ) (c : Column) (s : ℕ) → c.o ≡ Some s → r ≤ c.x → r ≤ s → column_covers r c ≡ false
covers_above r c s is x_at o_at =
    ap (λ (o : Option ℕ). lies_within (span c.x (unwrap_or o 0)) r) is
    ∙ ap (λ (b : Bool). b && nat_lt r (span c.x s).high) (le-ltb (span c.x s).low r (let low = span_low c.x s in omega arith))

and_false : (b : Bool) → (b && false) ≡ false
and_false true = refl
and_false false = refl

pub covers_below : (r : ℕ) (c : Column) (s : ℕ) → c.o ≡ Some s → c.x ≤ r → s ≤ r → column_covers r c ≡ false
covers_below r c s is x_at o_at =
    ap (λ (o : Option ℕ). lies_within (span c.x (unwrap_or o 0)) r) is
    ∙ (ap (λ (b : Bool). nat_lt (span c.x s).low r && b) (le-ltb r (span c.x s).high (let high = span_high c.x s in omega arith))
    ∙ and_false (nat_lt (span c.x s).low r))

covers_within : (r : ℕ) (c : Column) (s : ℕ) → c.o ≡ Some s → c.x < s → r < s → column_covers r c ≡ nat_lt c.x r
covers_within r c s is up o_at =
    ap (λ (o : Option ℕ). lies_within (span c.x (unwrap_or o 0)) r) is
    ∙ (ap₂ (λ (a : ℕ) (b : Bool). nat_lt a r && b) (span_low c.x s ∙ omega arith) (lt-ltb r (span c.x s).high (let high = span_high c.x s in omega arith))
    ∙ and_true (nat_lt c.x r))
  where
    and_true : (b : Bool) → (b && true) ≡ b
    and_true true = refl
    and_true false = refl

-- one column of a part and what is left of it below the row
both_kept : (c d : Column) (cs ds : List Column) (b : Bool) → c.x ≡ d.x → x_rows cs ≡ x_rows ds → x_rows (cond b (c ∷ cs) cs) ≡ x_rows (cond b (d ∷ ds) ds)
both_kept c d cs ds true x_is rest = ap₂ (λ (a : ℕ) (zs : List ℕ). a ∷ zs) x_is rest
both_kept c d cs ds false x_is rest = rest

passed_step : (r : ℕ) (c : Column) (columns : List Column) (s : ℕ) → c.o ≡ Some s → c.x < s
    → x_rows (filter (column_covers r) columns) ≡ x_rows (filter (stands_under r) (cut r columns)) → (b : Bool) → nat_le c.x r ≡ b → (d : Bool) → nat_lt r s ≡ d
    → x_rows (filter (column_covers r) (c ∷ columns)) ≡ x_rows (filter (stands_under r) (cut r (c ∷ columns)))
passed_step r c columns s is up rest false begins d tops =
    let above = leb-false c.x r begins in
    ap (λ (b : Bool). x_rows (cond b (c ∷ filter (column_covers r) columns) (filter (column_covers r) columns)))
    (covers_above r c s is (omega arith) (omega arith))
    ∙ (rest
    ∙ sym (ap (λ (b : Bool). x_rows
    (filter (stands_under r) (cond {A = List Column} b (record { x = c.x; o = cut_row r c.o } ∷ []) [] ++ cut r columns))) begins))
passed_step r c columns s is up rest true begins true tops =
    let at = ltb-true r s tops in
    ap (λ (b : Bool). x_rows (cond b (c ∷ filter (column_covers r) columns) (filter (column_covers r) columns))) (covers_within r c s is up at)
    ∙ (both_kept c (begun c.x) (filter (column_covers r) columns) (filter (stands_under r) (cut r columns)) (nat_lt c.x r) refl rest
    ∙ (sym (ap (λ (o : Option ℕ). x_rows (filter (stands_under r) (record { x = c.x; o = o } ∷ cut r columns)))
    (ap (cut_row r) is ∙ ap (λ (b : Bool). cond {A = Option ℕ} b None (Some s)) tops))
    ∙ sym (ap (λ (b : Bool). x_rows
    (filter (stands_under r) (cond {A = List Column} b (record { x = c.x; o = cut_row r c.o } ∷ []) [] ++ cut r columns))) begins)))
passed_step r c columns s is up rest true begins false tops =
    let at = ltb-false r s tops in
    let low = leb-true c.x r begins in
    ap (λ (b : Bool). x_rows (cond b (c ∷ filter (column_covers r) columns) (filter (column_covers r) columns))) (covers_below r c s is low at)
    ∙ (rest
    ∙ (sym (ap (λ (o : Option ℕ). x_rows (filter (stands_under r) (record { x = c.x; o = o } ∷ cut r columns)))
    (ap (cut_row r) is ∙ ap (λ (b : Bool). cond {A = Option ℕ} b None (Some s)) tops))
    ∙ sym (ap (λ (b : Bool). x_rows
    (filter (stands_under r) (cond {A = List Column} b (record { x = c.x; o = cut_row r c.o } ∷ []) [] ++ cut r columns))) begins)))

-- the columns that cover a row are those that stand open under it in the part below it
pub rising_passed : (r : ℕ) (columns : List Column) → All Rising columns
    → x_rows (filter (column_covers r) columns) ≡ x_rows (filter (stands_under r) (cut r columns))
rising_passed r [] all = refl
rising_passed r (c ∷ columns) all =
    let here = All-head Rising c columns all in
    passed_step r c columns here.top here.ends_there here.up (rising_passed r columns (All-tail Rising c columns all)) (nat_le c.x r) refl
    (nat_lt r here.top) refl

-- the walk under columns that run upward
abbrev pub under_up : Table → (ℕ → ℕ) → ℕ → ℕ → ℕ
under_up t colour z x = back t z (colour x)

rising_walk : (t : Table) (colour : ℕ → ℕ) (y : ℕ) (columns : List Column) → All Rising columns
    → fold (under_column t colour) y columns ≡ fold (under_up t colour) y (x_rows columns)
rising_walk t colour y [] all = refl
rising_walk t colour y (c ∷ columns) all =
    let here = All-head Rising c columns all in
    ap (λ (o : Option ℕ). fold (under_column t colour)
    (cond (nat_lt c.x (unwrap_or o 0)) (back t y (colour c.x)) (over t y (colour c.x))) columns) here.ends_there
    ∙ (ap (λ (b : Bool). fold (under_column t colour) (cond b (back t y (colour c.x)) (over t y (colour c.x))) columns) (lt-ltb c.x here.top here.up)
    ∙ rising_walk t colour (back t y (colour c.x)) columns (All-tail Rising c columns all))

pub rising_part : (t : Table) (colour : ℕ → ℕ) (r y : ℕ) (columns : List Column) (xs : List ℕ) → All Rising columns
    → x_rows (filter (stands_under r) (cut r columns)) ≡ xs → fold (under_column t colour) y (filter (column_covers r) columns) ≡ fold (under_up t colour) y xs
rising_part t colour r y columns xs all is =
    rising_walk t colour y (filter (column_covers r) columns) (All-filter (column_covers r) Rising columns all)
    ∙ ap (fold (under_up t colour) y) (rising_passed r columns all ∙ is)

-- columns of which none is open stand under nothing
ended_step : (r : ℕ) (c : Column) (columns : List Column) (o : Option ℕ) → cond (is_none o) (c ∷ open_columns columns) (open_columns columns) ≡ []
    → (open_columns columns ≡ [] → filter (stands_under r) columns ≡ [])
    → cond (is_none o && nat_lt c.x r) (c ∷ filter (stands_under r) columns) (filter (stands_under r) columns) ≡ []
ended_step r c columns None none rest = absurd (let no : ◌≡◌ {A = List Column} (c ∷ open_columns columns) [] = none in cc)
ended_step r c columns (Some s) none rest = rest none

pub ended_under : (r : ℕ) (columns : List Column) → open_columns columns ≡ [] → filter (stands_under r) columns ≡ []
ended_under r [] none = refl
ended_under r (c ∷ columns) none = ended_step r c columns c.o none (ended_under r columns)

pub open_under : (r : ℕ) (c : Column) (columns : List Column) → is_open c ≡ true → c.x < r
    → filter (stands_under r) (c ∷ columns) ≡ c ∷ filter (stands_under r) columns
open_under r c columns open_c lt =
    ap₂ (λ (a b : Bool). cond (a && b) (c ∷ filter (stands_under r) columns) (filter (stands_under r) columns)) open_c (lt-ltb c.x r lt)

-- where no column of a list covers the row
pub covers_none : (r : ℕ) (columns : List Column) → All (λ (c : Column). column_covers r c ≡ false) columns → filter (column_covers r) columns ≡ []
covers_none r [] all = refl
covers_none r (c ∷ columns) all =
    ap (λ (b : Bool). cond b (c ∷ filter (column_covers r) columns) (filter (column_covers r) columns))
    (All-head (λ (d : Column). column_covers r d ≡ false) c columns all)
    ∙ covers_none r columns (All-tail (λ (d : Column). column_covers r d ≡ false) c columns all)

pub no_columns : (columns : List Column) → x_rows columns ≡ [] → columns ≡ []
no_columns [] e = refl
no_columns (c ∷ columns) e = absurd (let no : ◌≡◌ {A = List ℕ} (c.x ∷ x_rows columns) [] = e in cc)

pub rising_none : (r : ℕ) (columns after : List Column) → All Rising columns → cut r columns ≡ after → filter (stands_under r) after ≡ []
    → filter (column_covers r) columns ≡ []
rising_none r columns after all cut_is none =
    no_columns (filter (column_covers r) columns) (rising_passed r columns all ∙ ap x_rows (ap (filter (stands_under r)) cut_is ∙ none))

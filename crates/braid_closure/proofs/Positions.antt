-- Lists of columns split at an open column, or at two neighbouring open ones.
use Rattle.std.proofs.Common.{◌≡◌, ◌<◌, ◌≤◌, ◌+◌, ◌-◌, ◌==◌, ◌∷◌, ◌++◌, ◌∙◌, ◌⊎◌, inl, inr, [], ℕ, List, Bool, true, false, cond, length}
use Rattle.std.proofs.Common.{take, get_or, arith, sym, refl, ap, append_assoc, length-append}
use Rattle.std.proofs.lemmas.Bool.{eq-eqb, ne_eqb, cases_eq}
use Rattle.std.proofs.lemmas.List.{nil_from_length}
use Rattle.std.proofs.lemmas.List.Elements.{filter-append, filter_more}
use Rattle.braid_closure.specs.declared.columns.Column.{Column}
use Rattle.braid_closure.specs.Columns.{begun, ended, is_open, open_columns, at_position}
use Rattle.braid_closure.specs.Closure.{positive_columns, negative_columns}

abbrev Change : Type 0
Change = Column → List Column

at_here : (k : ℕ) (change : Change) (c : Column) (columns : List Column) → is_open c ≡ true → k ≡ 1 → at_position k change (c ∷ columns) ≡ change c ++ columns
at_here k change c columns open_c e =
    ap (λ (b : Bool). cond b (cond (k == 1) (change c ++ columns) (c ∷ at_position (k - 1) change columns)) (c ∷ at_position k change columns)) open_c
    ∙ ap (λ (b : Bool). cond b (change c ++ columns) (c ∷ at_position (k - 1) change columns)) (eq-eqb k 1 e)

at_next : (k : ℕ) (change : Change) (c : Column) (columns : List Column) → is_open c ≡ true → (k ≡ 1 → ⊥)
    → at_position k change (c ∷ columns) ≡ c ∷ at_position (k - 1) change columns
at_next k change c columns open_c ne =
    ap (λ (b : Bool). cond b (cond (k == 1) (change c ++ columns) (c ∷ at_position (k - 1) change columns)) (c ∷ at_position k change columns)) open_c
    ∙ ap (λ (b : Bool). cond b (change c ++ columns) (c ∷ at_position (k - 1) change columns)) (ne_eqb k 1 ne)

at_passed : (k : ℕ) (change : Change) (c : Column) (columns : List Column) → is_open c ≡ false
    → at_position k change (c ∷ columns) ≡ c ∷ at_position k change columns
at_passed k change c columns ended_c =
    ap (λ (b : Bool). cond b (cond (k == 1) (change c ++ columns) (c ∷ at_position (k - 1) change columns)) (c ∷ at_position k change columns)) ended_c

pub open_here : (c : Column) (columns : List Column) → is_open c ≡ true → open_columns (c ∷ columns) ≡ c ∷ open_columns columns
open_here c columns open_c = ap (λ (b : Bool). cond b (c ∷ open_columns columns) (open_columns columns)) open_c

pub open_passed : (c : Column) (columns : List Column) → is_open c ≡ false → open_columns (c ∷ columns) ≡ open_columns columns
open_passed c columns ended_c = ap (λ (b : Bool). cond b (c ∷ open_columns columns) (open_columns columns)) ended_c

pub open_append : (left right : List Column) → open_columns (left ++ right) ≡ open_columns left ++ open_columns right
open_append left right = filter-append is_open left right

-- a change at an open column that has k - 1 open columns on its left
IsSplitChange : Change → List Column → Column → List Column → Type 0
IsSplitChange change left c right = (k : ℕ) → length (open_columns left) + 1 ≡ k → at_position k change (left ++ c ∷ right) ≡ left ++ (change c ++ right)

split_step : (change : Change) (d : Column) (left : List Column) (c : Column) (right : List Column) → IsSplitChange change left c right → (b : Bool)
    → is_open d ≡ b → IsSplitChange change (d ∷ left) c right
unfolding IsSplitChange
split_step change d left c right rest true open_d k before =
    let more = ap length (open_here d left open_d) in
    at_next k change d (left ++ c ∷ right) open_d (λ e. omega arith)
    ∙ ap (λ (zs : List Column). d ∷ zs) (rest (k - 1) (omega arith))
split_step change d left c right rest false ended_d k before =
    at_passed k change d (left ++ c ∷ right) ended_d
    ∙ ap (λ (zs : List Column). d ∷ zs) (rest k (ap (λ (zs : List Column). length zs + 1) (sym (open_passed d left ended_d)) ∙ before))

split_change : (change : Change) (left : List Column) (c : Column) (right : List Column) → is_open c ≡ true → IsSplitChange change left c right
unfolding IsSplitChange
split_change change [] c right open_c = λ k before. at_here k change c right open_c (sym before)
split_change change (d ∷ left) c right open_c = split_step change d left c right (split_change change left c right open_c) (is_open d) refl

pub at_split : (k : ℕ) (change : Change) (left : List Column) (c : Column) (right : List Column) → is_open c ≡ true
    → length (open_columns left) + 1 ≡ k → at_position k change (left ++ c ∷ right) ≡ left ++ (change c ++ right)
unfolding IsSplitChange
at_split k change left c right open_c before = split_change change left c right open_c k before

-- the columns around the open column of position k
pub record Split (k : ℕ) (columns : List Column) : Type 0 where
  pub left : List Column
  pub here : Column
  pub right : List Column
  pub is : columns ≡ left ++ here ∷ right
  pub stands_open : is_open here ≡ true
  pub before : length (open_columns left) + 1 ≡ k

more_left : (k : ℕ) (c : Column) (columns : List Column) → Split k columns → (j : ℕ) → length (open_columns (c ∷ [])) + k ≡ j → Split j (c ∷ columns)
more_left k c columns split j e = record {
  left = c ∷ split.left;
  here = split.here;
  right = split.right;
  is = ap (λ (zs : List Column). c ∷ zs) split.is;
  stands_open = split.stands_open;
  before = let size = ap length (open_append (c ∷ []) split.left) in
      let parts = length-append (open_columns (c ∷ [])) (open_columns split.left) in let rest = split.before in omega arith;
}

split_here : (k : ℕ) (c : Column) (columns : List Column) → 1 ≤ k → k ≤ length (open_columns (c ∷ columns))
    → ((j : ℕ) → 1 ≤ j → j ≤ length (open_columns columns) → Split j columns) → (b : Bool) → is_open c ≡ b → (k ≡ 1) ⊎ (k ≡ 1 → ⊥) → Split k (c ∷ columns)
split_here k c columns least most rest true open_c (inl e) = record { left = []; here = c; right = columns; is = refl; stands_open = open_c; before = sym e }
split_here k c columns least most rest true open_c (inr ne) =
    let more = ap length (open_here c columns open_c) in
    let one = ap length (open_here c [] open_c) in
    more_left (k - 1) c columns (rest (k - 1) (omega arith) (omega arith)) k (omega arith)
split_here k c columns least most rest false ended_c which =
    let same = ap length (open_passed c columns ended_c) in
    let none = ap length (open_passed c [] ended_c) in
    more_left k c columns (rest k least (omega arith)) k (omega arith)

pub split_at : (k : ℕ) (columns : List Column) → 1 ≤ k → k ≤ length (open_columns columns) → Split k columns
split_at k [] least most = absurd (omega arith)
split_at k (c ∷ columns) least most = split_here k c columns least most (λ j from to. split_at j columns from to) (is_open c) refl (cases_eq k 1)

-- the columns around the open columns of positions k and k+1: between them none is open
pub record Pair (k : ℕ) (columns : List Column) : Type 0 where
  pub left : List Column
  pub first : Column
  pub between : List Column
  pub second : Column
  pub right : List Column
  pub is : columns ≡ left ++ first ∷ (between ++ second ∷ right)
  pub first_open : is_open first ≡ true
  pub second_open : is_open second ≡ true
  pub none_between : open_columns between ≡ []
  pub before : length (open_columns left) + 1 ≡ k

pair_from : (k : ℕ) (columns : List Column) (low : Split k columns) (high : Split 1 low.right) → Pair k columns
pair_from k columns low high = record {
  left = low.left;
  first = low.here;
  between = high.left;
  second = high.here;
  right = high.right;
  is = low.is ∙ ap (λ (zs : List Column). low.left ++ low.here ∷ zs) high.is;
  first_open = low.stands_open;
  second_open = high.stands_open;
  none_between = nil_from_length (open_columns high.left) (let rest = high.before in omega arith);
  before = low.before;
}

open_right : (k : ℕ) (columns : List Column) (low : Split k columns) → k < length (open_columns columns) → 1 ≤ length (open_columns low.right)
open_right k columns low most =
    let size =
    ap (λ (zs : List Column). length (open_columns zs)) low.is
    ∙ (ap length (open_append low.left (low.here ∷ low.right)) ∙ length-append (open_columns low.left) (open_columns (low.here ∷ low.right))) in
    let here = ap length (open_here low.here low.right low.stands_open) in
    let known = low.before in
    omega arith

pair_above : (k : ℕ) (columns : List Column) → k < length (open_columns columns) → Split k columns → Pair k columns
pair_above k columns most low = pair_from k columns low (split_at 1 low.right (omega arith) (open_right k columns low most))

pub pair_at : (k : ℕ) (columns : List Column) → 1 ≤ k → k < length (open_columns columns) → Pair k columns
pair_at k columns least most = pair_above k columns most (split_at k columns least (omega arith))

-- the open columns around a pair
pub pair_open : (k : ℕ) (columns : List Column) (pair : Pair k columns)
    → open_columns columns ≡ open_columns pair.left ++ pair.first ∷ pair.second ∷ open_columns pair.right
pair_open k columns pair =
    ap open_columns pair.is
    ∙ (open_append pair.left (pair.first ∷ (pair.between ++ pair.second ∷ pair.right))
    ∙ ap (λ (zs : List Column). open_columns pair.left ++ zs) (open_here pair.first (pair.between ++ pair.second ∷ pair.right) pair.first_open
    ∙ ap (λ (zs : List Column). pair.first ∷ zs) (open_append pair.between (pair.second ∷ pair.right)
    ∙ (ap (λ (zs : List Column). zs ++ open_columns (pair.second ∷ pair.right)) pair.none_between
    ∙ open_here pair.second pair.right pair.second_open))))

second_split : (k r : ℕ) (change : Change) (columns : List Column) (pair : Pair k columns)
    → at_position (k + 1) change columns ≡ pair.left ++ pair.first ∷ (pair.between ++ (change pair.second ++ pair.right))
second_split k r change columns pair =
    let front = pair.left ++ pair.first ∷ pair.between in
    let known = pair.before in
    let count = ap length (open_append pair.left (pair.first ∷ pair.between)) in
    let parts = length-append (open_columns pair.left) (open_columns (pair.first ∷ pair.between)) in
    let here = ap length (open_here pair.first pair.between pair.first_open) in
    let none = ap length pair.none_between in
    ap (at_position (k + 1) change) (pair.is ∙ sym (append_assoc pair.left (pair.first ∷ pair.between) (pair.second ∷ pair.right)))
    ∙ (at_split (k + 1) change front pair.second pair.right pair.second_open (omega arith)
    ∙ append_assoc pair.left (pair.first ∷ pair.between) (change pair.second ++ pair.right))

-- the columns after a letter
pub positive_is : (k r : ℕ) (columns : List Column) (pair : Pair k columns)
    → positive_columns k r columns ≡ pair.left ++ begun r ∷ pair.first ∷ (pair.between ++ ended r pair.second ∷ pair.right)
positive_is k r columns pair =
    ap (at_position k (λ c. begun r ∷ c ∷ [])) (second_split k r (λ c. ended r c ∷ []) columns pair)
    ∙ at_split k (λ c. begun r ∷ c ∷ []) pair.left pair.first (pair.between ++ ended r pair.second ∷ pair.right) pair.first_open pair.before

pub negative_is : (k r : ℕ) (columns : List Column) (pair : Pair k columns)
    → negative_columns k r columns ≡ pair.left ++ ended r pair.first ∷ (pair.between ++ pair.second ∷ begun r ∷ pair.right)
negative_is k r columns pair =
    ap (at_position k (λ c. ended r c ∷ [])) (second_split k r (λ c. c ∷ begun r ∷ []) columns pair)
    ∙ at_split k (λ c. ended r c ∷ []) pair.left pair.first (pair.between ++ pair.second ∷ begun r ∷ pair.right) pair.first_open pair.before

-- one column more
pub open_more : (columns : List Column) (i : ℕ) (d : Column) → i < length columns
    → open_columns (take (i + 1) columns) ≡ open_columns (take i columns) ++ cond (is_open (get_or columns i d)) (get_or columns i d ∷ []) []
open_more columns i d lt = filter_more is_open columns i d lt

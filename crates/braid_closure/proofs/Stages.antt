-- What is known of the columns when the rows below some height have been built.
use Rattle.std.proofs.Common.{◌≡◌, ◌<◌, ◌≤◌, ◌+◌, ◌-◌, ◌∷◌, ◌++◌, ◌∙◌, [], ℕ, zero, suc, ℤ, pos, negsuc, List, true, Option, Some, None}
use Rattle.std.proofs.Common.{is_none, length, map, All, arith, sym, refl, ap, subst, append_assoc, length-append, add-one, zero-add}
use Rattle.std.specs.List.{range_with_len, filter_map, cons_option}
use Rattle.std.specs.List.Sorted.{IsPermutation}
use Rattle.std.proofs.lemmas.Bool.{true≢false}
use Rattle.std.proofs.lemmas.Option.{none-some}
use Rattle.std.proofs.lemmas.List.{map-append}
use Rattle.std.proofs.lemmas.List.FromFn.{length-map-range_with_len, length-range_with_len, get_or-range_with_len}
use Rattle.std.proofs.lemmas.List.Elements.{filter_map-append, All-append, All-cons, All-nil, All-head, All-tail}
use Rattle.std.proofs.lemmas.List.Sorted.{IsPermutation-refl, IsPermutation-sym, IsPermutation-middle, IsPermutation-push_more, All-permutation}
use Rattle.grid_core.specs.Diagram.{IsOneEach}
use Rattle.grid_core.proofs.OneEach.{range_more, each_below}
use Rattle.braid_core.specs.Braid.{IsLetter}
use Rattle.braid_closure.specs.declared.columns.Column.{Column}
use Rattle.braid_closure.specs.Columns.{begun, ended, is_open, open_columns}
use Rattle.braid_closure.specs.Closure.{positive_columns, negative_columns, after_letter, after_letters, feet_columns}
use Rattle.braid_closure.proofs.Positions.{Pair, pair_at, pair_open, positive_is, negative_is, open_append, open_here}

-- the rows of the Xs, and those of the Os of the columns that have ended
abbrev pub x_rows : List Column → List ℕ
x_rows columns = map (λ (c : Column). c.x) columns

abbrev pub o_rows : List Column → List ℕ
o_rows columns = filter_map (λ (c : Column). c.o) columns

-- where the column has ended it runs upward
abbrev pub IsUp : Column → Type 0
IsUp c = (r : ℕ) → c.o ≡ Some r → c.x < r

-- p columns are open; r columns have begun, in the rows below r; e columns have ended, in the rows from m on
pub record IsStage (m p r e : ℕ) (columns : List Column) : Type 0 where
  pub standing : length (open_columns columns) ≡ p
  pub xs : IsOneEach r (x_rows columns)
  pub os : IsPermutation (range_with_len m e) (o_rows columns)
  pub up : All IsUp columns

none_of : (o : Option ℕ) → is_none o ≡ true → o ≡ None
none_of None e = refl
none_of (Some r) e = absurd (true≢false (sym e))

pub open_none : (c : Column) → is_open c ≡ true → c.o ≡ None
open_none c e = none_of c.o e

no_row : (c : Column) (columns : List Column) → c.o ≡ None → o_rows (c ∷ columns) ≡ o_rows columns
no_row c columns e = ap (λ (o : Option ℕ). cons_option o (o_rows columns)) e

-- all open
pub begun_open : (a n : ℕ) → open_columns (map begun (range_with_len a n)) ≡ map begun (range_with_len a n)
begun_open a zero = refl
begun_open a (suc n) = ap (λ (zs : List Column). begun a ∷ zs) (begun_open (a + 1) n)

begun_x : (a n : ℕ) → x_rows (map begun (range_with_len a n)) ≡ range_with_len a n
begun_x a zero = refl
begun_x a (suc n) = ap (λ (zs : List ℕ). a ∷ zs) (begun_x (a + 1) n)

begun_o : (a n : ℕ) → o_rows (map begun (range_with_len a n)) ≡ []
begun_o a zero = refl
begun_o a (suc n) = begun_o (a + 1) n

begun_up : (r : ℕ) → IsUp (begun r)
begun_up r s e = absurd (none-some s e)

all_up : (a n : ℕ) → All IsUp (map begun (range_with_len a n))
all_up a zero = All-nil IsUp
all_up a (suc n) = All-cons IsUp (begun a) (map begun (range_with_len (a + 1) n)) (begun_up a) (all_up (a + 1) n)

pub first_stage : (m : ℕ) → IsStage m m m 0 (feet_columns m)
first_stage m = record {
  standing = ap length (begun_open 0 m) ∙ length-map-range_with_len begun 0 m;
  xs = subst (λ (ys : List ℕ). IsPermutation (range_with_len 0 m) ys) (sym (begun_x 0 m)) (IsPermutation-refl (range_with_len 0 m));
  os = subst (λ (ys : List ℕ). IsPermutation [] ys) (sym (begun_o 0 m)) (IsPermutation-refl []);
  up = all_up 0 m;
}

-- what all columns meet, and the parts of such lists
pub up_front : (P : Column → Type 0) (left right : List Column) → All P (left ++ right) → All P left
up_front P [] right all = All-nil P
up_front P (c ∷ left) right all = All-cons P c left (All-head P c (left ++ right) all) (up_front P left right (All-tail P c (left ++ right) all))

pub up_back : (P : Column → Type 0) (left right : List Column) → All P (left ++ right) → All P right
up_back P [] right all = all
up_back P (c ∷ left) right all = up_back P left right (All-tail P c (left ++ right) all)

-- the rows of the marks, column by column
pub x_below : (r : ℕ) (columns : List Column) → All (λ z. z < r) (x_rows columns) → All (λ (c : Column). c.x < r) columns
x_below r [] all = All-nil (λ (c : Column). c.x < r)
x_below r (c ∷ columns) all =
    All-cons (λ (d : Column). d.x < r) c columns (All-head (λ z. z < r) c.x (x_rows columns) all)
    (x_below r columns (All-tail (λ z. z < r) c.x (x_rows columns) all))

-- each O that is there stands below row r
abbrev pub EndsBelow : ℕ → Column → Type 0
EndsBelow r c = (s : ℕ) → c.o ≡ Some s → s < r

o_below_step : (r : ℕ) (c : Column) (columns : List Column) (o : Option ℕ) → c.o ≡ o → (All (λ z. z < r) (o_rows columns) → All (EndsBelow r) columns)
    → All (λ z. z < r) (cons_option o (o_rows columns)) → All (EndsBelow r) (c ∷ columns)
o_below_step r c columns None is rest all = All-cons (EndsBelow r) c columns (λ s e. absurd (none-some s (sym is ∙ e))) (rest all)
o_below_step r c columns (Some o) is rest all =
    All-cons (EndsBelow r) c columns
    (λ s e. let same : ◌≡◌ {A = Option ℕ} (Some o) (Some s) = sym is
    ∙ e in let at : o ≡ s = cc in subst (λ (z : ℕ). z < r) at (All-head (λ z. z < r) o (o_rows columns) all))
    (rest (All-tail (λ z. z < r) o (o_rows columns) all))

o_below : (r : ℕ) (columns : List Column) → All (λ z. z < r) (o_rows columns) → All (EndsBelow r) columns
o_below r [] all = All-nil (EndsBelow r)
o_below r (c ∷ columns) all = o_below_step r c columns c.o refl (o_below r columns) all

pub stage_x : (m p r e : ℕ) (columns : List Column) → IsStage m p r e columns → All (λ (c : Column). c.x < r) columns
stage_x m p r e columns stage = x_below r columns (each_below r (x_rows columns) stage.xs)

range_below : (a n : ℕ) → All (λ z. z < a + n) (range_with_len a n)
range_below a n k d lt = let size = length-range_with_len a n in let is = get_or-range_with_len a n k d (omega arith) in omega arith

pub stage_o : (m p r e : ℕ) (columns : List Column) → IsStage m p r e columns → All (EndsBelow (m + e)) columns
stage_o m p r e columns stage = o_below (m + e) columns (All-permutation (λ z. z < m + e) (range_with_len m e) (o_rows columns) stage.os (range_below m e))

-- a column begins in the next row
pub stage_begin : (m p r e : ℕ) (left right : List Column) → IsStage m p r e (left ++ right) → IsStage m (p + 1) (r + 1) e (left ++ begun r ∷ right)
stage_begin m p r e left right stage = record {
  standing =
      let now = ap length (open_append left (begun r ∷ right)) ∙ length-append (open_columns left) (begun r ∷ open_columns right) in
      let before = sym (ap length (open_append left right) ∙ length-append (open_columns left) (open_columns right)) ∙ stage.standing in
      omega arith;
  xs =
      subst (λ (ys : List ℕ). IsPermutation ys (x_rows (left ++ begun r ∷ right)))
      (sym (ap (range_with_len 0) (add-one r) ∙ (range_more r 0 ∙ ap (λ (z : ℕ). range_with_len 0 r ++ z ∷ []) (zero-add r))))
      (IsPermutation-push_more (range_with_len 0 r) (x_rows (left ++ right)) (x_rows (left ++ begun r ∷ right)) r stage.xs
      (subst (λ (ys : List ℕ). IsPermutation (r ∷ x_rows (left ++ right)) ys) (sym (map-append (λ (c : Column). c.x) left (begun r ∷ right)))
      (subst (λ (ys : List ℕ). IsPermutation (r ∷ ys) (x_rows left ++ r ∷ x_rows right)) (sym (map-append (λ (c : Column). c.x) left right))
      (IsPermutation-sym (x_rows left ++ r ∷ x_rows right) (r ∷ (x_rows left ++ x_rows right)) (IsPermutation-middle (x_rows left) r (x_rows right))))));
  os =
      subst (λ (ys : List ℕ). IsPermutation (range_with_len m e) ys)
      (filter_map-append (λ (c : Column). c.o) left right ∙ sym (filter_map-append (λ (c : Column). c.o) left (begun r ∷ right))) stage.os;
  up =
      All-append IsUp left (begun r ∷ right) (up_front IsUp left right stage.up)
      (All-cons IsUp (begun r) right (begun_up r) (up_back IsUp left right stage.up));
}

ended_up : (s : ℕ) (c : Column) → c.x < s → IsUp (ended s c)
ended_up s c lt o e = let same : ◌≡◌ {A = Option ℕ} (Some s) (Some o) = e in let at : s ≡ o = cc in omega arith

-- an open column ends in the next row
pub stage_end : (m p r e : ℕ) (left : List Column) (c : Column) (right : List Column) → is_open c ≡ true → r ≤ m + e
    → IsStage m (p + 1) r e (left ++ c ∷ right) → IsStage m p r (e + 1) (left ++ ended (m + e) c ∷ right)
stage_end m p r e left c right open_c below stage = record {
  standing =
      let now = ap length (open_append left (ended (m + e) c ∷ right)) ∙ length-append (open_columns left) (open_columns right) in
      let before = sym (ap length (open_append left (c ∷ right)) ∙ length-append (open_columns left) (open_columns (c ∷ right))) ∙ stage.standing in
      let here = ap length (open_here c right open_c) in
      omega arith;
  xs =
      subst (λ (ys : List ℕ). IsPermutation (range_with_len 0 r) ys)
      (map-append (λ (d : Column). d.x) left (c ∷ right) ∙ sym (map-append (λ (d : Column). d.x) left (ended (m + e) c ∷ right))) stage.xs;
  os =
      let rest : o_rows (left ++ c ∷ right) ≡ o_rows left ++ o_rows right =
      filter_map-append (λ (d : Column). d.o) left (c ∷ right) ∙ ap (λ (zs : List ℕ). o_rows left ++ zs) (no_row c right (open_none c open_c)) in
      subst (λ (ys : List ℕ). IsPermutation ys (o_rows (left ++ ended (m + e) c ∷ right))) (sym (ap (range_with_len m) (add-one e) ∙ range_more e m))
      (IsPermutation-push_more (range_with_len m e) (o_rows (left ++ c ∷ right)) (o_rows (left ++ ended (m + e) c ∷ right)) (m + e) stage.os
      (subst (λ (ys : List ℕ). IsPermutation ((m + e) ∷ o_rows (left ++ c ∷ right)) ys)
      (sym (filter_map-append (λ (d : Column). d.o) left (ended (m + e) c ∷ right)))
      (subst (λ (ys : List ℕ). IsPermutation ((m + e) ∷ ys) (o_rows left ++ (m + e) ∷ o_rows right)) (sym rest)
      (IsPermutation-sym (o_rows left ++ (m + e) ∷ o_rows right) ((m + e) ∷ (o_rows left ++ o_rows right))
      (IsPermutation-middle (o_rows left) (m + e) (o_rows right))))));
  up =
      let here_x : c.x < r =
      All-head (λ (d : Column). d.x < r) c right (up_back (λ (d : Column). d.x < r) left (c ∷ right) (stage_x m (p + 1) r e (left ++ c ∷ right) stage)) in
      All-append IsUp left (ended (m + e) c ∷ right) (up_front IsUp left (c ∷ right) stage.up)
      (All-cons IsUp (ended (m + e) c) right (ended_up (m + e) c (omega (arith, here_x))) (All-tail IsUp c right (up_back IsUp left (c ∷ right) stage.up)));
}

-- a letter keeps the number of open columns, and uses one row for both its marks
pub stage_as : (m p q r s e f : ℕ) (columns after : List Column) → columns ≡ after → p ≡ q → r ≡ s → e ≡ f → IsStage m p r e columns → IsStage m q s f after
stage_as m p q r s e f columns after same p_is r_is e_is stage =
    subst (λ (z : ℕ). IsStage m z s f after) p_is
    (subst (λ (z : ℕ). IsStage m p z f after) r_is
    (subst (λ (z : ℕ). IsStage m p r z after) e_is (subst (λ (zs : List Column). IsStage m p r e zs) same stage)))

stage_positive : (m r e k : ℕ) (columns : List Column) → r ≡ m + e → (pair : Pair k columns) → IsStage m m r e columns
    → IsStage m m (r + 1) (e + 1) (positive_columns k r columns)
stage_positive m r e k columns r_is pair stage =
    let some : 1 ≤ m =
    let known = ap length (pair_open k columns pair) ∙ length-append (open_columns pair.left) (pair.first ∷ pair.second ∷ open_columns pair.right) in
    let size = stage.standing in omega arith in
    let front = pair.left ++ pair.first ∷ pair.between in
    let whole =
    stage_as m m (m - 1 + 1) r r e e columns (front ++ pair.second ∷ pair.right)
    (pair.is ∙ sym (append_assoc pair.left (pair.first ∷ pair.between) (pair.second ∷ pair.right))) (omega arith) refl refl stage in
    let less = stage_end m (m - 1) r e front pair.second pair.right pair.second_open (omega arith) whole in
    let again =
    stage_as m (m - 1) (m - 1) r r (e + 1) (e + 1) (front ++ ended (m + e) pair.second ∷ pair.right)
    (pair.left ++ (pair.first ∷ (pair.between ++ ended (m + e) pair.second ∷ pair.right)))
    (append_assoc pair.left (pair.first ∷ pair.between) (ended (m + e) pair.second ∷ pair.right)) refl refl refl less in
    stage_as m (m - 1 + 1) m (r + 1) (r + 1) (e + 1) (e + 1) (pair.left ++ begun r ∷ (pair.first ∷ (pair.between ++ ended (m + e) pair.second ∷ pair.right)))
    (positive_columns k r columns)
    (ap (λ (z : ℕ). pair.left ++ begun r ∷ (pair.first ∷ (pair.between ++ ended z pair.second ∷ pair.right))) (sym r_is)
    ∙ sym (positive_is k r columns pair)) (omega arith) refl refl
    (stage_begin m (m - 1) r (e + 1) pair.left (pair.first ∷ (pair.between ++ ended (m + e) pair.second ∷ pair.right)) again)

stage_negative : (m r e k : ℕ) (columns : List Column) → r ≡ m + e → (pair : Pair k columns) → IsStage m m r e columns
    → IsStage m m (r + 1) (e + 1) (negative_columns k r columns)
stage_negative m r e k columns r_is pair stage =
    let some : 1 ≤ m =
    let known = ap length (pair_open k columns pair) ∙ length-append (open_columns pair.left) (pair.first ∷ pair.second ∷ open_columns pair.right) in
    let size = stage.standing in omega arith in
    let whole =
    stage_as m m (m - 1 + 1) r r e e columns (pair.left ++ pair.first ∷ (pair.between ++ pair.second ∷ pair.right)) pair.is (omega arith) refl refl stage in
    let less = stage_end m (m - 1) r e pair.left pair.first (pair.between ++ pair.second ∷ pair.right) pair.first_open (omega arith) whole in
    let front = pair.left ++ ended (m + e) pair.first ∷ (pair.between ++ pair.second ∷ []) in
    let apart =
    λ (xs : List Column). append_assoc pair.left (ended (m + e) pair.first ∷ (pair.between ++ pair.second ∷ [])) xs
    ∙ ap (λ (zs : List Column). pair.left ++ ended (m + e) pair.first ∷ zs) (append_assoc pair.between (pair.second ∷ []) xs) in
    let again =
    stage_as m (m - 1) (m - 1) r r (e + 1) (e + 1) (pair.left ++ ended (m + e) pair.first ∷ (pair.between ++ pair.second ∷ pair.right)) (front ++ pair.right)
    (sym (apart pair.right)) refl refl refl less in
    stage_as m (m - 1 + 1) m (r + 1) (r + 1) (e + 1) (e + 1) (front ++ begun r ∷ pair.right) (negative_columns k r columns)
    (apart (begun r ∷ pair.right)
    ∙ (ap (λ (z : ℕ). pair.left ++ ended z pair.first ∷ (pair.between ++ pair.second ∷ begun r ∷ pair.right)) (sym r_is)
    ∙ sym (negative_is k r columns pair))) (omega arith) refl refl
    (stage_begin m (m - 1) r (e + 1) front pair.right again)

-- the pair of open columns that a letter crosses
pub letter_pair : (m k r e : ℕ) (columns : List Column) → IsStage m m r e columns → 1 ≤ k → k < m → Pair k columns
letter_pair m k r e columns stage least most = pair_at k columns least (let size = stage.standing in omega arith)

pub stage_letter : (m r e : ℕ) (a : ℤ) (columns : List Column) → r ≡ m + e → IsLetter m a → IsStage m m r e columns
    → IsStage m m (r + 1) (e + 1) (after_letter a r columns)
stage_letter m r e (pos k) columns r_is letter stage = stage_positive m r e k columns r_is (letter_pair m k r e columns stage letter.least letter.most) stage
stage_letter m r e (negsuc n) columns r_is letter stage =
    let most = letter.most in
    stage_negative m r e (n + 1) columns r_is (letter_pair m (n + 1) r e columns stage (omega arith) (omega arith)) stage

pub stage_letters : (m r e : ℕ) (letters : List ℤ) (columns : List Column) → r ≡ m + e → All (IsLetter m) letters → IsStage m m r e columns
    → IsStage m m (r + length letters) (e + length letters) (after_letters r columns letters)
stage_letters m r e [] columns r_is all stage = stage_as m m m r (r + 0) e (e + 0) columns columns refl refl (omega arith) (omega arith) stage
stage_letters m r e (a ∷ letters) columns r_is all stage =
    stage_as m m m (r + 1 + length letters) (r + suc (length letters)) (e + 1 + length letters) (e + suc (length letters))
    (after_letters (r + 1) (after_letter a r columns) letters) (after_letters r columns (a ∷ letters)) refl refl (omega arith) (omega arith)
    (stage_letters m (r + 1) (e + 1) letters (after_letter a r columns) (omega arith) (All-tail (IsLetter m) a letters all)
    (stage_letter m r e a columns r_is (All-head (IsLetter m) a letters all) stage))

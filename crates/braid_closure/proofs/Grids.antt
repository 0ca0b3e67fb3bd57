-- The closure of a braid is a grid.
use Rattle.std.proofs.Common.{◌≡◌, ◌≢◌, ◌≤◌, ◌+◌, ◌-◌, ◌*◌, ◌∷◌, ◌++◌, ◌∙◌, [], ℕ, zero, suc, ℤ, List, cond, Option, Some, None, is_none}
use Rattle.std.proofs.Common.{unwrap_or, length, map, All, arith, sym, refl, ap, ap₂, subst, zero-add, length-append}
use Rattle.std.specs.List.{range_with_len, zip, cons_option}
use Rattle.std.specs.List.Sorted.{IsPermutation}
use Rattle.std.proofs.lemmas.List.{map-append, length-map, nil_from_length}
use Rattle.std.proofs.lemmas.List.Elements.{filter_map-append, All-append, All-cons, All-nil, All-head, All-tail, All-weaker}
use Rattle.std.proofs.lemmas.List.Sorted.{IsPermutation-refl, IsPermutation-append, IsPermutation-append_comm, IsPermutation-trans, IsPermutation-push_more}
use Rattle.grid_core.specs.declared.grid.TheConstants.{MAX_SIZE}
use Rattle.grid_core.specs.Diagram.{IsGrid, IsOneEach, size}
use Rattle.grid_core.proofs.OneEach.{range_more, each_length}
use Rattle.braid_core.specs.Braid.{Word, IsBraid}
use Rattle.braid_closure.specs.declared.columns.Column.{Column}
use Rattle.braid_closure.specs.Columns.{begun, ended, open_columns, at_position, diagram_of}
use Rattle.braid_closure.specs.Closure.{after_letter, after_letters, feet_columns, top_row, ended_at_the_top, closing, closure_size, columns, closure}
use Rattle.braid_closure.proofs.Positions.{Split, split_at, at_split, open_append}
use Rattle.braid_closure.proofs.Stages.{IsStage, IsUp, x_rows, o_rows, first_stage, stage_as, stage_end, stage_letters}
use Rattle.colour_rows.proofs.Ranges.{range_append}

-- the last open column ends in its top row
pub top_split : (m n i r e : ℕ) (columns : List Column) → i + 1 + (m + e) ≡ n → IsStage m (i + 1) r e columns → Split (i + 1) columns
top_split m n i r e columns n_is stage = split_at (i + 1) columns (omega arith) (let all = stage.standing in omega arith)

pub ended_at_top_is : (m n i r e : ℕ) (columns : List Column) → i + 1 + (m + e) ≡ n → (split : Split (i + 1) columns)
    → at_position (i + 1) (λ c. ended (top_row n (i + 1)) c ∷ []) columns ≡ split.left ++ ended (m + e) split.here ∷ split.right
ended_at_top_is m n i r e columns n_is split =
    ap (at_position (i + 1) (λ c. ended (top_row n (i + 1)) c ∷ [])) split.is
    ∙ (at_split (i + 1) (λ c. ended (top_row n (i + 1)) c ∷ []) split.left split.here split.right split.stands_open split.before
    ∙ ap (λ (z : ℕ). split.left ++ ended z split.here ∷ split.right) (omega arith))

pub stage_top : (m n i r e : ℕ) (columns : List Column) → i + 1 + (m + e) ≡ n → r ≤ m + e → IsStage m (i + 1) r e columns
    → IsStage m i r (e + 1) (at_position (i + 1) (λ c. ended (top_row n (i + 1)) c ∷ []) columns)
stage_top m n i r e columns n_is below stage =
    let split = top_split m n i r e columns n_is stage in
    stage_as m i i r r (e + 1) (e + 1) (split.left ++ ended (m + e) split.here ∷ split.right)
    (at_position (i + 1) (λ c. ended (top_row n (i + 1)) c ∷ []) columns) (sym (ended_at_top_is m n i r e columns n_is split)) refl refl refl
    (stage_end m i r e split.left split.here split.right split.stands_open below
    (stage_as m (i + 1) (i + 1) r r e e columns (split.left ++ split.here ∷ split.right) split.is refl refl refl stage))

pub stage_ended_at_top : (m n j r e : ℕ) (columns : List Column) → j + (m + e) ≡ n → r ≤ m + e → IsStage m j r e columns
    → IsStage m 0 r (e + j) (ended_at_the_top n j columns)
stage_ended_at_top m n zero r e columns n_is below stage = stage_as m 0 0 r r e (e + 0) columns columns refl refl refl (omega arith) stage
stage_ended_at_top m n (suc i) r e columns n_is below stage =
    let one = stage_as m (suc i) (i + 1) r r e e columns columns refl (omega arith) refl refl stage in
    stage_as m 0 0 r r (e + 1 + i) (e + suc i) (ended_at_the_top n (suc i) columns) (ended_at_the_top n (suc i) columns) refl refl refl (omega arith)
    (stage_ended_at_top m n i r (e + 1) (at_position (i + 1) (λ c. ended (top_row n (i + 1)) c ∷ []) columns) (omega arith) (omega arith)
    (stage_top m n i r e columns (omega arith) below one))

closing_x : (n j : ℕ) → j ≤ n → x_rows (closing n j) ≡ range_with_len (n - j) j
closing_x n zero most = refl
closing_x n (suc i) most =
    ap (λ (zs : List ℕ). top_row n (i + 1) ∷ zs) (closing_x n i (omega arith))
    ∙ ap₂ (λ (a b : ℕ). a ∷ range_with_len b i) (omega arith) (omega arith)

closing_o : (n j : ℕ) → IsPermutation (range_with_len 0 j) (o_rows (closing n j))
closing_o n zero = IsPermutation-refl []
closing_o n (suc i) =
    subst (λ (ys : List ℕ). IsPermutation ys (i ∷ o_rows (closing n i))) (sym (range_more i 0 ∙ ap (λ (z : ℕ). range_with_len 0 i ++ z ∷ []) (zero-add i)))
    (IsPermutation-push_more (range_with_len 0 i) (o_rows (closing n i)) (i ∷ o_rows (closing n i)) i (closing_o n i)
    (IsPermutation-refl (i ∷ o_rows (closing n i))))

pub closing_ended : (n j : ℕ) → open_columns (closing n j) ≡ []
closing_ended n zero = refl
closing_ended n (suc i) = closing_ended n i

-- the two marks of a column stand in different rows
abbrev IsApart : Column → Type 0
IsApart c = (s : ℕ) → c.o ≡ Some s → c.x ≢ s

closing_apart : (n j : ℕ) → 2 * j ≤ n → All IsApart (closing n j)
closing_apart n zero most = All-nil IsApart
closing_apart n (suc i) most =
    All-cons IsApart (ended i (begun (top_row n (i + 1)))) (closing n i)
    (λ s e same. let is : ◌≡◌ {A = Option ℕ} (Some i) (Some s) = e in let at : i ≡ s = cc in omega arith)
    (closing_apart n i (omega arith))

-- where all columns have ended
ended_step : (c : Column) (columns : List Column) (o : Option ℕ) → c.o ≡ o → cond (is_none o) (c ∷ open_columns columns) (open_columns columns) ≡ []
    → (open_columns columns ≡ [] → map (λ (d : Column). unwrap_or d.o 0) columns ≡ o_rows columns)
    → unwrap_or o 0 ∷ map (λ (d : Column). unwrap_or d.o 0) columns ≡ cons_option o (o_rows columns)
ended_step c columns None is none rest = absurd (let no : ◌≡◌ {A = List Column} (c ∷ open_columns columns) [] = none in cc)
ended_step c columns (Some s) is none rest = ap (λ (zs : List ℕ). s ∷ zs) (rest none)

ended_rows : (columns : List Column) → open_columns columns ≡ [] → map (λ (d : Column). unwrap_or d.o 0) columns ≡ o_rows columns
ended_rows [] none = refl
ended_rows (c ∷ columns) none = ended_step c columns c.o refl none (ended_rows columns)

apart_step : (c : Column) (columns : List Column) (o : Option ℕ) → cond (is_none o) (c ∷ open_columns columns) (open_columns columns) ≡ []
    → ((s : ℕ) → o ≡ Some s → c.x ≢ s) → (c.x ≢ unwrap_or o 0) × (open_columns columns ≡ [])
apart_step c columns None none apart = absurd (let no : ◌≡◌ {A = List Column} (c ∷ open_columns columns) [] = none in cc)
apart_step c columns (Some s) none apart = (apart s refl, none)

zip_apart : (columns : List Column) → open_columns columns ≡ [] → All IsApart columns
    → All (λ (p : ℕ × ℕ). p.0 ≢ p.1) (zip (x_rows columns) (map (λ (d : Column). unwrap_or d.o 0) columns))
zip_apart [] none all = All-nil (λ (p : ℕ × ℕ). p.0 ≢ p.1)
zip_apart (c ∷ columns) none all =
    let here = apart_step c columns c.o none (All-head IsApart c columns all) in
    All-cons (λ (p : ℕ × ℕ). p.0 ≢ p.1) (c.x, unwrap_or c.o 0) (zip (x_rows columns) (map (λ (d : Column). unwrap_or d.o 0) columns)) here.0
    (zip_apart columns here.1 (All-tail IsApart c columns all))

up_apart : (columns : List Column) → All IsUp columns → All IsApart columns
up_apart columns all = All-weaker IsUp IsApart (λ c up s e same. let lt = up s e in omega arith) columns all

-- the columns below the closing ones, from the feet to the tops
pub body_stage : (b : Word) → IsBraid b
    → IsStage b.strands 0 (b.strands + length b.letters) (length b.letters + b.strands) (ended_at_the_top (closure_size b) b.strands (after_letters b.strands (feet_columns b.strands) b.letters))
body_stage b braid =
    let m = b.strands in
    let l = length b.letters in
    let up = stage_letters m m 0 b.letters (feet_columns m) (omega arith) braid.crossings (first_stage m) in
    stage_ended_at_top m (closure_size b) m (m + l) l (after_letters m (feet_columns m) b.letters) (omega arith) (omega arith)
    (stage_as m m m (m + l) (m + l) (0 + l) l (after_letters m (feet_columns m) b.letters) (after_letters m (feet_columns m) b.letters) refl refl refl
    (zero-add l) up)

closed_none : (m l n : ℕ) (body : List Column) → IsStage m 0 (m + l) (l + m) body → open_columns (body ++ closing n m) ≡ []
closed_none m l n body stage =
    let parts = ap length (open_append body (closing n m)) ∙ length-append (open_columns body) (open_columns (closing n m)) in
    let rest = ap length (closing_ended n m) in
    let size = stage.standing in
    nil_from_length (open_columns (body ++ closing n m)) (omega arith)

-- each row has one X and one O
closed_x : (m l n : ℕ) (body : List Column) → n ≡ l + 2 * m → IsStage m 0 (m + l) (l + m) body → IsOneEach n (x_rows (body ++ closing n m))
closed_x m l n body n_is stage =
    let top : x_rows (closing n m) ≡ range_with_len (m + l) m = closing_x n m (omega arith) ∙ ap (λ (a : ℕ). range_with_len a m) (omega arith) in
    let whole : range_with_len 0 (m + l) ++ range_with_len (m + l) m ≡ range_with_len 0 n =
    ap (λ (a : ℕ). range_with_len 0 (m + l) ++ range_with_len a m) (omega arith) ∙ (range_append 0 (m + l) m ∙ ap (range_with_len 0) (omega arith)) in
    subst (λ (ys : List ℕ). IsPermutation (range_with_len 0 n) ys) (sym (map-append (λ (c : Column). c.x) body (closing n m)))
    (subst (λ (ys : List ℕ). IsPermutation ys (x_rows body ++ x_rows (closing n m))) whole
    (IsPermutation-append (range_with_len 0 (m + l)) (x_rows body) (range_with_len (m + l) m) (x_rows (closing n m)) stage.xs
    (subst (λ (ys : List ℕ). IsPermutation (range_with_len (m + l) m) ys) (sym top) (IsPermutation-refl (range_with_len (m + l) m)))))

closed_o : (m l n : ℕ) (body : List Column) → n ≡ l + 2 * m → IsStage m 0 (m + l) (l + m) body
    → IsPermutation (range_with_len 0 n) (o_rows (body ++ closing n m))
closed_o m l n body n_is stage =
    let whole : range_with_len 0 m ++ range_with_len m (l + m) ≡ range_with_len 0 n =
    ap (λ (a : ℕ). range_with_len 0 m ++ range_with_len a (l + m)) (omega arith) ∙ (range_append 0 m (l + m) ∙ ap (range_with_len 0) (omega arith)) in
    subst (λ (ys : List ℕ). IsPermutation (range_with_len 0 n) ys) (sym (filter_map-append (λ (c : Column). c.o) body (closing n m)))
    (subst (λ (ys : List ℕ). IsPermutation ys (o_rows body ++ o_rows (closing n m))) whole
    (IsPermutation-trans (range_with_len 0 m ++ range_with_len m (l + m)) (range_with_len m (l + m) ++ range_with_len 0 m) (o_rows body ++ o_rows (closing n m))
    (IsPermutation-append_comm (range_with_len 0 m) (range_with_len m (l + m)))
    (IsPermutation-append (range_with_len m (l + m)) (o_rows body) (range_with_len 0 m) (o_rows (closing n m)) stage.os (closing_o n m))))

pub closed_grid : (m l n : ℕ) (body : List Column) → n ≡ l + 2 * m → 1 ≤ m → n ≤ MAX_SIZE → IsStage m 0 (m + l) (l + m) body
    → IsGrid (diagram_of (body ++ closing n m))
closed_grid m l n body n_is least most stage =
    let none = closed_none m l n body stage in
    let crosses = closed_x m l n body n_is stage in
    let long : length (x_rows (body ++ closing n m)) ≡ n = each_length n (x_rows (body ++ closing n m)) crosses in
    let rings = subst (λ (ys : List ℕ). IsPermutation (range_with_len 0 n) ys) (sym (ended_rows (body ++ closing n m) none)) (closed_o m l n body n_is stage) in
    record {
      least = subst (λ (z : ℕ). 2 ≤ z) (sym long) (omega arith);
      most = subst (λ (z : ℕ). z ≤ MAX_SIZE) (sym long) most;
      same = length-map (body ++ closing n m) (λ (c : Column). unwrap_or c.o 0) ∙ sym (length-map (body ++ closing n m) (λ (c : Column). c.x));
      crosses = subst (λ (z : ℕ). IsOneEach z (x_rows (body ++ closing n m))) (sym long) crosses;
      rings = subst (λ (z : ℕ). IsOneEach z (map (λ (c : Column). unwrap_or c.o 0) (body ++ closing n m))) (sym long) rings;
      apart = zip_apart (body ++ closing n m) none (All-append IsApart body (closing n m) (up_apart body stage.up) (closing_apart n m (omega arith)));
    }

pub closure_grid : (b : Word) → IsBraid b → IsGrid (closure b)
closure_grid b braid =
    closed_grid b.strands (length b.letters) (closure_size b)
    (ended_at_the_top (closure_size b) b.strands (after_letters b.strands (feet_columns b.strands) b.letters)) refl braid.least braid.room (body_stage b braid)

pub size_closure : (b : Word) → IsBraid b → size (closure b) ≡ closure_size b
size_closure b braid =
    each_length (closure_size b) (x_rows (columns b))
    (closed_x b.strands (length b.letters) (closure_size b)
    (ended_at_the_top (closure_size b) b.strands (after_letters b.strands (feet_columns b.strands) b.letters)) refl (body_stage b braid))

-- the columns of a loop over the letters, over the positions and over the closing columns
pub after_letters_more : (r : ℕ) (start : List Column) (letters : List ℤ) (a : ℤ)
    → after_letters r start (letters ++ a ∷ []) ≡ after_letter a (r + length letters) (after_letters r start letters)
after_letters_more r start [] a = ap (λ (s : ℕ). after_letter a s start) (omega arith)
after_letters_more r start (b ∷ letters) a =
    after_letters_more (r + 1) (after_letter b r start) letters a
    ∙ ap (λ (s : ℕ). after_letter a s (after_letters (r + 1) (after_letter b r start) letters))
    (let e : r + 1 + length letters ≡ r + suc (length letters) = omega arith in e)

pub ended_at_top_more : (n j i : ℕ) (start columns : List Column) → j ≡ i + 1
    → ended_at_the_top n j columns ≡ ended_at_the_top n i (at_position j (λ c. ended (n - j) c ∷ []) columns)
ended_at_top_more n j i start columns e =
    ap (λ (z : ℕ). ended_at_the_top n z columns) (e ∙ let s : i + 1 ≡ suc i = omega arith in s)
    ∙ ap (λ (z : ℕ). ended_at_the_top n i (at_position z (λ c. ended (n - z) c ∷ []) columns)) (sym e)

pub closing_more : (n j i : ℕ) → j ≡ i + 1 → closing n j ≡ ended (j - 1) (begun (n - j)) ∷ closing n i
closing_more n j i e =
    ap (closing n) (e ∙ let s : i + 1 ≡ suc i = omega arith in s)
    ∙ ap₂ (λ (z w : ℕ). ended z (begun (n - w)) ∷ closing n i) (let s : i ≡ j - 1 = omega arith in s) (sym e)

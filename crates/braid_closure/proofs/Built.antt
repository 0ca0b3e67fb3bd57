-- Steps of the loops that build the columns.
use Rattle.std.proofs.Common.{◌≡◌, ◌<◌, ◌≤◌, ◌+◌, ◌-◌, ◌∷◌, ◌++◌, ◌∙◌, [], ℕ, suc, ℤ, pos, negsuc, List, true, false, length, take, map}
use Rattle.std.proofs.Common.{get_or, arith, sym, ap, ap₂, append_assoc, add-one, zero-add, nat_abs}
use Rattle.std.specs.Int.Signed.{lt_z}
use Rattle.std.specs.List.{range_with_len}
use Rattle.std.proofs.lemmas.Bool.{ltb-false, true≢false}
use Rattle.std.proofs.lemmas.List.{map-append, take_more, length-take}
use Rattle.std.proofs.lemmas.List.Sums.{length-filter, count_by-le-length}
use Rattle.grid_core.proofs.OneEach.{range_more}
use Rattle.braid_closure.specs.declared.columns.Column.{Column}
use Rattle.braid_closure.specs.Columns.{begun, ended, is_open, open_columns, at_position}
use Rattle.braid_closure.specs.Closure.{after_letter, after_letters, ended_at_the_top, closing}
use Rattle.braid_closure.proofs.Grids.{after_letters_more, ended_at_top_more, closing_more}

-- a map over the numbers below n, and then n
pub range_mapped : {A : Type 0} (f : ℕ → A) (n : ℕ) (before after : List A) → before ≡ map f (range_with_len 0 n) → after ≡ before ++ f n ∷ []
    → after ≡ map f (range_with_len 0 (n + 1))
range_mapped f n before after before_is after_is =
    after_is
    ∙ (ap (λ (zs : List _). zs ++ f n ∷ []) before_is
    ∙ (sym (map-append f (range_with_len 0 n) (n ∷ []))
    ∙ ap (map f) (sym (ap (range_with_len 0) (add-one n) ∙ (range_more n 0 ∙ ap (λ (z : ℕ). range_with_len 0 n ++ z ∷ []) (zero-add n))))))

pub open_within : (columns : List Column) → length (open_columns columns) ≤ length columns
open_within columns = let size = length-filter is_open columns in let most = count_by-le-length is_open columns in omega arith

-- the two branches of a letter
by_positive : (a : ℤ) (k r : ℕ) (columns middle after : List Column) → lt_z (pos 0) a ≡ true → k ≡ nat_abs a
    → middle ≡ at_position (k + 1) (λ c. ended r c ∷ []) columns → after ≡ at_position k (λ c. begun r ∷ c ∷ []) middle → after ≡ after_letter a r columns
by_positive (pos n) k r columns middle after more k_is middle_is after_is =
    after_is ∙ (ap (at_position k (λ c. begun r ∷ c ∷ [])) middle_is
    ∙ ap (λ (z : ℕ). at_position z (λ c. begun r ∷ c ∷ []) (at_position (z + 1) (λ c. ended r c ∷ []) columns)) k_is)
by_positive (negsuc n) k r columns middle after more k_is middle_is after_is = absurd (true≢false (sym more))

by_negative : (a : ℤ) (k r : ℕ) (columns middle after : List Column) → lt_z (pos 0) a ≡ false → 1 ≤ k → k ≡ nat_abs a
    → middle ≡ at_position (k + 1) (λ c. c ∷ begun r ∷ []) columns → after ≡ at_position k (λ c. ended r c ∷ []) middle → after ≡ after_letter a r columns
by_negative (pos n) k r columns middle after less least k_is middle_is after_is = absurd (let most = ltb-false 0 n less in omega arith)
by_negative (negsuc n) k r columns middle after less least k_is middle_is after_is =
    after_is
    ∙ (ap (at_position k (λ c. ended r c ∷ [])) middle_is
    ∙ ap (λ (z : ℕ). at_position z (λ c. ended r c ∷ []) (at_position (z + 1) (λ c. c ∷ begun r ∷ []) columns))
    (k_is ∙ let e : suc n ≡ n + 1 = omega arith in e))

pub after_positive : (a z : ℤ) (k r : ℕ) (columns middle after : List Column) → z ≡ a → lt_z (pos 0) z ≡ true → k ≡ nat_abs z
    → middle ≡ at_position (k + 1) (λ c. ended r c ∷ []) columns → after ≡ at_position k (λ c. begun r ∷ c ∷ []) middle → after ≡ after_letter a r columns
after_positive a z k r columns middle after same more k_is middle_is after_is =
    by_positive a k r columns middle after (ap (lt_z (pos 0)) (sym same) ∙ more) (k_is ∙ ap nat_abs same) middle_is after_is

pub after_negative : (a z : ℤ) (k r : ℕ) (columns middle after : List Column) → z ≡ a → lt_z (pos 0) z ≡ false → 1 ≤ k → k ≡ nat_abs z
    → middle ≡ at_position (k + 1) (λ c. c ∷ begun r ∷ []) columns → after ≡ at_position k (λ c. ended r c ∷ []) middle → after ≡ after_letter a r columns
after_negative a z k r columns middle after same less least k_is middle_is after_is =
    by_negative a k r columns middle after (ap (lt_z (pos 0)) (sym same) ∙ less) least (k_is ∙ ap nat_abs same) middle_is after_is

-- one letter more
pub after_letters_step : (m place : ℕ) (start now after : List Column) (letters : List ℤ) (a : ℤ) → place < length letters
    → a ≡ get_or letters place (pos 0) → now ≡ after_letters m start (take place letters) → after ≡ after_letter a (m + place) now
    → after ≡ after_letters m start (take (place + 1) letters)
after_letters_step m place start now after letters a lt a_is now_is after_is =
    after_is
    ∙ (ap (after_letter a (m + place)) now_is
    ∙ (ap (λ (z : ℕ). after_letter a (m + z) (after_letters m start (take place letters)))
    (let size = length-take place letters in let e : place ≡ length (take place letters) = omega arith in e)
    ∙ (sym (after_letters_more m start (take place letters) a)
    ∙ ap (after_letters m start) (ap (λ (b : ℤ). take place letters ++ b ∷ []) a_is ∙ sym (take_more letters place (pos 0) lt)))))

-- one position less to be ended, and to be closed
pub ended_at_top_step : (n m done position row : ℕ) (start now after : List Column) → done < m → position ≡ m - done → row ≡ n - position
    → ended_at_the_top n m start ≡ ended_at_the_top n (m - done) now → after ≡ at_position position (λ c. ended row c ∷ []) now
    → ended_at_the_top n m start ≡ ended_at_the_top n (m - (done + 1)) after
ended_at_top_step n m done position row start now after lt position_is row_is now_is after_is =
    now_is
    ∙ (ended_at_top_more n (m - done) (m - (done + 1)) start now (omega arith)
    ∙ ap (ended_at_the_top n (m - (done + 1)))
    (ap₂ (λ (p r : ℕ). at_position p (λ c. ended r c ∷ []) now) (sym position_is) (ap (λ (z : ℕ). n - z) (sym position_is) ∙ sym row_is) ∙ sym after_is))

pub closing_step : (n m done x o : ℕ) (start now after : List Column) → done < m → x ≡ n - (m - done) → o ≡ m - done - 1
    → start ++ closing n m ≡ now ++ closing n (m - done) → after ≡ now ++ ended o (begun x) ∷ [] → start ++ closing n m ≡ after ++ closing n (m - (done + 1))
closing_step n m done x o start now after lt x_is o_is now_is after_is =
    now_is
    ∙ (ap (λ (zs : List Column). now ++ zs)
    (closing_more n (m - done) (m - (done + 1)) (omega arith) ∙ ap₂ (λ (s r : ℕ). ended s (begun r) ∷ closing n (m - (done + 1))) (sym o_is) (sym x_is))
    ∙ (sym (append_assoc now (ended o (begun x) ∷ []) (closing n (m - (done + 1))))
    ∙ ap (λ (zs : List Column). zs ++ closing n (m - (done + 1))) (sym after_is)))

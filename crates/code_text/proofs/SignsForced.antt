-- Signed Gauss lines leave no choice of signs: a code that has them is the one with their signs.
use Rattle.std.proofs.Common.{◌≡◌, ◌<◌, ◌+◌, ◌-◌, ◌==◌, ◌&&◌, ◌∙◌, ℕ, suc, Bool, true, false, List, [], ◌∷◌, map, length, get_or, refl, sym, ap, arith}
use Rattle.std.specs.Prelude.{count_by}
use Rattle.std.specs.List.{list_all, range_with_len}
use Rattle.std.proofs.lemmas.Bool.{and_parts, eqb-true, true≢false}
use Rattle.std.proofs.lemmas.List.{length-map}
use Rattle.std.proofs.lemmas.List.Folds.{list_all_at}
use Rattle.std.proofs.lemmas.List.FromFn.{get_or-range_with_len, length-range_with_len}
use Rattle.crossing_codes.specs.declared.crossing.Code.{Code}
use Rattle.crossing_codes.specs.declared.crossing.Crossing.{Crossing}
use Rattle.code_rows.specs.declared.row.CodeRow.{CodeRow}
use Rattle.code_rows.specs.Rows.{row_of_crossing, IsCodeOf}
use Rattle.code_text.specs.declared.gauss_lines.GaussPassage.{GaussPassage}
use Rattle.code_text.specs.GaussCheck.{crossing_of, are_alike, is_there, is_through, is_passed_twice, all_of, is_gauss_of, agrees_with_gauss}
use Rattle.code_text.specs.GaussSigns.{sign_by, positive_at, AreSigned}

alike_same : (b c : Bool) → are_alike b c ≡ true → b ≡ c
alike_same true c is = sym is
alike_same false true is = absurd (let wrong : false ≡ true = is in cc)
alike_same false false is = refl

and_false : (b : Bool) → (b && false) ≡ false
and_false true = refl
and_false false = refl

-- ---- the sign of a crossing

one_sign : (xs : List Crossing) (p : GaussPassage) (ps : List GaussPassage) (k : ℕ) (sign t : Bool) → (p.crossing == k) ≡ t → is_there xs p ≡ true
    → count_by (is_through true k) (p ∷ ps) ≡ 1 → (count_by (is_through true k) ps ≡ 1 → sign_by ps k sign ≡ positive_at xs (k - 1))
    → sign_by (p ∷ ps) k sign ≡ positive_at xs (k - 1)
one_sign xs p ps k sign true is here once rest =
    let same = eqb-true p.crossing k is in
    let sure = and_parts _ _ (and_parts _ _ here).1 in
    rw is (sym (alike_same (crossing_of xs p).positive p.positive sure.1) ∙ ap (λ (n : ℕ). positive_at xs (n - 1)) same)
one_sign xs p ps k sign false is here once rest =
    let none : is_through true k p ≡ false = ap (λ (t : Bool). are_alike p.over true && t) is ∙ and_false (are_alike p.over true) in
    let fewer : count_by (is_through true k) (p ∷ ps) ≡ count_by (is_through true k) ps = rw none refl in
    rw is (rest (sym fewer ∙ once))

-- the first passage through crossing k has the sign that a code with these passages has there
first_sign : (xs : List Crossing) (ps : List GaussPassage) (k : ℕ) (sign : Bool) → list_all (is_there xs) ps ≡ true
    → count_by (is_through true k) ps ≡ 1 → sign_by ps k sign ≡ positive_at xs (k - 1)
first_sign xs [] k sign there once = absurd (let wrong : 0 ≡ 1 = once in omega (arith, wrong))
first_sign xs (p ∷ ps) k sign there once =
    let parts = and_parts (is_there xs p) (list_all (is_there xs) ps) there in
    one_sign xs p ps k sign (p.crossing == k) refl parts.0 once (first_sign xs ps k sign parts.1)

-- ---- crossings by their rows and signs

crossing_is : (x y : Crossing) → row_of_crossing x ≡ row_of_crossing y → x.positive ≡ y.positive → x ≡ y
crossing_is x y rows sign =
    λ i. record { first = (rows i).first; second = (rows i).second; third = (rows i).third; fourth = (rows i).fourth; positive = sign i }

abbrev first_or : CodeRow → List CodeRow → CodeRow
first_or r [] = r
first_or r (s ∷ rows) = s

abbrev behind_first : List CodeRow → List CodeRow
behind_first [] = []
behind_first (s ∷ rows) = rows

pub same_crossings : (xs ys : List Crossing) → map row_of_crossing xs ≡ map row_of_crossing ys → ((k : ℕ) → k < length xs → positive_at xs k ≡ positive_at ys k)
    → xs ≡ ys
same_crossings [] [] rows signs = refl
same_crossings [] (y ∷ ys) rows signs = absurd (let wrong = rows in cc)
same_crossings (x ∷ xs) [] rows signs = absurd (let wrong = rows in cc)
same_crossings (x ∷ xs) (y ∷ ys) rows signs =
    let first = crossing_is x y (ap (first_or (row_of_crossing x)) rows) (signs 0 (omega arith)) in
    let others = same_crossings xs ys (ap behind_first rows) (λ k lt. signs (suc k) (omega (arith, lt))) in
    λ i. first i ∷ others i

-- ---- codes with the lines

-- crossing k, counted from 0, of those that are passed twice each
passed : (ps : List GaussPassage) (n k : ℕ) → list_all (is_passed_twice ps) (range_with_len 1 n) ≡ true → k < n → is_passed_twice ps (k + 1) ≡ true
passed ps n k all lt = by (is_passed_twice ps (k + 1)) refl
  where
    here : get_or (range_with_len 1 n) k 0 ≡ k + 1
    here = get_or-range_with_len 1 n k 0 lt ∙ omega arith

    by : (t : Bool) → is_passed_twice ps (k + 1) ≡ t → is_passed_twice ps (k + 1) ≡ true
    by true is = is
    by false is = absurd (true≢false (sym all ∙ list_all_at (is_passed_twice ps) (range_with_len 1 n) k 0
        (omega (arith, lt, length-range_with_len 1 n)) (ap (is_passed_twice ps) here ∙ is)))

signs_forced : (ps : List GaussPassage) (xs signed other : List Crossing) → AreSigned ps xs signed → map row_of_crossing other ≡ map row_of_crossing xs
    → list_all (is_there other) ps ≡ true → list_all (is_passed_twice ps) (range_with_len 1 (length other)) ≡ true → other ≡ signed
signs_forced ps xs signed other are rows there twice =
    let long : length other ≡ length xs = sym (length-map other row_of_crossing) ∙ (ap length rows ∙ length-map xs row_of_crossing) in
    same_crossings other signed (rows ∙ sym are.rows) (λ k lt.
    let once = eqb-true _ _ (and_parts _ _ (passed ps (length other) k twice lt)).0 in
    let here = first_sign other ps (k + 1) (positive_at xs k) there once in
    let back : (k + 1) - 1 ≡ k = omega arith in
    sym (are.signs k (omega (arith, lt, long)) ∙ (here ∙ ap (positive_at other) back)))

gauss_asked : (c : Code) (walks : List (List GaussPassage)) → 0 < length walks → agrees_with_gauss c walks ≡ true → is_gauss_of c.crossings walks ≡ true
gauss_asked c [] some is = absurd (omega (arith, some))
gauss_asked c (walk ∷ walks) some is = is

-- a code of the same rows that has the lines is the one with their signs
pub code_forced : (given : List CodeRow) (loops : ℕ) (walks : List (List GaussPassage)) (found said other : Code) → 0 < length walks
    → IsCodeOf given loops found → AreSigned (all_of walks) found.crossings said.crossings → said.edges ≡ found.edges → said.loops ≡ found.loops
    → IsCodeOf given loops other → agrees_with_gauss other walks ≡ true → other ≡ said
code_forced given loops walks found said other some of are edges free other_of has =
    let whole = and_parts _ _ (gauss_asked other walks some has) in
    let there = and_parts _ _ whole.1 in
    let twice = and_parts _ _ there.1 in
    let crossings = signs_forced (all_of walks) found.crossings said.crossings other.crossings are (other_of.rows ∙ sym of.rows) there.0 twice.0 in
    let as_many = other_of.edges ∙ (sym of.edges ∙ sym edges) in
    let as_free = other_of.loops ∙ (sym of.loops ∙ sym free) in
    λ i. record { crossings = crossings i; edges = as_many i; loops = as_free i }

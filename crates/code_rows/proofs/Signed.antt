-- Rows with signs, and the rows and the signs that they came from.
use Rattle.std.proofs.Common.{◌≡◌, ◌<◌, ◌∷◌, ◌++◌, [], ℕ, zero, suc, Bool, false, List, map, length, get_or, take, refl, ap, arith}
use Rattle.crossing_codes.specs.declared.crossing.Crossing.{Crossing}
use Rattle.code_rows.specs.declared.row.CodeRow.{CodeRow}
use Rattle.code_rows.specs.Rows.{row_of_crossing, with_sign}
use Rattle.code_rows.specs.RowSigns.{with_signs}

pub rows_back : (rows : List CodeRow) (signs : List Bool) → map row_of_crossing (with_signs rows signs) ≡ rows
rows_back [] signs = refl
rows_back (r ∷ rows) [] = ap (λ (rs : List CodeRow). r ∷ rs) (rows_back rows [])
rows_back (r ∷ rows) (sign ∷ signs) = ap (λ (rs : List CodeRow). r ∷ rs) (rows_back rows signs)

pub signs_back : (rows : List CodeRow) (signs : List Bool) → length signs ≡ length rows → map (λ (x : Crossing). x.positive) (with_signs rows signs) ≡ signs
signs_back [] [] same = refl
signs_back [] (sign ∷ signs) same = absurd (omega (arith, same))
signs_back (r ∷ rows) [] same = absurd (omega (arith, same))
signs_back (r ∷ rows) (sign ∷ signs) same = ap (λ (bs : List Bool). sign ∷ bs) (signs_back rows signs (omega (arith, same)))

pub crossings_back : (xs : List Crossing) → with_signs (map row_of_crossing xs) (map (λ (x : Crossing). x.positive) xs) ≡ xs
crossings_back [] = refl
crossings_back (x ∷ xs) = ap (λ (ys : List Crossing). x ∷ ys) (crossings_back xs)

pub signed_long : (rows : List CodeRow) (signs : List Bool) → length (with_signs rows signs) ≡ length rows
signed_long [] signs = refl
signed_long (r ∷ rows) [] = let rest = signed_long rows [] in omega (arith, rest)
signed_long (r ∷ rows) (sign ∷ signs) = let rest = signed_long rows signs in omega (arith, rest)

-- one row more
pub signed_more : (rows : List CodeRow) (signs : List Bool) (k : ℕ) (d : CodeRow) → k < length rows
    → with_signs (take (suc k) rows) signs ≡ with_signs (take k rows) signs ++ with_sign (get_or rows k d) (get_or signs k false) ∷ []
signed_more [] signs k d lt = absurd (omega (arith, lt))
signed_more (r ∷ rows) [] zero d lt = refl
signed_more (r ∷ rows) (sign ∷ signs) zero d lt = refl
signed_more (r ∷ rows) [] (suc k) d lt = ap (λ (xs : List Crossing). with_sign r false ∷ xs) (signed_more rows [] k d (omega (arith, lt)))
signed_more (r ∷ rows) (sign ∷ signs) (suc k) d lt = ap (λ (xs : List Crossing). with_sign r sign ∷ xs) (signed_more rows signs k d (omega (arith, lt)))

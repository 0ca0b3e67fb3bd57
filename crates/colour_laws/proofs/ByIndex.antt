-- Lists told by what stands at each place, and the columns from one place on.
use Rattle.std.proofs.Common.{◌≡◌, ◌∙◌, ◌<◌, ℕ, suc, List, ◌∷◌, length, drop, ap, sym, arith}
use Rattle.std.specs.Prelude.{slice_index}
use Rattle.std.specs.List.{range_with_len}
use Rattle.std.proofs.Math.Seq.{drop-cons}
use Rattle.std.proofs.lemmas.List.{length-map}
use Rattle.std.proofs.lemmas.List.FromFn.{get_or-map-range_with_len, length-range_with_len}
use Rattle.colour_laws.specs.Carried.{by_column}
use Rattle.colour_laws.proofs.ColumnLists.{Column}
use Rattle.colour_laws.proofs.ColouredColumns.{columns}
use Rattle.colour_laws.proofs.ByPlaces.{same_at}

pub by_column_at : (n : ℕ) (f : ℕ → ℕ) (i : ℕ) → i < n → slice_index (by_column n f) i ≡ f i
by_column_at n f i lt = get_or-map-range_with_len f 0 n i i 0 lt (omega arith)

pub length_by_column : (n : ℕ) (f : ℕ → ℕ) → length (by_column n f) ≡ n
length_by_column n f = length-map (range_with_len 0 n) f ∙ length-range_with_len 0 n

-- a list that has at each place what the function says
pub is_by_column : (n : ℕ) (f : ℕ → ℕ) (ys : List ℕ) → length ys ≡ n → ((i : ℕ) → i < n → slice_index ys i ≡ f i) → ys ≡ by_column n f
is_by_column n f ys size at =
    same_at ys (by_column n f) (size ∙ sym (length_by_column n f))
    (λ i lt. let lt' : i < n = omega (arith, lt, length_by_column n f) in at i lt' ∙ sym (by_column_at n f i lt'))

-- column i of a diagram, with its colour
abbrev pub coloured_at : ℕ → List ℕ → List ℕ → List ℕ → Column
coloured_at i xs os ys = record { x = slice_index xs i; o = slice_index os i; y = slice_index ys i }

-- the columns from place i on
abbrev pub columns_from : ℕ → List ℕ → List ℕ → List ℕ → List Column
columns_from i xs os ys = columns (drop i xs) (drop i os) (drop i ys)

pub columns_next : (i : ℕ) (xs os ys : List ℕ) → length os ≡ length xs → length ys ≡ length xs → i < length xs
    → columns_from i xs os ys ≡ coloured_at i xs os ys ∷ columns_from (suc i) xs os ys
columns_next i xs os ys e f lt =
    ap (λ l. columns l (drop i os) (drop i ys)) (drop-cons xs i 0 lt)
    ∙ (ap (λ l. columns (slice_index xs i ∷ drop (suc i) xs) l (drop i ys)) (drop-cons os i 0 (omega (arith, e, lt)))
    ∙ ap (λ l. columns (slice_index xs i ∷ drop (suc i) xs) (slice_index os i ∷ drop (suc i) os) l) (drop-cons ys i 0 (omega (arith, f, lt))))

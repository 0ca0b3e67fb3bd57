-- Neighbours that may slide, by how many lines their four marks lie in.
use Rattle.std.proofs.Common.{◌≡◌, ◌≢◌, ◌<◌, ◌+◌, ◌∙◌, ◌∷◌, [], ℕ, true, false, arith, sym, ap, ◌↔◌}
use Rattle.std.proofs.lemmas.Bool.Decides.{nat_tests}
use Rattle.grid_core.specs.declared.mark.Kind.TheVariants.{Cross, Ring}
use Rattle.grid_core.specs.Diagram.{Diagram, IsGrid, HasMark, size, row_of}
use Rattle.grid_core.specs.Span.{span, share_an_end, share_both_ends}
use Rattle.grid_core.specs.Parts.{column_span, column_of, ends}
use Rattle.grid_core.proofs.Marks.{no_cell_twice, column_mark}
use Rattle.grid_moves.specs.Slide.{MaySlide}
use Rattle.grid_moves.specs.Different.{how_many_different}

three_of : (a b c d : ℕ) → a ≢ b → c ≢ d → share_an_end (span a b) (span c d) ≡ true → share_both_ends (span a b) (span c d) ≡ false
    → how_many_different (a ∷ b ∷ c ∷ d ∷ []) ≡ 3
three_of a b c d n m shared apart = grind (arith, nat_tests)

share_of : (a b c d : ℕ) → a ≢ b → c ≢ d → how_many_different (a ∷ b ∷ c ∷ d ∷ []) ≡ 3 → share_an_end (span a b) (span c d) ≡ true
share_of a b c d n m three = grind (arith, nat_tests)

not_both_of : (a b c d : ℕ) → a ≢ b → c ≢ d → how_many_different (a ∷ b ∷ c ∷ d ∷ []) ≡ 3 → share_both_ends (span a b) (span c d) ≡ false
not_both_of a b c d n m three = grind (arith, nat_tests)

in_three : (a b c d : ℕ) → a ≢ b → c ≢ d → MaySlide (span a b) (span c d) ↔ (how_many_different (a ∷ b ∷ c ∷ d ∷ []) ≡ 3)
in_three a b c d n m =
    (λ free. three_of a b c d n m free.shared free.not_both, λ three. record { shared = share_of a b c d n m three; not_both = not_both_of a b c d n m three })

pub columns_in_three : (d : Diagram) (c : ℕ) → IsGrid d → c + 1 < size d
    → MaySlide (column_span d c) (column_span d (c + 1))
    ↔ (how_many_different (row_of Cross d c ∷ row_of Ring d c ∷ row_of Cross d (c + 1) ∷ row_of Ring d (c + 1) ∷ []) ≡ 3)
columns_in_three d c grid inside =
    in_three (row_of Cross d c) (row_of Ring d c) (row_of Cross d (c + 1)) (row_of Ring d (c + 1)) (no_cell_twice d grid c (omega (arith, inside)))
    (no_cell_twice d grid (c + 1) inside)

-- the two marks of a row stand in two columns
columns_apart : (d : Diagram) (r : ℕ) → IsGrid d → r < size d → column_of Cross d r ≢ column_of Ring d r
columns_apart d r grid lt same =
    let cross : HasMark d Cross (column_of Cross d r) r = column_mark d grid Cross r lt in
    let ring : HasMark d Ring (column_of Ring d r) r = column_mark d grid Ring r lt in
    no_cell_twice d grid (column_of Cross d r) cross.inside (cross.row ∙ sym ring.row ∙ ap (row_of Ring d) (sym same))

pub rows_in_three : (d : Diagram) (r : ℕ) → IsGrid d → r + 1 < size d
    → MaySlide (ends d r) (ends d (r + 1))
    ↔ (how_many_different (column_of Cross d r ∷ column_of Ring d r ∷ column_of Cross d (r + 1) ∷ column_of Ring d (r + 1) ∷ []) ≡ 3)
rows_in_three d r grid inside =
    in_three (column_of Cross d r) (column_of Ring d r) (column_of Cross d (r + 1)) (column_of Ring d (r + 1)) (columns_apart d r grid (omega (arith, inside)))
    (columns_apart d (r + 1) grid inside)

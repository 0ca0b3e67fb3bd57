-- Faces and parts are the same whatever the signs: two codes of the same rows have the same map.
use Rattle.std.proofs.Common.{◌≡◌, ◌+◌, ◌*◌, ◌/◌, ◌%◌, ◌∙◌, ◌∷◌, ◌==◌, ◌&&◌, [], ℕ, zero, suc, List, not, map, length, get_or, refl, sym, ap, ap₂}
use Rattle.std.specs.Prelude.{unwrap_or, if◌then◌else◌}
use Rattle.std.specs.List.{range_with_len}
use Rattle.std.proofs.lemmas.List.{length-map}
use Rattle.grid_core.specs.Fault.{lowest}
use Rattle.crossing_codes.specs.declared.crossing.Crossing.{Crossing}
use Rattle.code_rows.specs.CodeMap.{no_crossing, edge_at, twins, faces, parts, is_plane}
use Rattle.code_rows.specs.declared.row.CodeRow.{CodeRow}
use Rattle.code_rows.specs.Rows.{row_of_crossing}

-- the edge in a slot of a row
abbrev slot_of : CodeRow → ℕ → ℕ
slot_of r s = if s == 0 then r.first else if s == 1 then r.second else if s == 2 then r.third else r.fourth

row_at : (xs : List Crossing) (i : ℕ) → get_or (map row_of_crossing xs) i (row_of_crossing no_crossing) ≡ row_of_crossing (get_or xs i no_crossing)
row_at [] i = refl
row_at (x ∷ xs) zero = refl
row_at (x ∷ xs) (suc i) = row_at xs i

edge_same : (xs ys : List Crossing) → map row_of_crossing xs ≡ map row_of_crossing ys → (d : ℕ) → edge_at xs d ≡ edge_at ys d
edge_same xs ys same d =
    ap (λ (r : CodeRow). slot_of r (d % 4))
    (sym (row_at xs (d / 4)) ∙ (ap (λ (rs : List CodeRow). get_or rs (d / 4) (row_of_crossing no_crossing)) same ∙ row_at ys (d / 4)))

-- the other ends, from the edge at each dart
abbrev twins_by : (ℕ → ℕ) → ℕ → List ℕ
twins_by edge n = map (λ d. unwrap_or (lowest (λ e. (edge e == edge d) && not (e == d)) (4 * n)) 0) (range_with_len 0 (4 * n))

pub same_plane : (xs ys : List Crossing) → map row_of_crossing xs ≡ map row_of_crossing ys → is_plane xs ≡ is_plane ys
same_plane xs ys same =
    let long : length xs ≡ length ys = sym (length-map xs row_of_crossing) ∙ (ap length same ∙ length-map ys row_of_crossing) in
    let edges : edge_at xs ≡ edge_at ys = λ i d. edge_same xs ys same d i in
    let ends : twins xs ≡ twins ys = ap₂ twins_by edges long in
    ap₂ (λ (t : List ℕ) (n : ℕ). faces t == n + 2 * parts t n) ends long

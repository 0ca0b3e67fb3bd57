-- Finding the starts from the left: a column is a start exactly where no component of an earlier start has it.
use Rattle.std.proofs.Common.{◌≡◌, ◌≢◌, ◌<◌, ◌≤◌, ◌+◌, ◌++◌, ◌∙◌, ◌∷◌, [], inl, inr, ℕ, Bool, true, false, cond, not, List, sym, ap}
use Rattle.std.proofs.Common.{arith, ◌==◌, ◌||◌, append-nil}
use Rattle.std.specs.List.{range_with_len, filter, flat_map, list_any}
use Rattle.std.proofs.lemmas.Bool.{cases_Bool, false_from_ne_true, not-false, not-true}
use Rattle.std.proofs.lemmas.List.Elements.{filter-append}
use Rattle.std.proofs.lemmas.List.Concat.{flat_map-append}
use Rattle.std.proofs.lemmas.List.Folds.{list_any-append}
use Rattle.grid_core.specs.Diagram.{Diagram, IsGrid, size}
use Rattle.colour_rows.proofs.Ranges.{range_longer}
use Rattle.crossing_codes.specs.Components.{component, is_least, component_starts}
use Rattle.crossing_codes.proofs.Members.{Has, has_range, of_range, has_filter, of_filter, has_flat_map, of_flat_map}
use Rattle.crossing_codes.proofs.SharedColumns.{has_itself, start_of, start_least, one_start}
use Rattle.crossing_codes.proofs.Strands.{any_has, has_any}

-- the starts before column i, and the columns of their components
abbrev pub so_far : Diagram → ℕ → List ℕ
so_far d i = filter (is_least d) (range_with_len 0 i)

abbrev pub reached : Diagram → ℕ → List ℕ
reached d i = flat_map (component d) (so_far d i)

is_start : (d : Diagram) (i s : ℕ) → i ≤ size d → Has (so_far d i) s → Has (component_starts d) s × (s < i)
is_start d i s most h =
    let r = of_filter (is_least d) (range_with_len 0 i) s h in
    let m = of_range 0 i s r.0 in
    (has_filter (is_least d) (range_with_len 0 (size d)) s (has_range 0 (size d) s (omega arith) (omega arith)) r.1, omega arith)

-- a column that was reached is no start, and each other column is one
pub reached_or_start : (d : Diagram) → IsGrid d → (i : ℕ) → i < size d → list_any (λ b. b == i) (reached d i) ≡ not (is_least d i)
reached_or_start d grid i lt = elim (cases_Bool (is_least d i)) [
  | inl least ↦ false_from_ne_true (list_any (λ b. b == i) (reached d i)) (λ e.
      let r = of_flat_map (component d) (so_far d i) i (any_has i (reached d i) e) in
      let s = is_start d i r.0 (omega arith) r.1 in
      let less = s.1 in
      let same =
      one_start d grid r.0 i i s.0 (has_filter (is_least d) (range_with_len 0 (size d)) i (has_range 0 (size d) i (omega arith) (omega arith)) least) r.2
      (has_itself d grid i lt) in
      absurd (omega arith)) ∙ sym (ap not least)
  | inr not_least ↦
      let s = start_of d grid i lt in
      let least = (of_filter (is_least d) (range_with_len 0 (size d)) s.0 s.1).1 in
      let most = start_least d s.0 i s.1 s.2 in
      let other : s.0 ≢ i = λ e. let f : true ≡ false = sym least ∙ (ap (is_least d) e ∙ not_least) in cc in
      has_any i (reached d i)
      (has_flat_map (component d) (so_far d i) s.0 i
      (has_filter (is_least d) (range_with_len 0 i) s.0 (has_range 0 i s.0 (omega arith) (omega arith)) least) s.2)
      ∙ sym (ap not not_least)
]

starts_step : (d : Diagram) (i : ℕ) (b : Bool) → is_least d i ≡ b → so_far d (i + 1) ≡ so_far d i ++ cond b (i ∷ []) []
starts_step d i b e =
    let same : 0 + i ≡ i = omega arith in
    ap (filter (is_least d)) (range_longer 0 i ∙ ap (λ (k : ℕ). range_with_len 0 i ++ k ∷ []) same)
    ∙ (filter-append (is_least d) (range_with_len 0 i) (i ∷ []) ∙ ap (λ c. so_far d i ++ cond c (i ∷ []) []) e)

-- a column that was not reached is the next start
pub start_found : (d : Diagram) → IsGrid d → (i : ℕ) → i < size d → list_any (λ b. b == i) (reached d i) ≡ false → so_far d (i + 1) ≡ so_far d i ++ i ∷ []
start_found d grid i lt e = starts_step d i true (not-false (is_least d i) (sym (reached_or_start d grid i lt) ∙ e))

pub reached_more : (d : Diagram) → IsGrid d → (i : ℕ) → i < size d → list_any (λ b. b == i) (reached d i) ≡ false → (k : ℕ)
    → list_any (λ b. b == k) (reached d (i + 1)) ≡ (list_any (λ b. b == k) (reached d i) || list_any (λ b. b == k) (component d i))
reached_more d grid i lt e k =
    ap (λ (ss : List ℕ). list_any (λ b. b == k) (flat_map (component d) ss)) (start_found d grid i lt e)
    ∙ (ap (list_any (λ b. b == k)) (flat_map-append (component d) (so_far d i) (i ∷ []) ∙ ap (λ (xs : List ℕ). reached d i ++ xs) (append-nil (component d i)))
    ∙ list_any-append (λ b. b == k) (reached d i) (component d i))

-- one that was reached is none
pub start_passed : (d : Diagram) → IsGrid d → (i : ℕ) → i < size d → list_any (λ b. b == i) (reached d i) ≡ true → so_far d (i + 1) ≡ so_far d i
start_passed d grid i lt e = starts_step d i false (not-true (is_least d i) (sym (reached_or_start d grid i lt) ∙ e)) ∙ append-nil (so_far d i)

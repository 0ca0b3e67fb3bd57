-- The components before one are those of lesser starts.
use Rattle.std.proofs.Common.{◌≡◌, ◌<◌, ◌≤◌, ◌++◌, ◌∷◌, ◌∙◌, [], inl, inr, ℕ, cond, List, subst, refl, ap, arith}
use Rattle.std.specs.Prelude.{nat_lt}
use Rattle.std.specs.List.{range_with_len, filter}
use Rattle.std.proofs.lemmas.Bool.{lt-ltb, le-ltb}
use Rattle.grid_core.specs.Diagram.{Diagram, size}
use Rattle.crossing_codes.specs.Components.{is_least, component_starts}
use Rattle.crossing_codes.proofs.Members.{Has, has_right}
use Rattle.crossing_codes.proofs.Ordered.{Ordered, ordered_filter, ordered_range}

-- each number is below all that follow
abbrev Rising : List ℕ → Type 0
Rising xs = Ordered (λ (x y : ℕ). x < y) xs

none_below : (s : ℕ) (xs : List ℕ) → ((y : ℕ) → Has xs y → s ≤ y) → filter (λ e. nat_lt e s) xs ≡ []
none_below s [] above = refl
none_below s (x ∷ xs) above =
    ap (λ b. cond b (x ∷ filter (λ e. nat_lt e s) xs) (filter (λ e. nat_lt e s) xs)) (le-ltb x s (above x (inl refl)))
    ∙ none_below s xs (λ y h. above y (inr h))

below_kept : (s : ℕ) (front behind : List ℕ) → Rising (front ++ s ∷ behind) → filter (λ e. nat_lt e s) (front ++ s ∷ behind) ≡ front
below_kept s [] behind r = none_below s (s ∷ behind) (λ y h. elim h [ inl e ↦ omega (arith, e) | inr more ↦ omega (arith, r.0 y more) ])
below_kept s (x ∷ front) behind r =
    ap (λ b. cond b (x ∷ filter (λ e. nat_lt e s) (front ++ s ∷ behind)) (filter (λ e. nat_lt e s) (front ++ s ∷ behind)))
    (lt-ltb x s (r.0 s (has_right front (s ∷ behind) s (inl refl))))
    ∙ ap (λ zs. x ∷ zs) (below_kept s front behind r.1)

-- the starts in front of one are those below it
pub starts_below : (d : Diagram) (s : ℕ) (front behind : List ℕ) → component_starts d ≡ front ++ s ∷ behind
    → filter (λ e. nat_lt e s) (component_starts d) ≡ front
starts_below d s front behind cut =
    ap (filter (λ e. nat_lt e s)) cut
    ∙ below_kept s front behind
    (subst (λ xs. Rising xs) cut (ordered_filter (λ (x y : ℕ). x < y) (is_least d) (range_with_len 0 (size d)) (ordered_range 0 (size d))))

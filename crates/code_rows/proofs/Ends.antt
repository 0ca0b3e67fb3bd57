-- The ends of the edges of a code, four to a crossing, and the passages that an edge leads to and comes from, counted among them.
use Rattle.std.proofs.Common.{◌≡◌, ◌<◌, ◌+◌, ◌*◌, ◌==◌, ◌&&◌, ◌∙◌, ◌∷◌, [], ℕ, zero, suc, Bool, true, false, not, List, cond, length, get_or}
use Rattle.std.proofs.Common.{count_by, refl, ap, arith}
use Rattle.std.specs.Prelude.{if◌then◌else◌}
use Rattle.std.specs.List.{flat_map, sum_by}
use Rattle.std.proofs.lemmas.List.Sums.{sum_by-cons}
use Rattle.crossing_codes.specs.declared.crossing.Crossing.{Crossing}
use Rattle.code_rows.specs.JoinedEdges.{over_from, over_to, passages_behind, passages_before}
use Rattle.code_rows.specs.CodeMap.{no_crossing}

-- an end: its edge, and whether the strand leaves the crossing there
abbrev pub four_ends : Crossing → List (ℕ × Bool)
four_ends x = (x.first, false) ∷ (x.second, x.positive) ∷ (x.third, true) ∷ (x.fourth, not x.positive) ∷ []

abbrev pub all_ends : List Crossing → List (ℕ × Bool)
all_ends xs = flat_map four_ends xs

abbrev pub no_end : ℕ × Bool
no_end = (0, false)

cond_true : (b : Bool) → ◌≡◌ {A = ℕ} (cond (b && true) 1 0) (cond b 1 0)
cond_true true = refl
cond_true false = refl

cond_false : (b : Bool) → ◌≡◌ {A = ℕ} (cond (b && false) 1 0) 0
cond_false true = refl
cond_false false = refl

pub four_terms : (f : ℕ × Bool → ℕ) (x : Crossing) (xs : List Crossing) → sum_by f (all_ends (x ∷ xs))
    ≡ f (x.first, false) + (f (x.second, x.positive) + (f (x.third, true) + (f (x.fourth, not x.positive) + sum_by f (all_ends xs))))
four_terms f x xs =
    let a = sum_by-cons f (x.first, false) ((x.second, x.positive) ∷ (x.third, true) ∷ (x.fourth, not x.positive) ∷ all_ends xs) in
    let b = sum_by-cons f (x.second, x.positive) ((x.third, true) ∷ (x.fourth, not x.positive) ∷ all_ends xs) in
    let c = sum_by-cons f (x.third, true) ((x.fourth, not x.positive) ∷ all_ends xs) in
    let d = sum_by-cons f (x.fourth, not x.positive) (all_ends xs) in
    a ∙ ap (λ (n : ℕ). f (x.first, false) + n) (b ∙ ap (λ (n : ℕ). f (x.second, x.positive) + n) (c ∙ ap (λ (n : ℕ). f (x.third, true) + n) d))

before_one : (t : Bool) (i j k l e : ℕ) → cond (k == e) 1 0 + cond ((if t then j else l) == e) 1 0
    ≡ cond ((i == e) && false) 1 0 + (cond ((j == e) && t) 1 0 + (cond ((k == e) && true) 1 0 + cond ((l == e) && not t) 1 0))
before_one true i j k l e =
    let a = cond_false (i == e) in let b = cond_true (j == e) in let c = cond_true (k == e) in let d = cond_false (l == e) in omega (arith, a, b, c, d)
before_one false i j k l e =
    let a = cond_false (i == e) in let b = cond_false (j == e) in let c = cond_true (k == e) in let d = cond_true (l == e) in omega (arith, a, b, c, d)

behind_one : (t : Bool) (i j k l e : ℕ) → cond (i == e) 1 0 + cond ((if t then l else j) == e) 1 0
    ≡ cond ((i == e) && true) 1 0 + (cond ((j == e) && not t) 1 0 + (cond ((k == e) && false) 1 0 + cond ((l == e) && not (not t)) 1 0))
behind_one true i j k l e =
    let a = cond_true (i == e) in let b = cond_false (j == e) in let c = cond_false (k == e) in let d = cond_true (l == e) in omega (arith, a, b, c, d)
behind_one false i j k l e =
    let a = cond_true (i == e) in let b = cond_true (j == e) in let c = cond_false (k == e) in let d = cond_false (l == e) in omega (arith, a, b, c, d)

pub before_is : (e : ℕ) (xs : List Crossing) → passages_before xs e ≡ count_by (λ (p : ℕ × Bool). (p.0 == e) && p.1) (all_ends xs)
before_is e [] = refl
before_is e (x ∷ xs) =
    let under = sum_by-cons (λ (y : Crossing). cond (y.third == e) 1 0) x xs in
    let over = sum_by-cons (λ (y : Crossing). cond (over_to y == e) 1 0) x xs in
    let four = four_terms (λ (p : ℕ × Bool). cond ((p.0 == e) && p.1) 1 0) x xs in
    let here = before_one x.positive x.first x.second x.third x.fourth e in
    omega (arith, under, over, four, here, before_is e xs)

pub behind_is : (e : ℕ) (xs : List Crossing) → passages_behind xs e ≡ count_by (λ (p : ℕ × Bool). (p.0 == e) && not p.1) (all_ends xs)
behind_is e [] = refl
behind_is e (x ∷ xs) =
    let under = sum_by-cons (λ (y : Crossing). cond (y.first == e) 1 0) x xs in
    let over = sum_by-cons (λ (y : Crossing). cond (over_from y == e) 1 0) x xs in
    let four = four_terms (λ (p : ℕ × Bool). cond ((p.0 == e) && not p.1) 1 0) x xs in
    let here = behind_one x.positive x.first x.second x.third x.fourth e in
    omega (arith, under, over, four, here, behind_is e xs)

-- the end in a slot of a crossing
pub end_at : (xs : List Crossing) (k s : ℕ) → k < length xs → s < 4
    → get_or (all_ends xs) (4 * k + s) no_end ≡ get_or (four_ends (get_or xs k no_crossing)) s no_end
end_at [] k s lt four = absurd (omega (arith, lt))
end_at (x ∷ xs) zero zero lt four = refl
end_at (x ∷ xs) zero (suc zero) lt four = refl
end_at (x ∷ xs) zero (suc (suc zero)) lt four = refl
end_at (x ∷ xs) zero (suc (suc (suc zero))) lt four = refl
end_at (x ∷ xs) zero (suc (suc (suc (suc s)))) lt four = absurd (omega (arith, four))
end_at (x ∷ xs) (suc k) s lt four =
    let on : 4 * suc k + s ≡ suc (suc (suc (suc (4 * k + s)))) = omega arith in
    ap (λ (i : ℕ). get_or (all_ends (x ∷ xs)) i no_end) on ∙ end_at xs k s (omega (arith, lt)) four

pub ends_long : (xs : List Crossing) → length (all_ends xs) ≡ 4 * length xs
ends_long [] = refl
ends_long (x ∷ xs) = let rest = ends_long xs in omega (arith, rest)

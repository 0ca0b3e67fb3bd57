-- Lists of numbers and diagrams, in lexicographic order.
use Rattle.std.proofs.Common.{◌≡◌, ◌≢◌, ◌<◌, ◌∙◌, ◌⊎◌, ◌∷◌, [], ◌==◌, ℕ, zero, suc, List, length, get_or, cond, true, false, arith, sym, refl, ap, ap₂, inl}
use Rattle.std.proofs.Common.{inr}
use Rattle.std.specs.declared.cmp.Ordering.{Ordering}
use Rattle.std.specs.declared.cmp.Ordering.TheVariants.{Less, Equal, Greater}
use Rattle.std.specs.Ordering.{nat_cmp, ordering_then, ordering_reverse, is_le}
use Rattle.std.specs.Cmp.{IsTotalOrder}
use Rattle.std.specs.Cmp.Lexicographic.{slice_cmp}
use Rattle.std.proofs.lemmas.Bool.{cases_order, lt-ltb, le-ltb, eq-eqb, ne_eqb}
use Rattle.std.proofs.lemmas.Cmp.{nat_list_cmp_total, tied_itself, on_total, then_total}
use Rattle.grid_core.specs.Diagram.{Diagram}
use Rattle.grid_keys.specs.Order.{compare, IsAtMost}

-- two numbers
pub nat_cmp_less : (a b : ℕ) → a < b → nat_cmp a b ≡ Less
nat_cmp_less a b lt = ap (λ t. cond t Less (cond (a == b) Equal Greater)) (lt-ltb a b lt)

pub nat_cmp_greater : (a b : ℕ) → b < a → nat_cmp a b ≡ Greater
nat_cmp_greater a b lt =
    ap (λ t. cond t Less (cond (a == b) Equal Greater)) (le-ltb a b (omega arith))
    ∙ ap (λ t. cond t Equal Greater) (ne_eqb a b (λ e. absurd (omega (arith, e, lt))))

pub nat_cmp_same : (a b : ℕ) → a ≡ b → nat_cmp a b ≡ Equal
nat_cmp_same a b e = ap (λ t. cond t Less (cond (a == b) Equal Greater)) (le-ltb a b (omega (arith, e))) ∙ ap (λ t. cond t Equal Greater) (eq-eqb a b e)

pub nat_cmp_equal : (a b : ℕ) → nat_cmp a b ≡ Equal → a ≡ b
nat_cmp_equal a b e = elim (cases_order a b) [
  | inl is ↦ is
  | inr other ↦ elim other [
    | inl lt ↦ absurd (let no : Less ≡ Equal = sym (nat_cmp_less a b lt) ∙ e in cc)
    | inr gt ↦ absurd (let no : Greater ≡ Equal = sym (nat_cmp_greater a b gt) ∙ e in cc)
  ]
]

then_parts : (p q : Ordering) → ordering_then p q ≡ Equal → (p ≡ Equal) × (q ≡ Equal)
then_parts Less q e = absurd (let no : Less ≡ Equal = e in cc)
then_parts Equal q e = (refl, e)
then_parts Greater q e = absurd (let no : Greater ≡ Equal = e in cc)

pub then_first : (p q : Ordering) → p ≢ Equal → ordering_then p q ≡ p
then_first Less q n = refl
then_first Equal q n = absurd (n refl)
then_first Greater q n = refl

-- the first place at which two lists differ decides
pub slice_cmp_at : (xs ys : List ℕ) (i : ℕ) → i < length xs → i < length ys → ((k : ℕ) → k < i → get_or xs k 0 ≡ get_or ys k 0)
    → nat_cmp (get_or xs i 0) (get_or ys i 0) ≢ Equal → slice_cmp nat_cmp xs ys ≡ nat_cmp (get_or xs i 0) (get_or ys i 0)
slice_cmp_at [] ys i lx ly before here = absurd (omega (arith, lx))
slice_cmp_at (x ∷ xs) [] i lx ly before here = absurd (omega (arith, ly))
slice_cmp_at (x ∷ xs) (y ∷ ys) zero lx ly before here = then_first (nat_cmp x y) (slice_cmp nat_cmp xs ys) here
slice_cmp_at (x ∷ xs) (y ∷ ys) (suc i) lx ly before here =
    ap (λ o. ordering_then o (slice_cmp nat_cmp xs ys)) (nat_cmp_same x y (before 0 (omega arith)))
    ∙ slice_cmp_at xs ys i (omega (arith, lx)) (omega (arith, ly)) (λ k lt. before (suc k) (omega (arith, lt))) here

-- two lists that nowhere differ are tied, and tied lists are one
pub slice_cmp_same : (xs ys : List ℕ) → length xs ≡ length ys → ((k : ℕ) → k < length xs → get_or xs k 0 ≡ get_or ys k 0) → slice_cmp nat_cmp xs ys ≡ Equal
slice_cmp_same [] [] e all = refl
slice_cmp_same [] (y ∷ ys) e all = absurd (omega (arith, e))
slice_cmp_same (x ∷ xs) [] e all = absurd (omega (arith, e))
slice_cmp_same (x ∷ xs) (y ∷ ys) e all =
    ap (λ o. ordering_then o (slice_cmp nat_cmp xs ys)) (nat_cmp_same x y (all 0 (omega arith)))
    ∙ slice_cmp_same xs ys (omega (arith, e)) (λ k lt. all (suc k) (omega (arith, lt)))

pub slice_cmp_equal : (xs ys : List ℕ) → slice_cmp nat_cmp xs ys ≡ Equal → xs ≡ ys
slice_cmp_equal [] [] e = refl
slice_cmp_equal [] (y ∷ ys) e = absurd (let no : Less ≡ Equal = e in cc)
slice_cmp_equal (x ∷ xs) [] e = absurd (let no : Greater ≡ Equal = e in cc)
slice_cmp_equal (x ∷ xs) (y ∷ ys) e =
    let parts = then_parts (nat_cmp x y) (slice_cmp nat_cmp xs ys) e in
    ap₂ (λ (z : ℕ) zs. z ∷ zs) (nat_cmp_equal x y parts.0) (slice_cmp_equal xs ys parts.1)

-- diagrams
pub compare_total : IsTotalOrder compare
compare_total = then_total (on_total (λ (d : Diagram). d.x) nat_list_cmp_total) (on_total (λ (d : Diagram). d.o) nat_list_cmp_total)

pub compare_equal : (d e : Diagram) → compare d e ≡ Equal → d ≡ e
compare_equal d e tied =
    let parts = then_parts (slice_cmp nat_cmp d.x e.x) (slice_cmp nat_cmp d.o e.o) tied in
    ap₂ (λ x o. made x o) (slice_cmp_equal d.x e.x parts.0) (slice_cmp_equal d.o e.o parts.1)
  where
    made : List ℕ → List ℕ → Diagram
    made x o = record { x = x; o = o }

pub compare_self : (d e : Diagram) → d ≡ e → compare d e ≡ Equal
compare_self d e is = ap (λ f. compare d f) (sym is) ∙ tied_itself compare_total d

le_cases : (o : Ordering) → is_le o ≡ true → (o ≡ Less) ⊎ (o ≡ Equal)
le_cases Less e = inl refl
le_cases Equal e = inr refl
le_cases Greater e = absurd (let no : false ≡ true = e in cc)

pub at_most_cases : (d e : Diagram) → IsAtMost d e → (compare d e ≡ Less) ⊎ (d ≡ e)
at_most_cases d e le = elim (le_cases (compare d e) le) [ inl less ↦ inl less | inr tied ↦ inr (compare_equal d e tied) ]

pub at_most_from_less : (d e : Diagram) → compare d e ≡ Less → IsAtMost d e
at_most_from_less d e less = ap is_le less

pub at_most_self : (d : Diagram) → IsAtMost d d
at_most_self d = ap is_le (compare_self d d refl)

pub less_then_at_most : (d e f : Diagram) → compare d e ≡ Less → IsAtMost e f → compare d f ≡ Less
less_then_at_most d e f less le = elim (at_most_cases e f le) [
  | inl next ↦ compare_total.trans d e f less next
  | inr is ↦ ap (λ g. compare d g) (sym is) ∙ less
]

not_less : (o p : Ordering) → o ≡ ordering_reverse p → p ≢ Less → is_le o ≡ true
not_less o Less e n = absurd (n refl)
not_less o Equal e n = ap is_le e
not_less o Greater e n = ap is_le e

-- what is not less is at most the other way round
pub at_most_from_not_less : (d e : Diagram) → compare d e ≢ Less → IsAtMost e d
at_most_from_not_less d e n = not_less (compare e d) (compare d e) (compare_total.antisymm e d) n

less_reversed : (o p : Ordering) → o ≡ ordering_reverse p → o ≡ Less → is_le p ≡ true → ⊥
less_reversed o Less e less le = absurd (let no : Less ≡ Greater = sym less ∙ e in cc)
less_reversed o Equal e less le = absurd (let no : Less ≡ Equal = sym less ∙ e in cc)
less_reversed o Greater e less le = absurd (let no : false ≡ true = le in cc)

pub less_not_back : (d e : Diagram) → compare d e ≡ Less → IsAtMost e d → ⊥
less_not_back d e less le = less_reversed (compare d e) (compare e d) (compare_total.antisymm d e) less le

pub at_most_both : (d e : Diagram) → IsAtMost d e → IsAtMost e d → d ≡ e
at_most_both d e le back = elim (at_most_cases d e le) [ inl less ↦ absurd (less_not_back d e less back) | inr is ↦ is ]

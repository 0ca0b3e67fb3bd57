-- The first fault, told without a search: its case fails, and no case before it.
use Rattle.std.proofs.Common.{◌≡◌, ◌<◌, ◌≤◌, ◌*◌, ◌==◌, ◌&&◌, ◌∙◌, ◌⊎◌, inl, inr, ℕ, zero, suc, List, [], ◌∷◌, not, Option, Some, None, length, slice_index}
use Rattle.std.proofs.Common.{refl, sym, ap, subst, arith}
use Rattle.std.specs.Prelude.{nat_lt, nat_le}
use Rattle.std.proofs.lemmas.Bool.{le-leb, eqb-true, eq-eqb, ltb-true, lt-ltb, leb-true, and_parts, and_from, not-true, cases_lt, cases_order, both_ways}
use Rattle.std.proofs.lemmas.Bool.{not-false}
use Rattle.quandle_core.specs.Quandle.{Table, over}
use Rattle.quandle_core.specs.Colours.{ComesBefore}
use Rattle.quandle_core.specs.QuandleCases.{IsQuandleFaultOf, IsFirstQuandleFault, quandle_law_rank, quandle_case_of}
use Rattle.quandle_core.specs.Fault.{first, order_fault, length_fault, range_fault, idempotent_fault, collision_fault, distributive_fault, first_fault_within}
use Rattle.quandle_core.specs.Fault.{range_case, idempotent_case, collision_case, distributive_case, collides, distributes, or_else}
use Rattle.quandle_core.specs.declared.fault.QuandleFault.{QuandleFault}
use Rattle.quandle_core.specs.declared.fault.QuandleFault.TheVariants.{Order, Length, Range, Idempotent, Collision, Distributive, NoInverse}
use Rattle.quandle_core.proofs.Firsts.{first_none, unless_none, or_else_none}
use Rattle.quandle_laws.proofs.Leasts.{least1, least2, least3, unless_some}
use Rattle.quandle_core.proofs.Accepted.{all_within, all_idempotent, all_distributive, no_collision}

-- the first fault of each law
abbrev fault_of_law : ℕ → Table → ℕ → Option QuandleFault
fault_of_law most t zero = order_fault most t
fault_of_law most t (suc zero) = length_fault t
fault_of_law most t (suc (suc zero)) = range_fault t
fault_of_law most t (suc (suc (suc zero))) = idempotent_fault t
fault_of_law most t (suc (suc (suc (suc zero)))) = collision_fault t
fault_of_law most t (suc (suc (suc (suc (suc k))))) = distributive_fault t

by_laws : (most : ℕ) (t : Table) → first_fault_within most t ≡ first 6 (fault_of_law most t)
by_laws most t =
    ap (λ o. or_else (order_fault most t) (or_else (length_fault t) (or_else (range_fault t) (or_else (idempotent_fault t) (or_else (collision_fault t) o)))))
    (sym (or_else_none (distributive_fault t)))

-- one case that is no fault
range_holds : (most : ℕ) (t : Table) (x y : ℕ) → range_case t x y ≡ None → IsQuandleFaultOf most t (Range x y) → ⊥
range_holds most t x y none fails =
    let under = ltb-true (over t x y) t.order (unless_none (nat_lt (over t x y) t.order) (Range x y) none) in
    absurd (omega (arith, under, fails.2))

idempotent_holds : (most : ℕ) (t : Table) (x : ℕ) → idempotent_case t x ≡ None → IsQuandleFaultOf most t (Idempotent x) → ⊥
idempotent_holds most t x none fails = fails.1 (eqb-true (over t x x) x (unless_none (over t x x == x) (Idempotent x) none))

collision_holds : (most : ℕ) (t : Table) (x z y : ℕ) → collision_case t x z y ≡ None → IsQuandleFaultOf most t (Collision x z y) → ⊥
collision_holds most t x z y none fails =
    both_ways (collides t x z y) (not-true (collides t x z y) (unless_none (not (collides t x z y)) (Collision x z y) none))
    (and_from (nat_lt x z) (over t x y == over t z y) (lt-ltb x z fails.0) (eq-eqb (over t x y) (over t z y) fails.3))

distributive_holds : (most : ℕ) (t : Table) (x y z : ℕ) → distributive_case t x y z ≡ None → IsQuandleFaultOf most t (Distributive x y z) → ⊥
distributive_holds most t x y z none fails =
    fails.3 (eqb-true (over t (over t x y) z) (over t (over t x z) (over t y z)) (unless_none (distributes t x y z) (Distributive x y z) none))

order_holds : (most : ℕ) (t : Table) → order_fault most t ≡ None → IsQuandleFaultOf most t Order → ⊥
order_holds most t none fails =
    let both = and_parts (nat_le 1 t.order) (nat_le t.order most) (unless_none (nat_le 1 t.order && nat_le t.order most) Order none) in
    let least = leb-true 1 t.order both.0 in
    let few = leb-true t.order most both.1 in
    elim fails [
      | inl under ↦ absurd (omega (arith, under, least))
      | inr above ↦ absurd (omega (arith, above, few))
    ]

-- where a law has no first fault, it has none
no_fault_of_law : (most : ℕ) (t : Table) (fault : QuandleFault) → fault_of_law most t (quandle_law_rank fault) ≡ None → IsQuandleFaultOf most t fault → ⊥
no_fault_of_law most t Order none fails = order_holds most t none fails
no_fault_of_law most t Length none fails =
    fails (eqb-true (length t.entries) (t.order * t.order) (unless_none (length t.entries == t.order * t.order) Length none))
no_fault_of_law most t (Range x y) none fails = let under = all_within t none x y fails.0 fails.1 in absurd (omega (arith, under, fails.2))
no_fault_of_law most t (Idempotent x) none fails = fails.1 (all_idempotent t none x fails.0)
no_fault_of_law most t (Collision x z y) none fails = no_collision t none x z y fails.0 fails.1 fails.2 fails.3
no_fault_of_law most t (Distributive x y z) none fails = fails.3 (all_distributive t none x y z fails.0 fails.1 fails.2)
no_fault_of_law most t NoInverse none fails = fails

-- the first fault of one law: it is one, and no smaller case of the law is
record IsFirstOfLaw (most : ℕ) (t : Table) (k : ℕ) (fault : QuandleFault) : Type 0 where
  is_of : quandle_law_rank fault ≡ k
  fails : IsQuandleFaultOf most t fault
  smaller : (other : QuandleFault) → quandle_law_rank other ≡ k → ComesBefore (quandle_case_of other) (quandle_case_of fault) → IsQuandleFaultOf most t other
      → ⊥

smaller_range : (most : ℕ) (t : Table) (x y : ℕ) → ((v w : ℕ) → v < t.order → w < t.order → ComesBefore (v ∷ w ∷ []) (x ∷ y ∷ []) → range_case t v w ≡ None)
    → (other : QuandleFault) → quandle_law_rank other ≡ 2 → ComesBefore (quandle_case_of other) (x ∷ y ∷ []) → IsQuandleFaultOf most t other → ⊥
smaller_range most t x y before Order is less fails = absurd (omega (arith, is))
smaller_range most t x y before Length is less fails = absurd (omega (arith, is))
smaller_range most t x y before (Range v w) is less fails = range_holds most t v w (before v w fails.0 fails.1 less) fails
smaller_range most t x y before (Idempotent v) is less fails = absurd (omega (arith, is))
smaller_range most t x y before (Collision u v w) is less fails = absurd (omega (arith, is))
smaller_range most t x y before (Distributive u v w) is less fails = absurd (omega (arith, is))
smaller_range most t x y before NoInverse is less fails = fails

smaller_idempotent : (most : ℕ) (t : Table) (x : ℕ) → ((v : ℕ) → v < t.order → ComesBefore (v ∷ []) (x ∷ []) → idempotent_case t v ≡ None)
    → (other : QuandleFault) → quandle_law_rank other ≡ 3 → ComesBefore (quandle_case_of other) (x ∷ []) → IsQuandleFaultOf most t other → ⊥
smaller_idempotent most t x before Order is less fails = absurd (omega (arith, is))
smaller_idempotent most t x before Length is less fails = absurd (omega (arith, is))
smaller_idempotent most t x before (Range v w) is less fails = absurd (omega (arith, is))
smaller_idempotent most t x before (Idempotent v) is less fails = idempotent_holds most t v (before v fails.0 less) fails
smaller_idempotent most t x before (Collision u v w) is less fails = absurd (omega (arith, is))
smaller_idempotent most t x before (Distributive u v w) is less fails = absurd (omega (arith, is))
smaller_idempotent most t x before NoInverse is less fails = fails

smaller_collision : (most : ℕ) (t : Table) (x z y : ℕ)
    → ((u v w : ℕ) → u < t.order → v < t.order → w < t.order → ComesBefore (u ∷ v ∷ w ∷ []) (x ∷ z ∷ y ∷ []) → collision_case t u v w ≡ None)
    → (other : QuandleFault) → quandle_law_rank other ≡ 4 → ComesBefore (quandle_case_of other) (x ∷ z ∷ y ∷ []) → IsQuandleFaultOf most t other → ⊥
smaller_collision most t x z y before Order is less fails = absurd (omega (arith, is))
smaller_collision most t x z y before Length is less fails = absurd (omega (arith, is))
smaller_collision most t x z y before (Range v w) is less fails = absurd (omega (arith, is))
smaller_collision most t x z y before (Idempotent v) is less fails = absurd (omega (arith, is))
smaller_collision most t x z y before (Collision u v w) is less fails =
    collision_holds most t u v w (before u v w (omega (arith, fails.0, fails.1)) fails.1 fails.2 less) fails
smaller_collision most t x z y before (Distributive u v w) is less fails = absurd (omega (arith, is))
smaller_collision most t x z y before NoInverse is less fails = fails

smaller_distributive : (most : ℕ) (t : Table) (x y z : ℕ)
    → ((u v w : ℕ) → u < t.order → v < t.order → w < t.order → ComesBefore (u ∷ v ∷ w ∷ []) (x ∷ y ∷ z ∷ []) → distributive_case t u v w ≡ None)
    → (other : QuandleFault) → quandle_law_rank other ≡ 5 → ComesBefore (quandle_case_of other) (x ∷ y ∷ z ∷ []) → IsQuandleFaultOf most t other → ⊥
smaller_distributive most t x y z before Order is less fails = absurd (omega (arith, is))
smaller_distributive most t x y z before Length is less fails = absurd (omega (arith, is))
smaller_distributive most t x y z before (Range v w) is less fails = absurd (omega (arith, is))
smaller_distributive most t x y z before (Idempotent v) is less fails = absurd (omega (arith, is))
smaller_distributive most t x y z before (Collision u v w) is less fails = absurd (omega (arith, is))
smaller_distributive most t x y z before (Distributive u v w) is less fails =
    distributive_holds most t u v w (before u v w fails.0 fails.1 fails.2 less) fails
smaller_distributive most t x y z before NoInverse is less fails = fails

-- a fault without colours has no smaller one
pub no_smaller : (xs : List ℕ) → ComesBefore xs [] → ⊥
no_smaller [] less = less
no_smaller (x ∷ xs) less = less

of_order : (most : ℕ) (t : Table) (fault : QuandleFault) → order_fault most t ≡ Some fault → IsFirstOfLaw most t 0 fault
of_order most t fault found =
    let parts = unless_some (nat_le 1 t.order && nat_le t.order most) Order fault found in
    let fails : IsQuandleFaultOf most t Order = elim (cases_lt t.order 1) [
      | inl under ↦ inl under
      | inr least ↦ elim (cases_lt most t.order) [
        | inl above ↦ inr above
        | inr few ↦
            absurd (both_ways (nat_le 1 t.order && nat_le t.order most) parts.0
            (and_from (nat_le 1 t.order) (nat_le t.order most) (le-leb 1 t.order least) (le-leb t.order most few)))
      ]
    ] in
    subst (IsFirstOfLaw most t 0) parts.1 (record { is_of = refl; fails = fails; smaller = λ other is less also. no_smaller (quandle_case_of other) less })

of_length : (most : ℕ) (t : Table) (fault : QuandleFault) → length_fault t ≡ Some fault → IsFirstOfLaw most t 1 fault
of_length most t fault found =
    let parts = unless_some (length t.entries == t.order * t.order) Length fault found in
    subst (IsFirstOfLaw most t 1) parts.1
    (record {
      is_of = refl;
      fails = λ e. both_ways (length t.entries == t.order * t.order) parts.0 (eq-eqb (length t.entries) (t.order * t.order) e);
      smaller = λ other is less also. no_smaller (quandle_case_of other) less;
    })

of_range : (most : ℕ) (t : Table) (fault : QuandleFault) → range_fault t ≡ Some fault → IsFirstOfLaw most t 2 fault
of_range most t fault found =
    let l = least2 t.order (range_case t) fault found in
    let parts = unless_some (nat_lt (over t l.x l.y) t.order) (Range l.x l.y) fault l.here in
    let above : t.order ≤ over t l.x l.y = elim (cases_lt (over t l.x l.y) t.order) [
      | inl under ↦ absurd (both_ways (nat_lt (over t l.x l.y) t.order) parts.0 (lt-ltb (over t l.x l.y) t.order under))
      | inr least ↦ least
    ] in
    subst (IsFirstOfLaw most t 2) parts.1
    (record { is_of = refl; fails = (l.below.0, l.below.1, above); smaller = smaller_range most t l.x l.y l.before })

of_idempotent : (most : ℕ) (t : Table) (fault : QuandleFault) → idempotent_fault t ≡ Some fault → IsFirstOfLaw most t 3 fault
of_idempotent most t fault found =
    let l = least1 t.order (idempotent_case t) fault found in
    let parts = unless_some (over t l.x l.x == l.x) (Idempotent l.x) fault l.here in
    subst (IsFirstOfLaw most t 3) parts.1
    (record {
      is_of = refl;
      fails = (l.below, λ e. both_ways (over t l.x l.x == l.x) parts.0 (eq-eqb (over t l.x l.x) l.x e));
      smaller = smaller_idempotent most t l.x l.before;
    })

of_collision : (most : ℕ) (t : Table) (fault : QuandleFault) → collision_fault t ≡ Some fault → IsFirstOfLaw most t 4 fault
of_collision most t fault found =
    let l = least3 t.order (collision_case t) fault found in
    let parts = unless_some (not (collides t l.x l.y l.z)) (Collision l.x l.y l.z) fault l.here in
    let both = and_parts (nat_lt l.x l.y) (over t l.x l.z == over t l.y l.z) (not-false (collides t l.x l.y l.z) parts.0) in
    subst (IsFirstOfLaw most t 4) parts.1
    (record {
      is_of = refl;
      fails = (ltb-true l.x l.y both.0, l.below.1, l.below.2, eqb-true (over t l.x l.z) (over t l.y l.z) both.1);
      smaller = smaller_collision most t l.x l.y l.z l.before;
    })

of_distributive : (most : ℕ) (t : Table) (fault : QuandleFault) → distributive_fault t ≡ Some fault → IsFirstOfLaw most t 5 fault
of_distributive most t fault found =
    let l = least3 t.order (distributive_case t) fault found in
    let parts = unless_some (distributes t l.x l.y l.z) (Distributive l.x l.y l.z) fault l.here in
    subst (IsFirstOfLaw most t 5) parts.1
    (record {
      is_of = refl;
      fails = (
        l.below.0,
        l.below.1,
        l.below.2,
        λ e. both_ways (distributes t l.x l.y l.z) parts.0
            (eq-eqb (over t (over t l.x l.y) l.z) (over t (over t l.x l.z) (over t l.y l.z)) e),
      );
      smaller = smaller_distributive most t l.x l.y l.z l.before;
    })

of_law : (most : ℕ) (t : Table) (k : ℕ) (fault : QuandleFault) → k < 6 → fault_of_law most t k ≡ Some fault → IsFirstOfLaw most t k fault
of_law most t zero fault lt found = of_order most t fault found
of_law most t (suc zero) fault lt found = of_length most t fault found
of_law most t (suc (suc zero)) fault lt found = of_range most t fault found
of_law most t (suc (suc (suc zero))) fault lt found = of_idempotent most t fault found
of_law most t (suc (suc (suc (suc zero)))) fault lt found = of_collision most t fault found
of_law most t (suc (suc (suc (suc (suc zero))))) fault lt found = of_distributive most t fault found
of_law most t (suc (suc (suc (suc (suc (suc k)))))) fault lt found = absurd (omega (arith, lt))

-- what the search finds comes first
pub found_is_first : (most : ℕ) (t : Table) (fault : QuandleFault) → first_fault_within most t ≡ Some fault → IsFirstQuandleFault most t fault
found_is_first most t fault found =
    let l = least1 6 (fault_of_law most t) fault (sym (by_laws most t) ∙ found) in
    let here = of_law most t l.x fault l.below l.here in
    record {
      fails = here.fails;
      earlier = λ other under also.
          no_fault_of_law most t other
          (l.before (quandle_law_rank other) (omega (arith, under, here.is_of, l.below)) (inl (omega (arith, under, here.is_of)))) also;
      smaller = λ other same less also. here.smaller other (same ∙ here.is_of) less also;
    }

-- of two lists of one length, one comes before the other or they are the same
order_of_lists : (xs ys : List ℕ) → length xs ≡ length ys → ComesBefore xs ys ⊎ (ComesBefore ys xs ⊎ (xs ≡ ys))
order_of_lists [] [] same = inr (inr refl)
order_of_lists [] (y ∷ ys) same = inl tt
order_of_lists (x ∷ xs) [] same = inr (inl tt)
order_of_lists (x ∷ xs) (y ∷ ys) same = elim (cases_order x y) [
  | inl e ↦ elim (order_of_lists xs ys (omega (arith, same))) [
    | inl less ↦ inl (inr (e, less))
    | inr other ↦ elim other [
      | inl more ↦ inr (inl (inr (sym e, more)))
      | inr rest ↦ inr (inr (ap (λ (a : ℕ). a ∷ xs) e ∙ ap (λ (zs : List ℕ). y ∷ zs) rest))
    ]
  ]
  | inr other ↦ elim other [
    | inl less ↦ inl (inl less)
    | inr more ↦ inr (inl (inl more))
  ]
]

-- a fault is told by its law and its colours
abbrev fault_from : ℕ → List ℕ → QuandleFault
fault_from zero xs = Order
fault_from (suc zero) xs = Length
fault_from (suc (suc zero)) xs = Range (slice_index xs 0) (slice_index xs 1)
fault_from (suc (suc (suc zero))) xs = Idempotent (slice_index xs 0)
fault_from (suc (suc (suc (suc zero)))) xs = Collision (slice_index xs 0) (slice_index xs 1) (slice_index xs 2)
fault_from (suc (suc (suc (suc (suc zero))))) xs = Distributive (slice_index xs 0) (slice_index xs 1) (slice_index xs 2)
fault_from (suc (suc (suc (suc (suc (suc k)))))) xs = NoInverse

told : (fault : QuandleFault) → fault ≡ fault_from (quandle_law_rank fault) (quandle_case_of fault)
told Order = refl
told Length = refl
told (Range x y) = refl
told (Idempotent x) = refl
told (Collision x z y) = refl
told (Distributive x y z) = refl
told NoInverse = refl

-- how many colours a law's case has
abbrev case_length : ℕ → ℕ
case_length zero = 0
case_length (suc zero) = 0
case_length (suc (suc zero)) = 2
case_length (suc (suc (suc zero))) = 1
case_length (suc (suc (suc (suc zero)))) = 3
case_length (suc (suc (suc (suc (suc zero))))) = 3
case_length (suc (suc (suc (suc (suc (suc k)))))) = 0

told_length : (fault : QuandleFault) → length (quandle_case_of fault) ≡ case_length (quandle_law_rank fault)
told_length Order = refl
told_length Length = refl
told_length (Range x y) = refl
told_length (Idempotent x) = refl
told_length (Collision x z y) = refl
told_length (Distributive x y z) = refl
told_length NoInverse = refl

-- two first faults are the same
one_first : (most : ℕ) (t : Table) (f g : QuandleFault) → IsFirstQuandleFault most t f → IsFirstQuandleFault most t g → f ≡ g
one_first most t f g a b = elim (cases_order (quandle_law_rank f) (quandle_law_rank g)) [
  | inl same ↦ elim (order_of_lists (quandle_case_of f) (quandle_case_of g) (told_length f ∙ (ap case_length same ∙ sym (told_length g)))) [
    | inl less ↦ absurd (b.smaller f same less a.fails)
    | inr other ↦ elim other [
      | inl more ↦ absurd (a.smaller g (sym same) more b.fails)
      | inr e ↦ told f ∙ (ap (λ (k : ℕ). fault_from k (quandle_case_of f)) same ∙ (ap (fault_from (quandle_law_rank g)) e ∙ sym (told g)))
    ]
  ]
  | inr other ↦ elim other [
    | inl less ↦ absurd (b.earlier f less a.fails)
    | inr more ↦ absurd (a.earlier g more b.fails)
  ]
]

within : (most : ℕ) (t : Table) (fault : QuandleFault) → IsQuandleFaultOf most t fault → quandle_law_rank fault < 6
within most t Order fails = omega arith
within most t Length fails = omega arith
within most t (Range x y) fails = omega arith
within most t (Idempotent x) fails = omega arith
within most t (Collision x z y) fails = omega arith
within most t (Distributive x y z) fails = omega arith
within most t NoInverse fails = absurd fails

found_again : (most : ℕ) (t : Table) (fault : QuandleFault) → IsFirstQuandleFault most t fault → (o : Option QuandleFault) → first_fault_within most t ≡ o
    → first_fault_within most t ≡ Some fault
found_again most t fault first (Some other) e = e ∙ ap (λ (f : QuandleFault). Some f) (one_first most t other fault (found_is_first most t other e) first)
found_again most t fault first None e =
    let none = first_none (fault_of_law most t) 6 (quandle_law_rank fault) (sym (by_laws most t) ∙ e) (within most t fault first.fails) in
    absurd (no_fault_of_law most t fault none first.fails)

-- what comes first is what the search finds
pub first_is_found : (most : ℕ) (t : Table) (fault : QuandleFault) → IsFirstQuandleFault most t fault → first_fault_within most t ≡ Some fault
first_is_found most t fault first = found_again most t fault first (first_fault_within most t) refl

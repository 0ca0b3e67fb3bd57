-- Lists that undo each other.
use Rattle.std.proofs.Common.{◌≡◌, ◌≢◌, ◌<◌, ◌++◌, ◌∙◌, ℕ, List, length, take, drop, get_or, zero-add, inl, inr, sym, ap, subst, arith}
use Rattle.std.proofs.lemmas.List.{get_or_default, take_all, drop_all, append-nil}
use Rattle.std.specs.List.{range_with_len, SwappedAt}
use Rattle.std.proofs.lemmas.Bool.{cases_eq}
use Rattle.std.proofs.lemmas.List.FromFn.{get_or-range_with_len, length-range_with_len}
use Rattle.grid_core.specs.Diagram.{IsOneEach}
use Rattle.grid_core.proofs.OneEach.{IsApart, each_from_apart}
use Rattle.code_grids.specs.Renaming.{IsUndone, AreInverse}

-- the other way
pub turned_over : (n : ℕ) (there back : List ℕ) → AreInverse n there back → AreInverse n back there
turned_over n there back i = record { long = i.as_long; as_long = i.long; undone = i.redone; redone = i.undone }

pub below : (n : ℕ) (there back : List ℕ) → AreInverse n there back → (k : ℕ) → k < n → get_or there k 0 < n
below n there back i k lt =
    let long = i.long in
    let as_long = i.as_long in
    let at = (i.undone k (omega arith)).0 in
    omega arith

pub apart : (n : ℕ) (there back : List ℕ) → AreInverse n there back → (j k : ℕ) → j < n → k < n → get_or there j 0 ≡ get_or there k 0 → j ≡ k
apart n there back i j k first second e =
    let long = i.long in
    sym (i.undone j (omega arith)).1 ∙ (ap (λ (m : ℕ). get_or back m 0) e ∙ (i.undone k (omega arith)).1)

-- each of them has each number below n once
pub one_each : (n : ℕ) (there back : List ℕ) → AreInverse n there back → IsOneEach n there
one_each n there back i =
    let long = i.long in
    let alone : IsApart there = λ j k first second e. apart n there back i j k (omega arith) (omega arith) e in
    each_from_apart n there long (λ k d lt.
    let at = below n there back i k (omega arith) in
    rw (get_or_default there k d 0 lt) at) alone

-- the list of the numbers below n undoes itself
pub own_place : (n k d : ℕ) → k < n → get_or (range_with_len 0 n) k d ≡ k
own_place n k d lt = get_or-range_with_len 0 n k d lt ∙ zero-add k

range_undone : (n : ℕ) → IsUndone (range_with_len 0 n) (range_with_len 0 n)
range_undone n k lt =
    let long = length-range_with_len 0 n in
    let here = own_place n k 0 (omega arith) in
    (omega (arith, lt, here), ap (λ (m : ℕ). get_or (range_with_len 0 n) m 0) here ∙ here)

pub range_inverse : (n : ℕ) → AreInverse n (range_with_len 0 n) (range_with_len 0 n)
range_inverse n =
    record {
      long = length-range_with_len 0 n;
      as_long = length-range_with_len 0 n;
      undone = range_undone n;
      redone = range_undone n;
    }

pub own_inverse : (n : ℕ) (there back : List ℕ) → there ≡ range_with_len 0 n → back ≡ range_with_len 0 n → AreInverse (length there) there back
own_inverse n there back first second =
    subst (λ (zs : List ℕ). AreInverse (length zs) zs back) (sym first)
    (subst (λ (zs : List ℕ). AreInverse (length (range_with_len 0 n)) (range_with_len 0 n) zs) (sym second)
    (subst (λ (m : ℕ). AreInverse m (range_with_len 0 n) (range_with_len 0 n)) (sym (length-range_with_len 0 n)) (range_inverse n)))

-- a list written back whole
pub refilled : (n : ℕ) (old after : List ℕ) → length old ≡ n → length after ≡ n → take n (after ++ drop (length after) old) ≡ after
refilled n old after old_is after_is =
    ap (λ (zs : List ℕ). take n (after ++ zs)) (drop_all (length after) old (omega arith))
    ∙ (ap (take n) (append-nil after) ∙ take_all n after (omega arith))

pub both_refilled : (n first second : ℕ) (old old' there back : List ℕ) → length old ≡ first → length there ≡ first
    → length old' ≡ second → length back ≡ second → AreInverse n there back
    → AreInverse n (take first (there ++ drop (length there) old)) (take second (back ++ drop (length back) old'))
both_refilled n first second old old' there back old_is there_is old_is' back_is i =
    subst (λ (xs : List ℕ). AreInverse n xs (take second (back ++ drop (length back) old'))) (sym (refilled first old there old_is there_is))
    (subst (λ (ys : List ℕ). AreInverse n there ys) (sym (refilled second old' back old_is' back_is)) i)

-- a list that undoes the first as far as a list is undone at all is its inverse
pub both_ways : (n : ℕ) (there wanted back : List ℕ) → AreInverse n there wanted → length back ≡ n → IsUndone there back → IsUndone back there
both_ways n there wanted back i size undone k lt =
    let long = i.long in
    let as_long = i.as_long in
    let from = i.redone k (omega arith) in
    let at : get_or wanted k 0 < length there = from.0 in
    let is : get_or back k 0 ≡ get_or wanted k 0 = ap (λ (m : ℕ). get_or back m 0) (sym from.1) ∙ (undone (get_or wanted k 0) at).1 in
    (omega (arith, at, is), ap (λ (m : ℕ). get_or there m 0) is ∙ from.1)

-- two places trade what stands at them
abbrev pub Trade : List ℕ → List ℕ → ℕ → ℕ → Type 0
Trade xs ys a b = (get_or ys a 0 ≡ get_or xs b 0) × (get_or ys b 0 ≡ get_or xs a 0) × ((m : ℕ) → m ≢ a → m ≢ b → get_or ys m 0 ≡ get_or xs m 0)

pub trade : (xs ys : List ℕ) (a b : ℕ) → SwappedAt xs ys a b → Trade xs ys a b
trade xs ys a b h = (h.0 0, h.1 0, λ m not_a not_b. h.2 m 0 not_a not_b)

traded_one_way : (n : ℕ) (there back there' back' : List ℕ) (a b q p : ℕ) → AreInverse n there back → length there' ≡ n → length back' ≡ n → a < n → b < n
    → get_or there a 0 ≡ q → get_or there b 0 ≡ p → Trade there there' a b → Trade back back' q p → IsUndone there' back'
traded_one_way n there back there' back' a b q p i long as_long at_a at_b goes_a goes_b first second k lt =
    let size = i.long in
    let as_size = i.as_long in
    let back_at : (x : ℕ) → x < n → get_or back (get_or there x 0) 0 ≡ x = λ x less. (i.undone x (omega arith)).1 in
    let back_from : (x y : ℕ) → x < n → get_or there x 0 ≡ y → get_or back y 0 ≡ x =
    λ x y less e. ap (λ (m : ℕ). get_or back m 0) (sym e) ∙ back_at x less in
    let answer : (y : ℕ) → get_or there' k 0 ≡ y → y < n → get_or back' y 0 ≡ k
    → (get_or there' k 0 < length back') × (get_or back' (get_or there' k 0) 0 ≡ k) =
    λ y e less is. (omega (arith, e, less, as_long), ap (λ (m : ℕ). get_or back' m 0) e ∙ is) in
    elim (cases_eq k a) [
      | inl is_a ↦
          let less = below n there back i b at_b in
          answer p (ap (λ (m : ℕ). get_or there' m 0) is_a ∙ (first.0 ∙ goes_b)) (omega (arith, less, goes_b))
          (second.1 ∙ (back_from a q at_a goes_a ∙ sym is_a))
      | inr not_a ↦ elim (cases_eq k b) [
        | inl is_b ↦
            let less = below n there back i a at_a in
            answer q (ap (λ (m : ℕ). get_or there' m 0) is_b ∙ (first.1 ∙ goes_a)) (omega (arith, less, goes_a))
            (second.0 ∙ (back_from b p at_b goes_b ∙ sym is_b))
        | inr not_b ↦
            let within : k < n = omega arith in
            let m = get_or there k 0 in
            let not_q : m ≢ q = λ e. not_a (apart n there back i k a within at_a (e ∙ sym goes_a)) in
            let not_p : m ≢ p = λ e. not_b (apart n there back i k b within at_b (e ∙ sym goes_b)) in
            answer m (first.2 k not_a not_b) (below n there back i k within) (second.2 m not_q not_p ∙ back_at k within)
      ]
    ]

pub traded : (n : ℕ) (there back there' back' : List ℕ) (a b q p : ℕ) → AreInverse n there back → length there' ≡ n → length back' ≡ n → a < n → p < n
    → get_or there a 0 ≡ q → get_or back p 0 ≡ b → Trade there there' a b → Trade back back' q p → AreInverse n there' back'
traded n there back there' back' a b q p i long as_long at_a at_p goes_a comes_b first second =
    let over = turned_over n there back i in
    let size = i.long in
    let as_size = i.as_long in
    let below_a = below n there back i a at_a in
    let below_p = below n back there over p at_p in
    let goes_b : get_or there b 0 ≡ p = ap (λ (m : ℕ). get_or there m 0) (sym comes_b) ∙ (i.redone p (omega arith)).1 in
    let comes_a : get_or back q 0 ≡ a = ap (λ (m : ℕ). get_or back m 0) (sym goes_a) ∙ (i.undone a (omega arith)).1 in
    record {
      long = long;
      as_long = as_long;
      undone = traded_one_way n there back there' back' a b q p i long as_long at_a (omega (arith, below_p, comes_b)) goes_a goes_b first second;
      redone = traded_one_way n back there back' there' q p a b over as_long long (omega (arith, below_a, goes_a)) at_p comes_a comes_b second first;
    }

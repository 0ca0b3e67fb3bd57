-- Counts of a list's elements.
use Rattle.std.proofs.Common.{◌≡◌, ◌<◌, ◌≤◌, ◌+◌, ◌==◌, ◌++◌, ◌∙◌, ℕ, zero, suc, List, [], ◌∷◌, Bool, true, false, cond, map, refl, sym, ap, arith, count_by}
use Rattle.std.specs.List.{range_with_len, All}
use Rattle.std.proofs.lemmas.List.Elements.{All-head, All-tail}
use Rattle.std.proofs.lemmas.Bool.{ne_eqb, eqb-true, eqb-false}
use Rattle.std.proofs.lemmas.List.Sums.{sum_by-cons, sum_by-append}

pub count-cons : {X : Type 0} (p : X → Bool) (x : X) (xs : List X) → count_by p (x ∷ xs) ≡ cond (p x) 1 0 + count_by p xs
count-cons p x xs = sum_by-cons (λ x. cond (p x) 1 0) x xs

pub count-append : {X : Type 0} (p : X → Bool) (xs ys : List X) → count_by p (xs ++ ys) ≡ count_by p xs + count_by p ys
count-append p xs ys = sum_by-append (λ x. cond (p x) 1 0) xs ys

pub count-map : {X Y : Type 0} (p : Y → Bool) (h : X → Y) (xs : List X) → count_by p (map h xs) ≡ count_by (λ x. p (h x)) xs
count-map p h [] = refl
count-map p h (x ∷ xs) = count-cons p (h x) (map h xs) ∙ (ap (λ n. cond (p (h x)) 1 0 + n) (count-map p h xs) ∙ sym (count-cons (λ x. p (h x)) x xs))

pub count_agree : {X : Type 0} (p q : X → Bool) → ((x : X) → p x ≡ q x) → (xs : List X) → count_by p xs ≡ count_by q xs
count_agree p q agree [] = refl
count_agree p q agree (x ∷ xs) =
    count-cons p x xs ∙ (ap (λ b. cond b 1 0 + count_by p xs) (agree x) ∙ (ap (λ n. cond (q x) 1 0 + n) (count_agree p q agree xs) ∙ sym (count-cons q x xs)))

pub count_agree_on : {X : Type 0} (p q : X → Bool) (xs : List X) → All (λ x. p x ≡ q x) xs → count_by p xs ≡ count_by q xs
count_agree_on p q [] agree = refl
count_agree_on p q (x ∷ xs) agree =
    count-cons p x xs
    ∙ (ap (λ b. cond b 1 0 + count_by p xs) (All-head (λ x. p x ≡ q x) x xs agree)
    ∙ (ap (λ n. cond (q x) 1 0 + n) (count_agree_on p q xs (All-tail (λ x. p x ≡ q x) x xs agree)) ∙ sym (count-cons q x xs)))

pub count_no : {X : Type 0} (p : X → Bool) → ((x : X) → p x ≡ false) → (xs : List X) → count_by p xs ≡ 0
count_no p fails [] = refl
count_no p fails (x ∷ xs) = count-cons p x xs ∙ (ap (λ b. cond b 1 0 + count_by p xs) (fails x) ∙ (let e = count_no p fails xs in omega arith))

-- numbers below a range stand in it no time, numbers in it once
pub range_below : (b a n : ℕ) → b < a → count_by (λ y. b == y) (range_with_len a n) ≡ 0
range_below b a zero lt = refl
range_below b a (suc n) lt =
    let other = ne_eqb b a (λ e. omega arith) in
    let rest = range_below b (a + 1) n (omega arith) in
    count-cons (λ y. b == y) a (range_with_len (a + 1) n) ∙ (ap (λ t. cond t 1 0 + count_by (λ y. b == y) (range_with_len (a + 1) n)) other ∙ omega arith)

range_step : (b a n : ℕ) → a ≤ b → (a + 1 ≤ b → count_by (λ y. b == y) (range_with_len (a + 1) n) ≡ 1) → (t : Bool) → (b == a) ≡ t
    → count_by (λ y. b == y) (range_with_len a (suc n)) ≡ 1
range_step b a n le more true e =
    let same = eqb-true b a e in
    let rest = range_below b (a + 1) n (omega arith) in
    count-cons (λ y. b == y) a (range_with_len (a + 1) n) ∙ (ap (λ t. cond t 1 0 + count_by (λ y. b == y) (range_with_len (a + 1) n)) e ∙ omega arith)
range_step b a n le more false e =
    let other = eqb-false b a e in
    let rest = more (omega (arith, other)) in
    count-cons (λ y. b == y) a (range_with_len (a + 1) n) ∙ (ap (λ t. cond t 1 0 + count_by (λ y. b == y) (range_with_len (a + 1) n)) e ∙ omega arith)

pub range_once : (b a n : ℕ) → a ≤ b → b < a + n → count_by (λ y. b == y) (range_with_len a n) ≡ 1
range_once b a zero le lt = absurd (omega arith)
range_once b a (suc n) le lt = range_step b a n le (λ more. range_once b (a + 1) n more (omega arith)) (b == a) refl

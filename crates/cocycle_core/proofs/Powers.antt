-- Powers, products and parts as the code makes them, mod k and mod p².
use Rattle.std.proofs.Common.{◌≡◌, ◌∙◌, ◌<◌, ◌+◌, ◌-◌, ◌*◌, ◌/◌, ◌%◌, ◌^◌, ℕ, List, get_or, refl, sym, ap, ap₂, arith}
use Rattle.std.proofs.lemmas.Nat.{div-add-mod', div-mul-add, mod-mul-add, mod_below, div_below, pow-mod, mul-mod_second}
use Rattle.quandle_core.specs.Tables.{table_of}
use Rattle.std.proofs.Math.Nat.{mul-pos}
use Rattle.std.proofs.lemmas.List.FromFn.{get_or-map-range_with_len}
use Rattle.cocycle_core.proofs.Mod.{Same, same_of, same_plus, same_then}
use Rattle.cocycle_core.specs.Formula.{dividend, quotient}
use Rattle.cocycle_core.proofs.Congruent.{same_rest, rest_equal, same_times}

-- what is a remainder is the same mod k
pub same_by_rest : (k x n : ℕ) → x ≡ n % k → Same k x n
same_by_rest k x n e = record { left = n / k; right = 0; equal = omega (arith, e, div-add-mod' n k) }

-- (x - y) q
pub value_by : (k x y q turned : ℕ) → turned ≡ (k - 1) * y % k → (x + turned) % k * q % k ≡ (x + (k - 1) * y) * q % k
value_by k x y q turned is =
    let t = same_by_rest k turned ((k - 1) * y) is in
    let sum = same_plus k x x turned ((k - 1) * y) (same_of k x x refl) t in
    let factor = same_then k ((x + turned) % k) (x + turned) (x + (k - 1) * y) (same_rest k (x + turned)) sum in
    rest_equal k ((x + turned) % k * q) ((x + (k - 1) * y) * q) (same_times k ((x + turned) % k) (x + (k - 1) * y) q q factor (same_of k q q refl))

-- the dividend, power by power
pub dividend_by : (k p y z turned first second last third : ℕ) → turned ≡ (k - 1) * y % k → first ≡ ((2 * z + turned) % k) ^ p % k → second ≡ y ^ p % k
    → last ≡ z ^ p % k → third ≡ (k - 2) * last % k
    → (first + second + third) % k ≡ ((2 * z + (k - 1) * y) ^ p + y ^ p + (k - 2) * z ^ p) % k
dividend_by k p y z turned first second last third turned_is first_is second_is last_is third_is =
    let base : (2 * z + turned) % k ≡ (2 * z + (k - 1) * y) % k =
    rest_equal k (2 * z + turned) (2 * z + (k - 1) * y)
    (same_plus k (2 * z) (2 * z) turned ((k - 1) * y) (same_of k (2 * z) (2 * z) refl) (same_by_rest k turned ((k - 1) * y) turned_is)) in
    let one : first ≡ (2 * z + (k - 1) * y) ^ p % k = first_is ∙ (ap (λ (b : ℕ). b ^ p % k) base ∙ pow-mod (2 * z + (k - 1) * y) p k) in
    let three : third ≡ (k - 2) * z ^ p % k = third_is ∙ (ap (λ (l : ℕ). (k - 2) * l % k) last_is ∙ mul-mod_second (k - 2) (z ^ p) k) in
    rest_equal k (first + second + third) ((2 * z + (k - 1) * y) ^ p + y ^ p + (k - 2) * z ^ p)
    (same_plus k (first + second) ((2 * z + (k - 1) * y) ^ p + y ^ p) third ((k - 2) * z ^ p)
    (same_plus k first ((2 * z + (k - 1) * y) ^ p) second (y ^ p)
    (same_by_rest k first ((2 * z + (k - 1) * y) ^ p) one) (same_by_rest k second (y ^ p) second_is))
    (same_by_rest k third ((k - 2) * z ^ p) three))

-- p² is above 0
square_some : (p : ℕ) → 0 < p → 0 < p * p
square_some p some = mul-pos some some

-- a part of what is left mod p²
pub part_of_rest : (p n : ℕ) → 0 < p → n % (p * p) / p ≡ n / p % p
part_of_rest p n some =
    let r : ℕ = n % (p * p) in
    let k : ℕ = n / (p * p) in
    let below : n % (p * p) < p * p = mod_below n (p * p) (square_some p some) in
    let small : n % (p * p) / p < p = div_below (n % (p * p)) p p some below in
    let whole : n ≡ (n / (p * p) * p + n % (p * p) / p) * p + n % (p * p) % p =
    sym (div-add-mod' n (p * p)) ∙ parts p (n / (p * p)) (n % (p * p)) (n % (p * p) / p) (n % (p * p) % p) (div-add-mod' (n % (p * p)) p) in
    let over : n / p ≡ n / (p * p) * p + n % (p * p) / p =
    ap (λ (m : ℕ). m / p) whole ∙ div-mul-add (n / (p * p) * p + n % (p * p) / p) p (n % (p * p) % p) (mod_below (n % (p * p)) p some) in
    sym (ap (λ (m : ℕ). m % p) over ∙ mod-mul-add (n / (p * p)) p (n % (p * p) / p) small)
  where
    parts : (p k r q s : ℕ) → q * p + s ≡ r → k * (p * p) + r ≡ (k * p + q) * p + s
    parts p k r q s e = omega (arith, e)

pub rest_of_rest : (p n : ℕ) → n % (p * p) % p ≡ n % p
rest_of_rest p n = rest_equal p (n % (p * p)) n (record { left = p * (n / (p * p)); right = 0; equal = omega (arith, div-add-mod' n (p * p)) })

pub quotient_by : (k p y z d : ℕ) → 0 < p → k ≡ p * p → d ≡ ((2 * z + (k - 1) * y) ^ p + y ^ p + (k - 2) * z ^ p) % k → d / p ≡ quotient p y z
quotient_by k p y z d some square is =
    let rest : d ≡ dividend p y z % (p * p) = is ∙ ap (λ (k : ℕ). ((2 * z + (k - 1) * y) ^ p + y ^ p + (k - 2) * z ^ p) % k) square in
    ap (λ (n : ℕ). n / p) rest ∙ part_of_rest p (dividend p y z) some

-- the parts of a place of the table
pub inside_of : (p place : ℕ) → 0 < p → place < p * p * p → (place / p / p < p) × (place / p % p < p) × (place % (p * p) < p * p)
inside_of p place some lt = (
  div_below (place / p) p p some (div_below place p (p * p) some lt),
  mod_below (place / p) p some,
  mod_below place (p * p) (square_some p some),
)

-- the quotient that stands there
pub quotient_at : (p place : ℕ) (list : List ℕ) → 0 < p → list ≡ (table_of p (quotient p)).entries
    → get_or list (place % (p * p)) 0 ≡ quotient p (place / p % p) (place % p)
quotient_at p place list some is =
    ap (λ (xs : List ℕ). get_or xs (place % (p * p)) 0) is
    ∙ (get_or-map-range_with_len (λ k. quotient p (k / p) (k % p)) 0 (p * p) (place % (p * p)) (place % (p * p)) 0
    (mod_below place (p * p) (square_some p some)) (omega arith)
    ∙ ap₂ (λ (y z : ℕ). quotient p y z) (part_of_rest p place some) (rest_of_rest p place))

pub quotient_below : (p y z : ℕ) → 0 < p → quotient p y z < p
quotient_below p y z some = mod_below (dividend p y z / p) p some

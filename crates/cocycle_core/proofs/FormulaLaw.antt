-- Mochizuki's formula gives a shadow cocycle of the dihedral quandle of each prime order.
use Rattle.std.proofs.Common.{◌≡◌, ◌∙◌, ◌<◌, ◌≤◌, ◌+◌, ◌-◌, ◌*◌, ◌/◌, ◌%◌, ℕ, zero, suc, List, true, refl, sym, subst, ap, ap₂, arith}
use Rattle.std.proofs.Math.Nat.{mod-eq_of_lt}
use Rattle.std.proofs.lemmas.Nat.{div-mul-add, mod-mul-add, mul-add-lt, mod_below}
use Rattle.std.proofs.lemmas.List.FromFn.{get_or-map-range_with_len, length-map-range_with_len}
use Rattle.quandle_core.specs.declared.quandle.TheConstants.{MAX_ORDER}
use Rattle.quandle_core.specs.Quandle.{Table, over}
use Rattle.quandle_core.specs.Tables.{dihedral}
use Rattle.quandle_core.proofs.Entries.{entry}
use Rattle.quandle_core.proofs.Linear.{dihedral_is}
use Rattle.cocycle_core.specs.ShadowCocycle.{ShadowCochain, IsShadowCocycle, shadow_value, one_side, other_side}
use Rattle.cocycle_core.proofs.Mod.{same_of}
use Rattle.cocycle_core.specs.Formula.{is_prime, quotient, formula, mochizuki}
use Rattle.cocycle_core.proofs.Congruent.{rest_equal, same_from_rest}
use Rattle.cocycle_core.proofs.Computed.{reflected, Computes, computed, balance_at, vanish_at}
use Rattle.cocycle_core.proofs.Factors.{reflected_same, once_reflected, both_reflected, value_same, both_sides}

-- the number at a place of the table
pub value_is : (p w x y : ℕ) → w < p → x < p → y < p → shadow_value (mochizuki p) w x y ≡ formula p w x y
value_is p w x y lw lx ly =
    let row : w * p + x < p * p = mul-add-lt w p x p lw lx in
    let k : ℕ = (w * p + x) * p + y in
    let inside : (w * p + x) * p + y < p * p * p = omega (arith, mul-add-lt (w * p + x) p y (p * p) row ly) in
    let front : ((w * p + x) * p + y) / p ≡ w * p + x = div-mul-add (w * p + x) p y ly in
    get_or-map-range_with_len (λ k. formula p (k / p / p) (k / p % p) (k % p)) 0 (p * p * p) ((w * p + x) * p + y) ((w * p + x) * p + y) 0 inside (omega arith)
    ∙ (ap (λ i. formula p (i / p) (i % p) (((w * p + x) * p + y) % p)) front
    ∙ (ap (λ j. formula p j ((w * p + x) % p) (((w * p + x) * p + y) % p)) (div-mul-add w p x lx)
    ∙ (ap (λ j. formula p w j (((w * p + x) * p + y) % p)) (mod-mul-add w p x lx) ∙ ap (formula p w x) (mod-mul-add (w * p + x) p y ly))))

over_is : (p x y : ℕ) → x < p → y < p → over (dihedral p) x y ≡ reflected p x y
over_is p x y lx ly = entry p (λ x y. (2 * y + (p - x)) % p) x y lx ly

-- a value, where the order is m + 1
spelled_out : (m x y z : ℕ) → formula (suc m) x y z ≡ (x + m * y) * quotient (suc m) y z % suc m
spelled_out m x y z = ap (λ (n : ℕ). (x + n * y) * quotient (suc m) y z % suc m) (let e : suc m - 1 ≡ m = omega arith in e)

-- the law, by the formula
law_of : (p a b c d : ℕ) → Computes p → a < p → b < p → c < p → d < p
    → (formula p a c d + formula p (reflected p a c) (reflected p b c) d + formula p a b c) % p
    ≡ (formula p (reflected p a b) c d + formula p a b d + formula p (reflected p a d) (reflected p b d) (reflected p c d)) % p
law_of zero a b c d is la lb lc ld = absurd (omega arith)
law_of (suc m) a b c d is la lb lc ld =
    let p : ℕ = suc m in
    let q1 : ℕ = quotient (suc m) c d in
    let q2 : ℕ = quotient (suc m) (reflected (suc m) b c) d in
    let q3 : ℕ = quotient (suc m) b c in
    let q4 : ℕ = quotient (suc m) b d in
    let q5 : ℕ = quotient (suc m) (reflected (suc m) b d) (reflected (suc m) c d) in
    let A : ℕ = a + m * b in
    let S : ℕ = reflected (suc m) a b + m * c in
    let ab = reflected_same (suc m) a b (omega arith) in
    let ac = reflected_same (suc m) a c (omega arith) in
    let bc = reflected_same (suc m) b c (omega arith) in
    let ad = reflected_same (suc m) a d (omega arith) in
    let bd = reflected_same (suc m) b d (omega arith) in
    let one = once_reflected m a b c (reflected (suc m) a b) ab in
    let two = both_reflected m a b c (reflected (suc m) a c) (reflected (suc m) b c) ac bc in
    let three = both_reflected m a b d (reflected (suc m) a d) (reflected (suc m) b d) ad bd in
    rest_equal (suc m) _ _
    (both_sides m (a + m * b) (reflected (suc m) a b + m * c) q1 q2 q3 q4 q5 _ _ _ _ _ _
    (value_same (suc m) (formula (suc m) a c d) (a + m * c) (reflected (suc m) a b + m * c + 2 * (a + m * b)) q1 (spelled_out m a c d) one)
    (value_same (suc m) (formula (suc m) (reflected (suc m) a c) (reflected (suc m) b c) d) (reflected (suc m) a c + m * reflected (suc m) b c)
    (m * (a + m * b)) q2 (spelled_out m (reflected (suc m) a c) (reflected (suc m) b c) d) two)
    (value_same (suc m) (formula (suc m) a b c) (a + m * b) (a + m * b) q3 (spelled_out m a b c) (same_of (suc m) _ _ refl))
    (value_same (suc m) (formula (suc m) (reflected (suc m) a b) c d) (reflected (suc m) a b + m * c) (reflected (suc m) a b + m * c) q1
    (spelled_out m (reflected (suc m) a b) c d) (same_of (suc m) _ _ refl))
    (value_same (suc m) (formula (suc m) a b d) (a + m * b) (a + m * b) q4 (spelled_out m a b d) (same_of (suc m) _ _ refl))
    (value_same (suc m) (formula (suc m) (reflected (suc m) a d) (reflected (suc m) b d) (reflected (suc m) c d))
    (reflected (suc m) a d + m * reflected (suc m) b d) (m * (a + m * b)) q5
    (spelled_out m (reflected (suc m) a d) (reflected (suc m) b d) (reflected (suc m) c d)) three)
    (same_from_rest (suc m) (2 * q1 + q3 + q5) (q2 + q4) (balance_at (suc m) b c d is lb lc ld)))

-- a prime is at least 2
pub least : (p : ℕ) → is_prime p ≡ true → 2 ≤ p
least zero prime = absurd (cc)
least (suc zero) prime = absurd (cc)
least (suc (suc p)) prime = omega arith

pub mochizuki_is : (p : ℕ) → is_prime p ≡ true → p ≤ MAX_ORDER → IsShadowCocycle (mochizuki p)
mochizuki_is p prime most =
    let two = least p prime in
    let is = computed p prime most in
    let small : (x y : ℕ) → reflected p x y < p = λ x y. mod_below (2 * y + (p - x)) p (omega (arith, two)) in
    record {
      quandle = dihedral_is p (omega (arith, two));
      least = two;
      cube = length-map-range_with_len (λ k. formula p (k / p / p) (k / p % p) (k % p)) 0 (p * p * p);
      within = λ w x y lw lx ly.
          subst (λ (v : ℕ). v < p) (sym (value_is p w x y lw lx ly)) (mod_below ((w + (p - 1) * x) * quotient p x y) p (omega (arith, two)));
      diagonal = λ w x lw lx.
          value_is p w x x lw lx lx
          ∙ ap (λ (q : ℕ). (w + (p - 1) * x) * q % p) (vanish_at p x is lx) ∙ zero_of p (w + (p - 1) * x) two;
      law = λ a b c d la lb lc ld.
          let left : one_side (mochizuki p) a b c d ≡ formula p a c d + formula p (reflected p a c) (reflected p b c) d + formula p a b c =
          ap₂ (λ (m n : ℕ). m + n + shadow_value (mochizuki p) a b c) (value_is p a c d la lc ld)
          (ap₂ (λ (v w : ℕ). shadow_value (mochizuki p) v w d) (over_is p a c la lc) (over_is p b c lb lc)
          ∙ value_is p (reflected p a c) (reflected p b c) d (small a c) (small b c) ld)
          ∙ ap (λ (n : ℕ). formula p a c d + formula p (reflected p a c) (reflected p b c) d + n) (value_is p a b c la lb lc) in
          let right : other_side (mochizuki p) a b c d
          ≡ formula p (reflected p a b) c d + formula p a b d + formula p (reflected p a d) (reflected p b d) (reflected p c d) =
          ap₂ (λ (m n : ℕ). m + n + shadow_value (mochizuki p) (over (dihedral p) a d) (over (dihedral p) b d) (over (dihedral p) c d))
          (ap (λ (v : ℕ). shadow_value (mochizuki p) v c d) (over_is p a b la lb) ∙ value_is p (reflected p a b) c d (small a b) lc ld)
          (value_is p a b d la lb ld)
          ∙ ap (λ (n : ℕ). formula p (reflected p a b) c d + formula p a b d + n)
          (ap₂ (λ (v w : ℕ). shadow_value (mochizuki p) v w (over (dihedral p) c d)) (over_is p a d la ld) (over_is p b d lb ld)
          ∙ (ap (shadow_value (mochizuki p) (reflected p a d) (reflected p b d)) (over_is p c d lc ld)
          ∙ value_is p (reflected p a d) (reflected p b d) (reflected p c d) (small a d) (small b d) (small c d))) in
          ap (λ (n : ℕ). n % p) left ∙ (law_of p a b c d is la lb lc ld ∙ sym (ap (λ (n : ℕ). n % p) right));
    }
  where
    zero_of : (p f : ℕ) → 2 ≤ p → f * 0 % p ≡ 0
    zero_of p f two = ap (λ (n : ℕ). n % p) (let e : f * 0 ≡ 0 = omega arith in e) ∙ mod-eq_of_lt (omega (arith, two))

-- a table of these numbers over this quandle is the cocycle
pub same_cochain : (p : ℕ) (q : Table) (entries : List ℕ) → q ≡ dihedral p → entries ≡ (mochizuki p).entries
    → record { quandle = q; modulus = p; entries = entries } ≡ mochizuki p
same_cochain p q entries quandle same =
    ap₂ (λ (t : Table) (es : List ℕ). let w : ShadowCochain = record { quandle = t; modulus = p; entries = es } in w) quandle same

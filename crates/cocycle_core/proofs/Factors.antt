-- What the reflections do to the factor x - y of the formula, and the law of a shadow cocycle from that of the quotients. The modulus is m + 1, so m is -1.
use Rattle.std.proofs.Common.{◌≡◌, ◌≤◌, ◌+◌, ◌-◌, ◌*◌, ◌%◌, ℕ, suc, refl, arith}
use Rattle.cocycle_core.proofs.Mod.{Same, same_of, same_plus, same_then}
use Rattle.cocycle_core.proofs.Congruent.{same_rest, same_times}
use Rattle.cocycle_core.proofs.Computed.{reflected}

pub reflected_same : (p x y : ℕ) → x ≤ p → Same p (reflected p x y + x) (2 * y)
reflected_same p x y le =
    let s = same_rest p (2 * y + (p - x)) in
    record { left = s.left; right = s.right + 1; equal = omega (arith, s.equal) }

-- a - c is 2b - a - c and twice a - b
pub once_reflected : (m a b c r : ℕ) → Same (suc m) (r + a) (2 * b) → Same (suc m) (a + m * c) (r + m * c + 2 * (a + m * b))
once_reflected m a b c r s = record { left = s.right + 2 * b; right = s.left; equal = omega (arith, s.equal) }

-- (2c - a) - (2c - b) is b - a
pub both_reflected : (m a b c r s : ℕ) → Same (suc m) (r + a) (2 * c) → Same (suc m) (s + b) (2 * c) → Same (suc m) (r + m * s) (m * (a + m * b))
both_reflected m a b c r s one two =
    let times : m * (s + b + suc m * two.left) ≡ m * (2 * c + suc m * two.right) = rw two.equal refl in
    record {
      left = one.left + m * two.left + (a + m * b);
      right = 2 * c + one.right + m * two.right;
      equal = omega (arith, one.equal, times);
    }

-- a value of the formula, with another factor
pub value_same : (p x f g q : ℕ) → x ≡ f * q % p → Same p f g → Same p x (g * q)
value_same p x f g q is s =
    let rest = same_rest p (f * q) in
    let times = same_times p f g q q s (same_of p q q refl) in
    let both = same_then p (f * q % p) (f * q) (g * q) rest times in
    record { left = both.left; right = both.right; equal = omega (arith, is, both.equal) }

-- both sides of the law, with A for a - b and S for 2b - a - c
pub both_sides : (m A S q1 q2 q3 q4 q5 x1 x2 x3 y1 y2 y3 : ℕ) → Same (suc m) x1 ((S + 2 * A) * q1) → Same (suc m) x2 (m * A * q2) → Same (suc m) x3 (A * q3)
    → Same (suc m) y1 (S * q1) → Same (suc m) y2 (A * q4) → Same (suc m) y3 (m * A * q5) → Same (suc m) (2 * q1 + q3 + q5) (q2 + q4)
    → Same (suc m) (x1 + x2 + x3) (y1 + y2 + y3)
both_sides m A S q1 q2 q3 q4 q5 x1 x2 x3 y1 y2 y3 s1 s2 s3 t1 t2 t3 g =
    let p : ℕ = suc m in
    let xs = same_plus p (x1 + x2) ((S + 2 * A) * q1 + m * A * q2) x3 (A * q3) (same_plus p x1 ((S + 2 * A) * q1) x2 (m * A * q2) s1 s2) s3 in
    let ys = same_plus p (y1 + y2) (S * q1 + A * q4) y3 (m * A * q5) (same_plus p y1 (S * q1) y2 (A * q4) t1 t2) t3 in
    let bs = same_times p A A (2 * q1 + q3 + q5) (q2 + q4) (same_of p A A refl) g in
    record {
      left = xs.left + ys.right + bs.left + A * q5;
      right = xs.right + ys.left + bs.right + A * q2;
      equal = omega (arith, xs.equal, ys.equal, bs.equal);
    }

-- Products and remainders of numbers that are the same mod k.
use Rattle.std.proofs.Common.{◌≡◌, ◌∙◌, ◌+◌, ◌*◌, ◌/◌, ◌%◌, ℕ, sym, ap, arith}
use Rattle.std.proofs.lemmas.Nat.{div-add-mod'}
use Rattle.std.proofs.Math.Nat.{add-mul-mod_self_left}
use Rattle.cocycle_core.proofs.Mod.{Same}

-- a number and its remainder
pub same_rest : (k n : ℕ) → Same k (n % k) n
same_rest k n = record { left = n / k; right = 0; equal = omega (arith, div-add-mod' n k) }

pub rest_equal : (k a b : ℕ) → Same k a b → a % k ≡ b % k
rest_equal k a b s =
    sym (add-mul-mod_self_left a k s.left) ∙ (ap (λ n. n % k) s.equal ∙ add-mul-mod_self_left b k s.right)

pub same_from_rest : (k a b : ℕ) → a % k ≡ b % k → Same k a b
same_from_rest k a b e = record { left = b / k; right = a / k; equal = omega (arith, div-add-mod' a k, div-add-mod' b k, e) }

pub same_times : (k a b c d : ℕ) → Same k a b → Same k c d → Same k (a * c) (b * d)
same_times k a b c d s t =
    let both : (a + k * s.left) * (c + k * t.left) ≡ (b + k * s.right) * (d + k * t.right) =
    ap (λ n. n * (c + k * t.left)) s.equal ∙ ap (λ n. (b + k * s.right) * n) t.equal in
    record {
      left = s.left * c + t.left * a + k * (s.left * t.left);
      right = s.right * d + t.right * b + k * (s.right * t.right);
      equal = omega (arith, both);
    }

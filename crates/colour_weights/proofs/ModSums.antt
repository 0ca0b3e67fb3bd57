-- Sums of numbers that are the same mod k.
use Rattle.std.proofs.Common.{◌≡◌, ◌+◌, ℕ, sym, arith}
use Rattle.cocycle_core.proofs.Mod.{Same}

pub plain : {k a b : ℕ} → a ≡ b → Same k a b
plain e = record { left = 0; right = 0; equal = omega (arith, e) }

pub turn : {k a b : ℕ} → Same k a b → Same k b a
turn s = record { left = s.right; right = s.left; equal = sym s.equal }

-- the same difference as one, as two together, and so on
pub by_one : {k a b c d : ℕ} → Same k a b → c + b ≡ d + a → Same k c d
by_one s is = record { left = s.left; right = s.right; equal = omega (arith, s.equal, is) }

pub by_two : {k a b c d e f : ℕ} → Same k a b → Same k c d → e + (b + d) ≡ f + (a + c) → Same k e f
by_two s t is = record { left = s.left + t.left; right = s.right + t.right; equal = omega (arith, s.equal, t.equal, is) }

pub by_three : {k a b c d e f g h : ℕ} → Same k a b → Same k c d → Same k e f → g + (b + d + f) ≡ h + (a + c + e) → Same k g h
by_three s t u is =
    record { left = s.left + t.left + u.left; right = s.right + t.right + u.right; equal = omega (arith, s.equal, t.equal, u.equal, is) }

pub by_five : {k a b c d e f g h i j l m : ℕ} → Same k a b → Same k c d → Same k e f → Same k g h → Same k i j
    → l + (b + d + f + h + j) ≡ m + (a + c + e + g + i) → Same k l m
by_five s t u v w is = record {
  left = s.left + t.left + u.left + v.left + w.left;
  right = s.right + t.right + u.right + v.right + w.right;
  equal = omega (arith, s.equal, t.equal, u.equal, v.equal, w.equal, is);
}

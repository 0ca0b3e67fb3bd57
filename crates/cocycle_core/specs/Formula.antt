-- Mochizuki's shadow cocycles of the dihedral quandles of prime order (Mochizuki 2003).
use Rattle.std.specs.Prelude.{ℕ, ◌+◌, ◌-◌, ◌*◌, ◌/◌, ◌%◌, ◌^◌, ◌==◌, ◌&&◌, Bool, not, map, nat_le}
use Rattle.std.specs.List.{list_all, range_with_len}
use Rattle.quandle_core.specs.Quandle.{Table, over}
use Rattle.quandle_core.specs.Tables.{dihedral}
use Rattle.cocycle_core.specs.ShadowCocycle.{ShadowCochain}

-- n is at least 2, and no number from 2 to n - 1 divides it
abbrev pub is_prime : ℕ → Bool
is_prime n = nat_le 2 n && list_all (λ d. not (n % d == 0)) (range_with_len 2 (n - 2))

-- (2z - y)^p + y^p - 2 z^p, where -1 is p² - 1, and -2 is p² - 2; all that counts is what it is mod p²
abbrev pub dividend : ℕ → ℕ → ℕ → ℕ
dividend p y z = (2 * z + (p * p - 1) * y) ^ p + y ^ p + (p * p - 2) * z ^ p

-- its p-th part, mod p
abbrev pub quotient : ℕ → ℕ → ℕ → ℕ
quotient p y z = dividend p y z / p % p

-- θ(x, y, z) = (x - y) ((2z - y)^p + y^p - 2 z^p) / p mod p
abbrev pub formula : ℕ → ℕ → ℕ → ℕ → ℕ
formula p x y z = (x + (p - 1) * y) * quotient p y z % p

-- the numbers of the formula, over the dihedral quandle of order p
abbrev pub mochizuki : ℕ → ShadowCochain
mochizuki p = record {
  quandle = dihedral p;
  modulus = p;
  entries = map (λ k. formula p (k / p / p) (k / p % p) (k % p)) (range_with_len 0 (p * p * p));
}

-- x ▷ y = 2y - x mod n
abbrev pub is_dihedral : Table → Bool
is_dihedral t = list_all (λ x. list_all (λ y. over t x y == (2 * y + (t.order - x)) % t.order) (range_with_len 0 t.order)) (range_with_len 0 t.order)

-- the quandle has the table of a dihedral one, of prime order
abbrev pub has_formula : Table → Bool
has_formula t = is_prime t.order && is_dihedral t

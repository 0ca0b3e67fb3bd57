-- The built-in quandles, by their formulas.
use Rattle.std.specs.Prelude.{ℕ, ◌+◌, ◌*◌, ◌-◌, ◌/◌, ◌%◌, ◌==◌, Bool, [], ◌∷◌, map}
use Rattle.std.specs.List.{range_with_len, list_any}
use Rattle.quandle_core.specs.Quandle.{Table}

-- the table of an operation: entry k stands in row k / n and column k % n
abbrev pub table_of : ℕ → (ℕ → ℕ → ℕ) → Table
table_of n f = record { order = n; entries = map (λ k. f (k / n) (k % n)) (range_with_len 0 (n * n)) }

-- x ▷ y = x
abbrev pub trivial : ℕ → Table
trivial n = table_of n (λ x y. x)

-- x ▷ y = 2y - x mod n, the reflections of a regular n-gon (Takasaki 1943)
abbrev pub dihedral : ℕ → Table
dihedral n = table_of n (λ x y. (2 * y + (n - x)) % n)

-- x ▷ y = t x + (1 - t) y mod n, where 1 - t is n + 1 - t % n (Joyce 1982)
abbrev pub alexander : ℕ → ℕ → Table
alexander n t = table_of n (λ x y. (t * x + (n + 1 - t % n) * y) % n)

-- some u below n has t u = 1 mod n
abbrev pub is_unit : ℕ → ℕ → Bool
is_unit n t = list_any (λ u. (t * u) % n == 1 % n) (range_with_len 0 n)

-- the four rotations of a tetrahedron by a third of a turn, one about each corner
abbrev pub tetrahedral : Table
tetrahedral = record {
  order = 4;
  entries =
      0 ∷ 3 ∷ 1 ∷ 2 ∷
      2 ∷ 1 ∷ 3 ∷ 0 ∷
      3 ∷ 0 ∷ 2 ∷ 1 ∷
      1 ∷ 2 ∷ 0 ∷ 3 ∷ [];
}

-- x ▷ y = a x + b y mod n, of which the first three are cases
abbrev pub linear : ℕ → ℕ → ℕ → Table
linear n a b = table_of n (λ x y. (a * x + b * y) % n)

-- The first fault of a table of numbers, with its lexicographically first case.
use Rattle.std.specs.Prelude.{ℕ, ◌+◌, ◌*◌, ◌%◌, ◌==◌, Bool, length, nat_lt, nat_le, Option}
use Rattle.quandle_core.specs.Quandle.{over}
use Rattle.quandle_core.specs.Fault.{unless, or_else, first}
use Rattle.cocycle_core.specs.Cocycle.{Cochain, value}
use Rattle.cocycle_core.specs.declared.fault.CocycleFault.{CocycleFault}
use Rattle.cocycle_core.specs.declared.fault.CocycleFault.TheVariants.{Modulus, Length, Range, Diagonal, Law}

abbrev pub modulus_fault : Cochain → Option CocycleFault
modulus_fault w = unless (nat_le 2 w.modulus) Modulus

abbrev pub cocycle_length_fault : Cochain → Option CocycleFault
cocycle_length_fault w = unless (length w.entries == w.quandle.order * w.quandle.order) Length

-- φ(x, y) lies below the modulus
abbrev pub cocycle_range_case : Cochain → ℕ → ℕ → Option CocycleFault
cocycle_range_case w x y = unless (nat_lt (value w x y) w.modulus) (Range x y)

-- φ(x, x) = 0
abbrev pub diagonal_case : Cochain → ℕ → Option CocycleFault
diagonal_case w x = unless (value w x x == 0) (Diagonal x)

-- φ(x, y) + φ(x ▷ y, z) = φ(x, z) + φ(x ▷ z, y ▷ z), mod the modulus
abbrev pub obeys : Cochain → ℕ → ℕ → ℕ → Bool
obeys w x y z =
    (value w x y + value w (over w.quandle x y) z) % w.modulus == (value w x z + value w (over w.quandle x z) (over w.quandle y z)) % w.modulus

abbrev pub law_case : Cochain → ℕ → ℕ → ℕ → Option CocycleFault
law_case w x y z = unless (obeys w x y z) (Law x y z)

-- the first x, then y
abbrev pub cocycle_range_fault : Cochain → Option CocycleFault
cocycle_range_fault w = first w.quandle.order (λ x. first w.quandle.order (λ y. cocycle_range_case w x y))

abbrev pub diagonal_fault : Cochain → Option CocycleFault
diagonal_fault w = first w.quandle.order (λ x. diagonal_case w x)

-- the first x, then y, then z
abbrev pub cocycle_law_fault : Cochain → Option CocycleFault
cocycle_law_fault w = first w.quandle.order (λ x. first w.quandle.order (λ y. first w.quandle.order (λ z. law_case w x y z)))

-- modulus, length, range, diagonal, law, in this order
abbrev pub first_cocycle_fault : Cochain → Option CocycleFault
first_cocycle_fault w =
    or_else (modulus_fault w) (or_else (cocycle_length_fault w) (or_else (cocycle_range_fault w) (or_else (diagonal_fault w) (cocycle_law_fault w))))

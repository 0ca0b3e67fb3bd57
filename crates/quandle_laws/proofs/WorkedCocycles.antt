-- Worked first faults, and three cocycles.
use Rattle.std.proofs.Common.{◌≡◌, refl, [], ◌∷◌, false, None, Some}
use Rattle.quandle_core.specs.Tables.{dihedral, tetrahedral, trivial}
use Rattle.cocycle_core.specs.declared.fault.CocycleFault.TheVariants.{Modulus, Length, Range, Diagonal, Law}
use Rattle.cocycle_core.specs.Cocycle.{Cochain}
use Rattle.cocycle_core.specs.Fault.{first_cocycle_fault, obeys}

-- the cocycle of the tetrahedral quandle mod 2 (Carter and others 2003)
abbrev pub tetrahedral_cocycle : Cochain
tetrahedral_cocycle = record {
  quandle = tetrahedral;
  modulus = 2;
  entries = 0 ∷ 1 ∷ 1 ∷ 0 ∷ 1 ∷ 0 ∷ 1 ∷ 0 ∷ 1 ∷ 1 ∷ 0 ∷ 0 ∷ 0 ∷ 0 ∷ 0 ∷ 0 ∷ [];
}

no_fault : first_cocycle_fault tetrahedral_cocycle ≡ None
no_fault = refl

law_broken : first_cocycle_fault (record { quandle = tetrahedral; modulus = 2; entries = 0 ∷ 1 ∷ 0 ∷ 0 ∷ 0 ∷ 0 ∷ 0 ∷ 0 ∷ 0 ∷ 0 ∷ 0 ∷ 0 ∷ 0 ∷ 0 ∷ 0 ∷ 0 ∷ [] })
    ≡ Some (Law 0 1 0)
law_broken = refl

too_low : first_cocycle_fault (record { quandle = trivial 2; modulus = 1; entries = [] }) ≡ Some Modulus
too_low = refl

too_short : first_cocycle_fault (record { quandle = trivial 2; modulus = 3; entries = 0 ∷ 5 ∷ 1 ∷ [] }) ≡ Some Length
too_short = refl

out_of_range : first_cocycle_fault (record { quandle = trivial 2; modulus = 3; entries = 0 ∷ 3 ∷ 1 ∷ 1 ∷ [] }) ≡ Some (Range 0 1)
out_of_range = refl

-- the first of two in the lexicographic order, not in that of the columns
in_two_cells : first_cocycle_fault (record { quandle = trivial 2; modulus = 3; entries = 0 ∷ 3 ∷ 3 ∷ 0 ∷ [] }) ≡ Some (Range 0 1)
in_two_cells = refl

-- the law fails at 0, 2, 0 too, which has the lesser third colour
lesser_second_colour : first_cocycle_fault (record { quandle = dihedral 3; modulus = 2; entries = 0 ∷ 0 ∷ 0 ∷ 1 ∷ 0 ∷ 0 ∷ 0 ∷ 1 ∷ 0 ∷ [] }) ≡ Some (Law 0 1 2)
lesser_second_colour = refl

fails_too : obeys (record { quandle = dihedral 3; modulus = 2; entries = 0 ∷ 0 ∷ 0 ∷ 1 ∷ 0 ∷ 0 ∷ 0 ∷ 1 ∷ 0 ∷ [] }) 0 2 0 ≡ false
fails_too = refl

not_diagonal : first_cocycle_fault (record { quandle = trivial 2; modulus = 3; entries = 0 ∷ 2 ∷ 1 ∷ 1 ∷ [] }) ≡ Some (Diagonal 1)
not_diagonal = refl

-- any numbers off the diagonal are a cocycle of a trivial quandle
abbrev pub of_trivial : Cochain
of_trivial = record { quandle = trivial 2; modulus = 7; entries = 0 ∷ 2 ∷ 1 ∷ 0 ∷ [] }

no_fault_of_trivial : first_cocycle_fault of_trivial ≡ None
no_fault_of_trivial = refl

-- φ(x, y) = g(x) - g(x ▷ y) mod 7, with 0, 1, 3 for g: each pair of different colours has its own number
abbrev pub of_dihedral : Cochain
of_dihedral = record { quandle = dihedral 3; modulus = 7; entries = 0 ∷ 4 ∷ 6 ∷ 5 ∷ 0 ∷ 1 ∷ 2 ∷ 3 ∷ 0 ∷ [] }

no_fault_of_dihedral : first_cocycle_fault of_dihedral ≡ None
no_fault_of_dihedral = refl

-- Worked examples, by computing.
use Rattle.std.proofs.Common.{◌≡◌, ◌∷◌, [], refl, None, Some, true, false}
use Rattle.quandle_core.specs.declared.quandle.TheConstants.{MAX_ORDER}
use Rattle.quandle_core.specs.declared.operations.TheConstants.{MAX_LARGE_ORDER}
use Rattle.quandle_core.specs.Quandle.{over, back}
use Rattle.quandle_core.specs.Tables.{dihedral, alexander, tetrahedral, is_unit}
use Rattle.quandle_core.specs.Fault.{first_quandle_fault}
use Rattle.quandle_core.specs.Colours.{are_colours, all_lists}
use Rattle.quandle_core.specs.declared.fault.QuandleFault.TheVariants.{Order, Length, Range, Idempotent, Collision, Distributive}

-- the one place that says the largest order by its number, beside the constant
largest_order : MAX_ORDER ≡ 32
largest_order = refl

-- and the one that says that of larger quandles
largest_large_order : MAX_LARGE_ORDER ≡ 128
largest_large_order = refl

-- 0 ▷ 1 = 2 in the dihedral quandle of order 3
reflected : over (dihedral 3) 0 1 ≡ 2
reflected = refl

-- t = 2 at order 5: 1 ▷ 3 = 2 - 3 = 4
drawn : over (alexander 5 2) 1 3 ≡ 4
drawn = refl

-- 1 ▷ 0 = 2, so 2 ◁ 0 = 1
turned : over tetrahedral 1 0 ≡ 2
turned = refl

turned_back : back tetrahedral 2 0 ≡ 1
turned_back = refl

two_has_no_inverse : is_unit 4 2 ≡ false
two_has_no_inverse = refl

three_has_one : is_unit 4 3 ≡ true
three_has_one = refl

no_colours : first_quandle_fault (record { order = 0; entries = [] }) ≡ Some Order
no_colours = refl

too_short : first_quandle_fault (record { order = 2; entries = 0 ∷ 0 ∷ 1 ∷ [] }) ≡ Some Length
too_short = refl

outside : first_quandle_fault (record { order = 2; entries = 0 ∷ 0 ∷ 2 ∷ 1 ∷ [] }) ≡ Some (Range 1 0)
outside = refl

not_idempotent : first_quandle_fault (record { order = 2; entries = 1 ∷ 0 ∷ 0 ∷ 1 ∷ [] }) ≡ Some (Idempotent 0)
not_idempotent = refl

-- 0 ▷ 1 = 1 ▷ 1
collision : first_quandle_fault (record { order = 2; entries = 0 ∷ 1 ∷ 1 ∷ 1 ∷ [] }) ≡ Some (Collision 0 1 1)
collision = refl

-- 0 ▷ 2 = 1 ▷ 2 and 0 ▷ 0 = 2 ▷ 0: the lesser second colour is told first, then the lesser third
lesser_second_colour : first_quandle_fault (record { order = 3; entries = 0 ∷ 2 ∷ 0 ∷ 1 ∷ 1 ∷ 0 ∷ 0 ∷ 0 ∷ 2 ∷ [] }) ≡ Some (Collision 0 1 2)
lesser_second_colour = refl

-- the first two laws hold, and the third fails
not_distributive : first_quandle_fault (record { order = 3; entries = 0 ∷ 2 ∷ 0 ∷ 2 ∷ 1 ∷ 1 ∷ 1 ∷ 0 ∷ 2 ∷ [] }) ≡ Some (Distributive 0 1 0)
not_distributive = refl

faultless : first_quandle_fault tetrahedral ≡ None
faultless = refl

-- lists of colours of a quandle of order 2
one_colour : are_colours 2 2 (1 ∷ []) ≡ false
one_colour = refl

not_a_colour : are_colours 2 2 (1 ∷ 2 ∷ []) ≡ false
not_a_colour = refl

two_colours : are_colours 2 2 (1 ∷ 0 ∷ []) ≡ true
two_colours = refl

in_order : all_lists 2 2 ≡ (0 ∷ 0 ∷ []) ∷ (0 ∷ 1 ∷ []) ∷ (1 ∷ 0 ∷ []) ∷ (1 ∷ 1 ∷ []) ∷ []
in_order = refl

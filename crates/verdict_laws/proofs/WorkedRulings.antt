-- Worked examples, by computing: first differences, and the causes of lists.
use Rattle.std.proofs.Common.{◌≡◌, refl, [], ◌∷◌, ℕ, List, Some, None}
use Rattle.grid_core.specs.Diagram.{Diagram}
use Rattle.grid_core.specs.Trefoils.{right_trefoil}
use Rattle.grid_laws.proofs.WorkedDiagrams.{unknot}
use Rattle.quandle_core.specs.Tables.{trivial, dihedral}
use Rattle.cert_check.specs.declared.ruling.Why.TheVariants as why
use Rattle.cert_check.specs.Cause.{first_difference, cause_of_lists}

-- the first place counts 0; a list that has ended differs at its length
at_the_first : first_difference ((0 ∷ []) ∷ []) ((1 ∷ []) ∷ []) ≡ Some 0
at_the_first = refl

at_the_end : first_difference ((0 ∷ []) ∷ (1 ∷ []) ∷ []) ((0 ∷ []) ∷ (1 ∷ []) ∷ (2 ∷ []) ∷ []) ≡ Some 2
at_the_end = refl

past_the_end : first_difference ((0 ∷ []) ∷ (1 ∷ []) ∷ (2 ∷ []) ∷ []) ((0 ∷ []) ∷ (1 ∷ []) ∷ []) ≡ Some 2
past_the_end = refl

abbrev five_unknots : Diagram
five_unknots = record { x = 0 ∷ 1 ∷ 2 ∷ 3 ∷ 4 ∷ 5 ∷ 6 ∷ 7 ∷ 8 ∷ 9 ∷ []; o = 1 ∷ 0 ∷ 3 ∷ 2 ∷ 5 ∷ 4 ∷ 7 ∷ 6 ∷ 9 ∷ 8 ∷ [] }

-- the colourings of the right trefoil and of the unknot by the dihedral quandle of order 3, and of the unknot by two colours
abbrev nine : List (List ℕ)
nine = (0 ∷ 0 ∷ 0 ∷ 0 ∷ 0 ∷ []) ∷ (0 ∷ 1 ∷ 2 ∷ 0 ∷ 2 ∷ []) ∷ (0 ∷ 2 ∷ 1 ∷ 0 ∷ 1 ∷ []) ∷ (1 ∷ 0 ∷ 2 ∷ 1 ∷ 2 ∷ []) ∷ (1 ∷ 1 ∷ 1 ∷ 1 ∷ 1 ∷ [])
    ∷ (1 ∷ 2 ∷ 0 ∷ 1 ∷ 0 ∷ []) ∷ (2 ∷ 0 ∷ 1 ∷ 2 ∷ 1 ∷ []) ∷ (2 ∷ 1 ∷ 0 ∷ 2 ∷ 0 ∷ []) ∷ (2 ∷ 2 ∷ 2 ∷ 2 ∷ 2 ∷ []) ∷ []

abbrev two : List (List ℕ)
two = (0 ∷ 0 ∷ []) ∷ (1 ∷ 1 ∷ []) ∷ []

abbrev three : List (List ℕ)
three = (0 ∷ 0 ∷ []) ∷ (1 ∷ 1 ∷ []) ∷ (2 ∷ 2 ∷ []) ∷ []

told_apart : cause_of_lists (dihedral 3) right_trefoil unknot nine three ≡ None
told_apart = refl

cut_short : cause_of_lists (dihedral 3) right_trefoil unknot nine two ≡ Some (why.List 2 2)
cut_short = refl

first_list_first : cause_of_lists (dihedral 3) right_trefoil unknot [] two ≡ Some (why.List 1 0)
first_list_first = refl

-- a list of another length is first a list that is not the complete one
same_length_last : cause_of_lists (trivial 2) unknot unknot two two ≡ Some why.SameLength
same_length_last = refl

list_before_length : cause_of_lists (trivial 2) unknot unknot [] [] ≡ Some (why.List 1 0)
list_before_length = refl

wide_first : cause_of_lists (trivial 16) five_unknots unknot [] [] ≡ Some (why.Wide 1 5)
wide_first = refl

wide_second : cause_of_lists (trivial 16) unknot five_unknots [] [] ≡ Some (why.Wide 2 5)
wide_second = refl

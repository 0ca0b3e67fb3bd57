-- Worked rows of the definitions: what is held after some pushes and pops.
use Rattle.std.proofs.Common.{◌≡◌, refl, [], ◌∷◌, Some, None}
use Rattle.frontier_core.specs.Held.{HeldIds, empty, pushed, ids_of, first_of_least, without_first_of_least}
use Rattle.frontier_core.specs.Order.{sized}
use Rattle.frontier_core.specs.Run.{run, Push, Pop, all_held}

-- two of size 3, one of size 0 and one of the greatest size
abbrev three : HeldIds
three = pushed (pushed (pushed (pushed (empty 8) 5 3) 2 3) 7 0) 1 64

in_order : ids_of three 3 ≡ 5 ∷ 2 ∷ []
in_order = refl

least : first_of_least three ≡ Some 7
least = refl

then : first_of_least (without_first_of_least three) ≡ Some 5
then = refl

others_stay : ids_of (without_first_of_least (without_first_of_least three)) 3 ≡ 2 ∷ []
others_stay = refl

nothing : first_of_least (empty 8) ≡ None
nothing = refl

listed : all_held three ≡ sized 7 0 ∷ sized 5 3 ∷ sized 2 3 ∷ sized 1 64 ∷ []
listed = refl

came_out : (run 8 (Push 5 3 ∷ Push 2 3 ∷ Push 7 0 ∷ Pop ∷ Pop ∷ Push 7 3 ∷ Pop ∷ Pop ∷ Pop ∷ [])).came_out ≡ sized 7 0 ∷ sized 5 3 ∷ sized 2 3 ∷ sized 7 3 ∷ []
came_out = refl

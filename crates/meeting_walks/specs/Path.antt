-- The path between two diagrams, through the form where the walks from both meet.
use Rattle.std.specs.Prelude.{◌++◌, ℕ, List, reverse}
use Rattle.meeting_walks.specs.declared.table.Side.{Side}
use Rattle.meeting_walks.specs.declared.table.Side.TheVariants.{First, Second}

-- where a move of a side leads from its own form with the number near to one of the other side with the number far: the number of the
-- first side's form, and that of the second side's
abbrev pub in_order : Side → ℕ → ℕ → ℕ × ℕ
in_order First near far = (near, far)
in_order Second near far = (far, near)

-- a way back to the first diagram and one back to the second, as one way from the first to the second
abbrev pub one_way : {A : Type 0} → List A → List A → List A
one_way to_first to_second = reverse to_first ++ to_second

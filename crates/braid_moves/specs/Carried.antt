-- What a step makes of a fixed point of the old word's action: a fixed point of the new word's, by law.
use Rattle.std.specs.Prelude.{ℕ, ◌-◌, List, [], ◌∷◌, ◌++◌, take, slice_index}
use Rattle.quandle_core.specs.Quandle.{Table}
use Rattle.braid_core.specs.Braid.{Word}
use Rattle.braid_core.specs.Action.{action}
use Rattle.braid_moves.specs.declared.step.BraidMove.{BraidMove}
use Rattle.braid_moves.specs.declared.step.BraidMove.TheVariants.{Far, Triple, Cancel, Insert, Turn, Grow, Shrink}

-- the letters that a turn moves to the end act on the tuple, a new strand repeats the last colour, and a strand that goes takes its colour with it;
-- every other step keeps the tuple
abbrev pub carried_tuple : Table → Word → BraidMove → List ℕ → List ℕ
carried_tuple t w (Far p) xs = xs
carried_tuple t w (Triple p) xs = xs
carried_tuple t w (Cancel p) xs = xs
carried_tuple t w (Insert place a) xs = xs
carried_tuple t w (Turn k) xs = action t (take k w.letters) xs
carried_tuple t w (Grow positive) xs = xs ++ slice_index xs (w.strands - 1) ∷ []
carried_tuple t w Shrink xs = take (w.strands - 1) xs

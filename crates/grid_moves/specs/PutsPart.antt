-- What stands at the end of a list where memory was wanting for some moves.
use Rattle.std.specs.Prelude.{◌≡◌, ◌<◌, ◌++◌, ℕ, List, length, take}
use Rattle.grid_moves.specs.declared.step.Move.{Move}

-- behind the old list stand the first few of these moves, and not all of them
pub record PutsPart (old new moves : List Move) : Type 0 where
  pub count : ℕ
  pub few : count < length moves
  pub list : new ≡ old ++ take count moves

-- Simplification that never grows.
use Rattle.std.specs.Prelude.{◌≡◌, ◌||◌, ℕ, List, [], Bool, true, false}
use Rattle.std.specs.List.{All, list_any}
use Rattle.grid_core.specs.Diagram.{Diagram, size}
use Rattle.grid_moves.specs.declared.step.Move.{Move}
use Rattle.grid_moves.specs.Kinds.{is_destabilisation}
use Rattle.grid_moves.specs.Joining.{JoinsWithin}
use Rattle.mono_simplify.specs.declared.simplified.SimpleEnd.{SimpleEnd}
use Rattle.mono_simplify.specs.declared.simplified.SimpleEnd.TheVariants.{Irreducible, Spent}
use Rattle.mono_simplify.specs.ExchangeClass.{is_shift_or_exchange, IsIrreducible}
use Rattle.mono_simplify.specs.Listing.{HasAtMost, HasMoreAndNoneSmaller}

-- a move that simplification makes: a shift, an exchange or a destabilisation (Dynnikov 2006, monotonic simplification)
abbrev pub is_monotonic : Move → Bool
is_monotonic move = is_shift_or_exchange move || is_destabilisation move

abbrev pub AreMonotonic : List Move → Type 0
AreMonotonic moves = All (λ move. is_monotonic move ≡ true) moves

-- why no more was done at e with a budget of b members
abbrev pub EndsSimplified : Diagram → ℕ → SimpleEnd → Type 0
EndsSimplified e b Irreducible = HasAtMost e b × IsIrreducible e
EndsSimplified e b (Spent members) = (members ≡ b) × HasMoreAndNoneSmaller e b

-- d was simplified to e, with a budget of b members for each listing
pub record Simplifies (d : Diagram) (b : ℕ) (e : Diagram) (moves : List Move) (why : SimpleEnd) : Type 0 where
  -- the moves lead from d to e, and no diagram on the way is larger than d
  pub joined : JoinsWithin (size d) d moves e
  -- they are shifts, exchanges and destabilisations
  pub kept : AreMonotonic moves
  -- where none of them destabilises, nothing was done
  pub given : list_any is_destabilisation moves ≡ false → (e ≡ d) × (moves ≡ [])
  pub end : EndsSimplified e b why

-- The least diagram that shifts and exchanges reach.
use Rattle.std.specs.Prelude.{◌≡◌, ◌<◌, ℕ, List, length, take, true}
use Rattle.std.specs.List.{All, Contains}
use Rattle.std.specs.Ordering.{is_le}
use Rattle.grid_core.specs.Diagram.{Diagram, size}
use Rattle.grid_moves.specs.declared.step.Move.{Move}
use Rattle.grid_moves.specs.Joining.{JoinsWithin}
use Rattle.grid_keys.specs.declared.key.Packed.{Packed}
use Rattle.grid_keys.specs.CanonicalForm.{IsCanonical}
use Rattle.grid_keys.specs.Key.{key_of, compare_keys}
use Rattle.grid_keys.specs.Order.{IsAtMost}
use Rattle.mono_simplify.specs.ExchangeClass.{AreShiftsAndExchanges, JoinedByExchanges}
use Rattle.mono_simplify.specs.Listing.{IsListed, HasAtMost}
use Rattle.mono_simplify.specs.declared.least.LeastEnd.{LeastEnd}
use Rattle.mono_simplify.specs.declared.least.LeastEnd.TheVariants.{Whole, Spent}

-- e is reached from d by some list of shifts and exchanges, however long, and no diagram that such a list reaches is less
pub record IsLeastReached (d e : Diagram) : Type 0 where
  pub reached : JoinedByExchanges d e
  pub least : (f : Diagram) → JoinedByExchanges d f → IsAtMost e f

-- the first key is the second one, or comes before it
abbrev pub IsKeyAtMost : Packed → Packed → Type 0
IsKeyAtMost p q = is_le (compare_keys p q) ≡ true

-- the listing of d has more than b members, and of the first b of them e has the least key
pub record IsLeastOfFirst (d : Diagram) (b : ℕ) (e : Diagram) : Type 0 where
  pub turns : ℕ
  pub keys : List Packed
  pub listed : IsListed d turns keys
  pub more : b < length keys
  pub among : Contains (take b keys) (key_of e)
  pub least : All (IsKeyAtMost (key_of e)) (take b keys)

-- with a budget of b members
abbrev pub EndsAt : Diagram → ℕ → Diagram → LeastEnd → Type 0
EndsAt d b e Whole = HasAtMost d b × IsLeastReached d e
EndsAt d b e (Spent members) = (members ≡ b) × IsLeastOfFirst d b e

-- e is the least diagram that was seen from d with a budget of b members
pub record FindsLeast (d : Diagram) (b : ℕ) (e : Diagram) (moves : List Move) (why : LeastEnd) : Type 0 where
  -- the moves lead from d to e, and no diagram on the way is larger than d
  pub joined : JoinsWithin (size d) d moves e
  -- they are shifts and exchanges
  pub kept : AreShiftsAndExchanges moves
  pub canonical : IsCanonical e
  pub end : EndsAt d b e why

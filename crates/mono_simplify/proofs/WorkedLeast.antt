-- Worked examples of the definitions, by computation.
use Rattle.std.proofs.Common.{◌≡◌, ◌∷◌, [], List, true, false, refl, map}
use Rattle.std.specs.Ordering.{is_le}
use Rattle.grid_core.specs.Diagram.{Diagram}
use Rattle.grid_moves.specs.declared.step.Move.TheVariants.{ShiftColumns, ShiftRows, ExchangeColumns, ExchangeRows, SlideColumns, SlideRows, Destabilise}
use Rattle.grid_keys.specs.Key.{key_of, compare_keys}
use Rattle.mono_simplify.specs.ExchangeClass.{is_shift_or_exchange}

-- the class of two unknots has five diagrams, of which the first is the least
abbrev two_unknots : Diagram
two_unknots = record { x = 0 ∷ 1 ∷ 2 ∷ 3 ∷ []; o = 1 ∷ 0 ∷ 3 ∷ 2 ∷ [] }

abbrev five : List Diagram
five =
    two_unknots
    ∷ record { x = 0 ∷ 1 ∷ 3 ∷ 2 ∷ []; o = 1 ∷ 0 ∷ 2 ∷ 3 ∷ [] }
    ∷ record { x = 0 ∷ 1 ∷ 3 ∷ 2 ∷ []; o = 2 ∷ 3 ∷ 1 ∷ 0 ∷ [] }
    ∷ record { x = 0 ∷ 1 ∷ 3 ∷ 2 ∷ []; o = 3 ∷ 2 ∷ 0 ∷ 1 ∷ [] }
    ∷ record { x = 0 ∷ 3 ∷ 2 ∷ 1 ∷ []; o = 1 ∷ 2 ∷ 3 ∷ 0 ∷ [] }
    ∷ []

least_of_five : map (λ (d : Diagram). is_le (compare_keys (key_of two_unknots) (key_of d))) five ≡ true ∷ true ∷ true ∷ true ∷ true ∷ []
least_of_five = refl

no_other_is : map (λ (d : Diagram). is_le (compare_keys (key_of d) (key_of two_unknots))) five ≡ true ∷ false ∷ false ∷ false ∷ false ∷ []
no_other_is = refl

-- of a move of each kind those that are made
kinds : map is_shift_or_exchange (ShiftColumns 1 ∷ ShiftRows 1 ∷ ExchangeColumns 0 ∷ ExchangeRows 0 ∷ SlideColumns 0 ∷ SlideRows 0 ∷ Destabilise 0 0 ∷ [])
    ≡ true ∷ true ∷ true ∷ true ∷ false ∷ false ∷ false ∷ []
kinds = refl

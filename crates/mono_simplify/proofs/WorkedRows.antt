-- Worked examples of the definitions, by computation.
use Rattle.std.proofs.Common.{◌≡◌, ◌∷◌, [], true, false, refl, length, map, filter}
use Rattle.grid_core.specs.Diagram.{Diagram}
use Rattle.grid_core.specs.declared.mark.Kind.TheVariants.{Cross}
use Rattle.grid_core.specs.declared.mark.Corner.TheVariants.{LowLeft}
use Rattle.grid_core.specs.Trefoils.{left_trefoil}
use Rattle.grid_laws.proofs.WorkedDiagrams.{unknot}
use Rattle.grid_moves.specs.declared.step.Move.TheVariants.{ShiftColumns, ShiftRows, ExchangeColumns, ExchangeRows, SlideColumns, SlideRows, Stabilise}
use Rattle.grid_moves.specs.declared.step.Move.TheVariants.{Destabilise}
use Rattle.grid_keys.specs.Key.{key_of}
use Rattle.next_moves.specs.Tries.{exchange_tries, all_block_tries}
use Rattle.next_moves.specs.Offers.{is_offered}
use Rattle.mono_simplify.specs.Simplified.{is_monotonic}
use Rattle.mono_simplify.specs.Listing.{with_key}

-- the left trefoil and the unknot of two columns have neither an exchange nor a destabilisation: each is alone in its class
alone : filter (is_offered left_trefoil 5) (exchange_tries 5) ≡ []
alone = refl

irreducible : filter (is_offered left_trefoil 5) (all_block_tries 5) ≡ []
irreducible = refl

smallest : filter (is_offered unknot 2) (exchange_tries 2) ≡ []
smallest = refl

-- two split unknots have exchanges, and no destabilisation
abbrev two_circles : Diagram
two_circles = record { x = 0 ∷ 1 ∷ 2 ∷ 3 ∷ []; o = 1 ∷ 0 ∷ 3 ∷ 2 ∷ [] }

four_exchanges : length (filter (is_offered two_circles 4) (exchange_tries 4)) ≡ 4
four_exchanges = refl

none_smaller : filter (is_offered two_circles 4) (all_block_tries 4) ≡ []
none_smaller = refl

-- of a move of each kind those that simplification makes
monotonic_shifts : map is_monotonic (ShiftColumns 1 ∷ ShiftRows 1 ∷ []) ≡ true ∷ true ∷ []
monotonic_shifts = refl

monotonic_trades : map is_monotonic (ExchangeColumns 0 ∷ ExchangeRows 0 ∷ SlideColumns 0 ∷ SlideRows 0 ∷ []) ≡ true ∷ true ∷ false ∷ false ∷ []
monotonic_trades = refl

monotonic_sizes : map is_monotonic (Stabilise 0 Cross LowLeft ∷ Destabilise 0 0 ∷ []) ≡ false ∷ true ∷ []
monotonic_sizes = refl

-- a key that is there is not put to the end again
again : with_key (key_of unknot ∷ key_of left_trefoil ∷ []) (key_of unknot) ≡ key_of unknot ∷ key_of left_trefoil ∷ []
again = refl

more : with_key (key_of unknot ∷ []) (key_of left_trefoil) ≡ key_of unknot ∷ key_of left_trefoil ∷ []
more = refl

-- The moves of each kind on a diagram of n columns and rows, in order, as many as have numbers in range.
use Rattle.std.specs.Prelude.{◌-◌, ◌++◌, ℕ, List, map}
use Rattle.std.specs.List.{range_with_len, flat_map}
use Rattle.grid_core.specs.declared.mark.Kind.{Kind}
use Rattle.grid_core.specs.declared.mark.Kind.TheVariants.{Cross, Ring}
use Rattle.grid_core.specs.declared.mark.Corner.{Corner}
use Rattle.grid_core.specs.Corners.{corners}
use Rattle.grid_moves.specs.declared.step.Move.{Move}
use Rattle.grid_moves.specs.declared.step.Move.TheVariants.{ShiftColumns, ShiftRows, ExchangeColumns, ExchangeRows, Stabilise, Destabilise}

abbrev pub column_shift : ℕ → Move
column_shift k = ShiftColumns k

abbrev pub row_shift : ℕ → Move
row_shift k = ShiftRows k

abbrev pub column_exchange : ℕ → Move
column_exchange c = ExchangeColumns c

abbrev pub row_exchange : ℕ → Move
row_exchange r = ExchangeRows r

abbrev pub destabilisation : ℕ → ℕ → Move
destabilisation c r = Destabilise c r

abbrev pub stabilisation : ℕ → Kind → Corner → Move
stabilisation c kind corner = Stabilise c kind corner

-- by 1 to n - 1
abbrev pub column_shifts : ℕ → List Move
column_shifts n = map column_shift (range_with_len 1 (n - 1))

abbrev pub row_shifts : ℕ → List Move
row_shifts n = map row_shift (range_with_len 1 (n - 1))

-- of each column but the last with the next one, and likewise of the rows
abbrev pub column_exchanges : ℕ → List Move
column_exchanges n = map column_exchange (range_with_len 0 (n - 1))

abbrev pub row_exchanges : ℕ → List Move
row_exchanges n = map row_exchange (range_with_len 0 (n - 1))

-- of the blocks in columns c and c + 1, by row
abbrev pub destabilisations : ℕ → ℕ → List Move
destabilisations n c = map (destabilisation c) (range_with_len 0 (n - 1))

-- the eight in column c, by kind and corner
abbrev pub stabilisations : ℕ → List Move
stabilisations c = map (stabilisation c Cross) corners ++ map (stabilisation c Ring) corners

-- of all blocks, by column and row
abbrev pub all_destabilisations : ℕ → List Move
all_destabilisations n = flat_map (destabilisations n) (range_with_len 0 (n - 1))

-- in all columns
abbrev pub all_stabilisations : ℕ → List Move
all_stabilisations n = flat_map stabilisations (range_with_len 0 n)

-- all of them: the moves but slides
abbrev pub all_but_slides : ℕ → List Move
all_but_slides n =
    column_shifts n ++ row_shifts n ++ column_exchanges n ++ row_exchanges n ++ all_destabilisations n ++ all_stabilisations n

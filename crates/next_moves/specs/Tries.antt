-- The moves that are tried on a diagram of n columns and rows, each on one of its translates, in order.
-- Columns c and c + 1 are neighbours, and so are the last and the first: after a shift by 1 these two stand side by side, at the end.
use Rattle.std.specs.Prelude.{◌+◌, ◌-◌, ◌==◌, ◌++◌, ℕ, List, [], ◌∷◌, map, if◌then◌else◌}
use Rattle.std.specs.List.{range_with_len, flat_map}
use Rattle.grid_core.specs.declared.mark.Kind.{Kind}
use Rattle.grid_core.specs.declared.mark.Corner.{Corner}
use Rattle.grid_moves.specs.declared.step.Move.{Move}
use Rattle.grid_moves.specs.declared.step.Move.TheVariants.{ExchangeColumns, ExchangeRows, SlideColumns, SlideRows, Stabilise, Destabilise}
use Rattle.grid_moves.specs.MoveLists as moves

-- a move, after a shift of columns and a shift of rows, of which 0 means none
pub record Try : Type 0 where
  pub before : ℕ × ℕ
  pub step : Move

-- the shift that brings c and the next one side by side, and where c stands then
abbrev pub shift_before : ℕ → ℕ → ℕ
shift_before n c = if c + 1 == n then 1 else 0

abbrev pub place_after_shift : ℕ → ℕ → ℕ
place_after_shift n c = if c + 1 == n then n - 2 else c

-- column c and the next one trade places, by an exchange or by a slide: never are both legal
abbrev pub try_column_exchange : ℕ → ℕ → Try
try_column_exchange n c = record { before = (shift_before n c, 0); step = ExchangeColumns (place_after_shift n c) }

abbrev pub try_column_slide : ℕ → ℕ → Try
try_column_slide n c = record { before = (shift_before n c, 0); step = SlideColumns (place_after_shift n c) }

abbrev pub column_trade_tries : ℕ → ℕ → List Try
column_trade_tries n c = try_column_exchange n c ∷ try_column_slide n c ∷ []

-- row r and the next one trade places, likewise
abbrev pub try_row_exchange : ℕ → ℕ → Try
try_row_exchange n r = record { before = (0, shift_before n r); step = ExchangeRows (place_after_shift n r) }

abbrev pub try_row_slide : ℕ → ℕ → Try
try_row_slide n r = record { before = (0, shift_before n r); step = SlideRows (place_after_shift n r) }

abbrev pub row_trade_tries : ℕ → ℕ → List Try
row_trade_tries n r = try_row_exchange n r ∷ try_row_slide n r ∷ []

-- the block of column c and the next one, and of row r and the next one, becomes one mark
abbrev pub try_destabilisation : ℕ → ℕ → ℕ → Try
try_destabilisation n c r = record { before = (shift_before n c, shift_before n r); step = Destabilise (place_after_shift n c) (place_after_shift n r) }

-- the blocks of column c and the next one, by row
abbrev pub block_tries : ℕ → ℕ → List Try
block_tries n c = map (try_destabilisation n c) (range_with_len 0 n)

-- a move on the diagram as it is
abbrev pub unshifted : Move → Try
unshifted step = record { before = (0, 0); step = step }

-- the mark of a kind in column c becomes a block of three, with the other kind in this corner
abbrev pub try_stabilisation : ℕ → Kind → Corner → Try
try_stabilisation c kind corner = unshifted (Stabilise c kind corner)

-- the eight stabilisations in column c
abbrev pub stabilisation_tries : ℕ → List Try
stabilisation_tries c = map unshifted (moves.stabilisations c)

-- neighbouring columns that trade places, by column
abbrev pub all_column_trade_tries : ℕ → List Try
all_column_trade_tries n = flat_map (column_trade_tries n) (range_with_len 0 n)

-- neighbouring rows that do, by row
abbrev pub all_row_trade_tries : ℕ → List Try
all_row_trade_tries n = flat_map (row_trade_tries n) (range_with_len 0 n)

-- both
abbrev pub trade_tries : ℕ → List Try
trade_tries n = all_column_trade_tries n ++ all_row_trade_tries n

-- of these the exchanges alone
abbrev pub exchange_tries : ℕ → List Try
exchange_tries n = map (try_column_exchange n) (range_with_len 0 n) ++ map (try_row_exchange n) (range_with_len 0 n)

-- by column and row
abbrev pub all_block_tries : ℕ → List Try
all_block_tries n = flat_map (block_tries n) (range_with_len 0 n)

-- by column, kind and corner
abbrev pub all_stabilisation_tries : ℕ → List Try
all_stabilisation_tries n = flat_map stabilisation_tries (range_with_len 0 n)

-- all of them, in the order of the offers
abbrev pub tries : ℕ → List Try
tries n = trade_tries n ++ all_block_tries n ++ all_stabilisation_tries n

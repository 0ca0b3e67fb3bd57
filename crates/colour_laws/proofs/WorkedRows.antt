-- Worked rows of the table of carried colours, by computing.
use Rattle.std.proofs.Common.{◌≡◌, refl, [], ◌∷◌, true, List, ℕ}
use Rattle.grid_core.specs.declared.mark.Kind.TheVariants.{Cross}
use Rattle.grid_core.specs.declared.mark.Corner.TheVariants.{LowLeft}
use Rattle.grid_core.specs.Diagram.{Diagram}
use Rattle.grid_core.specs.Trefoils.{right_trefoil}
use Rattle.grid_moves.specs.declared.step.Move.TheVariants.{ShiftColumns, ShiftRows, ExchangeColumns, ExchangeRows, SlideColumns, SlideRows, Stabilise}
use Rattle.grid_moves.specs.declared.step.Move.TheVariants.{Destabilise}
use Rattle.quandle_core.specs.Tables.{tetrahedral, dihedral}
use Rattle.colour_rows.specs.Colouring.{is_colouring}
use Rattle.colour_laws.specs.Carried.{carried, after_row_shift}

abbrev trefoil_colours : List ℕ
trefoil_colours = 0 ∷ 1 ∷ 3 ∷ 0 ∷ 3 ∷ []

given : is_colouring tetrahedral right_trefoil trefoil_colours ≡ true
given = refl

-- the shift of rows by one: column 3 alone changes
row_shifted : carried tetrahedral right_trefoil (ShiftRows 1) trefoil_colours ≡ 0 ∷ 1 ∷ 3 ∷ 1 ∷ 3 ∷ []
row_shifted = refl

after_one : after_row_shift 1 right_trefoil ≡ record { x = 3 ∷ 2 ∷ 1 ∷ 0 ∷ 4 ∷ []; o = 1 ∷ 0 ∷ 4 ∷ 3 ∷ 2 ∷ [] }
after_one = refl

row_shifted_is : is_colouring tetrahedral (after_row_shift 1 right_trefoil) (0 ∷ 1 ∷ 3 ∷ 1 ∷ 3 ∷ []) ≡ true
row_shifted_is = refl

-- four further shifts of rows lead back, with the colours
rows_back : carried tetrahedral (after_row_shift 1 right_trefoil) (ShiftRows 4) (0 ∷ 1 ∷ 3 ∷ 1 ∷ 3 ∷ []) ≡ trefoil_colours
rows_back = refl

-- the shift of columns by two
columns_shifted : carried tetrahedral right_trefoil (ShiftColumns 2) trefoil_colours ≡ 3 ∷ 0 ∷ 3 ∷ 0 ∷ 1 ∷ []
columns_shifted = refl

-- the closure of a braid of three positive crossings on two strands: columns 3 and 4 are nested
abbrev closed : Diagram
closed = record { x = 4 ∷ 3 ∷ 2 ∷ 0 ∷ 1 ∷ 5 ∷ 6 ∷ []; o = 6 ∷ 5 ∷ 4 ∷ 3 ∷ 2 ∷ 1 ∷ 0 ∷ [] }

abbrev closed_colours : List ℕ
closed_colours = 0 ∷ 1 ∷ 2 ∷ 0 ∷ 1 ∷ 1 ∷ 0 ∷ []

closed_given : is_colouring tetrahedral closed closed_colours ≡ true
closed_given = refl

-- the inner column's colour goes from 1 to 2 on its way to the left
exchanged : carried tetrahedral closed (ExchangeColumns 3) closed_colours ≡ 0 ∷ 1 ∷ 2 ∷ 2 ∷ 0 ∷ 1 ∷ 0 ∷ []
exchanged = refl

abbrev closed_exchanged : Diagram
closed_exchanged = record { x = 4 ∷ 3 ∷ 2 ∷ 1 ∷ 0 ∷ 5 ∷ 6 ∷ []; o = 6 ∷ 5 ∷ 4 ∷ 2 ∷ 3 ∷ 1 ∷ 0 ∷ [] }

exchanged_is : is_colouring tetrahedral closed_exchanged (0 ∷ 1 ∷ 2 ∷ 2 ∷ 0 ∷ 1 ∷ 0 ∷ []) ≡ true
exchanged_is = refl

-- and back from 2 to 1 on its way to the right
exchanged_back : carried tetrahedral closed_exchanged (ExchangeColumns 3) (0 ∷ 1 ∷ 2 ∷ 2 ∷ 0 ∷ 1 ∷ 0 ∷ []) ≡ closed_colours
exchanged_back = refl

-- an exchange of rows keeps each column's colour
row_exchanged : carried tetrahedral closed (ExchangeRows 5) closed_colours ≡ closed_colours
row_exchanged = refl

-- columns 4 and 5 share row 1 and have one colour; rows 1 and 2 share column 4
slid_columns : carried tetrahedral closed (SlideColumns 4) closed_colours ≡ closed_colours
slid_columns = refl

slid_columns_is : is_colouring tetrahedral (record { x = 4 ∷ 3 ∷ 2 ∷ 0 ∷ 5 ∷ 1 ∷ 6 ∷ []; o = 6 ∷ 5 ∷ 4 ∷ 3 ∷ 1 ∷ 2 ∷ 0 ∷ [] }) closed_colours ≡ true
slid_columns_is = refl

slid_rows : carried tetrahedral closed (SlideRows 1) closed_colours ≡ closed_colours
slid_rows = refl

slid_rows_is : is_colouring tetrahedral (record { x = 4 ∷ 3 ∷ 1 ∷ 0 ∷ 2 ∷ 5 ∷ 6 ∷ []; o = 6 ∷ 5 ∷ 4 ∷ 3 ∷ 1 ∷ 2 ∷ 0 ∷ [] }) closed_colours ≡ true
slid_rows_is = refl

-- a stabilisation doubles a colour, and its destabilisation merges the two
stabilised : carried (dihedral 3) (record { x = 0 ∷ 1 ∷ []; o = 1 ∷ 0 ∷ [] }) (Stabilise 0 Cross LowLeft) (2 ∷ 2 ∷ []) ≡ 2 ∷ 2 ∷ 2 ∷ []
stabilised = refl

doubled : carried tetrahedral right_trefoil (Stabilise 1 Cross LowLeft) trefoil_colours ≡ 0 ∷ 1 ∷ 1 ∷ 3 ∷ 0 ∷ 3 ∷ []
doubled = refl

merged : carried tetrahedral (record { x = 5 ∷ 4 ∷ 3 ∷ 2 ∷ 1 ∷ 0 ∷ []; o = 2 ∷ 3 ∷ 1 ∷ 0 ∷ 5 ∷ 4 ∷ [] }) (Destabilise 1 3)
    (0 ∷ 1 ∷ 1 ∷ 3 ∷ 0 ∷ 3 ∷ []) ≡ trefoil_colours
merged = refl

-- Worked examples of moves: the relation holds of these diagrams, by computation.
use Rattle.std.proofs.Common.{◌≡◌, ◌∷◌, [], List, None, refl, arith}
use Rattle.grid_core.specs.declared.mark.Kind.TheVariants.{Cross, Ring}
use Rattle.grid_core.specs.declared.mark.Corner.TheVariants.{LowLeft}
use Rattle.grid_core.specs.Diagram.{Diagram, IsGrid}
use Rattle.grid_core.proofs.Accepted.{accepted}
use Rattle.grid_core.specs.Trefoils.{right_trefoil}
use Rattle.grid_laws.proofs.WorkedDiagrams.{unknot}
use Rattle.grid_moves.specs.declared.step.Move.{Move}
use Rattle.grid_moves.specs.declared.step.Move.TheVariants.{ShiftRows, ExchangeColumns, ExchangeRows, SlideColumns, SlideRows, Stabilise, Destabilise}
use Rattle.grid_moves.specs.MoveFault.{first_move_fault}
use Rattle.grid_moves.specs.Joining.{Joins}
use Rattle.grid_moves.proofs.OneResult.{moved, moved_step}

-- every move of the list is legal in its turn
data Legal : Diagram → List Move → Type 0 where
  none : {d : Diagram} → Legal d []
  more : {d : Diagram} {move : Move} {moves : List Move} → first_move_fault d move ≡ None → Legal (moved move d) moves → Legal d (move ∷ moves)

abbrev pub moved_all : List Move → Diagram → Diagram
moved_all [] d = d
moved_all (move ∷ moves) d = moved_all moves (moved move d)

joins_computed : (moves : List Move) (d : Diagram) → IsGrid d → Legal d moves → Joins d moves (moved_all moves d)
joins_computed [] d grid none = refl
joins_computed (move ∷ moves) d grid (more e legal) =
    let step = moved_step d move grid e in
    (moved move d, (step, joins_computed moves (moved move d) step.after legal))

-- one cross of the unknot becomes a block of three marks, and the block goes again
stabilised_unknot : moved (Stabilise 0 Cross LowLeft) unknot ≡ record { x = 1 ∷ 0 ∷ 2 ∷ []; o = 0 ∷ 2 ∷ 1 ∷ [] }
stabilised_unknot = refl

destabilised_unknot : moved (Destabilise 0 0) (moved (Stabilise 0 Cross LowLeft) unknot) ≡ unknot
destabilised_unknot = refl

-- two nested columns trade places
nested_columns : moved (ExchangeColumns 0)
    (record { x = 0 ∷ 1 ∷ 2 ∷ 3 ∷ []; o = 3 ∷ 2 ∷ 0 ∷ 1 ∷ [] }) ≡ record { x = 1 ∷ 0 ∷ 2 ∷ 3 ∷ []; o = 2 ∷ 3 ∷ 0 ∷ 1 ∷ [] }
nested_columns = refl

-- two columns that share one row, and two rows that share one column
abbrev three_columns : Diagram
three_columns = record { x = 1 ∷ 0 ∷ 2 ∷ []; o = 0 ∷ 2 ∷ 1 ∷ [] }

three_columns_grid : IsGrid three_columns
three_columns_grid = accepted three_columns.x three_columns.o (omega arith) (omega arith) refl refl refl refl

slid_columns : Joins three_columns (SlideColumns 0 ∷ []) (record { x = 0 ∷ 1 ∷ 2 ∷ []; o = 2 ∷ 0 ∷ 1 ∷ [] })
slid_columns = joins_computed (SlideColumns 0 ∷ []) three_columns three_columns_grid (more refl none)

slid_rows : Joins three_columns (SlideRows 0 ∷ []) (record { x = 0 ∷ 1 ∷ 2 ∷ []; o = 1 ∷ 2 ∷ 0 ∷ [] })
slid_rows = joins_computed (SlideRows 0 ∷ []) three_columns three_columns_grid (more refl none)

-- the right trefoil and its reverse
abbrev reversing : List Move
reversing =
    Stabilise 3 Ring LowLeft ∷ ExchangeColumns 2 ∷ ExchangeColumns 1 ∷ ShiftRows 1 ∷ ExchangeRows 4 ∷ ExchangeColumns 1 ∷ ExchangeRows 2 ∷ ExchangeColumns 4 ∷ Destabilise 3 3 ∷ []

reversing_legal : Legal right_trefoil reversing
reversing_legal = more refl (more refl (more refl (more refl (more refl (more refl (more refl (more refl (more refl none))))))))

reversing_leads : moved_all reversing right_trefoil ≡ record { x = 4 ∷ 3 ∷ 2 ∷ 1 ∷ 0 ∷ []; o = 1 ∷ 0 ∷ 4 ∷ 3 ∷ 2 ∷ [] }
reversing_leads = refl

right_trefoil_grid : IsGrid right_trefoil
right_trefoil_grid = accepted right_trefoil.x right_trefoil.o (omega arith) (omega arith) refl refl refl refl

reversing_joins : Joins right_trefoil reversing (record { x = 4 ∷ 3 ∷ 2 ∷ 1 ∷ 0 ∷ []; o = 1 ∷ 0 ∷ 4 ∷ 3 ∷ 2 ∷ [] })
reversing_joins = joins_computed reversing right_trefoil right_trefoil_grid reversing_legal

-- a shift of the right trefoil's rows
shifted_trefoil : moved (ShiftRows 1) right_trefoil ≡ record { x = 3 ∷ 2 ∷ 1 ∷ 0 ∷ 4 ∷ []; o = 1 ∷ 0 ∷ 4 ∷ 3 ∷ 2 ∷ [] }
shifted_trefoil = refl

-- an unknot in disguise, taken down to two columns by three destabilisations
abbrev disguised : Diagram
disguised = record { x = 0 ∷ 1 ∷ 2 ∷ 3 ∷ 4 ∷ []; o = 2 ∷ 4 ∷ 3 ∷ 1 ∷ 0 ∷ [] }

abbrev undisguising : List Move
undisguising = Destabilise 2 2 ∷ Destabilise 1 1 ∷ Destabilise 0 0 ∷ []

undisguising_joins : Joins disguised undisguising unknot
undisguising_joins =
    joins_computed undisguising disguised (accepted disguised.x disguised.o (omega arith) (omega arith) refl refl refl refl)
    (more refl (more refl (more refl none)))

-- Worked examples: what is tried, and what of it is legal.
use Rattle.std.proofs.Common.{◌≡◌, ◌∷◌, [], ℕ, refl, length, filter, take, drop}
use Rattle.grid_core.specs.Diagram.{Diagram}
use Rattle.grid_core.specs.Trefoils.{left_trefoil}
use Rattle.grid_laws.proofs.WorkedDiagrams.{unknot}
use Rattle.grid_moves.specs.declared.step.Move.{Move}
use Rattle.grid_moves.specs.declared.step.Move.TheVariants.{ExchangeColumns, ExchangeRows, SlideColumns, SlideRows, Destabilise}
use Rattle.next_moves.specs.Tries.{Try, tries, try_column_exchange, try_column_slide, try_row_exchange, try_destabilisation}
use Rattle.next_moves.specs.Offers.{is_offered}

-- the last column and the first are exchanged behind a shift by 1
last_columns : try_column_exchange 4 3 ≡ record { before = (1, 0); step = ExchangeColumns 2 }
last_columns = refl

last_slide : try_column_slide 4 3 ≡ record { before = (1, 0); step = SlideColumns 2 }
last_slide = refl

first_rows : try_row_exchange 4 0 ≡ record { before = (0, 0); step = ExchangeRows 0 }
first_rows = refl

last_block : try_destabilisation 4 3 3 ≡ record { before = (1, 1); step = Destabilise 2 2 }
last_block = refl

-- 2n exchanges and 2n slides, n blocks for each column, 8n stabilisations
as_many : length (tries 5) ≡ 85
as_many = refl

-- the left trefoil is offered nothing of its own size, and with one more column each stabilisation
no_neighbour : filter (is_offered left_trefoil 5) (tries 5) ≡ []
no_neighbour = refl

forty : length (filter (is_offered left_trefoil 6) (tries 5)) ≡ 40
forty = refl

nothing_from_the_unknot : filter (is_offered unknot 2) (tries 2) ≡ []
nothing_from_the_unknot = refl

-- an unknot of three columns: its six blocks with three marks, of which three lie across the cut
abbrev three : Diagram
three = record { x = 0 ∷ 1 ∷ 2 ∷ []; o = 1 ∷ 2 ∷ 0 ∷ [] }

abbrev tried : ℕ × ℕ → Move → Try
tried before step = record { before = before; step = step }

-- all its neighbours share one row or one column, and slide
six_slides : take 6 (filter (is_offered three 3) (tries 3)) ≡ tried (0, 0) (SlideColumns 0) ∷ tried (0, 0) (SlideColumns 1) ∷ tried (1, 0)
    (SlideColumns 1) ∷ tried (0, 0) (SlideRows 0) ∷ tried (0, 0) (SlideRows 1) ∷ tried (0, 1) (SlideRows 1) ∷ []
six_slides = refl

six_blocks : drop 6 (filter (is_offered three 3) (tries 3)) ≡ tried (0, 0) (Destabilise 0 0) ∷ tried (0, 0) (Destabilise 0 1) ∷ tried (0, 0)
    (Destabilise 1 1) ∷ tried (0, 1) (Destabilise 1 1) ∷ tried (1, 0) (Destabilise 1 0) ∷ tried (1, 1) (Destabilise 1 1) ∷ []
six_blocks = refl

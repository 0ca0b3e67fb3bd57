use Rattle.grid_moves.specs.declared.step.Move.TheVariants.{ExchangeColumns, ExchangeRows, SlideColumns, SlideRows}
use Rattle.grid_moves.proofs.OneResult.{step_moved}
use Rattle.grid_laws.proofs.moves.what_trades_places_is_in_the_others_place.Goals as goal

pub returns-clause-columns : goal.returns-clause-columns
returns-clause-columns c = λ d e k step. step_moved d (ExchangeColumns k) e step

pub returns-clause-rows : goal.returns-clause-rows
returns-clause-rows c = λ d e k step. step_moved d (ExchangeRows k) e step

pub returns-clause-slid_columns : goal.returns-clause-slid_columns
returns-clause-slid_columns c = λ d e k step. step_moved d (SlideColumns k) e step

pub returns-clause-slid_rows : goal.returns-clause-slid_rows
returns-clause-slid_rows c = λ d e k step. step_moved d (SlideRows k) e step

use Rattle.text_items.specs.Grids.{grid_item}
use Rattle.text_items.specs.Braids.{braid_item}
use Rattle.verdict_text.specs.Moves.{moves_item}
use Rattle.knot_text.specs.BraidSteps.{steps_item}
use Rattle.text_items.specs.Quandles.{quandle_item}
use Rattle.knot_text.specs.Colours.{colours_item}
use Rattle.verdict_text.specs.Verdicts.{verdict_item}
use Rattle.verdict_text.specs.Diagrams.{diagram_item}
use Rattle.knot_text.proofs.Steady.{stable}
use Rattle.knot_text.proofs.ItemsSteady.{grid_steady, braid_steady, moves_steady, quandle_steady, colours_steady, verdict_steady}
use Rattle.knot_text.proofs.ShapesFail.{diagram_steady}
use Rattle.knot_text.proofs.BraidChecksFail.{steps_steady}
use Rattle.text_laws.proofs.laws.items_are_read_whatever_stands_behind.Goals as goal

pub returns-clause-grid : goal.returns-clause-grid
returns-clause-grid c = stable grid_item grid_steady

pub returns-clause-braid : goal.returns-clause-braid
returns-clause-braid c = stable braid_item braid_steady

pub returns-clause-diagram : goal.returns-clause-diagram
returns-clause-diagram c = stable diagram_item diagram_steady

pub returns-clause-quandle : goal.returns-clause-quandle
returns-clause-quandle c = stable quandle_item quandle_steady

pub returns-clause-moves : goal.returns-clause-moves
returns-clause-moves c = stable moves_item moves_steady

pub returns-clause-colours : goal.returns-clause-colours
returns-clause-colours c = λ width order. stable (colours_item width order) (colours_steady width order)

pub returns-clause-verdict : goal.returns-clause-verdict
returns-clause-verdict c = λ one two. stable (verdict_item one two) (verdict_steady one two)

pub returns-clause-steps : goal.returns-clause-steps
returns-clause-steps c = stable steps_item steps_steady

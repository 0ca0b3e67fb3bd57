use Rattle.knot_text.proofs.ItemsSay.{grid_says, braid_says, moves_say, colours_say}
use Rattle.text_laws.proofs.StepsSay.{steps_say}
use Rattle.text_laws.proofs.StepsWritten.{steps_written}
use Rattle.knot_text.proofs.QuandleSays.{quandle_says}
use Rattle.knot_text.proofs.VerdictSays.{verdict_says}
use Rattle.knot_text.proofs.ShapesSay.{diagram_says}
use Rattle.text_laws.proofs.WrittenAgain.{grid_written, braid_written, moves_written, quandle_written, colours_written, verdict_written}
use Rattle.text_laws.proofs.ShapesAgain.{diagram_written}
use Rattle.text_laws.proofs.laws.what_is_read_is_written_there.Goals as goal

pub returns-clause-grid : goal.returns-clause-grid
returns-clause-grid c = λ text d rest. ((grid_says text).of (d, rest), λ w. grid_written text d rest w.0 w.1)

pub returns-clause-braid : goal.returns-clause-braid
returns-clause-braid c = λ text b rest. ((braid_says text).of (b, rest), λ w. braid_written text b rest w.0 w.1)

pub returns-clause-diagram : goal.returns-clause-diagram
returns-clause-diagram c = λ text d rest. ((diagram_says text).of (d, rest), λ w. diagram_written text d rest w.0 w.1)

pub returns-clause-moves : goal.returns-clause-moves
returns-clause-moves c = λ text moves rest. ((moves_say text).of (moves, rest), λ w. moves_written text moves rest w.0 w.1)

pub returns-clause-steps : goal.returns-clause-steps
returns-clause-steps c = λ text steps rest. ((steps_say text).of (steps, rest), λ w. steps_written text steps rest w.0 w.1)

pub returns-clause-quandle : goal.returns-clause-quandle
returns-clause-quandle c = λ text q rest. ((quandle_says text).of (q, rest), λ w. quandle_written text q rest w.0 w.1)

pub returns-clause-colours : goal.returns-clause-colours
returns-clause-colours c = λ width order text colours rest fits most.
    ((colours_say width order text).of (colours, rest), λ w. colours_written width order text colours rest fits most w.0 w.1)

pub returns-clause-verdict : goal.returns-clause-verdict
returns-clause-verdict c = λ one two text v rest. (
  (λ is. let judged = (verdict_says one two text).of (v, rest) is in (judged.version, (judged.has, judged.there))),
  (λ w. verdict_written w.0 one two text v rest w.1.0 w.1.1),
)

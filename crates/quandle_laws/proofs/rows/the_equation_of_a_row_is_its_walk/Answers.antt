use Rattle.std.proofs.Common.{◌∙◌, ◌==◌, sym, ap}
use Rattle.grid_core.proofs.Ends.{has_ends}
use Rattle.colour_rows.proofs.Equations.{walk_same, walk_back_same}
use Rattle.colour_rows.proofs.Walks.{closes_left}
use Rattle.quandle_laws.proofs.rows.the_equation_of_a_row_is_its_walk.Goals as goal

pub returns-clause-forth : goal.returns-clause-forth
returns-clause-forth c = walk_same

pub returns-clause-back : goal.returns-clause-back
returns-clause-back c = λ t d f r a q grid lt long below at.
    closes_left t d f r a q (has_ends d grid r lt) long below at ∙ ap (λ w. w == a) (sym (walk_back_same t d f r))

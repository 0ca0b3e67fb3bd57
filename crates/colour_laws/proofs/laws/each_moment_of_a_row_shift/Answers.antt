use Rattle.std.proofs.Common.{sym, arith}
use Rattle.grid_moves.specs.declared.step.Move.TheVariants.{ShiftRows}
use Rattle.grid_moves.proofs.OneResult.{step_moved}
use Rattle.colour_laws.proofs.RowShiftSteps.{fallen_is}
use Rattle.colour_laws.proofs.laws.each_moment_of_a_row_shift.Goals as goal

pub returns-clause-before : goal.returns-clause-before
returns-clause-before c = λ d grid. sym (fallen_is d grid 0 (omega arith))

pub returns-clause-later : goal.returns-clause-later
returns-clause-later c = λ d e k step. step_moved d (ShiftRows k) e step

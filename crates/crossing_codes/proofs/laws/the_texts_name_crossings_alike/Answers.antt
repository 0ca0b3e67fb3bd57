use Rattle.crossing_codes.specs.Printed.{crossing_number}
use Rattle.crossing_codes.proofs.CrossingLines.{numbered_line, token_is, sign_is}
use Rattle.crossing_codes.proofs.laws.the_texts_name_crossings_alike.Goals as goal

pub returns-clause-number : goal.returns-clause-number
returns-clause-number c = λ d over at grid h. (crossing_number d at.column at.row, token_is d over at, numbered_line d grid at h)

pub returns-clause-sign : goal.returns-clause-sign
returns-clause-sign c = sign_is

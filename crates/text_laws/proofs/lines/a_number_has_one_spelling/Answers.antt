use Rattle.knot_text.proofs.NumberTexts.{decimal_read, number_spelling, number_range, read_by_form}
use Rattle.text_laws.proofs.lines.a_number_has_one_spelling.Goals as goal

pub returns-clause-read : goal.returns-clause-read
returns-clause-read c = decimal_read

pub returns-clause-only : goal.returns-clause-only
returns-clause-only c = number_spelling

pub returns-clause-long : goal.returns-clause-long
returns-clause-long c = number_range

pub returns-clause-form : goal.returns-clause-form
returns-clause-form c = read_by_form

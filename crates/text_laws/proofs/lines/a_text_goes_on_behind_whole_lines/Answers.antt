use Rattle.knot_text.proofs.Parted.{text_lines_parted, text_ending_parted}
use Rattle.text_laws.proofs.lines.a_text_goes_on_behind_whole_lines.Goals as goal

pub returns-clause-lines : goal.returns-clause-lines
returns-clause-lines c = text_lines_parted

pub returns-clause-ending : goal.returns-clause-ending
returns-clause-ending c = text_ending_parted

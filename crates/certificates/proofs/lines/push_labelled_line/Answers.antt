use Rattle.std.proofs.Common.{rules, append_assoc}
use Rattle.std.proofs.lemmas.Result.{IfOk-equal}
use Rattle.text_lines.proofs.LineTexts.{spaced_numbers}
use Rattle.certificates.proofs.lines.push_labelled_line.Goals as goal

pub returns : goal.returns
returns c = search (rules, IfOk-equal, append_assoc, spaced_numbers)

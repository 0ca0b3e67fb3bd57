use Rattle.std.proofs.Common.{◌∙◌, sym}
use Rattle.text_lines.proofs.Digits.{number_digits}
use Rattle.text_lines.proofs.numbers.number.Goals as goal

pub value-requires-clause-digits : goal.value-requires-clause-digits
value-requires-clause-digits c = number_digits c.args.token.now (sym c.is_number.ensures ∙ c.if-not-is_number.false)

use Rattle.std.proofs.Common.{◌≡◌, ◌++◌, map, take}
use Rattle.std.specs.List.{flat_map}
use Rattle.text_lines.specs.Spelled.{spaced}
use Rattle.knot_text.specs.Printed.{letter_token}
use Rattle.certificates.proofs.printed.push_letters.Given as goal

abbrev pub invariant-loop-letter : goal.invariant-loop-letter
invariant-loop-letter l = l.out.items ≡ l.fn.out.items ++ flat_map spaced (map letter_token (take l.letter-index l.letters))

use Rattle.std.proofs.Common.{◌≡◌, List, length}
use Rattle.text_items.specs.Reading.{each_token}
use Rattle.text_items.proofs.Values.{GoesOn}
use Rattle.code_text.specs.declared.gauss_lines.GaussPassage.{GaussPassage}
use Rattle.code_text.specs.GaussLines.{passage_of}
use Rattle.code_text.proofs.gauss_lines.passages.Given as goal

abbrev pub invariant-loop-token : goal.invariant-loop-token
invariant-loop-token l =
    GoesOn passage_of (λ (found : List GaussPassage). l.found.items ≡ found) l.line.tokens
    (each_token passage_of l.fn.line.number l.fn.line.tokens) l.fn.line.number

abbrev pub decreases-loop-token : goal.decreases-loop-token
decreases-loop-token l = length l.line.tokens

use Rattle.std.proofs.Common.{◌≡◌, ◌++◌, map, take}
use Rattle.std.specs.Fmt.{decimal}
use Rattle.text_lines.specs.Spelled.{lines_text}
use Rattle.knot_text.proofs.printed.push_colourings.Given as goal

abbrev pub invariant-loop-colours : goal.invariant-loop-colours
invariant-loop-colours l = l.out.items ≡ l.fn.out.items ++ lines_text (map (λ c. map decimal c.items) (take l.colours-index l.colourings))

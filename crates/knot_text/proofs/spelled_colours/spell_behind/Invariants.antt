use Rattle.std.proofs.Common.{◌≡◌, ◌≤◌, ◌+◌, ◌*◌, ◌++◌, length, take}
use Rattle.std.specs.List.{flat_map}
use Rattle.std.specs.Fmt.{decimal}
use Rattle.text_lines.specs.Spelled.{spaced}
use Rattle.knot_text.proofs.spelled_colours.spell_behind.Given as goal

abbrev pub invariant-loop-colour : goal.invariant-loop-colour
invariant-loop-colour l =
    (l.line.items ≡ l.fn.line.items ++ flat_map (λ n. spaced (decimal n)) (take l.colour-index l.colours))
    × (length l.line.items ≤ length l.fn.line.items + 4 * l.colour-index)

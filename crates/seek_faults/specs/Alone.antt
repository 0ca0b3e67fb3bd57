-- Whether a text is one diagram and no more, by the lines that are kept of it.
use Rattle.std.specs.Prelude.{if◌then◌else◌, List, [], ◌∷◌, Result, Ok, Err, codes}
use Rattle.text_lines.specs.Lines.{NumberedLine, starts}
use Rattle.seek_faults.specs.declared.alone.NotOne.{NotOne}
use Rattle.seek_faults.specs.declared.alone.NotOne.TheVariants.{Nothing, Half, More}

-- behind a diagram no line may stand
abbrev pub nothing_more : List NumberedLine → Result (Unit {0}) NotOne
nothing_more [] = Ok tt
nothing_more (line ∷ lines) = Err (More line.number)

-- behind the Xs of a grid one line is due, and behind that none
abbrev pub one_line_more : List NumberedLine → Result (Unit {0}) NotOne
one_line_more [] = Err Half
one_line_more (line ∷ lines) = nothing_more lines

-- a grid has two lines and a braid one; a text that begins otherwise is not told apart here
abbrev pub one_diagram : List NumberedLine → Result (Unit {0}) NotOne
one_diagram [] = Err Nothing
one_diagram (line ∷ lines) =
    if starts (codes "x") line.tokens then one_line_more lines
    else if starts (codes "braid") line.tokens then nothing_more lines
    else Ok tt

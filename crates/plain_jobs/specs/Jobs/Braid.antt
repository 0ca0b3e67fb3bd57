-- The job `braid`: a diagram and quandles are answered by the braid word of the diagram and the fixed points of the word's action.
use Rattle.std.specs.Prelude.{◌≡◌, ℕ, List, ◌++◌, codes, if◌then◌else◌}
use Rattle.std.specs.List.{flat_map}
use Rattle.grid_core.specs.Diagram.{Diagram}
use Rattle.grid_core.specs.Parts.{bottoms}
use Rattle.quandle_core.specs.Quandle.{Table}
use Rattle.colour_list.specs.Fits.{fits}
use Rattle.braid_core.specs.FixedPoints.{fixed_points}
use Rattle.grid_braid.specs.Word.{word_of_diagram}
use Rattle.text_lines.specs.Spelled.{lines_text}
use Rattle.knot_text.specs.declared.shapes.ColourText.{ColourText}
use Rattle.quandle_core.specs.Names.{NamedQuandle}
use Rattle.knot_text.specs.Printed.{braid_text, quandle_lines}
use Rattle.verdict_core.specs.Diagrams.{grid_of}
use Rattle.reply_text.specs.declared.reply.PlainReply.{PlainReply}
use Rattle.plain_jobs.specs.Lines.{listing_lines, wide_lines}
use Rattle.reply_text.specs.Reply.{done}

-- all tuples of colours, in lexicographic order, that the action of a diagram's word takes to themselves, or the diagram's number of
-- bottoms, where there are too many choices of a colour for each
abbrev pub word_fixed_lines : Diagram → Table → List (List (List ℕ))
word_fixed_lines d t = if fits t d then listing_lines (fixed_points t (word_of_diagram d)) else wide_lines (bottoms d)

-- a quandle, and all fixed points by it
abbrev pub word_fixed_text : Diagram → NamedQuandle → List ℕ
word_fixed_text d q = lines_text (quandle_lines (codes "quandle") q ++ word_fixed_lines d q.table)

-- the word, and the fixed points by each quandle
abbrev pub word_text : Diagram → List NamedQuandle → List ℕ
word_text d quandles = braid_text (word_of_diagram d) ++ flat_map (word_fixed_text d) quandles

abbrev pub AnswersBraid : ColourText → PlainReply → Type 0
AnswersBraid input reply = reply ≡ done (word_text (grid_of input.diagram) input.quandles)

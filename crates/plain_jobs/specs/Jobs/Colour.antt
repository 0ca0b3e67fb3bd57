-- The job `colour`: a diagram and quandles are answered by the colourings.
use Rattle.std.specs.Prelude.{◌≡◌, ℕ, List, ◌++◌, codes, if◌then◌else◌}
use Rattle.std.specs.List.{flat_map}
use Rattle.grid_core.specs.Diagram.{Diagram}
use Rattle.grid_core.specs.Parts.{bottoms}
use Rattle.quandle_core.specs.Quandle.{Table}
use Rattle.colour_list.specs.Fits.{fits}
use Rattle.colour_list.specs.Listing.{colourings}
use Rattle.text_lines.specs.Spelled.{lines_text}
use Rattle.knot_text.specs.declared.shapes.ColourText.{ColourText}
use Rattle.quandle_core.specs.Names.{NamedQuandle}
use Rattle.knot_text.specs.Printed.{quandle_lines}
use Rattle.verdict_core.specs.Diagrams.{grid_of}
use Rattle.reply_text.specs.declared.reply.PlainReply.{PlainReply}
use Rattle.plain_jobs.specs.Lines.{listing_lines, wide_lines}
use Rattle.reply_text.specs.Reply.{done}

-- all colourings of a diagram, or its number of bottoms, where there are too many choices to try
abbrev pub colourings_lines : Diagram → Table → List (List (List ℕ))
colourings_lines d t = if fits t d then listing_lines (colourings t d) else wide_lines (bottoms d)

-- a quandle, and all colourings of a diagram by it
abbrev pub listed_text : Diagram → NamedQuandle → List ℕ
listed_text d q = lines_text (quandle_lines (codes "quandle") q ++ colourings_lines d q.table)

-- each quandle, and all colourings of a diagram by it
abbrev pub colour_text : Diagram → List NamedQuandle → List ℕ
colour_text d quandles = flat_map (listed_text d) quandles

abbrev pub AnswersColour : ColourText → PlainReply → Type 0
AnswersColour input reply = reply ≡ done (colour_text (grid_of input.diagram) input.quandles)

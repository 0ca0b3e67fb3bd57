-- The job `weights`: two diagrams, a quandle and a cocycle of it, of either kind, are answered by the weights of the colourings of each diagram,
-- and whether these differ.
use Rattle.std.specs.Prelude.{◌≡◌, ℕ, List, [], ◌∷◌, ◌++◌, codes, map, if◌then◌else◌}
use Rattle.std.specs.Fmt.{decimal}
use Rattle.grid_core.specs.Diagram.{Diagram as Marks}
use Rattle.grid_core.specs.Parts.{bottoms}
use Rattle.colour_list.specs.Fits.{fits}
use Rattle.colour_list.specs.Listing.{is_same}
use Rattle.quandle_core.specs.Quandle.{Table}
use Rattle.colour_weights.specs.Weights.{weights}
use Rattle.colour_weights.specs.ShadowWeights.{shadow_weights}
use Rattle.text_lines.specs.Spelled.{line_text}
use Rattle.verdict_core.specs.Diagrams.{grid_of}
use Rattle.number_text.specs.declared.weighed.Weighing.{Weighing}
use Rattle.number_text.specs.declared.weighed.Weighing.TheVariants.{Strands, Regions}
use Rattle.number_text.specs.declared.weighed.WeighedText.{WeighedText}
use Rattle.reply_text.specs.declared.reply.PlainReply.{PlainReply}
use Rattle.plain_jobs.specs.Comparison.{compared_line}
use Rattle.reply_text.specs.Reply.{done}

-- for each weight, from 0 on, how many colourings have it, or how many pairs of a colouring and a colour of the outer region
abbrev pub weights_by : Weighing → Marks → List ℕ
weights_by (Strands w) d = weights w d
weights_by (Regions s) d = shadow_weights s.cocycle d

-- the quandle that gives the colours
abbrev pub table_by : Weighing → Table
table_by (Strands w) = w.quandle
table_by (Regions s) = s.cocycle.quandle

abbrev pub weights_line : Weighing → Marks → List ℕ
weights_line w d = line_text (codes "weights" ∷ map decimal (weights_by w d))

-- the weights of both, and whether they are alike: equal, place by place
abbrev pub weighed_text : Weighing → Marks → Marks → List ℕ
weighed_text w d e = weights_line w d ++ (weights_line w e ++ compared_line (is_same (weights_by w d) (weights_by w e)))

-- which of the two diagrams has too many choices of a colour for each bottom, and its number of bottoms
abbrev pub wide_diagram_line : ℕ → Marks → List ℕ
wide_diagram_line which d = line_text (codes "wide" ∷ decimal which ∷ decimal (bottoms d) ∷ [])

-- the first diagram that the quandle doesn't fit decides
abbrev pub weights_text : Weighing → Marks → Marks → List ℕ
weights_text w d e =
    if fits (table_by w) d then (if fits (table_by w) e then weighed_text w d e else wide_diagram_line 2 e) else wide_diagram_line 1 d

abbrev pub AnswersWeights : WeighedText → PlainReply → Type 0
AnswersWeights input reply = reply ≡ done (weights_text input.cocycle (grid_of input.first) (grid_of input.second))

-- Of each whole text that was read, the items are written there in order, and nothing else.
use Rattle.std.proofs.Common.{◌≡◌, ℕ, List, [], ◌∷◌, ◌++◌, Some, None, refl, ap, ◌∙◌, codes}
use Rattle.std.proofs.lemmas.List.{append-nil}
use Rattle.arrayvec.specs.ArrayVec.{ArrayVec}
use Rattle.braid_core.specs.Braid.{IsBraid}
use Rattle.grid_core.specs.Diagram.{IsGrid}
use Rattle.colour_rows.specs.Colouring.{AreColours}
use Rattle.text_lines.specs.Lines.{NumberedLine, Text, begins}
use Rattle.verdict_core.specs.declared.diagrams.Diagram.TheVariants.{Grid, Braid}
use Rattle.text_items.specs.declared.quandles.TheConstants.{MAX_QUANDLES}
use Rattle.verdict_core.specs.declared.problem.ProblemText.{ProblemText}
use Rattle.quandle_core.specs.Names.{NamedQuandle}
use Rattle.text_items.specs.Quandles.{or_built_in}
use Rattle.text_items.specs.Reading.{no_line_among, text_end}
use Rattle.text_items.specs.Quandles.{quandle_list}
use Rattle.knot_text.specs.Colours.{coloured_item, coloured}
use Rattle.verdict_core.specs.Diagrams.{column_count}
use Rattle.verdict_text.specs.Diagrams.{diagram_item}
use Rattle.verdict_text.specs.Problems.{problem_item, problem_in, check_in}
use Rattle.knot_text.specs.Shapes.{replay_in, colour_in, close_in, lone_diagram_in}
use Rattle.knot_text.specs.Pairs.{pair_in}
use Rattle.knot_text.specs.Printed.{grid_lines, moves_lines, HaveMovesText, quandle_lines, HasQuandleText}
use Rattle.knot_text.specs.Printed.{braid_lines, diagram_lines, HasDiagramText, colours_lines}
use Rattle.knot_text.specs.WrittenThere.{tokens_by_line, StandInFront, AreListed, listed_lines, HasProblemText, problem_lines}
use Rattle.knot_text.specs.WrittenThere.{IsProblemText, IsCheckText, given_lines, HasGivenText, HasReplayText, replay_lines, IsColourText}
use Rattle.knot_text.specs.WrittenThere.{IsCloseText, IsPairText}
use Rattle.knot_text.proofs.Says.{Says, says_ok, says_err, says_bind, says_if, no_lines_in_front, in_front_of}
use Rattle.knot_text.proofs.ItemsSay.{IsWritten, grid_says, braid_says, moves_say, colours_say}
use Rattle.knot_text.proofs.QuandleSays.{AreItems, quandle_says, quandles_say}
use Rattle.knot_text.proofs.VerdictSays.{IsJudged, verdict_says}

-- ---- the end

none_says : (lines : List NumberedLine) → Says (no_line_among lines) (λ end. lines ≡ [])
none_says [] = says_ok tt refl
none_says (line ∷ lines) = says_err

pub end_says : (text : Text) → Says (text_end text) (λ end. text.lines ≡ [])
unfolding text_end
end_says text = none_says text.lines

-- the lines in front of the end are all lines
pub all_lines : {printed : List (List (List ℕ))} {text rest : Text} → StandInFront printed text rest → rest.lines ≡ [] → tokens_by_line text.lines ≡ printed
all_lines there none = ap tokens_by_line (there.lines ∙ ap (λ (ls : List NumberedLine). there.front ++ ls) none ∙ append-nil there.front) ∙ there.tokens

-- ---- diagrams, lists of quandles, colours

pub diagram_says : (text : Text) → Says (diagram_item text) (IsWritten HasDiagramText diagram_lines text)
unfolding diagram_item
diagram_says text = says_if (begins (codes "braid") text)
    (λ braid. says_bind (IsWritten IsBraid braid_lines text) (braid_says text) (λ b is. says_ok (Braid b.0, b.1) is))
    (λ grid. says_bind (IsWritten IsGrid grid_lines text) (grid_says text) (λ d is. says_ok (Grid d.0, d.1) is))

-- the quandles that were listed, which the value may not show
record IsList (text : Text) (x : List NamedQuandle × Text) : Type 0 where
  listed : List NamedQuandle
  are : AreListed listed x.0
  there : StandInFront (listed_lines listed) text x.1

list_says : (text : Text) → Says (quandle_list text) (IsList text)
unfolding quandle_list
list_says text = says_bind (AreItems MAX_QUANDLES text) (quandles_say MAX_QUANDLES text) (λ listed are.
    says_ok (or_built_in listed.0, listed.1) (record { listed = listed.0; are = record { few = are.few; each = are.each; stand = refl }; there = are.there }))

given_says : (width : ℕ) (text : Text) → Says (coloured width text) (IsWritten (HasGivenText width) given_lines text)
unfolding coloured coloured_item
given_says width text = says_if (begins (codes "quandle") text)
    (λ more. says_bind (λ (g : (NamedQuandle × ArrayVec ℕ) × Text). IsWritten (HasGivenText width) given_lines text (Some g.0, g.1))
    (says_bind (IsWritten HasQuandleText (quandle_lines (codes "quandle")) text) (quandle_says text) (λ q quandle.
    says_bind (IsWritten (λ c. AreColours width q.0.table.order c.items) colours_lines q.1) (colours_say width q.0.table.order q.1) (λ c colours.
    says_ok ((q.0, c.0), c.1) ((quandle.0, colours.0), in_front_of quandle.1 colours.1))))
    (λ g is. says_ok (Some g.0, g.1) is))
    (λ none. says_ok (None, text) (tt, no_lines_in_front text))

-- ---- problems

record IsProblem (text : Text) (x : ProblemText × Text) : Type 0 where
  listed : List NamedQuandle
  has : HasProblemText listed x.0
  there : StandInFront (problem_lines listed x.0) text x.1

problem_says : (text : Text) → Says (problem_item text) (IsProblem text)
unfolding problem_item
problem_says text = says_bind (IsWritten HasDiagramText diagram_lines text) (diagram_says text) (λ first a.
    says_bind (IsWritten HasDiagramText diagram_lines first.1) (diagram_says first.1) (λ second b.
    says_bind (IsList second.1) (list_says second.1) (λ list c.
    says_ok (record { first = first.0; second = second.0; quandles = list.0 }, list.1) (record {
      listed = c.listed;
      has = record { first = a.0; second = b.0; quandles = c.are };
      there = in_front_of a.1 (in_front_of b.1 c.there);
    }))))

pub problem_in_says : (text : Text) → Says (problem_in text) (λ p. IsProblemText (tokens_by_line text.lines) p)
unfolding problem_in
problem_in_says text = says_bind (IsProblem text) (problem_says text) (λ p is.
    says_bind (λ (end : Unit {0}). p.1.lines ≡ []) (end_says p.1) (λ end none.
    says_ok p.0 (is.listed, is.has, all_lines is.there none)))

pub check_in_says : (text : Text) → Says (check_in text) (λ c. IsCheckText (tokens_by_line text.lines) c.0 c.1)
unfolding check_in
check_in_says text = says_bind (IsProblem text) (problem_says text) (λ p is.
    says_bind (IsJudged (column_count p.0.first) (column_count p.0.second) p.1) (verdict_says (column_count p.0.first) (column_count p.0.second) p.1)
    (λ v judged.
    says_bind (λ (end : Unit {0}). v.1.lines ≡ []) (end_says v.1) (λ end none.
    says_ok (p.0, v.0) (is.listed, is.has, (judged.version, judged.has, all_lines (in_front_of is.there judged.there) none)))))

-- ---- the other shapes

pub replay_in_says : (text : Text) → Says (replay_in text) (λ r. HasReplayText r × (tokens_by_line text.lines ≡ replay_lines r))
unfolding replay_in
replay_in_says text = says_bind (IsWritten HasDiagramText diagram_lines text) (diagram_says text) (λ d a.
    says_bind (IsWritten HaveMovesText (moves_lines (codes "moves")) d.1) (moves_say d.1) (λ moves b.
    says_bind (IsWritten (HasGivenText (column_count d.0)) given_lines moves.1) (given_says (column_count d.0) moves.1) (λ given c.
    says_bind (λ (end : Unit {0}). given.1.lines ≡ []) (end_says given.1) (λ end none.
    says_ok (record { diagram = d.0; moves = moves.0; colours = given.0 })
    (record { diagram = a.0; moves = b.0; colours = c.0 }, all_lines (in_front_of a.1 (in_front_of b.1 c.1)) none)))))

pub colour_in_says : (text : Text) → Says (colour_in text) (λ c. IsColourText (tokens_by_line text.lines) c)
unfolding colour_in
colour_in_says text = says_bind (IsWritten HasDiagramText diagram_lines text) (diagram_says text) (λ d a.
    says_bind (IsList d.1) (list_says d.1) (λ list b.
    says_bind (λ (end : Unit {0}). list.1.lines ≡ []) (end_says list.1) (λ end none.
    says_ok (record { diagram = d.0; quandles = list.0 }) (b.listed, a.0, b.are, all_lines (in_front_of a.1 b.there) none))))

pub close_in_says : (text : Text) → Says (close_in text) (λ c. IsCloseText (tokens_by_line text.lines) c)
unfolding close_in
close_in_says text = says_bind (IsWritten IsBraid braid_lines text) (braid_says text) (λ d a.
    says_bind (IsList d.1) (list_says d.1) (λ list b.
    says_bind (λ (end : Unit {0}). list.1.lines ≡ []) (end_says list.1) (λ end none.
    says_ok (record { braid = d.0; quandles = list.0 }) (b.listed, a.0, b.are, all_lines (in_front_of a.1 b.there) none))))

pub lone_diagram_in_says : (text : Text) → Says (lone_diagram_in text) (λ d. HasDiagramText d × (tokens_by_line text.lines ≡ diagram_lines d))
unfolding lone_diagram_in
lone_diagram_in_says text = says_bind (IsWritten HasDiagramText diagram_lines text) (diagram_says text) (λ d a.
    says_bind (λ (end : Unit {0}). d.1.lines ≡ []) (end_says d.1) (λ end none.
    says_ok d.0 (a.0, all_lines a.1 none)))

pub pair_in_says : (text : Text) → Says (pair_in text) (λ p. IsPairText (tokens_by_line text.lines) p)
unfolding pair_in
pair_in_says text = says_bind (IsWritten HasDiagramText diagram_lines text) (diagram_says text) (λ d a.
    says_bind (IsWritten HasDiagramText diagram_lines d.1) (diagram_says d.1) (λ e b.
    says_bind (λ (end : Unit {0}). e.1.lines ≡ []) (end_says e.1) (λ end none.
    says_ok (d.0, e.0) (a.0, b.0, all_lines (in_front_of a.1 b.1) none))))

-- Whole texts that were printed are read.
use Rattle.std.proofs.Common.{◌≡◌, ℕ, ◌≤◌, ◌<◌, List, [], ◌∷◌, ◌++◌, true, Option, Some, None, Ok, refl, sym, ap, ◌∙◌, arith, codes}
use Rattle.std.specs.List.{AllByRecursion, list_all}
use Rattle.std.proofs.lemmas.Bool.{and_parts, and_from}
use Rattle.std.proofs.lemmas.List.{append-nil}
use Rattle.std.proofs.lemmas.List.Concat.{flat_map-append}
use Rattle.std.proofs.lemmas.List.Elements.{recursion_from_All}
use Rattle.arrayvec.specs.ArrayVec.{ArrayVec}
use Rattle.grid_core.specs.Diagram.{Diagram as Marks, IsGrid, size}
use Rattle.quandle_core.specs.declared.quandle.TheConstants.{MAX_ORDER}
use Rattle.colour_rows.specs.Colouring.{AreColours}
use Rattle.grid_moves.specs.declared.step.Move.{Move}
use Rattle.text_lines.specs.Lines.{text_of}
use Rattle.text_lines.specs.Spelled.{lines_text, line_text, is_line, numbered}
use Rattle.knot_text.proofs.Written.{lines_read}
use Rattle.verdict_core.specs.declared.diagrams.Diagram.{Diagram}
use Rattle.verdict_core.specs.declared.diagrams.Diagram.TheVariants.{Grid, Braid}
use Rattle.verdict_core.specs.declared.verdict.Verdict.{Verdict}
use Rattle.verdict_core.specs.declared.verdict.Verdict.TheVariants.{Different}
use Rattle.verdict_core.specs.declared.problem.ProblemText.{ProblemText}
use Rattle.knot_text.specs.declared.shapes.ReplayText.{ReplayText}
use Rattle.quandle_core.specs.Names.{NamedQuandle}
use Rattle.verdict_core.specs.Diagrams.{column_count}
use Rattle.verdict_text.specs.Problems.{problem_of, check_of}
use Rattle.knot_text.specs.Shapes.{replay_of}
use Rattle.knot_text.specs.Printed.{grid_lines, grid_text, moves_lines, moves_text, HaveMovesText, quandle_lines, quandle_text, HasQuandleText}
use Rattle.knot_text.specs.Printed.{list_lines, verdict_lines, version_lines, HasListText, HasVersionText, diagram_lines, HasDiagramText, colours_lines}
use Rattle.knot_text.specs.Printed.{colours_text}
use Rattle.knot_text.specs.WrittenThere.{tokens_by_line, said_by, listed_lines, HasProblemText, problem_lines, given_lines, HasGivenText}
use Rattle.knot_text.specs.WrittenThere.{HasReplayText, replay_lines}
use Rattle.knot_text.proofs.StepsAgain.{all_short}
use Rattle.quandle_core.proofs.Named.{names_order}
use Rattle.knot_text.proofs.Words.{both_lines, front_lines, grid_words, moves_words, verdict_words, version_words, numbers_words}
use Rattle.verdict_text.specs.declared.verdicts.Version.{Version}
use Rattle.text_laws.proofs.BraidAgain.{braid_words}
use Rattle.text_laws.proofs.WrittenAgain.{numbered_tokens}
use Rattle.text_laws.proofs.ShapesAgain.{diagram_grid, problem_in_written, check_in_written, replay_in_written}

-- ---- the lines are lines of words

diagram_words : (d : Diagram) → HasDiagramText d → list_all is_line (diagram_lines d) ≡ true
diagram_words (Grid d) grid = grid_words d grid
diagram_words (Braid b) braid = braid_words b braid

-- the lines of a quandle are those of a verdict, but for the first word
quandle_words : (q : NamedQuandle) → HasQuandleText q → list_all is_line (quandle_lines (codes "quandle") q) ≡ true
quandle_words q fits =
    let none : HasListText 1 q.table.order [] = record { count = omega arith; each = tt } in
    let all : list_all is_line (verdict_lines (Different q [] [])) ≡ true =
    verdict_words 1 1 (Different q [] []) (omega arith) (omega arith) (fits, none, none) in
    front_lines (quandle_lines (codes "different") q) (list_lines [] ++ list_lines []) all

listed_words : (listed : List NamedQuandle) → AllByRecursion HasQuandleText listed → list_all is_line (listed_lines listed) ≡ true
listed_words [] each = refl
listed_words (q ∷ listed) each = both_lines (quandle_lines (codes "quandle") q) (listed_lines listed) (quandle_words q each.0) (listed_words listed each.1)

colours_words : (width order : ℕ) (c : ArrayVec ℕ) → order ≤ MAX_ORDER → AreColours width order c.items → list_all is_line (colours_lines c) ≡ true
colours_words width order c most are =
    let few = all_short order c.items (omega (arith, most)) (recursion_from_All (λ y. y < order) c.items are.1) in
    rw (numbers_words c.items few) refl

given_words : (width : ℕ) (given : Option (NamedQuandle × ArrayVec ℕ)) → HasGivenText width given → list_all is_line (given_lines given) ≡ true
given_words width None fits = refl
given_words width (Some given) fits =
    both_lines (quandle_lines (codes "quandle") given.0) (colours_lines given.1) (quandle_words given.0 fits.0)
    (colours_words width given.0.table.order given.1 (names_order given.0.name given.0.table fits.0.names) fits.1)

problem_words : (listed : List NamedQuandle) (p : ProblemText) → HasProblemText listed p → list_all is_line (problem_lines listed p) ≡ true
problem_words listed p has =
    both_lines (diagram_lines p.first) (diagram_lines p.second ++ listed_lines listed) (diagram_words p.first has.first)
    (both_lines (diagram_lines p.second) (listed_lines listed) (diagram_words p.second has.second) (listed_words listed has.quandles.each))

-- ---- printed lines say their tokens

pub printed_says : (lines : List (List (List ℕ))) → list_all is_line lines ≡ true → said_by (lines_text lines) ≡ lines
printed_says lines all =
    ap said_by (sym (append-nil (lines_text lines))) ∙ ap (λ t. tokens_by_line t.lines) (lines_read 0 lines [] all)
    ∙ ap tokens_by_line (append-nil (numbered 0 lines)) ∙ numbered_tokens 0 lines

pub problem_printed : (listed : List NamedQuandle) (p : ProblemText) → HasProblemText listed p → problem_of (lines_text (problem_lines listed p)) ≡ Ok p
problem_printed listed p has =
    problem_in_written (text_of (lines_text (problem_lines listed p))) p (listed, has, printed_says (problem_lines listed p) (problem_words listed p has))

pub check_printed : (version : Version) (listed : List NamedQuandle) (p : ProblemText) (v : Verdict) → HasProblemText listed p
    → HasVersionText version (column_count p.first) (column_count p.second) v
    → check_of (lines_text (problem_lines listed p ++ version_lines version v)) ≡ Ok (p, v)
check_printed version listed p v has fits =
    let some : 1 ≤ column_count p.first = omega (arith, (diagram_grid p.first has.first).least) in
    let also : 1 ≤ column_count p.second = omega (arith, (diagram_grid p.second has.second).least) in
    let lines : List (List (List ℕ)) = problem_lines listed p ++ version_lines version v in
    let words = both_lines (problem_lines listed p) (version_lines version v) (problem_words listed p has)
    (version_words version (column_count p.first) (column_count p.second) v some also fits) in
    check_in_written (text_of (lines_text lines)) p v (listed, has, (version, fits, printed_says lines words))

pub replay_printed : (r : ReplayText) → HasReplayText r → replay_of (lines_text (replay_lines r)) ≡ Ok r
replay_printed r has =
    let words = both_lines (diagram_lines r.diagram) (moves_lines (codes "moves") r.moves ++ given_lines r.colours) (diagram_words r.diagram has.diagram)
    (both_lines (moves_lines (codes "moves") r.moves) (given_lines r.colours) (moves_words r.moves has.moves)
    (given_words (column_count r.diagram) r.colours has.colours)) in
    replay_in_written (text_of (lines_text (replay_lines r))) r has (printed_says (replay_lines r) words)

-- ---- replays of a grid

-- the text of lines behind lines
text_parts : (xs ys : List (List (List ℕ))) → lines_text (xs ++ ys) ≡ lines_text xs ++ lines_text ys
text_parts xs ys = flat_map-append line_text xs ys

pub moves_replay : (d : Marks) (moves : List Move) → IsGrid d → HaveMovesText moves
    → replay_of (grid_text d ++ moves_text moves) ≡ Ok (record { diagram = Grid d; moves = moves; colours = None })
moves_replay d moves grid fits =
    let r : ReplayText = record { diagram = Grid d; moves = moves; colours = None } in
    let lines = moves_lines (codes "moves") moves in
    let text : grid_text d ++ moves_text moves ≡ lines_text (replay_lines r) =
    ap (λ ls. grid_text d ++ lines_text ls) (sym (append-nil lines)) ∙ sym (text_parts (grid_lines d) (lines ++ [])) in
    ap replay_of text ∙ replay_printed r (record { diagram = grid; moves = fits; colours = tt })

pub coloured_replay : (d : Marks) (moves : List Move) (q : NamedQuandle) (c : ArrayVec ℕ) → IsGrid d → HaveMovesText moves → HasQuandleText q
    → AreColours (size d) q.table.order c.items
    → replay_of (grid_text d ++ (moves_text moves ++ (quandle_text q ++ colours_text c)))
    ≡ Ok (record { diagram = Grid d; moves = moves; colours = Some (q, c) })
coloured_replay d moves q c grid fits has are =
    let r : ReplayText = record { diagram = Grid d; moves = moves; colours = Some (q, c) } in
    let lines = moves_lines (codes "moves") moves in
    let given = quandle_lines (codes "quandle") q ++ colours_lines c in
    let last : quandle_text q ++ colours_text c ≡ lines_text given = sym (text_parts (quandle_lines (codes "quandle") q) (colours_lines c)) in
    let behind : moves_text moves ++ (quandle_text q ++ colours_text c) ≡ lines_text (lines ++ given) =
    ap (λ (t : List ℕ). moves_text moves ++ t) last ∙ sym (text_parts lines given) in
    let text : grid_text d ++ (moves_text moves ++ (quandle_text q ++ colours_text c)) ≡ lines_text (replay_lines r) =
    ap (λ (t : List ℕ). grid_text d ++ t) behind ∙ sym (text_parts (grid_lines d) (lines ++ given)) in
    ap replay_of text ∙ replay_printed r (record { diagram = grid; moves = fits; colours = (has, are) })

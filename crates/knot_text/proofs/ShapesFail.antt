-- Each shape fails at its first bad line, and a problem is read again with a verdict behind it.
use Rattle.std.proofs.Common.{◌≡◌, ℕ, List, ◌++◌, Bool, true, false, cond, Option, Some, None, Result, Ok, Err, refl, ap, ◌∙◌, codes}
use Rattle.arrayvec.specs.ArrayVec.{ArrayVec}
use Rattle.text_lines.specs.Lines.{NumberedLine, Text, first_starts}
use Rattle.text_items.specs.declared.fault.TextFault.{TextFault}
use Rattle.verdict_core.specs.declared.diagrams.Diagram.TheVariants.{Grid, Braid}
use Rattle.verdict_core.specs.declared.problem.ProblemText.{ProblemText}
use Rattle.quandle_core.specs.Names.{NamedQuandle}
use Rattle.text_items.specs.Reading.{◌>>=◌, next_line, text_end}
use Rattle.text_items.specs.Grids.{grid_item}
use Rattle.text_items.specs.Braids.{braid_item}
use Rattle.verdict_text.specs.Moves.{moves_item}
use Rattle.text_items.specs.Quandles.{quandle_list}
use Rattle.knot_text.specs.Colours.{coloured_item, coloured}
use Rattle.verdict_text.specs.Verdicts.{verdict_item}
use Rattle.verdict_core.specs.Diagrams.{column_count}
use Rattle.verdict_text.specs.Diagrams.{braid_diagram, grid_diagram, diagram_item}
use Rattle.verdict_text.specs.Problems.{problem_item, problem_in, check_in}
use Rattle.knot_text.specs.Shapes.{replay_in, colour_in}
use Rattle.knot_text.specs.Shapes.{close_in, lone_diagram_in}
use Rattle.knot_text.specs.Pairs.{pair_in}
use Rattle.knot_text.specs.FirstBadLine.{lines_then, with_lines_behind, FailsFirst}
use Rattle.knot_text.proofs.Steady.{Anywhere, Steady, then_read, then_steady, regroup}
use Rattle.knot_text.proofs.ItemsSteady.{grid_steady, braid_steady, moves_steady, coloured_steady, verdict_steady}
use Rattle.knot_text.proofs.FirstFault.{anywhere_seen, then_fails, end_fails}
use Rattle.knot_text.proofs.Choices.{choice, IsDue, choice_steady, choice_fails, same_fails}
use Rattle.knot_text.proofs.QuandlesSteady.{AtOther, other_seen, other_behind, map_steady, list_steady}

-- ---- diagrams

braid_due : IsDue braid_diagram
unfolding braid_item next_line
braid_due ending = refl

grid_due : IsDue grid_diagram
unfolding grid_item next_line
grid_due ending = refl

pub diagram_steady : Steady Anywhere diagram_item
unfolding diagram_item
diagram_steady = choice_steady (codes "braid") braid_diagram grid_diagram braid_due grid_due (map_steady Anywhere braid_item (λ b. Braid b) braid_steady)
    (map_steady Anywhere grid_item (λ d. Grid d) grid_steady)

-- ---- problems and checks

pub problem_steady : Steady AtOther problem_item
unfolding problem_item
problem_steady =
    then_steady AtOther diagram_item (λ first. then_read diagram_item
    (λ second. then_read quandle_list (λ listed text. Ok (record { first = first; second = second; quandles = listed }, text)))) diagram_steady
    (λ first. then_steady AtOther diagram_item (λ second. then_read quandle_list
    (λ listed text. Ok (record { first = first; second = second; quandles = listed }, text))) diagram_steady
    (λ second. map_steady AtOther quandle_list (λ listed. record { first = first; second = second; quandles = listed }) list_steady))

pub problem_fails : FailsFirst problem_in
unfolding problem_in
problem_fails = then_fails AtOther problem_item (λ p text. text_end text >>= λ end. Ok p) other_seen problem_steady end_fails

pub check_fails : FailsFirst check_in
unfolding check_in
check_fails =
    then_fails AtOther problem_item (λ p text. verdict_item (column_count p.first) (column_count p.second) text >>= λ v. text_end v.1
    >>= λ end. Ok (p, v.0)) other_seen problem_steady
    (λ p. then_fails Anywhere (verdict_item (column_count p.first) (column_count p.second)) (λ v text. text_end text >>= λ end. Ok (p, v)) anywhere_seen
    (verdict_steady (column_count p.first) (column_count p.second)) (λ v. end_fails (p, v)))

-- ---- replays

-- what stands behind the moves, and the end
abbrev Given : Type 0
Given = Option (NamedQuandle × ArrayVec ℕ)

abbrev as_some : Result ((NamedQuandle × ArrayVec ℕ) × Text) TextFault → Result (Given × Text) TextFault
as_some r = r >>= λ item. Ok (Some item.0, item.1)

abbrev then_end : {B : Type 0} → (Given → B) → Result (Given × Text) TextFault → Result B TextFault
then_end make r = r >>= λ g. text_end g.1 >>= λ end. Ok (make g.0)

abbrev some_then_end : {B : Type 0} → (Given → B) → Result ((NamedQuandle × ArrayVec ℕ) × Text) TextFault → Result B TextFault
some_then_end make r = r >>= λ item. text_end item.1 >>= λ end. Ok (make (Some item.0))

abbrev none_then_end : {B : Type 0} → (Given → B) → Text → Result B TextFault
none_then_end make text = text_end text >>= λ end. Ok (make None)

flat_some : {B : Type 0} (r : Result ((NamedQuandle × ArrayVec ℕ) × Text) TextFault) (make : Given → B) → then_end make (as_some r) ≡ some_then_end make r
flat_some (Ok item) make = refl
flat_some (Err e) make = refl

flat_given : {B : Type 0} (r : Result ((NamedQuandle × ArrayVec ℕ) × Text) TextFault) (text : Text) (make : Given → B) (t : Bool)
    → then_end make (cond t (as_some r) (Ok (None, text))) ≡ cond t (some_then_end make r) (none_then_end make text)
flat_given r text make true = flat_some r make
flat_given r text make false = refl

coloured_fails : {B : Type 0} (width : ℕ) (make : Given → B) → FailsFirst (λ text. then_end make (coloured width text))
unfolding coloured
coloured_fails width make =
    let some = λ (text : Text). some_then_end make (coloured_item width text) in
    same_fails (choice (codes "quandle") some (none_then_end make)) (λ text. then_end make (coloured width text))
    (λ text. flat_given (coloured_item width text) text make (first_starts (codes "quandle") text.lines))
    (choice_fails (codes "quandle") some (none_then_end make)
    (then_fails Anywhere (coloured_item width) (λ q text. text_end text >>= λ end. Ok (make (Some q))) anywhere_seen (coloured_steady width)
    (λ q. end_fails (make (Some q))))
    (end_fails (make None)))

pub replay_fails : FailsFirst replay_in
unfolding replay_in
replay_fails =
    then_fails Anywhere diagram_item (λ d text. moves_item text >>= λ m. coloured (column_count d) m.1 >>= λ g. text_end g.1
    >>= λ end. Ok (record { diagram = d; moves = m.0; colours = g.0 })) anywhere_seen diagram_steady
    (λ d. then_fails Anywhere moves_item (λ m text. coloured (column_count d) text >>= λ g. text_end g.1
    >>= λ end. Ok (record { diagram = d; moves = m; colours = g.0 })) anywhere_seen moves_steady
    (λ m. coloured_fails (column_count d) (λ g. record { diagram = d; moves = m; colours = g })))

-- ---- listings, closures and lone diagrams

pub colour_fails : FailsFirst colour_in
unfolding colour_in
colour_fails =
    then_fails Anywhere diagram_item (λ d text. quandle_list text >>= λ q. text_end q.1
    >>= λ end. Ok (record { diagram = d; quandles = q.0 })) anywhere_seen diagram_steady
    (λ d. then_fails AtOther quandle_list (λ q text. text_end text >>= λ end. Ok (record { diagram = d; quandles = q })) other_seen list_steady
    (λ q. end_fails (record { diagram = d; quandles = q })))

pub close_fails : FailsFirst close_in
unfolding close_in
close_fails =
    then_fails Anywhere braid_item (λ b text. quandle_list text >>= λ q. text_end q.1
    >>= λ end. Ok (record { braid = b; quandles = q.0 })) anywhere_seen braid_steady
    (λ b. then_fails AtOther quandle_list (λ q text. text_end text >>= λ end. Ok (record { braid = b; quandles = q })) other_seen list_steady
    (λ q. end_fails (record { braid = b; quandles = q })))

pub lone_diagram_fails : FailsFirst lone_diagram_in
unfolding lone_diagram_in
lone_diagram_fails = then_fails Anywhere diagram_item (λ d text. text_end text >>= λ end. Ok d) anywhere_seen diagram_steady end_fails

pub pair_fails : FailsFirst pair_in
unfolding pair_in
pair_fails =
    then_fails Anywhere diagram_item (λ d text. diagram_item text >>= λ e. text_end e.1 >>= λ end. Ok (d, e.0)) anywhere_seen diagram_steady
    (λ d. then_fails Anywhere diagram_item (λ e text. text_end text >>= λ end. Ok (d, e)) anywhere_seen diagram_steady (λ e. end_fails (d, e)))

-- ---- a problem, and lines behind it that begin with no `quandle`

pub problem_stable : (text : Text) (p : ProblemText) (rest : Text) → problem_item text ≡ Ok (p, rest) → (more : List NumberedLine) (ending : ℕ)
    → AtOther more → problem_item (with_lines_behind text more ending) ≡ Ok (p, with_lines_behind rest more ending)
problem_stable text p rest is more ending other =
    let t = problem_steady.took text p rest is in
    ap (λ (ls : List NumberedLine). problem_item (lines_then (ls ++ more) ending)) t.lines
    ∙ ap problem_item (regroup t.used rest.lines more ending)
    ∙ t.again (rest.lines ++ more) ending (other_behind rest.lines more t.stops other)

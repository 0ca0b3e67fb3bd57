-- Texts are refused by their items in turn.
use Rattle.std.proofs.Common.{◌≡◌, ◌∙◌, ℕ, suc, Bool, true, false, cond, List, [], ◌∷◌, codes, Option, Some, None, Result, Ok, Err, refl}
use Rattle.text_lines.specs.Lines.{NumberedLine, Text, starts, begins}
use Rattle.verdict_core.specs.Diagrams.{column_count}
use Rattle.text_items.specs.declared.fault.TextFault.{TextFault}
use Rattle.quandle_core.specs.declared.quandle.TheConstants.{MAX_ORDER}
use Rattle.text_items.specs.declared.quandles.TheConstants.{MAX_QUANDLES}
use Rattle.text_items.specs.Reading.{◌>>=◌, next_line, next_token, word, text_end}
use Rattle.text_items.specs.Braids.{braid_item}
use Rattle.verdict_text.specs.Moves.{moves_item}
use Rattle.knot_text.specs.BraidSteps.{steps_item}
use Rattle.text_items.specs.Quandles.{quandle_at, quandle_item, surplus_quandle, quandles, quandle_list, or_built_in}
use Rattle.knot_text.specs.Colours.{colours_item, coloured_item, coloured}
use Rattle.verdict_text.specs.Verdicts.{list_item, different_at, verdict_of, verdict_item}
use Rattle.verdict_text.specs.declared.verdicts.Version.{Version}
use Rattle.verdict_text.specs.Diagrams.{diagram_item}
use Rattle.verdict_text.specs.Problems.{problem_item, problem_in, check_in}
use Rattle.knot_text.specs.Shapes.{replay_in, colour_in, close_in, lone_diagram_in}
use Rattle.knot_text.specs.Pairs.{pair_in}
use Rattle.knot_text.specs.BraidChecks.{braidcheck_in}
use Rattle.verdict_text.specs.Cocycles.{cocycle_item}
use Rattle.knot_text.specs.Weights.{weight_in}
use Rattle.text_laws.specs.LineKinds.{read_fault}
use Rattle.text_laws.specs.FirstLines.{on_top, as_quandle, item_then, surplus_among, end_fault}
use Rattle.knot_text.proofs.StepsAgain.{line_of}
use Rattle.text_laws.proofs.StepFaults.{chosen}
use Rattle.text_laws.proofs.HeadFaults.{only_fault}

then_by : {A B : Type 0} (item : Result (A × Text) TextFault) (next : A × Text → Result B TextFault) (later : A → Text → Option TextFault)
    → ((x : A × Text) → read_fault (next x) ≡ later x.0 x.1) → read_fault (item >>= next) ≡ item_then item later
then_by (Ok x) next later same = same x
then_by (Err e) next later same = refl

end_by : {A : Type 0} (value : A) (lines : List NumberedLine) (ending : ℕ)
    → read_fault (text_end (record { lines = lines; ending = ending }) >>= λ end. Ok value) ≡ surplus_among lines
unfolding text_end
end_by value [] ending = refl
end_by value (line ∷ lines) ending = refl

ends : {A : Type 0} (value : A) (text : Text) → read_fault (text_end text >>= λ end. Ok value) ≡ end_fault text
ends value text = end_by value text.lines text.ending

-- ---- whole texts

pub front_turns : (text : Text) → read_fault (problem_item text)
    ≡ item_then (diagram_item text) (λ first text. item_then (diagram_item text) (λ second text. read_fault (quandle_list text)))
unfolding problem_item
front_turns text = then_by (diagram_item text) _ _ (λ first. then_by (diagram_item first.1) _ _ (λ second. only_fault (quandle_list second.1) _))

pub problem_turns : (text : Text) → read_fault (problem_in text) ≡ item_then (problem_item text) (λ problem text. end_fault text)
unfolding problem_in
problem_turns text = then_by (problem_item text) _ _ (λ problem. ends problem.0 problem.1)

pub check_turns : (text : Text) → read_fault (check_in text) ≡ item_then (problem_item text)
    (λ problem text. item_then (verdict_item (column_count problem.first) (column_count problem.second) text) (λ verdict text. end_fault text))
unfolding check_in
check_turns text = then_by (problem_item text) _ _
    (λ problem. then_by (verdict_item (column_count problem.0.first) (column_count problem.0.second) problem.1) _ _
    (λ verdict. ends (problem.0, verdict.0) verdict.1))

pub replay_turns : (text : Text) → read_fault (replay_in text) ≡ item_then (diagram_item text)
    (λ diagram text. item_then (moves_item text) (λ moves text. item_then (coloured (column_count diagram) text) (λ colours text. end_fault text)))
unfolding replay_in
replay_turns text = then_by (diagram_item text) _ _ (λ diagram. then_by (moves_item diagram.1) _ _
    (λ moves. then_by (coloured (column_count diagram.0) moves.1) _ _
    (λ colours. ends (record { diagram = diagram.0; moves = moves.0; colours = colours.0 }) colours.1)))

pub colour_turns : (text : Text) → read_fault (colour_in text)
    ≡ item_then (diagram_item text) (λ diagram text. item_then (quandle_list text) (λ quandles text. end_fault text))
unfolding colour_in
colour_turns text = then_by (diagram_item text) _ _ (λ diagram. then_by (quandle_list diagram.1) _ _
    (λ listed. ends (record { diagram = diagram.0; quandles = listed.0 }) listed.1))

pub close_turns : (text : Text) → read_fault (close_in text)
    ≡ item_then (braid_item text) (λ braid text. item_then (quandle_list text) (λ quandles text. end_fault text))
unfolding close_in
close_turns text = then_by (braid_item text) _ _ (λ braid. then_by (quandle_list braid.1) _ _
    (λ listed. ends (record { braid = braid.0; quandles = listed.0 }) listed.1))

pub diagram_turns : (text : Text) → read_fault (lone_diagram_in text) ≡ item_then (diagram_item text) (λ diagram text. end_fault text)
unfolding lone_diagram_in
diagram_turns text = then_by (diagram_item text) _ _ (λ diagram. ends diagram.0 diagram.1)

pub pair_turns : (text : Text) → read_fault (pair_in text)
    ≡ item_then (diagram_item text) (λ first text. item_then (diagram_item text) (λ second text. end_fault text))
unfolding pair_in
pair_turns text = then_by (diagram_item text) _ _ (λ first. then_by (diagram_item first.1) _ _ (λ second. ends (first.0, second.0) second.1))

pub braidcheck_turns : (text : Text) → read_fault (braidcheck_in text) ≡ item_then (braid_item text)
    (λ first text. item_then (braid_item text) (λ second text. item_then (steps_item text) (λ steps text. end_fault text)))
unfolding braidcheck_in
braidcheck_turns text = then_by (braid_item text) _ _ (λ first. then_by (braid_item first.1) _ _ (λ second. then_by (steps_item second.1) _ _
    (λ steps. ends (record { first = first.0; second = second.0; steps = steps.0 }) steps.1)))

pub weight_turns : (text : Text) → read_fault (weight_in text) ≡ item_then (diagram_item text) (λ first text. item_then (diagram_item text)
    (λ second text. item_then (quandle_item text) (λ q text. item_then (cocycle_item q.table text) (λ cocycle text. end_fault text))))
unfolding weight_in
weight_turns text = then_by (diagram_item text) _ _ (λ first. then_by (diagram_item first.1) _ _ (λ second. then_by (quandle_item second.1) _ _
    (λ listed. then_by (cocycle_item listed.0.table listed.1) _ _
    (λ cocycle. ends (record { first = first.0; second = second.0; listed = listed.0; cocycle = cocycle.0 }) cocycle.1))))

-- ---- lists of quandles, and colours behind one

pub coloured_turns : (width : ℕ) (text : Text) → read_fault (coloured width text) ≡ cond (begins (codes "quandle") text)
    (item_then (quandle_item text) (λ q text. read_fault (colours_item width q.table.order text))) None
unfolding coloured coloured_item
coloured_turns width text = by (begins (codes "quandle") text) refl
  where
    by : (b : Bool) → begins (codes "quandle") text ≡ b → read_fault (coloured width text)
        ≡ cond b (item_then (quandle_item text) (λ q text. read_fault (colours_item width q.table.order text))) None
    by true is =
        rw is (only_fault (coloured_item width text) (λ item. (Some item.0, item.1))
        ∙ then_by (quandle_item text) _ _ (λ q. only_fault (colours_item width q.0.table.order q.1) _))
    by false is = rw is refl

pub list_turns : (text : Text) → read_fault (quandle_list text) ≡ read_fault (quandles MAX_QUANDLES text)
unfolding quandle_list
list_turns text = only_fault (quandles MAX_QUANDLES text) (λ listed. (or_built_in listed.0, listed.1))

pub listed_turns : (room : ℕ) (text : Text) → read_fault (quandles (suc room) text) ≡ cond (begins (codes "quandle") text)
    (item_then (quandle_item text) (λ q text. read_fault (quandles room text))) None
unfolding quandles
listed_turns room text = by (begins (codes "quandle") text) refl
  where
    by : (b : Bool) → begins (codes "quandle") text ≡ b → read_fault (quandles (suc room) text)
        ≡ cond b (item_then (quandle_item text) (λ q text. read_fault (quandles room text))) None
    by true is = rw is (then_by (quandle_item text) _ _ (λ q. only_fault (quandles room q.1) _))
    by false is = rw is refl

pub full_turns : (text : Text) → read_fault (quandles 0 text) ≡ cond (begins (codes "quandle") text) (read_fault (surplus_quandle text)) None
unfolding quandles
full_turns text = by (begins (codes "quandle") text) refl
  where
    by : (b : Bool) → begins (codes "quandle") text ≡ b → read_fault (quandles 0 text) ≡ cond b (read_fault (surplus_quandle text)) None
    by true is = rw is refl
    by false is = rw is refl

-- ---- `different`

abbrev Differs : Version → ℕ → ℕ → ℕ → List (List ℕ) → Text → Type 0
Differs version one two n tokens text =
    read_fault (verdict_of version one two (on_top (line_of n tokens) text)) ≡ item_then (quandle_item (on_top (as_quandle (line_of n tokens)) text))
    (λ q text. item_then (list_item one q.table.order text) (λ list text. read_fault (list_item two q.table.order text)))

lists_turn : (version : Version) (one two n : ℕ) (name : List (List ℕ)) (text : Text) → Differs version one two n (codes "different" ∷ name) text
unfolding verdict_of different_at quandle_item next_line next_token word
lists_turn version one two n name text =
    then_by (quandle_at MAX_ORDER (line_of n name) text) _ _
    (λ q. then_by (list_item one q.0.table.order q.1) _ _ (λ first. only_fault (list_item two q.0.table.order first.1) _))

different_by : (version : Version) (one two n : ℕ) (tokens : List (List ℕ)) (text : Text) → starts (codes "different") tokens ≡ true
    → Differs version one two n tokens text
different_by version one two n [] text is = absurd cc
different_by version one two n (m ∷ name) text is =
    chosen (codes "different") m (λ w. Differs version one two n (w ∷ name) text) is (lists_turn version one two n name text)

pub different_turns : (version : Version) (one two : ℕ) (line : NumberedLine) (text : Text) → starts (codes "different") line.tokens ≡ true
    → read_fault (verdict_of version one two (on_top line text)) ≡ item_then (quandle_item (on_top (as_quandle line) text))
    (λ q text. item_then (list_item one q.table.order text) (λ list text. read_fault (list_item two q.table.order text)))
different_turns version one two line text is = different_by version one two line.number line.tokens text is

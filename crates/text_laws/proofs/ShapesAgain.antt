-- A whole text that says the lines of a value is read as this value.
use Rattle.std.proofs.Common.{◌≡◌, ℕ, zero, suc, ◌≤◌, List, [], ◌∷◌, ◌++◌, length, true, false, Option, Some, None, Ok, refl, sym, ap, ap₂}
use Rattle.std.proofs.Common.{subst, ◌∙◌, append_assoc, arith, codes}
use Rattle.std.specs.List.{AllByRecursion}
use Rattle.std.proofs.lemmas.List.{append-nil}
use Rattle.arrayvec.specs.ArrayVec.{ArrayVec}
use Rattle.grid_core.specs.Diagram.{IsGrid}
use Rattle.braid_closure.proofs.Grids.{closure_grid}
use Rattle.text_lines.specs.Lines.{NumberedLine, Text, starts, first_starts, begins}
use Rattle.text_items.specs.declared.quandles.TheConstants.{MAX_QUANDLES}
use Rattle.verdict_core.specs.declared.diagrams.Diagram.{Diagram}
use Rattle.verdict_core.specs.declared.diagrams.Diagram.TheVariants.{Grid, Braid}
use Rattle.verdict_core.specs.declared.verdict.Verdict.{Verdict}
use Rattle.verdict_core.specs.declared.verdict.Verdict.TheVariants.{Equal, Different, UnknownBudget, UnknownExhausted}
use Rattle.verdict_core.specs.declared.problem.ProblemText.{ProblemText}
use Rattle.knot_text.specs.declared.shapes.ReplayText.{ReplayText}
use Rattle.knot_text.specs.declared.shapes.ColourText.{ColourText}
use Rattle.knot_text.specs.declared.shapes.CloseText.{CloseText}
use Rattle.quandle_core.specs.Names.{NamedQuandle}
use Rattle.text_items.specs.Quandles.{or_built_in}
use Rattle.text_items.specs.Reading.{◌>>=◌, text_end}
use Rattle.text_items.specs.Quandles.{quandles, quandle_list}
use Rattle.knot_text.specs.Colours.{coloured_item, coloured}
use Rattle.verdict_core.specs.Diagrams.{grid_of, column_count}
use Rattle.verdict_text.specs.Diagrams.{diagram_item}
use Rattle.verdict_text.specs.Problems.{problem_item, problem_in, check_in}
use Rattle.knot_text.specs.Shapes.{replay_in, colour_in, close_in, lone_diagram_in}
use Rattle.knot_text.specs.Pairs.{pair_in}
use Rattle.knot_text.specs.Printed.{moves_lines, quandle_lines, HasQuandleText, diagram_lines, HasDiagramText, colours_lines, version_lines}
use Rattle.verdict_text.specs.declared.verdicts.Version.{Version}
use Rattle.verdict_text.specs.declared.verdicts.Version.TheVariants.{Plain, Tidy}
use Rattle.knot_text.specs.WrittenThere.{tokens_by_line, StandInFront, AreListed, listed_lines, HasProblemText, problem_lines}
use Rattle.knot_text.specs.WrittenThere.{IsProblemText, IsCheckText, given_lines, HasGivenText, HasReplayText, replay_lines, IsColourText}
use Rattle.knot_text.specs.WrittenThere.{IsCloseText, IsPairText}
use Rattle.quandle_core.proofs.Named.{names_order}
use Rattle.knot_text.proofs.QuandlesSteady.{AtOther, ends_here}
use Rattle.text_laws.proofs.WrittenAgain.{one_rest, grid_written, braid_written, moves_written, quandle_written, colours_written, verdict_written}

-- ---- lines in front of lines

-- lines that are in front, and those behind them
record Parts (a b : List (List (List ℕ))) (front : List NumberedLine) : Type 0 where
  one : List NumberedLine
  two : List NumberedLine
  parts : front ≡ one ++ two
  first : tokens_by_line one ≡ a
  second : tokens_by_line two ≡ b

parted_more : (x : List (List ℕ)) (a b : List (List (List ℕ))) (line : NumberedLine) (front : List NumberedLine) → line.tokens ≡ x → Parts a b front
    → Parts (x ∷ a) b (line ∷ front)
parted_more x a b line front here p = record {
  one = line ∷ p.one;
  two = p.two;
  parts = ap (λ (ls : List NumberedLine). line ∷ ls) p.parts;
  first = ap₂ (λ (ts : List (List ℕ)) (tss : List (List (List ℕ))). ts ∷ tss) here p.first;
  second = p.second;
}

parted : (a b : List (List (List ℕ))) (front : List NumberedLine) → tokens_by_line front ≡ a ++ b → Parts a b front
parted [] b front is = record { one = []; two = front; parts = refl; first = refl; second = is }
parted (x ∷ a) b [] is = absurd cc
parted (x ∷ a) b (line ∷ front) is =
    let here : line.tokens ≡ x = cc in
    let behind : tokens_by_line front ≡ a ++ b = cc in
    parted_more x a b line front here (parted a b front behind)

-- what is behind the first of two
pub record Cut (a b : List (List (List ℕ))) (text rest : Text) : Type 0 where
  pub mid : Text
  pub first : StandInFront a text mid
  pub second : StandInFront b mid rest

pub cut : (a b : List (List (List ℕ))) (text rest : Text) → StandInFront (a ++ b) text rest → Cut a b text rest
cut a b text rest there =
    let p = parted a b there.front there.tokens in
    record {
      mid = record { lines = p.two ++ rest.lines; ending = text.ending };
      first = record {
        front = p.one;
        lines = there.lines ∙ ap (λ (ls : List NumberedLine). ls ++ rest.lines) p.parts
            ∙ append_assoc p.one p.two rest.lines;
        tokens = p.first;
        ending = refl;
      };
      second = record { front = p.two; lines = refl; tokens = p.second; ending = there.ending };
    }

-- nothing is behind all lines
abbrev pub nothing_behind : Text → Text
nothing_behind text = record { lines = []; ending = text.ending }

pub whole : (printed : List (List (List ℕ))) (text : Text) → tokens_by_line text.lines ≡ printed → StandInFront printed text (nothing_behind text)
whole printed text is = record { front = text.lines; lines = sym (append-nil text.lines); tokens = is; ending = refl }

-- the first word of the first line
front_starts : (w : List ℕ) (first : List (List ℕ)) (others : List (List (List ℕ))) (front behind : List NumberedLine)
    → tokens_by_line front ≡ first ∷ others → first_starts w (front ++ behind) ≡ starts w first
front_starts w first others [] behind is = absurd cc
front_starts w first others (line ∷ front) behind is =
    let here : line.tokens ≡ first = cc in
    ap (starts w) here

begins_with : (w : List ℕ) (first : List (List ℕ)) (others : List (List (List ℕ))) (text rest : Text) → StandInFront (first ∷ others) text rest
    → begins w text ≡ starts w first
begins_with w first others text rest there = ap (first_starts w) there.lines ∙ front_starts w first others there.front rest.lines there.tokens

-- ---- diagrams

pub diagram_written : (text : Text) (d : Diagram) (rest : Text) → HasDiagramText d → StandInFront (diagram_lines d) text rest → diagram_item text ≡ Ok (d, rest)
unfolding diagram_item
diagram_written text (Grid d) rest grid there =
    let other : begins (codes "braid") text ≡ false = begins_with (codes "braid") _ _ text rest there in
    rw (other, grid_written text d rest grid there) refl
diagram_written text (Braid b) rest braid there =
    let same : begins (codes "braid") text ≡ true = begins_with (codes "braid") _ _ text rest there in
    rw (same, braid_written text b rest braid there) refl

pub diagram_grid : (d : Diagram) → HasDiagramText d → IsGrid (grid_of d)
diagram_grid (Grid d) grid = grid
diagram_grid (Braid b) braid = closure_grid b braid

-- ---- lists of quandles

quandles_written : (room : ℕ) (listed : List NamedQuandle) (text rest : Text) → length listed ≤ room → AllByRecursion HasQuandleText listed
    → StandInFront (listed_lines listed) text rest → AtOther rest.lines → quandles room text ≡ Ok (listed, rest)
unfolding quandles
quandles_written room [] text rest few each there other =
    let here : rest ≡ text = one_rest there (record { front = []; lines = refl; tokens = refl; ending = refl }) in
    subst (λ (t : Text). quandles room t ≡ Ok ([], rest)) here (ends_here room rest.lines rest.ending other)
quandles_written zero (q ∷ listed) text rest few each there other = absurd (omega (arith, few))
quandles_written (suc room) (q ∷ listed) text rest few each there other =
    let c = cut (quandle_lines (codes "quandle") q) (listed_lines listed) text rest there in
    let same : begins (codes "quandle") text ≡ true = begins_with (codes "quandle") _ _ text c.mid c.first in
    let item = quandle_written text q c.mid each.0 c.first in
    let others = quandles_written room listed c.mid rest (omega (arith, few)) each.1 c.second other in
    rw (same, item, others) refl

list_written : (listed values : List NamedQuandle) (text rest : Text) → AreListed listed values → StandInFront (listed_lines listed) text rest
    → AtOther rest.lines → quandle_list text ≡ Ok (values, rest)
unfolding quandle_list
list_written listed values text rest are there other =
    let read = quandles_written MAX_QUANDLES listed text rest are.few are.each there other in
    ap (λ r. r >>= λ q. Ok (or_built_in q.0, q.1)) read ∙ ap (λ (qs : List NamedQuandle). Ok (qs, rest)) (sym are.stand)

-- ---- colours

given_written : (d : Diagram) (given : Option (NamedQuandle × ArrayVec ℕ)) (text rest : Text) → HasDiagramText d → HasGivenText (column_count d) given
    → StandInFront (given_lines given) text rest → AtOther rest.lines → coloured (column_count d) text ≡ Ok (given, rest)
unfolding coloured coloured_item
given_written d None text rest has fits there other =
    let here : rest ≡ text = one_rest there (record { front = []; lines = refl; tokens = refl; ending = refl }) in
    let none : begins (codes "quandle") text ≡ false = ap (begins (codes "quandle")) (sym here) ∙ other in
    rw none (ap (λ (t : Text). Ok (None, t)) (sym here))
given_written d (Some given) text rest has fits there other =
    let c = cut (quandle_lines (codes "quandle") given.0) (colours_lines given.1) text rest there in
    let same : begins (codes "quandle") text ≡ true = begins_with (codes "quandle") _ _ text c.mid c.first in
    let item = quandle_written text given.0 c.mid fits.0 c.first in
    let colours = colours_written (column_count d) given.0.table.order c.mid given.1 rest (diagram_grid d has).most
    (names_order given.0.name given.0.table fits.0.names) fits.1 c.second in
    rw (same, item, colours) refl

-- ---- whole texts

pub end_read : (text : Text) → text_end (nothing_behind text) ≡ Ok tt
unfolding text_end
end_read text = refl

problem_written : (listed : List NamedQuandle) (p : ProblemText) (text rest : Text) → HasProblemText listed p
    → StandInFront (problem_lines listed p) text rest → AtOther rest.lines → problem_item text ≡ Ok (p, rest)
unfolding problem_item
problem_written listed p text rest has there other =
    let a = cut (diagram_lines p.first) (diagram_lines p.second ++ listed_lines listed) text rest there in
    let b = cut (diagram_lines p.second) (listed_lines listed) a.mid rest a.second in
    rw (
      diagram_written text p.first a.mid has.first a.first,
      diagram_written a.mid p.second b.mid has.second b.first,
      list_written listed p.quandles b.mid rest has.quandles b.second other,
    ) refl

pub problem_in_written : (text : Text) (p : ProblemText) → IsProblemText (tokens_by_line text.lines) p → problem_in text ≡ Ok p
unfolding problem_in
problem_in_written text p is =
    let item = problem_written is.0 p text (nothing_behind text) is.1 (whole (problem_lines is.0 p) text is.2) refl in
    rw (item, end_read text) refl

-- a verdict does not begin with `quandle`, nor does its head line
verdict_first : (version : Version) (v : Verdict) (text rest : Text) → StandInFront (version_lines version v) text rest → AtOther text.lines
verdict_first Tidy v text rest there = begins_with (codes "quandle") _ _ text rest there
verdict_first Plain (Equal moves) text rest there = begins_with (codes "quandle") _ _ text rest there
verdict_first Plain (Different q first second) text rest there = begins_with (codes "quandle") _ _ text rest there
verdict_first Plain (UnknownBudget budget) text rest there = begins_with (codes "quandle") _ _ text rest there
verdict_first Plain (UnknownExhausted cap admitted) text rest there = begins_with (codes "quandle") _ _ text rest there

pub check_in_written : (text : Text) (p : ProblemText) (v : Verdict) → IsCheckText (tokens_by_line text.lines) p v → check_in text ≡ Ok (p, v)
unfolding check_in
check_in_written text p v is =
    let version : Version = is.2.0 in
    let c = cut (problem_lines is.0 p) (version_lines version v) text (nothing_behind text)
    (whole (problem_lines is.0 p ++ version_lines version v) text is.2.2) in
    let item = problem_written is.0 p text c.mid is.1 c.first (verdict_first version v c.mid (nothing_behind text) c.second) in
    rw (item, verdict_written version (column_count p.first) (column_count p.second) c.mid v (nothing_behind text) is.2.1 c.second, end_read text) refl

pub replay_in_written : (text : Text) (r : ReplayText) → HasReplayText r → tokens_by_line text.lines ≡ replay_lines r → replay_in text ≡ Ok r
unfolding replay_in
replay_in_written text r has is =
    let end = nothing_behind text in
    let a = cut (diagram_lines r.diagram) (moves_lines (codes "moves") r.moves ++ given_lines r.colours) text end (whole (replay_lines r) text is) in
    let b = cut (moves_lines (codes "moves") r.moves) (given_lines r.colours) a.mid end a.second in
    rw (
      diagram_written text r.diagram a.mid has.diagram a.first,
      moves_written a.mid r.moves b.mid has.moves b.first,
      given_written r.diagram r.colours b.mid end has.diagram has.colours b.second refl,
      end_read text,
    ) refl

pub colour_in_written : (text : Text) (c : ColourText) → IsColourText (tokens_by_line text.lines) c → colour_in text ≡ Ok c
unfolding colour_in
colour_in_written text c is =
    let end = nothing_behind text in
    let a = cut (diagram_lines c.diagram) (listed_lines is.0) text end (whole (diagram_lines c.diagram ++ listed_lines is.0) text is.3) in
    rw (diagram_written text c.diagram a.mid is.1 a.first, list_written is.0 c.quandles a.mid end is.2 a.second refl, end_read text) refl

pub close_in_written : (text : Text) (c : CloseText) → IsCloseText (tokens_by_line text.lines) c → close_in text ≡ Ok c
unfolding close_in
close_in_written text c is =
    let end = nothing_behind text in
    let a = cut (diagram_lines (Braid c.braid)) (listed_lines is.0) text end (whole (diagram_lines (Braid c.braid) ++ listed_lines is.0) text is.3) in
    rw (braid_written text c.braid a.mid is.1 a.first, list_written is.0 c.quandles a.mid end is.2 a.second refl, end_read text) refl

pub lone_diagram_in_written : (text : Text) (d : Diagram) → HasDiagramText d → tokens_by_line text.lines ≡ diagram_lines d → lone_diagram_in text ≡ Ok d
unfolding lone_diagram_in
lone_diagram_in_written text d has is = rw (diagram_written text d (nothing_behind text) has (whole (diagram_lines d) text is), end_read text) refl

pub pair_in_written : (text : Text) (d e : Diagram) → IsPairText (tokens_by_line text.lines) (d, e) → pair_in text ≡ Ok (d, e)
unfolding pair_in
pair_in_written text d e is =
    let end = nothing_behind text in
    let a = cut (diagram_lines d) (diagram_lines e) text end (whole (diagram_lines d ++ diagram_lines e) text is.2) in
    rw (diagram_written text d a.mid is.0 a.first, diagram_written a.mid e end is.1 a.second, end_read text) refl

-- Texts that say the same have one reading, and a printed text is that of one value.
use Rattle.std.proofs.Common.{◌≡◌, ℕ, ◌≤◌, List, [], ◌++◌, Result, Ok, sym, ap, subst, ◌∙◌}
use Rattle.grid_core.specs.Diagram.{Diagram as Marks, IsGrid}
use Rattle.grid_moves.specs.declared.step.Move.{Move}
use Rattle.text_lines.specs.Lines.{Text, text_from, text_of}
use Rattle.text_items.specs.declared.fault.TextFault.{TextFault}
use Rattle.verdict_core.specs.declared.verdict.Verdict.{Verdict}
use Rattle.verdict_core.specs.declared.diagrams.Diagram.{Diagram}
use Rattle.verdict_core.specs.declared.problem.ProblemText.{ProblemText}
use Rattle.knot_text.specs.declared.shapes.ReplayText.{ReplayText}
use Rattle.knot_text.specs.declared.shapes.ColourText.{ColourText}
use Rattle.knot_text.specs.declared.shapes.CloseText.{CloseText}
use Rattle.text_items.specs.Grids.{grid_item}
use Rattle.verdict_text.specs.Moves.{moves_item}
use Rattle.verdict_text.specs.Verdicts.{verdict_item}
use Rattle.verdict_text.specs.Problems.{problem_of, check_of}
use Rattle.knot_text.specs.Shapes.{replay_of, colour_of, close_of, lone_diagram_of}
use Rattle.knot_text.specs.Pairs.{pair_of}
use Rattle.knot_text.specs.Printed.{grid_text, moves_text, HaveMovesText, version_text, HasVersionText}
use Rattle.verdict_text.specs.declared.verdicts.Version.{Version}
use Rattle.knot_text.specs.WrittenThere.{said_by, IsProblemText, IsCheckText, IsColourText, IsCloseText, IsPairText}
use Rattle.knot_text.proofs.Steady.{ok_is}
use Rattle.knot_text.proofs.ReadBack.{grid_read, moves_read, verdict_read}
use Rattle.knot_text.proofs.ShapesSay.{problem_in_says, check_in_says, replay_in_says, colour_in_says, close_in_says, lone_diagram_in_says, pair_in_says}
use Rattle.text_laws.proofs.ShapesAgain.{problem_in_written, check_in_written, replay_in_written, colour_in_written, close_in_written}
use Rattle.text_laws.proofs.ShapesAgain.{lone_diagram_in_written, pair_in_written}

-- ---- texts that say the same

pub problem_again : (a b : List ℕ) (p : ProblemText) → said_by a ≡ said_by b → problem_of a ≡ Ok p → problem_of b ≡ Ok p
problem_again a b p same is = problem_in_written (text_of b) p (subst (λ ls. IsProblemText ls p) same ((problem_in_says (text_of a)).of p is))

pub check_again : (a b : List ℕ) (p : ProblemText) (v : Verdict) → said_by a ≡ said_by b → check_of a ≡ Ok (p, v) → check_of b ≡ Ok (p, v)
check_again a b p v same is = check_in_written (text_of b) p v (subst (λ ls. IsCheckText ls p v) same ((check_in_says (text_of a)).of (p, v) is))

pub replay_again : (a b : List ℕ) (r : ReplayText) → said_by a ≡ said_by b → replay_of a ≡ Ok r → replay_of b ≡ Ok r
replay_again a b r same is =
    let w = (replay_in_says (text_of a)).of r is in
    replay_in_written (text_of b) r w.0 (sym same ∙ w.1)

pub colour_again : (a b : List ℕ) (c : ColourText) → said_by a ≡ said_by b → colour_of a ≡ Ok c → colour_of b ≡ Ok c
colour_again a b c same is = colour_in_written (text_of b) c (subst (λ ls. IsColourText ls c) same ((colour_in_says (text_of a)).of c is))

pub close_again : (a b : List ℕ) (c : CloseText) → said_by a ≡ said_by b → close_of a ≡ Ok c → close_of b ≡ Ok c
close_again a b c same is = close_in_written (text_of b) c (subst (λ ls. IsCloseText ls c) same ((close_in_says (text_of a)).of c is))

pub diagram_again : (a b : List ℕ) (d : Diagram) → said_by a ≡ said_by b → lone_diagram_of a ≡ Ok d → lone_diagram_of b ≡ Ok d
diagram_again a b d same is =
    let w = (lone_diagram_in_says (text_of a)).of d is in
    lone_diagram_in_written (text_of b) d w.0 (sym same ∙ w.1)

pub pair_again : (a b : List ℕ) (d e : Diagram) → said_by a ≡ said_by b → pair_of a ≡ Ok (d, e) → pair_of b ≡ Ok (d, e)
pair_again a b d e same is = pair_in_written (text_of b) d e (subst (λ ls. IsPairText ls (d, e)) same ((pair_in_says (text_of a)).of (d, e) is))

-- ---- printed texts, which are read

-- what is read from the same bytes is the same
once : {A : Type 0} (read : Text → Result (A × Text) TextFault) (first second : List ℕ) (x y : A) (s t : Text)
    → read (text_from 0 (first ++ [])) ≡ Ok (x, s) → read (text_from 0 (second ++ [])) ≡ Ok (y, t) → first ≡ second → x ≡ y
once {A} read first second x y s t one two same =
    ap (λ (z : A × Text). z.0) (ok_is (x, s) (y, t) (sym one ∙ ap (λ (bytes : List ℕ). read (text_from 0 (bytes ++ []))) same ∙ two))

pub grid_once : (d e : Marks) → IsGrid d → IsGrid e → grid_text d ≡ grid_text e → d ≡ e
grid_once d e one two same = once grid_item (grid_text d) (grid_text e) d e _ _ (grid_read 0 d [] one) (grid_read 0 e [] two) same

pub moves_once : (a b : List Move) → HaveMovesText a → HaveMovesText b → moves_text a ≡ moves_text b → a ≡ b
moves_once a b one two same = once moves_item (moves_text a) (moves_text b) a b _ _ (moves_read 0 a [] one) (moves_read 0 b [] two) same

pub verdict_once : (one two : ℕ) (a b : Version) (v w : Verdict) → 1 ≤ one → 1 ≤ two → HasVersionText a one two v → HasVersionText b one two w
    → version_text a v ≡ version_text b w → v ≡ w
verdict_once one two a b v w some also first second same = once (verdict_item one two) (version_text a v) (version_text b w) v w _ _
    (verdict_read a 0 one two v [] some also first) (verdict_read b 0 one two w [] some also second) same

-- What is printed is read back, from its bytes.
use Rattle.std.proofs.Common.{◌≡◌, ℕ, ◌≤◌, ◌+◌, List, [], ◌∷◌, ◌++◌, length, true, false, Result, Ok, refl, sym, ap, ap₂, subst, ◌∙◌, arith, codes}
use Rattle.std.proofs.lemmas.List.{append-nil, length-map}
use Rattle.grid_core.specs.Diagram.{Diagram as Marks, IsGrid, size}
use Rattle.grid_moves.specs.declared.step.Move.{Move}
use Rattle.text_lines.specs.Lines.{NumberedLine, Text, first_starts, line_count, are_whole_lines, text_from, text_of}
use Rattle.text_lines.specs.Spelled.{numbered}
use Rattle.knot_text.proofs.Written.{lines_read}
use Rattle.knot_text.proofs.Parted.{text_lines_parted, text_ending_parted}
use Rattle.text_items.specs.declared.fault.TextFault.{TextFault}
use Rattle.verdict_core.specs.declared.diagrams.Diagram.TheVariants.{Grid}
use Rattle.text_items.specs.declared.quandles.TheConstants.{MAX_QUANDLES}
use Rattle.verdict_text.specs.declared.verdicts.Version.{Version}
use Rattle.verdict_text.specs.declared.verdicts.Version.TheVariants.{Plain, Tidy}
use Rattle.verdict_core.specs.declared.verdict.Verdict.{Verdict}
use Rattle.verdict_core.specs.declared.verdict.Verdict.TheVariants.{Equal, Different, UnknownBudget, UnknownExhausted}
use Rattle.verdict_core.specs.declared.problem.ProblemText.{ProblemText}
use Rattle.text_items.specs.Quandles.{built_in, or_built_in}
use Rattle.text_items.specs.Reading.{◌>>=◌, no_line_among, text_end}
use Rattle.text_items.specs.Grids.{grid_item}
use Rattle.verdict_text.specs.Moves.{moves_item}
use Rattle.text_items.specs.Quandles.{quandle_list}
use Rattle.verdict_text.specs.Verdicts.{verdict_item}
use Rattle.verdict_core.specs.Diagrams.{grid_of, column_count}
use Rattle.verdict_text.specs.Diagrams.{diagram_item}
use Rattle.verdict_text.specs.Problems.{problem_item, problem_in, check_in, problem_of, check_of}
use Rattle.knot_text.specs.Printed.{grid_lines, grid_text, move_tokens, moves_lines, moves_text, HaveMovesText, version_lines, version_text, HasVersionText}
use Rattle.knot_text.specs.FirstBadLine.{lines_then, with_lines_behind}
use Rattle.knot_text.proofs.Steady.{bind_ok, ok_is}
use Rattle.knot_text.proofs.GridsRead.{problem_grids}
use Rattle.knot_text.proofs.StepsAgain.{lines_before}
use Rattle.knot_text.proofs.GridAgain.{grid_again}
use Rattle.knot_text.proofs.MovesAgain.{moves_again}
use Rattle.knot_text.proofs.VerdictAgain.{verdict_again}
use Rattle.knot_text.proofs.Words.{grid_words, moves_words, version_words}
use Rattle.knot_text.proofs.QuandlesSteady.{AtOther, ends_here}
use Rattle.knot_text.proofs.ShapesFail.{problem_stable}

pub grid_read : (n : ℕ) (d : Marks) (more : List ℕ) → IsGrid d → grid_item (text_from n (grid_text d ++ more)) ≡ Ok (d, text_from (n + 2) more)
grid_read n d more grid = ap grid_item (lines_read n (grid_lines d) more (grid_words d grid)) ∙ grid_again n d (text_from (n + 2) more) grid

pub moves_read : (n : ℕ) (moves : List Move) (more : List ℕ) → HaveMovesText moves
    → moves_item (text_from n (moves_text moves ++ more)) ≡ Ok (moves, text_from (n + (length moves + 1)) more)
moves_read n moves more fits =
    let count : n + length (moves_lines (codes "moves") moves) ≡ n + (length moves + 1) = omega (arith, length-map moves move_tokens) in
    ap moves_item (lines_read n (moves_lines (codes "moves") moves) more (moves_words moves fits))
    ∙ moves_again n moves (text_from (n + length (moves_lines (codes "moves") moves)) more) fits
    ∙ ap (λ (k : ℕ). Ok (moves, text_from k more)) count

pub verdict_read : (version : Version) (n one two : ℕ) (v : Verdict) (more : List ℕ) → 1 ≤ one → 1 ≤ two → HasVersionText version one two v
    → verdict_item one two (text_from n (version_text version v ++ more)) ≡ Ok (v, text_from (n + length (version_lines version v)) more)
verdict_read version n one two v more some also fits =
    ap (verdict_item one two) (lines_read n (version_lines version v) more (version_words version one two v some also fits))
    ∙ verdict_again version one two n v (text_from (n + length (version_lines version v)) more) fits

-- ---- a verdict behind its problem

-- a verdict does not begin with `quandle`
verdict_other : (version : Version) (n : ℕ) (v : Verdict) (lines : List NumberedLine) → AtOther (numbered n (version_lines version v) ++ lines)
verdict_other Tidy n v lines = refl
verdict_other Plain n (Equal moves) lines = refl
verdict_other Plain n (Different q first second) lines = refl
verdict_other Plain n (UnknownBudget budget) lines = refl
verdict_other Plain n (UnknownExhausted cap admitted) lines = refl

none_among : (lines : List NumberedLine) (u : Unit {0}) → no_line_among lines ≡ Ok u → lines ≡ []
none_among [] u is = refl
none_among (line ∷ lines) u is = absurd cc

pub no_lines : (text : Text) (u : Unit {0}) → text_end text ≡ Ok u → text.lines ≡ []
unfolding text_end
no_lines text u is = none_among text.lines u is

pub at_end : (n : ℕ) → text_end (text_from n []) ≡ Ok tt
unfolding text_end
at_end n = refl

-- the text of a verdict alone begins with no `quandle`
text_other : (version : Version) (n one two : ℕ) (v : Verdict) → 1 ≤ one → 1 ≤ two → HasVersionText version one two v
    → AtOther (text_from n (version_text version v)).lines
text_other version n one two v some also fits =
    let text : text_from n (version_text version v) ≡ lines_before (numbered n (version_lines version v))
    (text_from (n + length (version_lines version v)) []) =
    ap (text_from n) (sym (append-nil (version_text version v))) ∙ lines_read n (version_lines version v) [] (version_words version one two v some also fits) in
    ap (λ (t : Text). first_starts (codes "quandle") t.lines) text ∙ verdict_other version n v (text_from (n + length (version_lines version v)) []).lines

-- and it is read to its end
abbrev judged : ProblemText → Verdict → Text → Result (ProblemText × Verdict) TextFault
judged p v text = text_end text >>= λ end. Ok (p, v)

abbrev behind_problem : ℕ → ℕ → ProblemText → Text → Result (ProblemText × Verdict) TextFault
behind_problem one two p text = verdict_item one two text >>= λ w. judged p w.0 w.1

verdict_ends : (version : Version) (n one two : ℕ) (p : ProblemText) (v : Verdict) → 1 ≤ one → 1 ≤ two → HasVersionText version one two v
    → behind_problem one two p (text_from n (version_text version v)) ≡ Ok (p, v)
verdict_ends version n one two p v some also fits =
    let k = n + length (version_lines version v) in
    let read : verdict_item one two (text_from n (version_text version v)) ≡ Ok (v, text_from k []) =
    ap (λ (bytes : List ℕ). verdict_item one two (text_from n bytes)) (sym (append-nil (version_text version v)))
    ∙ verdict_read version n one two v [] some also fits in
    let last : judged p v (text_from k []) ≡ Ok (p, v) = ap (λ r. r >>= λ end. Ok (p, v)) (at_end k) in
    ap (λ r. r >>= λ w. judged p w.0 w.1) read ∙ last

pub verdict_behind : (version : Version) (bytes : List ℕ) (p : ProblemText) (v : Verdict) → are_whole_lines bytes ≡ true → problem_of bytes ≡ Ok p
    → HasVersionText version (column_count p.first) (column_count p.second) v → check_of (bytes ++ version_text version v) ≡ Ok (p, v)
unfolding problem_in check_in
verdict_behind version bytes p v whole is fits =
    let q = bind_ok (problem_item (text_of bytes)) (λ x. text_end x.1 >>= λ end. Ok x.0) p is in
    let rest = q.0.1 in
    let e = bind_ok (text_end rest) (λ end. Ok q.0.0) p q.2 in
    let same : q.0.0 ≡ p = ok_is q.0.0 p e.2 in
    let grids = subst (λ (x : ProblemText). IsGrid (grid_of x.first) × IsGrid (grid_of x.second)) same (problem_grids (text_of bytes) q.0.0 rest q.1) in
    let some : 1 ≤ column_count p.first = omega (arith, grids.0.least) in
    let also : 1 ≤ column_count p.second = omega (arith, grids.1.least) in
    let none = no_lines rest e.0 e.1 in
    let m = 0 + line_count bytes in
    let tail = text_from m (version_text version v) in
    let other = text_other version m (column_count p.first) (column_count p.second) v some also fits in
    let text : text_of (bytes ++ version_text version v) ≡ with_lines_behind (text_of bytes) tail.lines tail.ending =
    ap₂ lines_then (text_lines_parted 0 bytes (version_text version v) whole) (text_ending_parted 0 bytes (version_text version v) whole) in
    let behind : with_lines_behind rest tail.lines tail.ending ≡ tail = ap (λ (ls : List NumberedLine). lines_then (ls ++ tail.lines) tail.ending) none in
    let item : problem_item (text_of (bytes ++ version_text version v)) ≡ Ok (p, tail) =
    ap problem_item text ∙ problem_stable (text_of bytes) q.0.0 rest q.1 tail.lines tail.ending other
    ∙ ap₂ (λ (x : ProblemText) (t : Text). Ok (x, t)) same behind in
    ap (λ r. r >>= λ x. behind_problem (column_count x.0.first) (column_count x.0.second) x.0 x.1) item
    ∙ verdict_ends version m (column_count p.first) (column_count p.second) p v some also fits

-- ---- two grids and a verdict

diagram_read : (n : ℕ) (d : Marks) (more : List ℕ) → IsGrid d → diagram_item (text_from n (grid_text d ++ more)) ≡ Ok (Grid d, text_from (n + 2) more)
unfolding diagram_item
diagram_read n d more grid =
    let other : first_starts (codes "braid") (text_from n (grid_text d ++ more)).lines ≡ false =
    ap (λ (t : Text). first_starts (codes "braid") t.lines) (lines_read n (grid_lines d) more (grid_words d grid)) in
    rw other (ap (λ r. r >>= λ g. Ok (Grid g.0, g.1)) (grid_read n d more grid))

no_quandles : (text : Text) → AtOther text.lines → quandle_list text ≡ Ok (built_in, text)
unfolding quandle_list
no_quandles text other = ap (λ r. r >>= λ q. Ok (or_built_in q.0, q.1)) (ends_here MAX_QUANDLES text.lines text.ending other)

abbrev pub two_grids : Marks → Marks → ProblemText
two_grids a b = record { first = Grid a; second = Grid b; quandles = built_in }

pub certificate_read : (version : Version) (a b : Marks) (v : Verdict) → IsGrid a → IsGrid b → HasVersionText version (size a) (size b) v
    → check_of (grid_text a ++ (grid_text b ++ version_text version v)) ≡ Ok (two_grids a b, v)
unfolding check_in problem_item
certificate_read version a b v first second fits =
    let some : 1 ≤ size a = omega (arith, first.least) in
    let also : 1 ≤ size b = omega (arith, second.least) in
    let tail = text_from (0 + 2 + 2) (version_text version v) in
    let other = text_other version (0 + 2 + 2) (size a) (size b) v some also fits in
    rw (diagram_read 0 a (grid_text b ++ version_text version v) first, diagram_read (0 + 2) b (version_text version v) second, no_quandles tail other)
    (verdict_ends version (0 + 2 + 2) (size a) (size b) (two_grids a b) v some also fits)

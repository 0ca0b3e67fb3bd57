-- What is read as a grid or a braid is one, and the closure of a braid is a grid.
use Rattle.std.proofs.Common.{◌≡◌, ℕ, ℤ, List, Bool, true, false, cond, Option, Some, None, Ok, Err, refl, subst, codes}
use Rattle.std.specs.Prelude.{is_none}
use Rattle.grid_core.specs.declared.fault.GridFault.{GridFault}
use Rattle.grid_core.specs.Diagram.{Diagram as Marks, IsGrid}
use Rattle.grid_core.specs.Fault.{first_grid_fault}
use Rattle.grid_core.proofs.Accepted.{accepted_lists}
use Rattle.braid_core.specs.declared.fault.BraidFault.{BraidFault}
use Rattle.braid_core.specs.Braid.{Word, IsBraid}
use Rattle.braid_core.specs.Fault.{first_word_fault as word_fault}
use Rattle.braid_core.proofs.Accepted.{none_braid}
use Rattle.braid_closure.proofs.Grids.{closure_grid}
use Rattle.text_lines.specs.Lines.{NumberedLine, Text, first_starts}
use Rattle.text_items.specs.declared.fault.TextFault.TheVariants.{Malformed, Limit}
use Rattle.verdict_core.specs.declared.diagrams.Diagram.{Diagram}
use Rattle.verdict_core.specs.declared.diagrams.Diagram.TheVariants.{Grid, Braid}
use Rattle.verdict_core.specs.declared.problem.ProblemText.{ProblemText}
use Rattle.text_items.specs.Reading.{◌>>=◌, next_line, word, number}
use Rattle.text_items.specs.Numbers.{numbers_behind}
use Rattle.text_items.specs.Grids.{x_at, o_at, grid_item}
use Rattle.text_items.specs.Braids.{letters, exceeds, braid_of, braid_at, braid_item}
use Rattle.text_items.specs.Quandles.{quandle_list}
use Rattle.verdict_core.specs.Diagrams.{grid_of}
use Rattle.verdict_text.specs.Diagrams.{braid_diagram, grid_diagram, diagram_item}
use Rattle.verdict_text.specs.Problems.{problem_item}
use Rattle.knot_text.proofs.Steady.{bind_ok, ok_is}

tested : (x rows : List ℕ) (n : ℕ) (d : Marks) (f : Option GridFault) → first_grid_fault x rows ≡ f
    → cond (is_none f) (Ok (record { x = x; o = rows })) (Err (Malformed n)) ≡ Ok d → IsGrid d
tested x rows n d (Some f) is e = absurd cc
tested x rows n d None is e = subst IsGrid (ok_is (record { x = x; o = rows }) d e) (accepted_lists x rows is)

o_is : (x : List ℕ) (line : NumberedLine) (d : Marks) → o_at x line ≡ Ok d → IsGrid d
unfolding o_at
o_is x line d is =
    let b = bind_ok (numbers_behind (codes "o") line) (λ rows. cond (is_none (first_grid_fault x rows)) (Ok (record { x = x; o = rows }))
    (Err (Malformed line.number))) d is in
    tested x b.0 line.number d (first_grid_fault x b.0) refl b.2

pub grid_is : (text : Text) (d : Marks) (rest : Text) → grid_item text ≡ Ok (d, rest) → IsGrid d
unfolding grid_item
grid_is text d rest is =
    let a = bind_ok (next_line text) (λ first. x_at first.0 >>= λ x. next_line first.1 >>= λ second. o_at x second.0 >>= λ g. Ok (g, second.1)) (d, rest) is in
    let b = bind_ok (x_at a.0.0) (λ x. next_line a.0.1 >>= λ second. o_at x second.0 >>= λ g. Ok (g, second.1)) (d, rest) a.2 in
    let c = bind_ok (next_line a.0.1) (λ second. o_at b.0 second.0 >>= λ g. Ok (g, second.1)) (d, rest) b.2 in
    let e = bind_ok (o_at b.0 c.0.0) (λ g. Ok (g, c.0.1)) (d, rest) c.2 in
    let same = ok_is (e.0, c.0.1) (d, rest) e.2 in
    subst (λ (y : Marks × Text). IsGrid y.0) {x = (e.0, c.0.1)} same (o_is b.0 c.0.0 e.0 e.1)

-- ---- braids

word_tested : (n : ℕ) (b d : Word) → braid_of n b ≡ Ok d → IsBraid d
word_tested n b d is = by (exceeds b) (word_fault b) refl is
  where
    by : (t : Bool) (f : Option BraidFault) → word_fault b ≡ f → cond t (Err (Limit n)) (cond (is_none f) (Ok b) (Err (Malformed n))) ≡ Ok d → IsBraid d
    by true f same is = absurd cc
    by false (Some f) same is = absurd cc
    by false None same is = subst IsBraid (ok_is b d is) (none_braid b same)

line_is : (line : NumberedLine) (d : Word) → braid_at line ≡ Ok d → IsBraid d
unfolding braid_at
line_is line d is =
    let made = λ (m : ℕ) (ls : List ℤ). braid_of line.number (record { strands = m; letters = ls }) in
    let a = bind_ok (word (codes "braid") line) (λ rest. number rest >>= λ m. letters m.1 >>= λ ls. made m.0 ls) d is in
    let b = bind_ok (number a.0) (λ m. letters m.1 >>= λ ls. made m.0 ls) d a.2 in
    let c = bind_ok (letters b.0.1) (λ ls. made b.0.0 ls) d b.2 in
    word_tested line.number (record { strands = b.0.0; letters = c.0 }) d c.2

pub braid_is : (text : Text) (b : Word) (rest : Text) → braid_item text ≡ Ok (b, rest) → IsBraid b
unfolding braid_item
braid_is text b rest is =
    let a = bind_ok (next_line text) (λ line. braid_at line.0 >>= λ b. Ok (b, line.1)) (b, rest) is in
    let e = bind_ok (braid_at a.0.0) (λ b. Ok (b, a.0.1)) (b, rest) a.2 in
    let same = ok_is (e.0, a.0.1) (b, rest) e.2 in
    subst (λ (y : Word × Text). IsBraid y.0) {x = (e.0, a.0.1)} same (line_is a.0.0 e.0 e.1)

-- ---- diagrams

pub diagram_is : (text : Text) (d : Diagram) (rest : Text) → diagram_item text ≡ Ok (d, rest) → IsGrid (grid_of d)
unfolding diagram_item
diagram_is text d rest is = by (first_starts (codes "braid") text.lines) is
  where
    by : (t : Bool) → cond t (braid_diagram text) (grid_diagram text) ≡ Ok (d, rest) → IsGrid (grid_of d)
    by true is =
        let b = bind_ok (braid_item text) (λ b. Ok (Braid b.0, b.1)) (d, rest) is in
        let same = ok_is (Braid b.0.0, b.0.1) (d, rest) b.2 in
        subst (λ (y : Diagram × Text). IsGrid (grid_of y.0)) same (closure_grid b.0.0 (braid_is text b.0.0 b.0.1 b.1))
    by false is =
        let b = bind_ok (grid_item text) (λ g. Ok (Grid g.0, g.1)) (d, rest) is in
        let same = ok_is (Grid b.0.0, b.0.1) (d, rest) b.2 in
        subst (λ (y : Diagram × Text). IsGrid (grid_of y.0)) same (grid_is text b.0.0 b.0.1 b.1)

-- both diagrams of a problem
pub problem_grids : (text : Text) (p : ProblemText) (rest : Text) → problem_item text ≡ Ok (p, rest) → IsGrid (grid_of p.first) × IsGrid (grid_of p.second)
unfolding problem_item
problem_grids text p rest is =
    let a = bind_ok (diagram_item text) (λ first. diagram_item first.1 >>= λ second. quandle_list second.1
    >>= λ listed. Ok (record { first = first.0; second = second.0; quandles = listed.0 }, listed.1)) (p, rest) is in
    let b = bind_ok (diagram_item a.0.1) (λ second. quandle_list second.1
    >>= λ listed. Ok (record { first = a.0.0; second = second.0; quandles = listed.0 }, listed.1)) (p, rest) a.2 in
    let c = bind_ok (quandle_list b.0.1) (λ listed. Ok (record { first = a.0.0; second = b.0.0; quandles = listed.0 }, listed.1)) (p, rest) b.2 in
    let same = ok_is (record { first = a.0.0; second = b.0.0; quandles = c.0.0 }, c.0.1) (p, rest) c.2 in
    subst (λ (y : ProblemText × Text). IsGrid (grid_of y.0.first) × IsGrid (grid_of y.0.second))
    {x = (record { first = a.0.0; second = b.0.0; quandles = c.0.0 }, c.0.1)} same (diagram_is text a.0.0 a.0.1 a.1, diagram_is a.0.1 b.0.0 b.0.1 b.1)

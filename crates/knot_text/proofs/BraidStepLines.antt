-- What is read of a step line fails with the number of the line alone.
use Rattle.std.proofs.Common.{ℕ, ℤ, List, true, false, cond, Result, Ok, Err, ◌∙◌, codes, nat_le}
use Rattle.std.specs.Prelude.{unsigned_abs}
use Rattle.std.specs.Str.{bytes_eq}
use Rattle.braid_moves.specs.declared.step.BraidMove.{BraidMove}
use Rattle.braid_moves.specs.declared.step.BraidMove.TheVariants.{Far, Triple, Cancel, Turn, Grow}
use Rattle.text_lines.specs.Lines.{NumberedLine}
use Rattle.text_items.specs.declared.fault.TextFault.{TextFault}
use Rattle.text_items.specs.declared.fault.TextFault.TheVariants.{Malformed}
use Rattle.text_items.specs.declared.reading.TheConstants.{MAX_PLACE, MAX_LETTER}
use Rattle.text_items.specs.Reading.{◌>>=◌, line_end, or_malformed}
use Rattle.text_items.specs.Braids.{letter_of}
use Rattle.verdict_text.specs.Moves.{one_place}
use Rattle.knot_text.specs.BraidSteps.{last_letter, bounded_letter, insert, grow, shrink, step_at}
use Rattle.knot_text.proofs.AtLine.{At, Keeps, at_ok, at_malformed, at_limit, at_bind, at_cond, at_same, keeps_ok, keeps_bind, or_malformed_at}
use Rattle.knot_text.proofs.AtLine.{next_token_at, next_token_keeps, line_end_at, line_end_keeps, number_at, number_keeps, at_most_at}
use Rattle.knot_text.proofs.ItemsAtLine.{one_place_at, chosen_at}

-- ---- letters

bounded_at : (n : ℕ) (a : ℤ) → At n (bounded_letter n a)
bounded_at n a = at_cond (nat_le (unsigned_abs a) MAX_LETTER) at_ok at_limit

last_letter_at : (line : NumberedLine) → At line.number (last_letter line)
unfolding last_letter
last_letter_at line =
    at_bind (next_token_at line) (λ t e.
    at_bind (or_malformed_at line.number (letter_of t.0)) (λ a f.
    at_bind (at_same ((next_token_keeps line).of t e) (line_end_at t.1)) (λ end g. at_ok)))

last_letter_keeps : (line : NumberedLine) → Keeps line.number (λ x. x.1) (last_letter line)
unfolding last_letter
last_letter_keeps line =
    keeps_bind (λ t e.
    keeps_bind {r = or_malformed line.number (letter_of t.0)} {f = λ a. line_end t.1 >>= λ end. Ok (a, end)} (λ a f.
    keeps_bind (λ end g. keeps_ok ((line_end_keeps t.1).of end g ∙ (next_token_keeps line).of t e))))

-- ---- `insert`, `grow` and `shrink`

insert_at : (line : NumberedLine) → At line.number (insert line)
unfolding insert
insert_at line =
    at_bind (number_at line) (λ v e.
    let s1 = (number_keeps line).of v e in
    at_bind (at_same s1 (last_letter_at v.1)) (λ last f.
    at_same ((last_letter_keeps v.1).of last f ∙ s1)
    (at_bind (at_most_at MAX_PLACE last.1.number v.0) (λ place g. at_bind (bounded_at last.1.number last.0) (λ letter h. at_ok)))))

abbrev minus_of : List ℕ → ℕ → Result BraidMove TextFault
minus_of t n = cond (bytes_eq t (codes "minus")) (Ok (Grow false)) (Err (Malformed n))

abbrev sign_of : List ℕ → ℕ → Result BraidMove TextFault
sign_of t n = cond (bytes_eq t (codes "plus")) (Ok (Grow true)) (minus_of t n)

sign_at : (t : List ℕ) (n : ℕ) → At n (sign_of t n)
sign_at t n = at_cond (bytes_eq t (codes "plus")) at_ok (at_cond (bytes_eq t (codes "minus")) at_ok at_malformed)

grow_at : (line : NumberedLine) → At line.number (grow line)
unfolding grow
grow_at line =
    at_bind (next_token_at line) (λ t e.
    let s1 = (next_token_keeps line).of t e in
    at_bind (at_same s1 (line_end_at t.1)) (λ end f. at_same ((line_end_keeps t.1).of end f ∙ s1) (sign_at t.0 end.number)))

shrink_at : (line : NumberedLine) → At line.number (shrink line)
unfolding shrink
shrink_at line = at_bind (line_end_at line) (λ end e. at_ok)

-- ---- a step line

abbrev pub from_shrink : List ℕ → NumberedLine → Result BraidMove TextFault
from_shrink t rest = cond (bytes_eq t (codes "shrink")) (shrink rest) (Err (Malformed rest.number))

abbrev pub from_grow : List ℕ → NumberedLine → Result BraidMove TextFault
from_grow t rest = cond (bytes_eq t (codes "grow")) (grow rest) (from_shrink t rest)

abbrev pub from_turn : List ℕ → NumberedLine → Result BraidMove TextFault
from_turn t rest = cond (bytes_eq t (codes "turn")) (one_place (λ k. Turn k) rest) (from_grow t rest)

abbrev pub from_insert : List ℕ → NumberedLine → Result BraidMove TextFault
from_insert t rest = cond (bytes_eq t (codes "insert")) (insert rest) (from_turn t rest)

abbrev pub from_cancel : List ℕ → NumberedLine → Result BraidMove TextFault
from_cancel t rest = cond (bytes_eq t (codes "cancel")) (one_place (λ p. Cancel p) rest) (from_insert t rest)

abbrev pub from_triple : List ℕ → NumberedLine → Result BraidMove TextFault
from_triple t rest = cond (bytes_eq t (codes "triple")) (one_place (λ p. Triple p) rest) (from_cancel t rest)

abbrev pub from_far : List ℕ → NumberedLine → Result BraidMove TextFault
from_far t rest = cond (bytes_eq t (codes "far")) (one_place (λ p. Far p) rest) (from_triple t rest)

turn_at : (t : List ℕ) (rest : NumberedLine) → At rest.number (from_turn t rest)
turn_at t rest =
    at_cond (bytes_eq t (codes "turn")) (one_place_at (λ k. Turn k) rest)
    (at_cond (bytes_eq t (codes "grow")) (grow_at rest) (at_cond (bytes_eq t (codes "shrink")) (shrink_at rest) at_malformed))

pub step_at_at : (line : NumberedLine) → At line.number (step_at line)
unfolding step_at
step_at_at line = chosen_at from_far line (λ t rest.
    at_cond (bytes_eq t (codes "far")) (one_place_at (λ p. Far p) rest)
    (at_cond (bytes_eq t (codes "triple")) (one_place_at (λ p. Triple p) rest)
    (at_cond (bytes_eq t (codes "cancel")) (one_place_at (λ p. Cancel p) rest)
    (at_cond (bytes_eq t (codes "insert")) (insert_at rest) (turn_at t rest)))))

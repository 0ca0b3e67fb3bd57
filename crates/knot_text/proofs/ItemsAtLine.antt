-- What is read of the lines of the items fails with the number of the line alone.
use Rattle.std.proofs.Common.{ℕ, ◌||◌, ◌==◌, List, length, cond, Option, Result, Ok, Err, refl, ◌∙◌, codes, nat_lt}
use Rattle.std.specs.Prelude.{is_none}
use Rattle.std.specs.List.{list_any}
use Rattle.std.specs.Str.{bytes_eq}
use Rattle.grid_core.specs.declared.grid.TheConstants.{MAX_SIZE}
use Rattle.grid_core.specs.declared.mark.Kind.{Kind}
use Rattle.grid_core.specs.declared.mark.Kind.TheVariants.{Cross, Ring}
use Rattle.grid_core.specs.declared.mark.Corner.{Corner}
use Rattle.grid_core.specs.declared.mark.Corner.TheVariants.{LowLeft, LowRight, HighLeft, HighRight}
use Rattle.grid_core.specs.Fault.{first_grid_fault}
use Rattle.braid_core.specs.Braid.{Word}
use Rattle.braid_core.specs.Fault.{first_word_fault as braid_fault}
use Rattle.colour_rows.specs.Colouring.{are_colours}
use Rattle.grid_moves.specs.declared.step.Move.{Move}
use Rattle.grid_moves.specs.declared.step.Move.TheVariants.{ShiftColumns, ShiftRows, ExchangeColumns, ExchangeRows, SlideColumns, SlideRows}
use Rattle.grid_moves.specs.declared.step.Move.TheVariants.{Destabilise}
use Rattle.text_lines.specs.Lines.{NumberedLine}
use Rattle.text_items.specs.declared.fault.TextFault.{TextFault}
use Rattle.text_items.specs.declared.fault.TextFault.TheVariants.{Malformed}
use Rattle.text_items.specs.declared.reading.TheConstants.{MAX_NUMBER, MAX_PLACE}
use Rattle.text_items.specs.declared.quandles.Written.{Written}
use Rattle.text_items.specs.declared.quandles.Written.TheVariants as written
use Rattle.verdict_core.specs.declared.verdict.Verdict.{Verdict}
use Rattle.verdict_core.specs.declared.verdict.Verdict.TheVariants.{UnknownExhausted}
use Rattle.text_items.specs.Reading.{◌>>=◌, next_token, word, number, last_number, at_most}
use Rattle.text_items.specs.NumberLists.{is_long}
use Rattle.text_items.specs.Numbers.{numbers_behind}
use Rattle.text_items.specs.Grids.{are_rows, x_at, o_at}
use Rattle.text_items.specs.Braids.{letter_of, exceeds, braid_of, braid_at}
use Rattle.knot_text.specs.Colours.{colours_at}
use Rattle.verdict_text.specs.Moves.{last_place, one_place, on_axis, shift, exchange, slide, kind_at, corner_at, stabilise, destabilise, move_at, tidy_move_at}
use Rattle.grid_moves.specs.Tidy.{may_follow}
use Rattle.verdict_text.specs.declared.verdicts.TheConstants.{TIDY_VERSION}
use Rattle.text_items.specs.Quandles.{with_order, alexander_at, tetrahedral_at, written_at}
use Rattle.verdict_text.specs.Verdicts.{budget_at, exhausted_at, unknown_at, version_at}
use Rattle.knot_text.proofs.AtLine.{At, Keeps, at_ok, at_malformed, at_limit, at_bind, at_cond, at_same, keeps_ok, keeps_err, keeps_bind}
use Rattle.knot_text.proofs.AtLine.{keeps_cond, keeps_same, next_token_at, next_token_keeps, line_end_at, line_end_keeps, word_at}
use Rattle.knot_text.proofs.AtLine.{word_keeps, number_at, number_keeps, last_number_at, last_number_keeps, at_most_at, counted_at}
use Rattle.knot_text.proofs.AtLine.{last_count_at, tokens_at, numbers_at}

-- ---- grids

pub numbers_behind_at : (letter : List ℕ) (line : NumberedLine) → At line.number (numbers_behind letter line)
unfolding numbers_behind
numbers_behind_at letter line =
    at_bind (word_at letter line) (λ rest e. at_same ((word_keeps letter line).of rest e)
    (at_bind (numbers_at rest) (λ rows f. at_cond (nat_lt MAX_SIZE (length rows) || list_any is_long rows) at_limit at_ok)))

pub x_at_at : (line : NumberedLine) → At line.number (x_at line)
unfolding x_at
x_at_at line = at_bind (numbers_behind_at (codes "x") line) (λ rows e. at_cond (are_rows rows) at_ok at_malformed)

pub o_at_at : (x : List ℕ) (line : NumberedLine) → At line.number (o_at x line)
unfolding o_at
o_at_at x line = at_bind (numbers_behind_at (codes "o") line) (λ rows e. at_cond (is_none (first_grid_fault x rows)) at_ok at_malformed)

-- ---- braids

braid_of_at : (n : ℕ) (b : Word) → At n (braid_of n b)
braid_of_at n b = at_cond (exceeds b) at_limit (at_cond (is_none (braid_fault b)) at_ok at_malformed)

pub braid_at_at : (line : NumberedLine) → At line.number (braid_at line)
unfolding braid_at
braid_at_at line =
    at_bind (word_at (codes "braid") line) (λ rest e1.
    let s1 = (word_keeps (codes "braid") line).of rest e1 in
    at_bind (at_same s1 (number_at rest)) (λ m e2.
    let s2 = (number_keeps rest).of m e2 ∙ s1 in
    at_bind (at_same s2 (tokens_at letter_of m.1.number m.1.tokens)) (λ ls e3. braid_of_at line.number (record { strands = m.0; letters = ls }))))

-- ---- the colours of a replay

pub colours_at_at : (width order : ℕ) (line : NumberedLine) → At line.number (colours_at width order line)
unfolding colours_at
colours_at_at width order line = at_bind (numbers_behind_at (codes "colours") line) (λ cs e. at_cond (are_colours width order cs) at_ok at_malformed)

-- ---- moves

place_at : (line : NumberedLine) → At line.number (last_place line)
unfolding last_place
place_at line = counted_at MAX_PLACE line

pub one_place_at : {A : Type 0} (make : ℕ → A) (line : NumberedLine) → At line.number (one_place make line)
one_place_at make line = at_bind (place_at line) (λ p e. at_ok)

-- columns or rows
axis_at : (columns rows : ℕ → Move) (line : NumberedLine) → At line.number (on_axis columns rows line)
axis_at columns rows line =
    at_bind (next_token_at line) (λ axis e. at_same ((next_token_keeps line).of axis e)
    (at_cond (bytes_eq axis.0 (codes "columns")) (one_place_at columns axis.1)
    (at_cond (bytes_eq axis.0 (codes "rows")) (one_place_at rows axis.1) at_malformed)))

shift_at : (line : NumberedLine) → At line.number (shift line)
unfolding shift
shift_at line = axis_at (λ k. ShiftColumns k) (λ k. ShiftRows k) line

exchange_at : (line : NumberedLine) → At line.number (exchange line)
unfolding exchange
exchange_at line = axis_at (λ c. ExchangeColumns c) (λ r. ExchangeRows r) line

slide_at : (line : NumberedLine) → At line.number (slide line)
unfolding slide
slide_at line = axis_at (λ c. SlideColumns c) (λ r. SlideRows r) line

-- what a first word leads to
pub chosen_at : {A : Type 0} (f : List ℕ → NumberedLine → Result A TextFault) (line : NumberedLine)
    → ((t : List ℕ) (rest : NumberedLine) → At rest.number (f t rest)) → At line.number (next_token line >>= λ t. f t.0 t.1)
chosen_at f line each = at_bind (next_token_at line) (λ t e. at_same ((next_token_keeps line).of t e) (each t.0 t.1))

chosen_keeps : {A : Type 0} (f : List ℕ → NumberedLine → Result (A × NumberedLine) TextFault) (line : NumberedLine)
    → ((t : List ℕ) (rest : NumberedLine) → Keeps rest.number (λ x. x.1) (f t rest))
    → Keeps line.number (λ x. x.1) (next_token line >>= λ t. f t.0 t.1)
chosen_keeps f line each = keeps_bind (λ t e. keeps_same ((next_token_keeps line).of t e) (each t.0 t.1))

-- a word that stands for something
abbrev kind_of : List ℕ → NumberedLine → Result (Kind × NumberedLine) TextFault
kind_of t rest = cond (bytes_eq t (codes "x")) (Ok (Cross, rest)) (cond (bytes_eq t (codes "o")) (Ok (Ring, rest)) (Err (Malformed rest.number)))

kind_at_at : (line : NumberedLine) → At line.number (kind_at line)
unfolding kind_at
kind_at_at line =
    chosen_at kind_of line (λ t rest. at_cond (bytes_eq t (codes "x")) at_ok (at_cond (bytes_eq t (codes "o")) at_ok at_malformed))

kind_keeps : (line : NumberedLine) → Keeps line.number (λ x. x.1) (kind_at line)
unfolding kind_at
kind_keeps line = chosen_keeps kind_of line (λ t rest.
    keeps_cond (bytes_eq t (codes "x")) (keeps_ok refl) (keeps_cond (bytes_eq t (codes "o")) (keeps_ok refl) keeps_err))

-- one of four words
abbrev two_of : List ℕ → NumberedLine → Result (Corner × NumberedLine) TextFault
two_of t rest =
    cond (bytes_eq t (codes "highleft")) (Ok (HighLeft, rest)) (cond (bytes_eq t (codes "highright")) (Ok (HighRight, rest)) (Err (Malformed rest.number)))

abbrev three_of : List ℕ → NumberedLine → Result (Corner × NumberedLine) TextFault
three_of t rest = cond (bytes_eq t (codes "lowright")) (Ok (LowRight, rest)) (two_of t rest)

abbrev four_of : List ℕ → NumberedLine → Result (Corner × NumberedLine) TextFault
four_of t rest = cond (bytes_eq t (codes "lowleft")) (Ok (LowLeft, rest)) (three_of t rest)

corner_at_at : (line : NumberedLine) → At line.number (corner_at line)
unfolding corner_at
corner_at_at line = chosen_at four_of line (λ t rest.
    at_cond (bytes_eq t (codes "lowleft")) at_ok
    (at_cond (bytes_eq t (codes "lowright")) at_ok
    (at_cond (bytes_eq t (codes "highleft")) at_ok
    (at_cond (bytes_eq t (codes "highright")) at_ok at_malformed))))

corner_keeps : (line : NumberedLine) → Keeps line.number (λ x. x.1) (corner_at line)
unfolding corner_at
corner_keeps line = chosen_keeps four_of line (λ t rest.
    keeps_cond (bytes_eq t (codes "lowleft")) (keeps_ok refl)
    (keeps_cond (bytes_eq t (codes "lowright")) (keeps_ok refl)
    (keeps_cond (bytes_eq t (codes "highleft")) (keeps_ok refl)
    (keeps_cond (bytes_eq t (codes "highright")) (keeps_ok refl) keeps_err))))

stabilise_at : (line : NumberedLine) → At line.number (stabilise line)
unfolding stabilise
stabilise_at line =
    at_bind (number_at line) (λ column e1.
    let s1 = (number_keeps line).of column e1 in
    at_bind (at_same s1 (kind_at_at column.1)) (λ kind e2.
    let s2 = (kind_keeps column.1).of kind e2 ∙ s1 in
    at_bind (at_same s2 (corner_at_at kind.1)) (λ corner e3.
    let s3 = (corner_keeps kind.1).of corner e3 ∙ s2 in
    at_bind (at_same s3 (line_end_at corner.1)) (λ end e4.
    let s4 = (line_end_keeps corner.1).of end e4 ∙ s3 in
    at_bind (at_same s4 (at_most_at MAX_PLACE end.number column.0)) (λ place e5. at_ok)))))

-- two numbers that end a line, each with a limit
two_numbers_at : {A : Type 0} (most : ℕ) (make : ℕ → ℕ → A) (line : NumberedLine)
    → At line.number (number line >>= λ a. last_number a.1 >>= λ b. at_most most b.1.number a.0 >>= λ x. at_most most b.1.number b.0 >>= λ y. Ok (make x y))
two_numbers_at most make line =
    at_bind (number_at line) (λ a e1.
    let s1 = (number_keeps line).of a e1 in
    at_bind (at_same s1 (last_number_at a.1)) (λ b e2.
    let s2 = (last_number_keeps a.1).of b e2 ∙ s1 in
    at_bind (at_same s2 (at_most_at most b.1.number a.0)) (λ x e3.
    at_bind (at_same s2 (at_most_at most b.1.number b.0)) (λ y e4. at_ok))))

destabilise_at : (line : NumberedLine) → At line.number (destabilise line)
unfolding destabilise
destabilise_at line = two_numbers_at MAX_PLACE (λ c r. Destabilise c r) line

abbrev others : List ℕ → NumberedLine → Result Move TextFault
others t rest =
    cond (bytes_eq t (codes "stabilise")) (stabilise rest) (cond (bytes_eq t (codes "destabilise")) (destabilise rest) (Err (Malformed rest.number)))

abbrev slides : List ℕ → NumberedLine → Result Move TextFault
slides t rest = cond (bytes_eq t (codes "slide")) (slide rest) (others t rest)

abbrev moves : List ℕ → NumberedLine → Result Move TextFault
moves t rest = cond (bytes_eq t (codes "shift")) (shift rest) (cond (bytes_eq t (codes "exchange")) (exchange rest) (slides t rest))

pub move_at_at : (line : NumberedLine) → At line.number (move_at line)
unfolding move_at
move_at_at line = chosen_at moves line (λ t rest.
    at_cond (bytes_eq t (codes "shift")) (shift_at rest)
    (at_cond (bytes_eq t (codes "exchange")) (exchange_at rest)
    (at_cond (bytes_eq t (codes "slide")) (slide_at rest)
    (at_cond (bytes_eq t (codes "stabilise")) (stabilise_at rest)
    (at_cond (bytes_eq t (codes "destabilise")) (destabilise_at rest) at_malformed)))))

pub tidy_move_at_at : (before : Option Move) (line : NumberedLine) → At line.number (tidy_move_at before line)
unfolding tidy_move_at
tidy_move_at_at before line = at_bind (move_at_at line) (λ move e. at_cond (may_follow before move) at_ok at_malformed)

-- a word, and a number that ends the line
pub word_count_at : (w : List ℕ) (most : ℕ) (line : NumberedLine)
    → At line.number (word w line >>= λ rest. last_number rest >>= λ v. at_most most v.1.number v.0)
word_count_at w most line = at_bind (word_at w line) (λ rest e. at_same ((word_keeps w line).of rest e) (counted_at most rest))

-- ---- names of quandles

order_at : (make : ℕ → Written) (line : NumberedLine) → At line.number (with_order make line)
order_at make line = at_bind (last_number_at line) (λ o e. at_ok)

order_keeps : (make : ℕ → Written) (line : NumberedLine) → Keeps line.number (λ x. x.1) (with_order make line)
order_keeps make line = keeps_bind (λ o e. keeps_ok ((last_number_keeps line).of o e))

alexander_at_at : (line : NumberedLine) → At line.number (alexander_at line)
unfolding alexander_at
alexander_at_at line = at_bind (number_at line) (λ o e. at_bind (at_same ((number_keeps line).of o e) (last_number_at o.1)) (λ f g. at_ok))

alexander_keeps : (line : NumberedLine) → Keeps line.number (λ x. x.1) (alexander_at line)
unfolding alexander_at
alexander_keeps line = keeps_bind (λ o e. keeps_bind (λ f g. keeps_ok ((last_number_keeps o.1).of f g ∙ (number_keeps line).of o e)))

tetrahedral_at_at : (line : NumberedLine) → At line.number (tetrahedral_at line)
unfolding tetrahedral_at
tetrahedral_at_at line = at_bind (line_end_at line) (λ end e. at_ok)

tetrahedral_keeps : (line : NumberedLine) → Keeps line.number (λ x. x.1) (tetrahedral_at line)
unfolding tetrahedral_at
tetrahedral_keeps line = keeps_bind (λ end e. keeps_ok ((line_end_keeps line).of end e))

abbrev last_families : List ℕ → NumberedLine → Result (Written × NumberedLine) TextFault
last_families t rest =
    cond (bytes_eq t (codes "alexander")) (alexander_at rest)
    (cond (bytes_eq t (codes "table")) (with_order (λ n. written.Table n) rest) (Err (Malformed rest.number)))

abbrev families : List ℕ → NumberedLine → Result (Written × NumberedLine) TextFault
families t rest =
    cond (bytes_eq t (codes "trivial")) (with_order (λ n. written.Trivial n) rest)
    (cond (bytes_eq t (codes "dihedral")) (with_order (λ n. written.Dihedral n) rest)
    (cond (bytes_eq t (codes "tetrahedral")) (tetrahedral_at rest) (last_families t rest)))

pub written_at_at : (line : NumberedLine) → At line.number (written_at line)
unfolding written_at
written_at_at line = chosen_at families line (λ t rest.
    at_cond (bytes_eq t (codes "trivial")) (order_at (λ n. written.Trivial n) rest)
    (at_cond (bytes_eq t (codes "dihedral")) (order_at (λ n. written.Dihedral n) rest)
    (at_cond (bytes_eq t (codes "tetrahedral")) (tetrahedral_at_at rest)
    (at_cond (bytes_eq t (codes "alexander")) (alexander_at_at rest)
    (at_cond (bytes_eq t (codes "table")) (order_at (λ n. written.Table n) rest) at_malformed)))))

pub written_keeps : (line : NumberedLine) → Keeps line.number (λ x. x.1) (written_at line)
unfolding written_at
written_keeps line = chosen_keeps families line (λ t rest.
    keeps_cond (bytes_eq t (codes "trivial")) (order_keeps (λ n. written.Trivial n) rest)
    (keeps_cond (bytes_eq t (codes "dihedral")) (order_keeps (λ n. written.Dihedral n) rest)
    (keeps_cond (bytes_eq t (codes "tetrahedral")) (tetrahedral_keeps rest)
    (keeps_cond (bytes_eq t (codes "alexander")) (alexander_keeps rest)
    (keeps_cond (bytes_eq t (codes "table")) (order_keeps (λ n. written.Table n) rest) keeps_err)))))

-- ---- unknown verdicts

budget_at_at : (line : NumberedLine) → At line.number (budget_at line)
unfolding budget_at
budget_at_at line = at_bind (last_count_at line) (λ b e. at_ok)

exhausted_at_at : (line : NumberedLine) → At line.number (exhausted_at line)
unfolding exhausted_at
exhausted_at_at line = two_numbers_at MAX_NUMBER (λ c a. UnknownExhausted c a) line

abbrev causes : List ℕ → NumberedLine → Result Verdict TextFault
causes t rest = cond (bytes_eq t (codes "budget")) (budget_at rest) (cond (bytes_eq t (codes "exhausted")) (exhausted_at rest) (Err (Malformed rest.number)))

pub unknown_at_at : (line : NumberedLine) → At line.number (unknown_at line)
unfolding unknown_at
unknown_at_at line = chosen_at causes line (λ t rest.
    at_cond (bytes_eq t (codes "budget")) (budget_at_at rest) (at_cond (bytes_eq t (codes "exhausted")) (exhausted_at_at rest) at_malformed))

-- ---- the head line of a verdict

pub version_at_at : (line : NumberedLine) → At line.number (version_at line)
unfolding version_at
version_at_at line =
    at_bind (word_at (codes "certificate") line) (λ rest e. at_bind (at_same ((word_keeps (codes "certificate") line).of rest e) (last_count_at rest))
    (λ v f. at_cond (v == TIDY_VERSION) at_ok at_malformed))

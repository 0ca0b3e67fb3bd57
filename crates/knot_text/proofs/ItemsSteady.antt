-- Each item takes lines from the front alone, and fails at the first bad one.
use Rattle.std.proofs.Common.{◌≡◌, ℕ, zero, suc, ◌-◌, List, [], ◌++◌, Bool, true, false, cond, Option, Some, None, Result, Ok, Err, refl, ◌∷◌}
use Rattle.std.proofs.Common.{ap, ◌∙◌, inl, inr, ◌⊎◌, codes, nat_le}
use Rattle.std.specs.Prelude.{is_none}
use Rattle.std.specs.Str.{bytes_eq}
use Rattle.arrayvec.specs.ArrayVec.{ArrayVec}
use Rattle.colour_list.specs.declared.limits.TheConstants.{MAX_COLOURINGS}
use Rattle.quandle_core.specs.declared.quandle.TheConstants.{MAX_ORDER}
use Rattle.quandle_core.specs.Fault.{first_fault_within}
use Rattle.text_lines.specs.Lines.{NumberedLine, Text}
use Rattle.text_items.specs.declared.fault.TextFault.{TextFault}
use Rattle.text_items.specs.declared.fault.TextFault.TheVariants.{Malformed, Limit}
use Rattle.text_items.specs.declared.reading.TheConstants.{MAX_NUMBER}
use Rattle.quandle_core.specs.declared.names.QuandleName.TheVariants as name
use Rattle.text_items.specs.declared.quandles.Written.{Written}
use Rattle.text_items.specs.declared.quandles.Written.TheVariants as written
use Rattle.verdict_core.specs.declared.verdict.Verdict.{Verdict}
use Rattle.verdict_core.specs.declared.verdict.Verdict.TheVariants.{Equal, Different}
use Rattle.quandle_core.specs.Names.{NamedQuandle, called}
use Rattle.text_items.specs.Reading.{◌>>=◌, in_turn, next_line, next_token, word, last_number, last_count, at_most, or_malformed}
use Rattle.text_items.specs.Numbers.{numbers_below}
use Rattle.text_items.specs.Grids.{x_at, o_at, grid_item}
use Rattle.text_items.specs.Braids.{braid_at, braid_item}
use Rattle.knot_text.specs.Colours.{colours_at, colours_item, coloured_item}
use Rattle.verdict_text.specs.Moves.{move_at, next_move, move_lines, tidy_move_at, tidy_move, tidy_moves, moves_item}
use Rattle.text_items.specs.Quandles.{written_at, is_over, meant, table_row, table_rows, table_item, quandle_of, quandle_at, quandle_item}
use Rattle.verdict_text.specs.Verdicts.{moves_of, equal_at, colour_line, list_item, different_at, unknown_at, unknown_item, verdict_of, version_at}
use Rattle.verdict_text.specs.Verdicts.{tidy_item, plain_item, versioned_item, verdict_item}
use Rattle.verdict_text.specs.declared.verdicts.Version.{Version}
use Rattle.verdict_text.specs.declared.verdicts.Version.TheVariants.{Plain, Tidy}
use Rattle.grid_moves.specs.declared.step.Move.{Move}
use Rattle.knot_text.proofs.Choices.{IsDue, choice_steady}
use Rattle.knot_text.proofs.Steady.{Steady, Anywhere, then_read, pure_steady, same_steady, then_steady, turns_steady}
use Rattle.knot_text.proofs.AtLine.{At, at_ok, at_malformed, at_limit, at_bind, at_cond}
use Rattle.knot_text.proofs.AtLine.{at_same, word_at, word_keeps, last_count_at, numbers_below_at, line_alone}
use Rattle.knot_text.proofs.ItemsAtLine.{x_at_at, o_at_at, braid_at_at, colours_at_at, move_at_at}
use Rattle.knot_text.proofs.ItemsAtLine.{tidy_move_at_at, version_at_at, chosen_at, word_count_at, written_at_at}
use Rattle.knot_text.proofs.ItemsAtLine.{written_keeps, unknown_at_at}

-- ---- a line, and what follows from it

-- what was read of a line, and the lines behind it
abbrev with_rest : {A : Type 0} → Result A TextFault → Text → Result (A × Text) TextFault
with_rest r text = r >>= λ x. Ok (x, text)

abbrev of_line : {A : Type 0} → Result (NumberedLine × Text) TextFault → (NumberedLine → Result A TextFault) → Result (A × Text) TextFault
of_line r g = r >>= λ line. with_rest (g line.0) line.1

flat_line : {A B : Type 0} (s : Result A TextFault) (text : Text) (k : A → Text → Result B TextFault)
    → (s >>= λ x. k x text) ≡ (with_rest s text >>= λ y. k y.0 y.1)
flat_line (Ok x) text k = refl
flat_line (Err e) text k = refl

flat : {A B : Type 0} (r : Result (NumberedLine × Text) TextFault) (g : NumberedLine → Result A TextFault) (k : A → Text → Result B TextFault)
    → (r >>= λ line. g line.0 >>= λ x. k x line.1) ≡ (of_line r g >>= λ y. k y.0 y.1)
flat (Ok line) g k = flat_line (g line.0) line.1 k
flat (Err e) g k = refl

pub line_then : {A B : Type 0} (g : NumberedLine → Result A TextFault) (k : A → Text → Result (B × Text) TextFault)
    → ((line : NumberedLine) → At line.number (g line)) → ((a : A) → Steady Anywhere (k a))
    → Steady Anywhere (λ text. next_line text >>= λ line. g line.0 >>= λ x. k x line.1)
line_then g k names steady =
    let first = λ (text : Text). of_line (next_line text) g in
    same_steady Anywhere (then_read first k) (λ text. next_line text >>= λ line. g line.0 >>= λ x. k x line.1) (λ text. flat (next_line text) g k)
    (then_steady Anywhere first k (line_alone g names) steady)

-- two steps in the line
flat_steps : {X A B : Type 0} (s : Result X TextFault) (h : X → Result A TextFault) (text : Text) (k : A → Text → Result B TextFault)
    → (s >>= λ x. h x >>= λ a. k a text) ≡ ((s >>= h) >>= λ a. k a text)
flat_steps (Ok x) h text k = refl
flat_steps (Err e) h text k = refl

flat_two : {X A B : Type 0} (r : Result (NumberedLine × Text) TextFault) (g : NumberedLine → Result X TextFault) (h : X → Result A TextFault)
    (k : A → Text → Result B TextFault)
    → (r >>= λ line. g line.0 >>= λ x. h x >>= λ a. k a line.1) ≡ (r >>= λ line. (g line.0 >>= h) >>= λ a. k a line.1)
flat_two (Ok line) g h k = flat_steps (g line.0) h line.1 k
flat_two (Err e) g h k = refl

pub line_then_two : {X A B : Type 0} (g : NumberedLine → Result X TextFault) (h : X → Result A TextFault) (k : A → Text → Result (B × Text) TextFault)
    → ((line : NumberedLine) → At line.number (g line >>= h)) → ((a : A) → Steady Anywhere (k a))
    → Steady Anywhere (λ text. next_line text >>= λ line. g line.0 >>= λ x. h x >>= λ a. k a line.1)
line_then_two g h k names steady =
    same_steady Anywhere (λ text. next_line text >>= λ line. (g line.0 >>= h) >>= λ a. k a line.1)
    (λ text. next_line text >>= λ line. g line.0 >>= λ x. h x >>= λ a. k a line.1) (λ text. flat_two (next_line text) g h k)
    (line_then (λ line. g line >>= h) k names steady)

-- ---- grids

pub grid_steady : Steady Anywhere grid_item
unfolding grid_item
grid_steady = line_then x_at (λ x text. next_line text >>= λ line. o_at x line.0 >>= λ d. Ok (d, line.1)) x_at_at (λ x. line_alone (o_at x) (o_at_at x))

-- ---- braids

pub braid_steady : Steady Anywhere braid_item
unfolding braid_item
braid_steady = line_alone braid_at braid_at_at

-- ---- moves

next_move_steady : Steady Anywhere next_move
unfolding next_move
next_move_steady = line_alone move_at move_at_at

pub move_lines_steady : (count : ℕ) → Steady Anywhere (move_lines count)
move_lines_steady count = turns_steady next_move count next_move_steady

tidy_move_steady : (before : Option Move) → Steady Anywhere (tidy_move before)
unfolding tidy_move
tidy_move_steady before = line_alone (tidy_move_at before) (tidy_move_at_at before)

tidy_moves_steady : (before : Option Move) (count : ℕ) → Steady Anywhere (tidy_moves before count)
unfolding tidy_moves
tidy_moves_steady before zero = pure_steady []
tidy_moves_steady before (suc count) =
    then_steady Anywhere (tidy_move before) (λ first text. tidy_moves (Some first) count text >>= λ others. Ok (first ∷ others.0, others.1))
    (tidy_move_steady before)
    (λ first. then_steady Anywhere (tidy_moves (Some first) count) (λ others text. Ok (first ∷ others, text)) (tidy_moves_steady (Some first) count)
    (λ others. pure_steady (first ∷ others)))

moves_of_steady : (version : Version) (count : ℕ) → Steady Anywhere (moves_of version count)
moves_of_steady Plain count = move_lines_steady count
moves_of_steady Tidy count = tidy_moves_steady None count

moves_line_at : (line : NumberedLine) → At line.number (word (codes "moves") line >>= last_count)
unfolding last_count
moves_line_at line = word_count_at (codes "moves") MAX_NUMBER line

pub moves_steady : Steady Anywhere moves_item
unfolding moves_item
moves_steady = line_then_two (word (codes "moves")) last_count (λ count text. move_lines count text) moves_line_at move_lines_steady

-- ---- tables

row_steady : (order bound : ℕ) → Steady Anywhere (table_row order bound)
unfolding table_row
row_steady order bound = line_alone (numbers_below order bound) (numbers_below_at order bound)

pub rows_steady : (order bound count : ℕ) → Steady Anywhere (table_rows order bound count)
unfolding table_rows
rows_steady order bound zero = pure_steady []
rows_steady order bound (suc count) =
    then_steady Anywhere (table_row order bound) (λ row text. table_rows order bound count text >>= λ rows. Ok (row ++ rows.0, rows.1)) (row_steady order bound)
    (λ row. then_steady Anywhere (table_rows order bound count) (λ rows text. Ok (row ++ rows, text)) (rows_steady order bound count)
    (λ rows. pure_steady (row ++ rows)))

-- the last line of a square table, with which the entries are to pass a test
last_row : {A : Type 0} → (List ℕ → Bool) → (List ℕ → A) → ℕ → ℕ → List ℕ → NumberedLine → Result A TextFault
last_row test make order bound front line =
    numbers_below order bound line >>= λ row. cond (test (front ++ row)) (Ok (make (front ++ row))) (Err (Malformed line.number))

last_row_at : {A : Type 0} (test : List ℕ → Bool) (make : List ℕ → A) (order bound : ℕ) (front : List ℕ) (line : NumberedLine)
    → At line.number (last_row test make order bound front line)
unfolding last_row
last_row_at test make order bound front line =
    at_bind (numbers_below_at order bound line) (λ row e. at_cond (test (front ++ row)) at_ok at_malformed)

flat_test : {A : Type 0} (b : Bool) (x : A) (d : TextFault) (text : Text) → cond b (Ok (x, text)) (Err d) ≡ with_rest (cond b (Ok x) (Err d)) text
flat_test true x d text = refl
flat_test false x d text = refl

flat_row : {A : Type 0} (test : List ℕ → Bool) (make : List ℕ → A) (n : ℕ) (front : List ℕ) (s : Result (List ℕ) TextFault) (text : Text)
    → (s >>= λ row. cond (test (front ++ row)) (Ok (make (front ++ row), text)) (Err (Malformed n)))
    ≡ with_rest (s >>= λ row. cond (test (front ++ row)) (Ok (make (front ++ row))) (Err (Malformed n))) text
flat_row test make n front (Ok row) text = flat_test (test (front ++ row)) (make (front ++ row)) (Malformed n) text
flat_row test make n front (Err e) text = refl

abbrev pub last_read : {A : Type 0} → (List ℕ → Bool) → (List ℕ → A) → ℕ → ℕ → List ℕ → Text → Result (A × Text) TextFault
last_read test make order bound front text =
    next_line text >>= λ line. numbers_below order bound line.0
    >>= λ row. cond (test (front ++ row)) (Ok (make (front ++ row), line.1)) (Err (Malformed line.0.number))

flat_last : {A : Type 0} (test : List ℕ → Bool) (make : List ℕ → A) (order bound : ℕ) (front : List ℕ) (r : Result (NumberedLine × Text) TextFault)
    → (r >>= λ line. numbers_below order bound line.0 >>= λ row. cond (test (front ++ row)) (Ok (make (front ++ row), line.1)) (Err (Malformed line.0.number)))
    ≡ of_line r (last_row test make order bound front)
unfolding last_row
flat_last test make order bound front (Ok line) = flat_row test make line.0.number front (numbers_below order bound line.0) line.1
flat_last test make order bound front (Err e) = refl

pub last_steady : {A : Type 0} (test : List ℕ → Bool) (make : List ℕ → A) (order bound : ℕ) (front : List ℕ)
    → Steady Anywhere (last_read test make order bound front)
last_steady test make order bound front =
    let last = last_row test make order bound front in
    same_steady Anywhere (λ text. of_line (next_line text) last) (last_read test make order bound front)
    (λ text. flat_last test make order bound front (next_line text))
    (line_alone last (last_row_at test make order bound front))

abbrev is_table : ℕ → List ℕ → Bool
is_table order entries = is_none (first_fault_within order (record { order = order; entries = entries }))

abbrev of_entries : ℕ → List ℕ → NamedQuandle
of_entries order entries = called name.Table (record { order = order; entries = entries })

pub table_steady : (order : ℕ) → Steady Anywhere (table_item order)
unfolding table_item
table_steady order =
    let last = last_read (is_table order) (of_entries order) order order in
    then_steady Anywhere (table_rows order order (order - 1)) last (rows_steady order order (order - 1))
    (last_steady (is_table order) (of_entries order) order order)

-- ---- quandles

-- what a name leads to: a quandle, or the lines of a table of this order
abbrev pub Plan : Type 0
Plan = NamedQuandle ⊎ ℕ

abbrev pub go : Plan → Text → Result (NamedQuandle × Text) TextFault
go (inl q) text = Ok (q, text)
go (inr order) text = table_item order text

pub go_steady : (p : Plan) → Steady Anywhere (go p)
go_steady (inl q) = pure_steady q
go_steady (inr order) = table_steady order

abbrev ready : Option NamedQuandle → ℕ → Result Plan TextFault
ready o n = or_malformed n o >>= λ q. Ok (inl q)

abbrev plan_of : ℕ → Written → Result Plan TextFault
plan_of n (written.Table order) = cond (nat_le 1 order) (Ok (inr order)) (Err (Malformed n))
plan_of n (written.Trivial k) = ready (meant (written.Trivial k)) n
plan_of n (written.Dihedral k) = ready (meant (written.Dihedral k)) n
plan_of n written.Tetrahedral = ready (meant written.Tetrahedral) n
plan_of n (written.Alexander k a) = ready (meant (written.Alexander k a)) n

ready_at : (o : Option NamedQuandle) (n : ℕ) → At n (ready o n)
ready_at None n = at_malformed
ready_at (Some q) n = at_ok

plan_of_at : (n : ℕ) (w : Written) → At n (plan_of n w)
plan_of_at n (written.Table order) = at_cond (nat_le 1 order) at_ok at_malformed
plan_of_at n (written.Trivial k) = ready_at (meant (written.Trivial k)) n
plan_of_at n (written.Dihedral k) = ready_at (meant (written.Dihedral k)) n
plan_of_at n written.Tetrahedral = ready_at (meant written.Tetrahedral) n
plan_of_at n (written.Alexander k a) = ready_at (meant (written.Alexander k a)) n

abbrev plan_by : ℕ → Result (Written × NumberedLine) TextFault → Result Plan TextFault
plan_by most s = s >>= λ w. cond (is_over most w.0) (Err (Limit w.1.number)) (plan_of w.1.number w.0)

pub plan : ℕ → NumberedLine → Result Plan TextFault
plan most line = plan_by most (written_at line)

pub plan_at : (most : ℕ) (line : NumberedLine) → At line.number (plan most line)
unfolding plan
plan_at most line =
    at_bind (written_at_at line) (λ w e. at_same ((written_keeps line).of w e) (at_cond (is_over most w.0) at_limit (plan_of_at w.1.number w.0)))

flat_ready : (o : Option NamedQuandle) (n : ℕ) (text : Text) → (or_malformed n o >>= λ q. Ok (q, text)) ≡ (ready o n >>= λ p. go p text)
flat_ready None n text = refl
flat_ready (Some q) n text = refl

flat_table : (order n : ℕ) (b : Bool) (text : Text)
    → cond b (table_item order text) (Err (Malformed n)) ≡ (cond b (Ok (inr order)) (Err (Malformed n)) >>= λ p. go p text)
flat_table order n true text = refl
flat_table order n false text = refl

flat_name : (n : ℕ) (w : Written) (text : Text) → quandle_of n w text ≡ (plan_of n w >>= λ p. go p text)
flat_name n (written.Table order) text = flat_table order n (nat_le 1 order) text
flat_name n (written.Trivial k) text = flat_ready (meant (written.Trivial k)) n text
flat_name n (written.Dihedral k) text = flat_ready (meant (written.Dihedral k)) n text
flat_name n written.Tetrahedral text = flat_ready (meant written.Tetrahedral) n text
flat_name n (written.Alexander k a) text = flat_ready (meant (written.Alexander k a)) n text

flat_over : (b : Bool) (n : ℕ) (w : Written) (text : Text)
    → cond b (Err (Limit n)) (quandle_of n w text) ≡ (cond b (Err (Limit n)) (plan_of n w) >>= λ p. go p text)
flat_over true n w text = refl
flat_over false n w text = flat_name n w text

flat_written : (most : ℕ) (s : Result (Written × NumberedLine) TextFault) (text : Text)
    → (s >>= λ w. cond (is_over most w.0) (Err (Limit w.1.number)) (quandle_of w.1.number w.0 text)) ≡ (plan_by most s >>= λ p. go p text)
flat_written most (Ok w) text = flat_over (is_over most w.0) w.1.number w.0 text
flat_written most (Err e) text = refl

pub flat_quandle : (most : ℕ) (line : NumberedLine) (text : Text) → quandle_at most line text ≡ (plan most line >>= λ p. go p text)
unfolding quandle_at plan
flat_quandle most line text = flat_written most (written_at line) text

flat_item : (r : Result (NumberedLine × Text) TextFault) → (r >>= λ line. word (codes "quandle") line.0 >>= λ rest. quandle_at MAX_ORDER rest line.1)
    ≡ (r >>= λ line. word (codes "quandle") line.0 >>= λ rest. plan MAX_ORDER rest >>= λ p. go p line.1)
flat_item (Ok line) = flat_word (word (codes "quandle") line.0) line.1
  where
    flat_word : (s : Result NumberedLine TextFault) (text : Text) → (s >>= λ rest. quandle_at MAX_ORDER rest text)
        ≡ (s >>= λ rest. plan MAX_ORDER rest >>= λ p. go p text)
    flat_word (Ok rest) text = flat_quandle MAX_ORDER rest text
    flat_word (Err e) text = refl
flat_item (Err e) = refl

quandle_line_at : (line : NumberedLine) → At line.number (word (codes "quandle") line >>= plan MAX_ORDER)
quandle_line_at line = at_bind (word_at (codes "quandle") line) (λ rest e. at_same ((word_keeps (codes "quandle") line).of rest e) (plan_at MAX_ORDER rest))

pub quandle_steady : Steady Anywhere quandle_item
unfolding quandle_item
quandle_steady =
    same_steady Anywhere (λ text. next_line text >>= λ line. word (codes "quandle") line.0 >>= λ rest. plan MAX_ORDER rest >>= λ p. go p line.1) quandle_item
    (λ text. flat_item (next_line text))
    (line_then_two (word (codes "quandle")) (plan MAX_ORDER) go quandle_line_at go_steady)

-- ---- the colours of a replay

pub colours_steady : (width order : ℕ) → Steady Anywhere (colours_item width order)
unfolding colours_item
colours_steady width order = line_alone (colours_at width order) (colours_at_at width order)

pub coloured_steady : (width : ℕ) → Steady Anywhere (coloured_item width)
unfolding coloured_item
coloured_steady width =
    then_steady Anywhere quandle_item (λ q text. colours_item width q.table.order text >>= λ cs. Ok ((q, cs.0), cs.1)) quandle_steady
    (λ q. then_steady Anywhere (colours_item width q.table.order) (λ cs text. Ok ((q, cs), text)) (colours_steady width q.table.order)
    (λ cs. pure_steady (q, cs)))

-- ---- verdicts

colour_steady : (width order : ℕ) → Steady Anywhere (colour_line width order)
unfolding colour_line
colour_steady width order =
    line_then (numbers_below width order) (λ colours text. Ok (record { items = colours }, text)) (numbers_below_at width order)
    (λ colours. pure_steady (record { items = colours }))

abbrev few_lists : NumberedLine → Result ℕ TextFault
few_lists rest = last_number rest >>= λ count. at_most MAX_COLOURINGS count.1.number count.0

flat_few : {B : Type 0} (s : Result (ℕ × NumberedLine) TextFault) (text : Text) (k : ℕ → Text → Result B TextFault)
    → (s >>= λ count. at_most MAX_COLOURINGS count.1.number count.0 >>= λ few. k few text)
    ≡ ((s >>= λ count. at_most MAX_COLOURINGS count.1.number count.0) >>= λ few. k few text)
flat_few (Ok count) text k = refl
flat_few (Err e) text k = refl

abbrev lists : ℕ → ℕ → ℕ → Text → Result (List (ArrayVec ℕ) × Text) TextFault
lists width order few text = in_turn (colour_line width order) few text

flat_list : (width order : ℕ) (r : Result (NumberedLine × Text) TextFault)
    → (r >>= λ line. word (codes "list") line.0 >>= λ rest. last_number rest >>= λ count. at_most MAX_COLOURINGS count.1.number count.0
    >>= λ few. lists width order few line.1)
    ≡ (r >>= λ line. word (codes "list") line.0 >>= λ rest. few_lists rest >>= λ few. lists width order few line.1)
flat_list width order (Ok line) = flat_word (word (codes "list") line.0) line.1
  where
    flat_word : (s : Result NumberedLine TextFault) (text : Text)
        → (s >>= λ rest. last_number rest >>= λ count. at_most MAX_COLOURINGS count.1.number count.0 >>= λ few. lists width order few text)
        ≡ (s >>= λ rest. few_lists rest >>= λ few. lists width order few text)
    flat_word (Ok rest) text = flat_few (last_number rest) text (lists width order)
    flat_word (Err e) text = refl
flat_list width order (Err e) = refl

list_steady : (width order : ℕ) → Steady Anywhere (list_item width order)
unfolding list_item
list_steady width order =
    same_steady Anywhere (λ text. next_line text >>= λ line. word (codes "list") line.0 >>= λ rest. few_lists rest >>= λ few. lists width order few line.1)
    (list_item width order) (λ text. flat_list width order (next_line text))
    (line_then_two (word (codes "list")) few_lists (lists width order) (word_count_at (codes "list") MAX_COLOURINGS)
    (λ few. turns_steady (colour_line width order) few (colour_steady width order)))

-- what the first line of a verdict leads to: a number of moves, a quandle, or a whole verdict
abbrev Course : Type 0
Course = ℕ ⊎ (Plan ⊎ Verdict)

abbrev two_lists : ℕ → ℕ → NamedQuandle → Text → Result (Verdict × Text) TextFault
two_lists one two q text = list_item one q.table.order text >>= λ a. list_item two q.table.order a.1 >>= λ b. Ok (Different q a.0 b.0, b.1)

abbrev take_course : Version → ℕ → ℕ → Course → Text → Result (Verdict × Text) TextFault
take_course version one two (inl count) text = moves_of version count text >>= λ m. Ok (Equal m.0, m.1)
take_course version one two (inr (inl p)) text = go p text >>= λ q. two_lists one two q.0 q.1
take_course version one two (inr (inr v)) text = Ok (v, text)

course_steady : (version : Version) (one two : ℕ) (c : Course) → Steady Anywhere (take_course version one two c)
course_steady version one two (inl count) =
    then_steady Anywhere (moves_of version count) (λ m text. Ok (Equal m, text)) (moves_of_steady version count) (λ m. pure_steady (Equal m))
course_steady version one two (inr (inl p)) =
    then_steady Anywhere (go p) (λ q text. two_lists one two q text) (go_steady p)
    (λ q. then_steady Anywhere (list_item one q.table.order) (λ a text. list_item two q.table.order text >>= λ b. Ok (Different q a b.0, b.1))
    (list_steady one q.table.order)
    (λ a. then_steady Anywhere (list_item two q.table.order) (λ b text. Ok (Different q a b, text)) (list_steady two q.table.order)
    (λ b. pure_steady (Different q a b))))
course_steady version one two (inr (inr v)) = pure_steady v

abbrev other_courses : List ℕ → NumberedLine → Result Course TextFault
other_courses t rest = cond (bytes_eq t (codes "unknown")) (unknown_at rest >>= λ v. Ok (inr (inr v))) (Err (Malformed rest.number))

abbrev courses : List ℕ → NumberedLine → Result Course TextFault
courses t rest =
    cond (bytes_eq t (codes "equal")) (last_count rest >>= λ c. Ok (inl c))
    (cond (bytes_eq t (codes "different")) (plan MAX_ORDER rest >>= λ p. Ok (inr (inl p))) (other_courses t rest))

abbrev course : NumberedLine → Result Course TextFault
course line = next_token line >>= λ kind. courses kind.0 kind.1

course_at : (line : NumberedLine) → At line.number (course line)
course_at line = chosen_at courses line (λ t rest.
    at_cond (bytes_eq t (codes "equal")) (at_bind (last_count_at rest) (λ c e. at_ok))
    (at_cond (bytes_eq t (codes "different")) (at_bind (plan_at MAX_ORDER rest) (λ p e. at_ok))
    (at_cond (bytes_eq t (codes "unknown")) (at_bind (unknown_at_at rest) (λ v e. at_ok)) at_malformed)))

flat_counted : (version : Version) (one two : ℕ) (s : Result ℕ TextFault) (text : Text)
    → (s >>= λ count. moves_of version count text >>= λ m. Ok (Equal m.0, m.1)) ≡ ((s >>= λ c. Ok (inl c)) >>= λ c. take_course version one two c text)
flat_counted version one two (Ok count) text = refl
flat_counted version one two (Err e) text = refl

flat_equal : (version : Version) (one two : ℕ) (rest : NumberedLine) (text : Text)
    → equal_at version rest text ≡ ((last_count rest >>= λ c. Ok (inl c)) >>= λ c. take_course version one two c text)
unfolding equal_at
flat_equal version one two rest text = flat_counted version one two (last_count rest) text

flat_planned : (version : Version) (one two : ℕ) (s : Result Plan TextFault) (text : Text)
    → ((s >>= λ p. go p text) >>= λ q. two_lists one two q.0 q.1) ≡ ((s >>= λ p. Ok (inr (inl p))) >>= λ c. take_course version one two c text)
flat_planned version one two (Ok p) text = refl
flat_planned version one two (Err e) text = refl

flat_different : (version : Version) (one two : ℕ) (rest : NumberedLine) (text : Text)
    → different_at one two rest text ≡ ((plan MAX_ORDER rest >>= λ p. Ok (inr (inl p))) >>= λ c. take_course version one two c text)
unfolding different_at
flat_different version one two rest text =
    ap (λ r. r >>= λ q. two_lists one two q.0 q.1) (flat_quandle MAX_ORDER rest text)
    ∙ flat_planned version one two (plan MAX_ORDER rest) text

flat_said : (version : Version) (one two : ℕ) (s : Result Verdict TextFault) (text : Text)
    → (s >>= λ v. Ok (v, text)) ≡ ((s >>= λ v. Ok (inr (inr v))) >>= λ c. take_course version one two c text)
flat_said version one two (Ok v) text = refl
flat_said version one two (Err e) text = refl

flat_unknown : (version : Version) (one two : ℕ) (rest : NumberedLine) (text : Text)
    → unknown_item rest text ≡ ((unknown_at rest >>= λ v. Ok (inr (inr v))) >>= λ c. take_course version one two c text)
unfolding unknown_item
flat_unknown version one two rest text = flat_said version one two (unknown_at rest) text

-- a choice, and what follows from it
pub flat_choice : {A B : Type 0} (b : Bool) (x y : Result B TextFault) (u v : Result A TextFault) (f : A → Result B TextFault) → x ≡ (u >>= f)
    → y ≡ (v >>= f) → cond b x y ≡ (cond b u v >>= f)
flat_choice true x y u v f first second = first
flat_choice false x y u v f first second = second

flat_courses : (version : Version) (one two : ℕ) (t : List ℕ) (rest : NumberedLine) (text : Text)
    → cond (bytes_eq t (codes "equal")) (equal_at version rest text)
    (cond (bytes_eq t (codes "different")) (different_at one two rest text)
    (cond (bytes_eq t (codes "unknown")) (unknown_item rest text) (Err (Malformed rest.number))))
    ≡ (courses t rest >>= λ c. take_course version one two c text)
flat_courses version one two t rest text =
    let f = λ (c : Course). take_course version one two c text in
    flat_choice (bytes_eq t (codes "equal")) (equal_at version rest text)
    (cond (bytes_eq t (codes "different")) (different_at one two rest text)
    (cond (bytes_eq t (codes "unknown")) (unknown_item rest text) (Err (Malformed rest.number)))) (last_count rest >>= λ c. Ok (inl c))
    (cond (bytes_eq t (codes "different")) (plan MAX_ORDER rest >>= λ p. Ok (inr (inl p))) (other_courses t rest)) f (flat_equal version one two rest text)
    (flat_choice (bytes_eq t (codes "different")) (different_at one two rest text)
    (cond (bytes_eq t (codes "unknown")) (unknown_item rest text) (Err (Malformed rest.number)))
    (plan MAX_ORDER rest >>= λ p. Ok (inr (inl p))) (other_courses t rest) f
    (flat_different version one two rest text)
    (flat_choice (bytes_eq t (codes "unknown")) (unknown_item rest text) (Err (Malformed rest.number)) (unknown_at rest >>= λ v. Ok (inr (inr v)))
    (Err (Malformed rest.number)) f (flat_unknown version one two rest text) refl))

flat_kind : (version : Version) (one two : ℕ) (s : Result (List ℕ × NumberedLine) TextFault) (text : Text)
    → (s >>= λ kind. cond (bytes_eq kind.0 (codes "equal")) (equal_at version kind.1 text)
    (cond (bytes_eq kind.0 (codes "different")) (different_at one two kind.1 text)
    (cond (bytes_eq kind.0 (codes "unknown")) (unknown_item kind.1 text) (Err (Malformed kind.1.number)))))
    ≡ ((s >>= λ kind. courses kind.0 kind.1) >>= λ c. take_course version one two c text)
flat_kind version one two (Ok kind) text = flat_courses version one two kind.0 kind.1 text
flat_kind version one two (Err e) text = refl

flat_verdict : (version : Version) (one two : ℕ) (r : Result (NumberedLine × Text) TextFault)
    → (r >>= λ line. next_token line.0 >>= λ kind. cond (bytes_eq kind.0 (codes "equal")) (equal_at version kind.1 line.1)
    (cond (bytes_eq kind.0 (codes "different")) (different_at one two kind.1 line.1)
    (cond (bytes_eq kind.0 (codes "unknown")) (unknown_item kind.1 line.1) (Err (Malformed kind.1.number)))))
    ≡ (r >>= λ line. course line.0 >>= λ c. take_course version one two c line.1)
flat_verdict version one two (Ok line) = flat_kind version one two (next_token line.0) line.1
flat_verdict version one two (Err e) = refl

verdict_of_steady : (version : Version) (one two : ℕ) → Steady Anywhere (verdict_of version one two)
unfolding verdict_of
verdict_of_steady version one two =
    same_steady Anywhere (λ text. next_line text >>= λ line. course line.0 >>= λ c. take_course version one two c line.1) (verdict_of version one two)
    (λ text. flat_verdict version one two (next_line text))
    (line_then course (take_course version one two) course_at (course_steady version one two))

tidy_item_steady : (one two : ℕ) → Steady Anywhere (tidy_item one two)
unfolding tidy_item
tidy_item_steady one two =
    line_then version_at (λ head text. verdict_of Tidy one two text >>= λ v. Ok ((Tidy, v.0), v.1)) version_at_at
    (λ head. then_steady Anywhere (verdict_of Tidy one two) (λ v text. Ok ((Tidy, v), text)) (verdict_of_steady Tidy one two) (λ v. pure_steady (Tidy, v)))

plain_item_steady : (one two : ℕ) → Steady Anywhere (plain_item one two)
unfolding plain_item
plain_item_steady one two =
    then_steady Anywhere (verdict_of Plain one two) (λ v text. Ok ((Plain, v), text)) (verdict_of_steady Plain one two) (λ v. pure_steady (Plain, v))

tidy_item_due : (one two : ℕ) → IsDue (tidy_item one two)
unfolding tidy_item next_line
tidy_item_due one two ending = refl

plain_item_due : (one two : ℕ) → IsDue (plain_item one two)
unfolding plain_item verdict_of next_line
plain_item_due one two ending = refl

versioned_steady : (one two : ℕ) → Steady Anywhere (versioned_item one two)
unfolding versioned_item
versioned_steady one two =
    choice_steady (codes "certificate") (tidy_item one two) (plain_item one two) (tidy_item_due one two) (plain_item_due one two) (tidy_item_steady one two)
    (plain_item_steady one two)

pub verdict_steady : (one two : ℕ) → Steady Anywhere (verdict_item one two)
unfolding verdict_item
verdict_steady one two = then_steady Anywhere (versioned_item one two) (λ w text. Ok (w.1, text)) (versioned_steady one two) (λ w. pure_steady w.1)

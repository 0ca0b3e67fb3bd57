-- Lines of one kind are refused in turn, and so are the lines of a table.
use Rattle.std.proofs.Common.{◌≡◌, ◌∙◌, ◌-◌, ℕ, zero, suc, ◌&&◌, ◌||◌, not, codes, Bool, true, false, cond, List, [], ◌∷◌, ◌++◌, map, Option, Some, None}
use Rattle.std.proofs.Common.{Result, Ok, Err, is_none, refl, ap, ap₂, sym, append_assoc}
use Rattle.std.proofs.Math.Bool.{and-false}
use Rattle.quandle_core.specs.Fault.{first_fault_within}
use Rattle.quandle_core.specs.Quandle.{Table}
use Rattle.grid_moves.specs.declared.step.Move.{Move}
use Rattle.grid_moves.specs.declared.step.Move.TheVariants.{ShiftColumns, ShiftRows, ExchangeColumns, ExchangeRows, SlideColumns, SlideRows}
use Rattle.grid_moves.specs.declared.step.Move.TheVariants.{Stabilise, Destabilise}
use Rattle.grid_moves.specs.Kinds.{is_shift, is_column_shift, is_row_shift}
use Rattle.grid_moves.specs.Tidy.{may_follow}
use Rattle.cocycle_core.specs.Fault.{first_cocycle_fault as cochain_fault}
use Rattle.text_lines.specs.Lines.{NumberedLine, Text}
use Rattle.quandle_core.specs.declared.names.QuandleName.TheVariants as name
use Rattle.quandle_core.specs.Names.{called}
use Rattle.text_items.specs.declared.fault.TextFault.{TextFault}
use Rattle.text_items.specs.declared.fault.TextFault.TheVariants.{Malformed}
use Rattle.text_items.specs.Reading.{◌>>=◌, in_turn, next_line}
use Rattle.text_items.specs.Numbers.{numbers_below}
use Rattle.verdict_text.specs.Moves.{move_at, next_move, move_lines, tidy_move_at, tidy_move, tidy_moves}
use Rattle.knot_text.specs.Printed.{move_tokens}
use Rattle.knot_text.specs.BraidSteps.{step_at, braid_step_item, step_lines}
use Rattle.verdict_text.specs.Verdicts.{colour_line}
use Rattle.text_items.specs.Quandles.{table_row, table_rows, table_item}
use Rattle.verdict_text.specs.Cocycles.{cochain, cochain_item}
use Rattle.knot_text.specs.FirstBadLine.{lines_then}
use Rattle.text_laws.specs.LineKinds.{LineKind, read_fault, fault_by, kind_fault, FailsByKind, worth, below_kind, move_kind, step_kind}
use Rattle.text_laws.specs.LineKinds.{says_shift, says_shift_of, tidy_kind}
use Rattle.text_laws.specs.FirstLines.{or_later, fault_among, lines_fault, tidy_among, tidy_fault, last_kind, table_among, rows_fault}
use Rattle.text_laws.proofs.HeadFaults.{only_fault}
use Rattle.text_laws.proofs.LineFaults.{or_fault, below_read, below_fails}
use Rattle.text_laws.proofs.MoveFaults.{move_fails}
use Rattle.text_laws.proofs.StepFaults.{step_fails}
use Rattle.knot_text.proofs.ItemsSay.{move_says, tidy_at_says}

-- ---- so many lines of one kind

-- the next line, as it is read alone
abbrev one_line : {A B : Type 0} → (NumberedLine → Result A TextFault) → (A → B) → Text → Result (B × Text) TextFault
one_line read make text = next_line text >>= λ line. read line.0 >>= λ x. Ok (make x, line.1)

-- a value, and what is left
abbrev made : {A B : Type 0} → (A → B) → Text → A → Result (B × Text) TextFault
made make rest x = Ok (make x, rest)

abbrev put_before : {B : Type 0} → B → List B × Text → Result (List B × Text) TextFault
put_before first others = Ok (first ∷ others.0, others.1)

line_by : {A B : Type 0} (read : NumberedLine → Result A TextFault) (make : A → B) (count : ℕ) (rest : Text) (first : Result A TextFault)
    (fault later : Option TextFault) → read_fault first ≡ fault → read_fault (in_turn (one_line read make) count rest) ≡ later
    → read_fault ((first >>= made make rest) >>= λ item. in_turn (one_line read make) count item.1 >>= put_before item.0)
    ≡ or_later fault later
line_by read make count rest (Ok x) fault later is more =
    only_fault (in_turn (one_line read make) count rest) (λ others. (make x ∷ others.0, others.1)) ∙ more
    ∙ ap (λ (first : Option TextFault). or_later first later) is
line_by read make count rest (Err e) fault later is more = ap (λ (first : Option TextFault). or_later first later) is

turns_fail : {A B : Type 0} (kind : LineKind) (read : NumberedLine → Result A TextFault) (make : A → B) → FailsByKind kind read
    → (count : ℕ) (lines : List NumberedLine) (ending : ℕ)
    → read_fault (in_turn (one_line read make) count (lines_then lines ending)) ≡ fault_among kind count lines ending
unfolding in_turn next_line
turns_fail kind read make fails zero lines ending = refl
turns_fail kind read make fails (suc count) [] ending = refl
turns_fail kind read make fails (suc count) (line ∷ lines) ending =
    line_by read make count (lines_then lines ending) (read line) (kind_fault kind line) (fault_among kind count lines ending)
    (fails line) (turns_fail kind read make fails count lines ending)

pub moves_turn : (count : ℕ) (text : Text) → read_fault (move_lines count text) ≡ lines_fault move_kind count text
unfolding next_move
moves_turn count text = turns_fail move_kind (λ line. move_at line) (λ move. move) (λ line. move_fails line) count text.lines text.ending

pub steps_turn : (count : ℕ) (text : Text) → read_fault (step_lines count text) ≡ lines_fault step_kind count text
unfolding braid_step_item
steps_turn count text = turns_fail step_kind (λ line. step_at line) (λ step. step) (λ line. step_fails line) count text.lines text.ending

pub colours_turn : (width order count : ℕ) (text : Text)
    → read_fault (in_turn (colour_line width order) count text) ≡ lines_fault (below_kind width order) count text
unfolding colour_line
colours_turn width order count text =
    turns_fail (below_kind width order) (λ line. numbers_below width order line) (λ colours. record { items = colours })
    (λ line. below_fails width order line) count text.lines text.ending

-- ---- tidy lists

-- of the move before, the tokens of its line; where there is none, none
abbrev AreTokensOf : Option Move → List (List ℕ) → Type 0
AreTokensOf None tokens = tokens ≡ []
AreTokensOf (Some move) tokens = tokens ≡ move_tokens move

shift_said : (move : Move) → says_shift (move_tokens move) ≡ is_shift move
shift_said (ShiftColumns k) = refl
shift_said (ShiftRows k) = refl
shift_said (ExchangeColumns c) = refl
shift_said (ExchangeRows r) = refl
shift_said (SlideColumns c) = refl
shift_said (SlideRows r) = refl
shift_said (Stabilise c kind corner) = refl
shift_said (Destabilise c r) = refl

columns_said : (move : Move) → says_shift_of (codes "columns") (move_tokens move) ≡ is_column_shift move
columns_said (ShiftColumns k) = refl
columns_said (ShiftRows k) = refl
columns_said (ExchangeColumns c) = refl
columns_said (ExchangeRows r) = refl
columns_said (SlideColumns c) = refl
columns_said (SlideRows r) = refl
columns_said (Stabilise c kind corner) = refl
columns_said (Destabilise c r) = refl

rows_said : (move : Move) → says_shift_of (codes "rows") (move_tokens move) ≡ is_row_shift move
rows_said (ShiftColumns k) = refl
rows_said (ShiftRows k) = refl
rows_said (ExchangeColumns c) = refl
rows_said (ExchangeRows r) = refl
rows_said (SlideColumns c) = refl
rows_said (SlideRows r) = refl
rows_said (Stabilise c kind corner) = refl
rows_said (Destabilise c r) = refl

-- what a line says decides whether its move may follow
follows : (before : Option Move) (tokens : List (List ℕ)) (move : Move) → AreTokensOf before tokens
    → (tidy_kind tokens).content (move_tokens move) ≡ may_follow before move
follows None tokens move are =
    rw are (ap₂ (λ (p q : Bool). not (p || q)) (and-false (says_shift_of (codes "columns") (move_tokens move)))
    (and-false (says_shift_of (codes "rows") (move_tokens move))))
follows (Some last) tokens move are = rw (are, columns_said move, rows_said move, rows_said last, shift_said last) refl

tidy_err : (form over content : Bool) (n : ℕ) (e : TextFault) → Some e ≡ fault_by form over true n → Some e ≡ fault_by form over content n
tidy_err false over content n e is = is
tidy_err true true content n e is = is
tidy_err true false content n e is = absurd cc

tidy_ok : (form over content : Bool) (n : ℕ) (move : Move) → None ≡ fault_by form over true n
    → read_fault (cond content (Ok move) (Err (Malformed n))) ≡ fault_by form over content n
tidy_ok false over content n move is = absurd cc
tidy_ok true true content n move is = absurd cc
tidy_ok true false true n move is = refl
tidy_ok true false false n move is = refl

tidy_line_by : (before : Option Move) (tokens : List (List ℕ)) (line : NumberedLine) (r : Result Move TextFault) → AreTokensOf before tokens
    → move_at line ≡ r → read_fault r ≡ kind_fault move_kind line
    → read_fault (r >>= λ move. cond (may_follow before move) (Ok move) (Err (Malformed line.number))) ≡ kind_fault (tidy_kind tokens) line
tidy_line_by before tokens line (Err e) are is fails =
    tidy_err (move_kind.form line.tokens) (move_kind.over line.tokens) ((tidy_kind tokens).content line.tokens) line.number e fails
tidy_line_by before tokens line (Ok move) are is fails =
    let said = (move_says line).of move is in
    let may = follows before tokens move are in
    let content = ap (λ (ts : List (List ℕ)). (tidy_kind tokens).content ts) said.1 ∙ may in
    ap (λ (b : Bool). read_fault (cond b (Ok move) (Err (Malformed line.number)))) (sym content)
    ∙ tidy_ok (move_kind.form line.tokens) (move_kind.over line.tokens) ((tidy_kind tokens).content line.tokens) line.number move fails

tidy_line : (before : Option Move) (tokens : List (List ℕ)) (line : NumberedLine) → AreTokensOf before tokens
    → read_fault (tidy_move_at before line) ≡ kind_fault (tidy_kind tokens) line
unfolding tidy_move_at
tidy_line before tokens line are = tidy_line_by before tokens line (move_at line) are refl (move_fails line)

-- a line, and the lines behind it
tidy_by : (count : ℕ) (rest : Text) (r : Result Move TextFault) (fault later : Option TextFault) → read_fault r ≡ fault
    → ((move : Move) → r ≡ Ok move → read_fault (tidy_moves (Some move) count rest) ≡ later)
    → read_fault ((r >>= made (λ move. move) rest) >>= λ first. tidy_moves (Some first.0) count first.1 >>= put_before first.0)
    ≡ or_later fault later
tidy_by count rest (Ok move) fault later is more =
    only_fault (tidy_moves (Some move) count rest) (λ others. (move ∷ others.0, others.1)) ∙ more move refl
    ∙ ap (λ (first : Option TextFault). or_later first later) is
tidy_by count rest (Err e) fault later is more = ap (λ (first : Option TextFault). or_later first later) is

-- a move that may follow is the one of its line
tidy_said : (before : Option Move) (line : NumberedLine) (move : Move) → tidy_move_at before line ≡ Ok move → AreTokensOf (Some move) line.tokens
tidy_said before line move is = ((tidy_at_says before line).of move is).written.1

tidy_turns : (before : Option Move) (tokens : List (List ℕ)) (count : ℕ) (lines : List NumberedLine) (ending : ℕ) → AreTokensOf before tokens
    → read_fault (tidy_moves before count (lines_then lines ending)) ≡ tidy_among tokens count lines ending
unfolding tidy_moves tidy_move next_line
tidy_turns before tokens zero lines ending are = refl
tidy_turns before tokens (suc count) [] ending are = refl
tidy_turns before tokens (suc count) (line ∷ lines) ending are =
    tidy_by count (lines_then lines ending) (tidy_move_at before line) (kind_fault (tidy_kind tokens) line) (tidy_among line.tokens count lines ending)
    (tidy_line before tokens line are)
    (λ move is. tidy_turns (Some move) line.tokens count lines ending (tidy_said before line move is))

pub tidy_turn : (count : ℕ) (text : Text) → read_fault (tidy_moves None count text) ≡ tidy_fault count text
tidy_turn count text = tidy_turns None [] count text.lines text.ending refl

-- ---- tables

-- the last line, and what its entries then make
abbrev last : {A : Type 0} → ℕ → ℕ → (List ℕ → Bool) → (List ℕ → A) → Text → Result (A × Text) TextFault
last width order test make text =
    next_line text >>= λ line. numbers_below width order line.0 >>= λ row. cond (test row) (Ok (make row, line.1)) (Err (Malformed line.0.number))

abbrev judge : {A : Type 0} → (List ℕ → Bool) → (List ℕ → A) → ℕ → Text → List ℕ → Result (A × Text) TextFault
judge test make n rest row = cond (test row) (Ok (make row, rest)) (Err (Malformed n))

judged_last : {A : Type 0} (n : ℕ) (form over content good : Bool) (row : List ℕ) (rest : Text) (test : List ℕ → Bool) (make : List ℕ → A)
    → test row ≡ good
    → read_fault (or_fault (fault_by form over content n) row >>= judge test make n rest)
    ≡ or_later (fault_by form over (content && good) n) None
judged_last n false over content good row rest test make is = refl
judged_last n true true content good row rest test make is = refl
judged_last n true false false good row rest test make is = refl
judged_last n true false true true row rest test make is = rw is refl
judged_last n true false true false row rest test make is = rw is refl

last_fails : {A : Type 0} (width order : ℕ) (test : List ℕ → Bool) (entries : List ℕ) (make : List ℕ → A) (lines : List NumberedLine) (ending : ℕ)
    → read_fault (last width order (λ row. test (entries ++ row)) make (lines_then lines ending))
    ≡ fault_among (last_kind width order test entries) 1 lines ending
unfolding next_line
last_fails width order test entries make [] ending = refl
last_fails width order test entries make (line ∷ lines) ending =
    rw (below_read width order line)
    (judged_last line.number _ _ _ _ (map worth line.tokens) (lines_then lines ending) (λ row. test (entries ++ row)) make refl)

abbrev table_by : {A : Type 0} → ℕ → ℕ → (List ℕ → Bool) → (List ℕ → A) → List ℕ → ℕ → Text → Result (A × Text) TextFault
table_by width order test make entries count text =
    table_rows width order count text
    >>= λ front. last width order (λ row. test (entries ++ (front.0 ++ row))) (λ row. make (entries ++ (front.0 ++ row))) front.1

same_last : {A : Type 0} (width order : ℕ) (one two : List ℕ → Bool) (make other : List ℕ → A) (text : Text) → ((row : List ℕ) → one row ≡ two row)
    → read_fault (last width order one make text) ≡ read_fault (last width order two other text)
unfolding next_line
same_last width order one two make other text same = by text.lines
  where
    judged : (n : ℕ) (row : List ℕ) (rest : Text) (b : Bool) → two row ≡ b
        → read_fault (judge one make n rest row) ≡ read_fault (judge two other n rest row)
    judged n row rest true is = rw (same row, is) refl
    judged n row rest false is = rw (same row, is) refl

    read : (n : ℕ) (rest : Text) (first : Result (List ℕ) TextFault)
        → read_fault (first >>= judge one make n rest)
        ≡ read_fault (first >>= judge two other n rest)
    read n rest (Ok row) = judged n row rest (two row) refl
    read n rest (Err e) = refl

    by : (lines : List NumberedLine)
        → read_fault (last width order one make (lines_then lines text.ending)) ≡ read_fault (last width order two other (lines_then lines text.ending))
    by [] = refl
    by (line ∷ lines) = read line.number (lines_then lines text.ending) (numbers_below width order line)

abbrev in_front : List ℕ → List ℕ × Text → Result (List ℕ × Text) TextFault
in_front row rows = Ok (row ++ rows.0, rows.1)

-- the lines behind the first, with its numbers at the end of the entries
rest_same : {A : Type 0} (width order : ℕ) (test : List ℕ → Bool) (make : List ℕ → A) (entries row : List ℕ)
    (front : Result (List ℕ × Text) TextFault)
    → read_fault ((front >>= in_front row)
    >>= λ front. last width order (λ row. test (entries ++ (front.0 ++ row))) (λ row. make (entries ++ (front.0 ++ row))) front.1)
    ≡ read_fault (front >>= λ front. last width order (λ last. test ((entries ++ row) ++ (front.0 ++ last)))
    (λ last. make ((entries ++ row) ++ (front.0 ++ last))) front.1)
rest_same width order test make entries row (Err e) = refl
rest_same width order test make entries row (Ok (rows, rest)) =
    same_last width order (λ last. test (entries ++ ((row ++ rows) ++ last))) (λ last. test ((entries ++ row) ++ (rows ++ last)))
    (λ last. make (entries ++ ((row ++ rows) ++ last))) (λ last. make ((entries ++ row) ++ (rows ++ last))) rest
    (λ last. ap test (ap (λ (behind : List ℕ). entries ++ behind) (append_assoc row rows last) ∙ sym (append_assoc entries row (rows ++ last))))

rest_by : {A : Type 0} (width order : ℕ) (test : List ℕ → Bool) (make : List ℕ → A) (entries : List ℕ) (count : ℕ) (fault : Option TextFault) (row : List ℕ)
    (rest : Text) (later : Option TextFault) → read_fault (table_by width order test make (entries ++ row) count rest) ≡ later
    → read_fault (((or_fault fault row >>= made (λ row. row) rest) >>= λ row. table_rows width order count row.1 >>= in_front row.0)
    >>= λ front. last width order (λ row. test (entries ++ (front.0 ++ row))) (λ row. make (entries ++ (front.0 ++ row))) front.1)
    ≡ or_later fault later
rest_by width order test make entries count None row rest later more =
    rest_same width order test make entries row (table_rows width order count rest) ∙ more
rest_by width order test make entries count (Some fault) row rest later more = refl

table_turns : {A : Type 0} (width order : ℕ) (test : List ℕ → Bool) (make : List ℕ → A) (entries : List ℕ) (count : ℕ) (lines : List NumberedLine) (ending : ℕ)
    → read_fault (table_by width order test make entries count (lines_then lines ending)) ≡ table_among width order test entries count lines ending
unfolding next_line table_rows table_row
table_turns width order test make entries zero lines ending =
    last_fails width order test entries (λ row. make (entries ++ row)) lines ending
table_turns width order test make entries (suc count) [] ending = refl
table_turns width order test make entries (suc count) (line ∷ lines) ending =
    let row : List ℕ = map worth line.tokens in
    rw (below_read width order line)
    (rest_by width order test make entries count (kind_fault (below_kind width order) line) row (lines_then lines ending) _
    (table_turns width order test make (entries ++ row) count lines ending))

pub table_turn : (order : ℕ) (text : Text)
    → read_fault (table_item order text)
    ≡ rows_fault order order (λ entries. is_none (first_fault_within order (record { order = order; entries = entries }))) text
unfolding table_item
table_turn order text =
    table_turns order order (λ entries. is_none (first_fault_within order (record { order = order; entries = entries })))
    (λ entries. called name.Table (record { order = order; entries = entries })) [] (order - 1) text.lines text.ending

pub cochain_turn : (q : Table) (modulus : ℕ) (text : Text)
    → read_fault (cochain_item q modulus text) ≡ rows_fault q.order modulus (λ entries. is_none (cochain_fault (cochain q modulus entries))) text
unfolding cochain_item
cochain_turn q modulus text =
    table_turns q.order modulus (λ entries. is_none (cochain_fault (cochain q modulus entries)))
    (λ entries. cochain q modulus entries) [] (q.order - 1) text.lines text.ending

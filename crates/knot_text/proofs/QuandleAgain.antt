-- A quandle that was printed is read again.
use Rattle.std.proofs.Common.{◌≡◌, ℕ, zero, suc, ◌<◌, ◌≤◌, ◌+◌, ◌-◌, ◌&&◌, List, [], ◌∷◌, ◌++◌, length, map, true, false, cond, Result, Ok}
use Rattle.std.proofs.Common.{Err, refl, sym, ap, ap₂, ◌∙◌, arith, nat_le, nat_lt}
use Rattle.std.specs.Prelude.{is_none}
use Rattle.std.specs.List.{flat_map, range_with_len}
use Rattle.std.specs.Fmt.{decimal}
use Rattle.std.proofs.lemmas.Bool.{le-leb, le-ltb, lt-ltb, and_from}
use Rattle.std.proofs.lemmas.List.{length-map}
use Rattle.std.proofs.lemmas.List.FromFn.{length-range_with_len}
use Rattle.quandle_core.specs.declared.quandle.TheConstants.{MAX_ORDER}
use Rattle.quandle_core.specs.Quandle.{Table, IsQuandle, over}
use Rattle.quandle_core.specs.Tables.{trivial, dihedral, alexander, tetrahedral, is_unit}
use Rattle.quandle_core.specs.Fault.{first_fault_within}
use Rattle.quandle_core.proofs.Accepted.{none_within}
use Rattle.text_lines.specs.Lines.{Text}
use Rattle.text_lines.specs.Spelled.{numbered}
use Rattle.text_items.specs.declared.fault.TextFault.{TextFault}
use Rattle.text_items.specs.declared.fault.TextFault.TheVariants.{Malformed}
use Rattle.text_items.specs.declared.reading.TheConstants.{MAX_NUMBER}
use Rattle.quandle_core.specs.declared.names.QuandleName.{QuandleName}
use Rattle.quandle_core.specs.declared.names.QuandleName.TheVariants as name
use Rattle.quandle_core.specs.Names.{NamedQuandle, IsOrder, NamesWithin, Names, is_order, called}
use Rattle.quandle_core.proofs.Named.{is_order_of}
use Rattle.text_items.specs.Reading.{next_line, next_token, line_end}
use Rattle.text_items.specs.NumberLists.{is_long}
use Rattle.text_items.specs.Numbers.{numbers_below}
use Rattle.text_items.specs.Quandles.{written_at, alexander_at, tetrahedral_at, table_row, table_rows, table_item, quandle_at}
use Rattle.knot_text.specs.Printed.{name_tokens, row_tokens, table_lines, HasFactor}
use Rattle.knot_text.proofs.LineTexts.{map_decimals}
use Rattle.knot_text.proofs.StepsAgain.{line_of, lines_before, number_again, last_again, below_again}
use Rattle.knot_text.proofs.Tables.{row, IsWithin, row_below, rows_last}

order_few : (n : ℕ) → IsOrder n → n ≤ MAX_NUMBER
order_few n is = omega (arith, is.1)

within_limit : (n : ℕ) → IsOrder n → nat_lt MAX_ORDER n ≡ false
within_limit n is = le-ltb MAX_ORDER n is.1

-- ---- names without a table

trivial_again : (most n k : ℕ) (text : Text) → IsOrder k
    → quandle_at most (line_of n (name_tokens (name.Trivial k) 0)) text ≡ Ok (called (name.Trivial k) (trivial k), text)
unfolding quandle_at written_at next_token
trivial_again most n k text is = rw (last_again k n (order_few k is), within_limit k is, is_order_of k is) refl

dihedral_again : (most n k : ℕ) (text : Text) → IsOrder k
    → quandle_at most (line_of n (name_tokens (name.Dihedral k) 0)) text ≡ Ok (called (name.Dihedral k) (dihedral k), text)
unfolding quandle_at written_at next_token
dihedral_again most n k text is = rw (last_again k n (order_few k is), within_limit k is, is_order_of k is) refl

tetrahedral_again : (most n : ℕ) (text : Text)
    → quandle_at most (line_of n (name_tokens name.Tetrahedral 0)) text ≡ Ok (called name.Tetrahedral tetrahedral, text)
unfolding quandle_at written_at tetrahedral_at next_token line_end
tetrahedral_again most n text = refl

alexander_again : (most n k a : ℕ) (text : Text) → IsOrder k → is_unit k a ≡ true → a < k
    → quandle_at most (line_of n (name_tokens (name.Alexander k a) 0)) text ≡ Ok (called (name.Alexander k a) (alexander k a), text)
unfolding quandle_at written_at alexander_at next_token
alexander_again most n k a text is unit low =
    let few = order_few k is in
    let short : is_long a ≡ false = le-ltb MAX_NUMBER a (omega (arith, few, low)) in
    let below : nat_lt a k ≡ true = lt-ltb a k low in
    let known : (is_order k && is_unit k a) ≡ true = and_from (is_order k) (is_unit k a) (is_order_of k is) unit in
    rw (number_again k n (decimal a ∷ []) few, last_again a n (omega (arith, few, low)), within_limit k is, short, below, known) refl

-- ---- tables

-- row x of a table, in line n
pub line_again : (t : Table) (bound n x : ℕ) → bound ≤ 255 → IsWithin t bound → x < t.order
    → numbers_below t.order bound (line_of n (row_tokens t x)) ≡ Ok (row t x)
line_again t bound n x most within lt =
    let len : length (row t x) ≡ t.order = length-map (range_with_len 0 t.order) (over t x) ∙ length-range_with_len 0 t.order in
    ap (λ (ts : List (List ℕ)). numbers_below t.order bound (line_of n ts)) (sym (map_decimals (over t x) (range_with_len 0 t.order)))
    ∙ below_again t.order bound n (row t x) len most (row_below t bound x within lt)

row_again : (t : Table) (bound n x : ℕ) (text : Text) → bound ≤ 255 → IsWithin t bound → x < t.order
    → table_row t.order bound (lines_before (line_of n (row_tokens t x) ∷ []) text) ≡ Ok (row t x, text)
unfolding table_row next_line
row_again t bound n x text most within lt = rw (line_again t bound n x most within lt) refl

-- so many rows, behind which one more stands
pub rows_again : (t : Table) (bound n a count : ℕ) (text : Text) → bound ≤ 255 → IsWithin t bound → a + count < t.order
    → table_rows t.order bound count (lines_before (numbered n (map (row_tokens t) (range_with_len a (suc count)))) text)
    ≡ Ok (flat_map (row t) (range_with_len a count), lines_before (line_of (n + count + 1) (row_tokens t (a + count)) ∷ []) text)
unfolding table_rows
rows_again t bound n a zero text most within lt =
    let number : n + 1 ≡ n + 0 + 1 = omega arith in
    let place : a ≡ a + 0 = omega arith in
    ap₂ (λ (j x : ℕ). Ok ([], lines_before (line_of j (row_tokens t x) ∷ []) text)) number place
rows_again t bound n a (suc count) text most within lt =
    let behind = lines_before (numbered (n + 1) (map (row_tokens t) (range_with_len (a + 1) (suc count)))) text in
    let one = row_again t bound (n + 1) a behind most within (omega arith) in
    let others = rows_again t bound (n + 1) (a + 1) count text most within (omega arith) in
    let number : n + 1 + count + 1 ≡ n + suc count + 1 = omega arith in
    let place : a + 1 + count ≡ a + suc count = omega arith in
    rw (one, others) (ap₂ (λ (j x : ℕ). Ok (flat_map (row t) (range_with_len a (suc count)), lines_before (line_of j (row_tokens t x) ∷ []) text)) number place)

-- what the laws say of some entries
abbrev tested : ℕ → List ℕ → ℕ → Text → Result (NamedQuandle × Text) TextFault
tested order entries n text = cond (is_none (first_fault_within order (record { order = order; entries = entries })))
    (Ok (called name.Table (record { order = order; entries = entries }), text)) (Err (Malformed n))

table_by : (t : Table) (n k : ℕ) (text : Text) → IsQuandle t → t.order ≤ 255 → t.order ≡ suc k
    → table_item t.order (lines_before (numbered n (table_lines name.Table t)) text) ≡ Ok (called name.Table t, text)
unfolding table_item next_line
table_by t n k text is most size =
    let order = t.order in
    let front = flat_map (row t) (range_with_len 0 k) in
    let last : 0 + k ≡ k = omega arith in
    let fewer : order - 1 ≡ k = omega (arith, size) in
    let lines = numbered n (map (row_tokens t) (range_with_len 0 (suc k))) in
    let rows = rows_again t order n 0 k text most is.within (omega (arith, size)) in
    let end = line_again t order (n + k + 1) (0 + k) most is.within (omega (arith, size)) in
    let whole : front ++ row t (0 + k) ≡ t.entries = ap (λ (x : ℕ). front ++ row t x) last ∙ rows_last t k is.square size in
    let none : is_none (first_fault_within order t) ≡ true = ap (λ f. is_none f) (none_within order t is (omega arith)) in
    let read : table_item order (lines_before lines text) ≡ tested order (front ++ row t (0 + k)) (n + k + 1) text = rw (fewer, rows, end) refl in
    let passes : tested order t.entries (n + k + 1) text ≡ Ok (called name.Table t, text) = rw none refl in
    ap (λ (j : ℕ). table_item order (lines_before (numbered n (map (row_tokens t) (range_with_len 0 j))) text)) size ∙ read
    ∙ ap (λ (es : List ℕ). tested order es (n + k + 1) text) whole ∙ passes

table_again : (most n : ℕ) (t : Table) (text : Text) → most ≤ 255 → IsQuandle t → t.order ≤ most
    → quandle_at most (line_of n (name_tokens name.Table t.order)) (lines_before (numbered n (table_lines name.Table t)) text) ≡ Ok (called name.Table t, text)
unfolding quandle_at written_at next_token
table_again most n t text byte is small =
    let some : nat_le 1 t.order ≡ true = le-leb 1 t.order is.least in
    let few : nat_lt most t.order ≡ false = le-ltb most t.order small in
    let size : t.order ≡ suc (t.order - 1) = omega (arith, is.least) in
    rw (last_again t.order n (omega (arith, small, byte)), few, some) (table_by t n (t.order - 1) text is (omega (arith, small, byte)) size)

-- ---- any quandle

pub quandle_within_again : (most n : ℕ) (called_so : QuandleName) (t : Table) (text : Text) → most ≤ 255 → NamesWithin most called_so t → HasFactor called_so
    → quandle_at most (line_of n (name_tokens called_so t.order)) (lines_before (numbered n (table_lines called_so t)) text) ≡ Ok (called called_so t, text)
quandle_within_again most n (name.Trivial k) t text byte names factor =
    trivial_again most n k text names.0 ∙ ap (λ (s : Table). Ok (called (name.Trivial k) s, text)) (sym names.1)
quandle_within_again most n (name.Dihedral k) t text byte names factor =
    dihedral_again most n k text names.0 ∙ ap (λ (s : Table). Ok (called (name.Dihedral k) s, text)) (sym names.1)
quandle_within_again most n name.Tetrahedral t text byte names factor =
    tetrahedral_again most n text ∙ ap (λ (s : Table). Ok (called name.Tetrahedral s, text)) (sym names)
quandle_within_again most n (name.Alexander k a) t text byte names factor =
    alexander_again most n k a text names.0 names.1 factor ∙ ap (λ (s : Table). Ok (called (name.Alexander k a) s, text)) (sym names.2)
quandle_within_again most n name.Table t text byte names factor = table_again most n t text byte names.0 names.1

pub quandle_again : (n : ℕ) (called_so : QuandleName) (t : Table) (text : Text) → Names called_so t → HasFactor called_so
    → quandle_at MAX_ORDER (line_of n (name_tokens called_so t.order)) (lines_before (numbered n (table_lines called_so t)) text)
    ≡ Ok (called called_so t, text)
quandle_again n called_so t text names factor = quandle_within_again MAX_ORDER n called_so t text (omega arith) names factor

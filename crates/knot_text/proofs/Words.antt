-- Printed lines are lines of words.
use Rattle.std.proofs.Common.{◌≡◌, ℕ, zero, suc, ◌<◌, ◌≤◌, ◌+◌, ◌-◌, ◌==◌, ◌&&◌, not, List, [], ◌∷◌, ◌++◌, length, map, Bool, true, refl}
use Rattle.std.proofs.Common.{ap, ◌∙◌, arith, codes, All}
use Rattle.std.specs.List.{AllByRecursion, list_all, range_with_len}
use Rattle.std.specs.Fmt.{decimal}
use Rattle.std.specs.Char.{digit_value}
use Rattle.std.specs.Str.Parse.{AllDigits}
use Rattle.std.proofs.lemmas.Bool.{and_parts, and_from}
use Rattle.std.proofs.lemmas.Bool.Decides.{nat_tests}
use Rattle.std.proofs.lemmas.Fmt.{decimal_is_IsNumeral, decimal_nonempty}
use Rattle.std.proofs.lemmas.Str.Parse.{digit_from_value}
use Rattle.std.proofs.lemmas.List.Elements.{recursion_from_All}
use Rattle.arrayvec.specs.ArrayVec.{ArrayVec}
use Rattle.colour_rows.specs.Colouring.{AreColours}
use Rattle.grid_core.specs.declared.mark.Kind.{Kind}
use Rattle.grid_core.specs.declared.mark.Kind.TheVariants.{Cross, Ring}
use Rattle.grid_core.specs.declared.mark.Corner.{Corner}
use Rattle.grid_core.specs.declared.mark.Corner.TheVariants.{LowLeft, LowRight, HighLeft, HighRight}
use Rattle.grid_core.specs.Diagram.{Diagram, IsGrid}
use Rattle.grid_core.proofs.OneEach.{each_below}
use Rattle.grid_moves.specs.declared.step.Move.{Move}
use Rattle.grid_moves.specs.declared.step.Move.TheVariants.{ShiftColumns, ShiftRows, ExchangeColumns, ExchangeRows, SlideColumns, SlideRows}
use Rattle.grid_moves.specs.declared.step.Move.TheVariants.{Stabilise, Destabilise}
use Rattle.quandle_core.specs.declared.quandle.TheConstants.{MAX_ORDER}
use Rattle.quandle_core.specs.Quandle.{Table, IsQuandle, over}
use Rattle.text_lines.specs.Spelled.{is_plain, is_word, is_line}
use Rattle.text_items.specs.declared.reading.TheConstants.{MAX_NUMBER}
use Rattle.quandle_core.specs.declared.names.QuandleName.{QuandleName}
use Rattle.quandle_core.specs.declared.names.QuandleName.TheVariants as name
use Rattle.verdict_core.specs.declared.verdict.Verdict.{Verdict}
use Rattle.verdict_core.specs.declared.verdict.Verdict.TheVariants.{Equal, Different, UnknownBudget, UnknownExhausted}
use Rattle.quandle_core.specs.Names.{NamesWithin}
use Rattle.knot_text.specs.Printed.{grid_lines, kind_word, corner_word, move_tokens, moves_lines, HasMoveText, HaveMovesText, name_tokens}
use Rattle.knot_text.specs.Printed.{row_tokens, table_lines, quandle_lines, HasFactor, list_lines, verdict_lines, HasListText}
use Rattle.knot_text.specs.Printed.{head_tokens, version_lines, HasVerdictText, HasVersionText}
use Rattle.verdict_text.specs.declared.verdicts.TheConstants.{TIDY_VERSION}
use Rattle.verdict_text.specs.declared.verdicts.Version.{Version}
use Rattle.verdict_text.specs.declared.verdicts.Version.TheVariants.{Plain, Tidy}
use Rattle.knot_text.proofs.StepsAgain.{IsShort, all_short}
use Rattle.quandle_core.proofs.Named.{names_order}

-- ---- lists of lines

pub both_lines : (xs ys : List (List (List ℕ))) → list_all is_line xs ≡ true → list_all is_line ys ≡ true → list_all is_line (xs ++ ys) ≡ true
both_lines [] ys first second = second
both_lines (x ∷ xs) ys first second =
    let h = and_parts (is_line x) (list_all is_line xs) first in
    and_from (is_line x) (list_all is_line (xs ++ ys)) h.0 (both_lines xs ys h.1 second)

pub front_lines : (xs ys : List (List (List ℕ))) → list_all is_line (xs ++ ys) ≡ true → list_all is_line xs ≡ true
front_lines [] ys all = refl
front_lines (x ∷ xs) ys all =
    let h = and_parts (is_line x) (list_all is_line (xs ++ ys)) all in
    and_from (is_line x) (list_all is_line xs) h.0 (front_lines xs ys h.1)

-- ---- numbers

digit_plain : (c : ℕ) → digit_value c < 10 → is_plain c ≡ true
digit_plain c lt = let r = digit_from_value c lt in grind (arith, nat_tests)

digits_plain : (ds : List ℕ) → AllDigits 10 ds → list_all is_plain ds ≡ true
digits_plain [] all = refl
digits_plain (d ∷ ds) all = and_from (is_plain d) (list_all is_plain ds) (digit_plain d all.0) (digits_plain ds all.1)

digits_word : (ds : List ℕ) → 0 < length ds → AllDigits 10 ds → is_word ds ≡ true
digits_word [] some all = absurd (omega (arith, some))
digits_word (d ∷ ds) some all = digits_plain (d ∷ ds) all

pub decimal_word : (k : ℕ) → k ≤ MAX_NUMBER → is_word (decimal k) ≡ true
decimal_word k few = digits_word (decimal k) (decimal_nonempty k (omega arith)) (decimal_is_IsNumeral k (omega arith)).0.1

pub numbers_words : (ks : List ℕ) → AllByRecursion IsShort ks → list_all is_word (map decimal ks) ≡ true
numbers_words [] few = refl
numbers_words (k ∷ ks) few = and_from (is_word (decimal k)) (list_all is_word (map decimal ks)) (decimal_word k few.0) (numbers_words ks few.1)

digits_line : (ds : List ℕ) (tokens : List (List ℕ)) → 0 < length ds → AllDigits 10 ds → list_all is_word tokens ≡ true → is_line (ds ∷ tokens) ≡ true
digits_line [] tokens some all words = absurd (omega (arith, some))
digits_line (d ∷ ds) tokens some all words =
    let r = digit_from_value d all.0 in
    let sharp : not (d == 35) ≡ true = grind (arith, nat_tests) in
    and_from (not (d == 35)) (is_word (d ∷ ds) && list_all is_word tokens) sharp
    (and_from (is_word (d ∷ ds)) (list_all is_word tokens) (digits_word (d ∷ ds) some all) words)

pub numbers_line : (ks : List ℕ) → 0 < length ks → AllByRecursion IsShort ks → is_line (map decimal ks) ≡ true
numbers_line [] some few = absurd (omega (arith, some))
numbers_line (k ∷ ks) some few =
    digits_line (decimal k) (map decimal ks) (decimal_nonempty k (omega (arith, few.0))) (decimal_is_IsNumeral k (omega (arith, few.0))).0.1
    (numbers_words ks few.1)

-- ---- grids

pub grid_words : (d : Diagram) → IsGrid d → list_all is_line (grid_lines d) ≡ true
grid_words d grid =
    let below : (rows : List ℕ) → All (λ r. r < length d.x) rows → AllByRecursion IsShort rows =
    λ rows all. all_short (length d.x) rows (omega (arith, grid.most)) (recursion_from_All (λ r. r < length d.x) rows all) in
    let x = numbers_words d.x (below d.x (each_below (length d.x) d.x grid.crosses)) in
    let o = numbers_words d.o (below d.o (each_below (length d.x) d.o grid.rings)) in
    rw (x, o) refl

-- ---- moves

kind_is_word : (kind : Kind) → is_word (kind_word kind) ≡ true
kind_is_word Cross = refl
kind_is_word Ring = refl

corner_is_word : (corner : Corner) → is_word (corner_word corner) ≡ true
corner_is_word LowLeft = refl
corner_is_word LowRight = refl
corner_is_word HighLeft = refl
corner_is_word HighRight = refl

move_line : (move : Move) → HasMoveText move → is_line (move_tokens move) ≡ true
move_line (ShiftColumns k) few = rw (decimal_word k (omega arith)) refl
move_line (ShiftRows k) few = rw (decimal_word k (omega arith)) refl
move_line (ExchangeColumns c) few = rw (decimal_word c (omega arith)) refl
move_line (ExchangeRows r) few = rw (decimal_word r (omega arith)) refl
move_line (SlideColumns c) few = rw (decimal_word c (omega arith)) refl
move_line (SlideRows r) few = rw (decimal_word r (omega arith)) refl
move_line (Stabilise c kind corner) few = rw (decimal_word c (omega arith), kind_is_word kind, corner_is_word corner) refl
move_line (Destabilise c r) few = rw (decimal_word c (omega (arith, few.0)), decimal_word r (omega (arith, few.1))) refl

pub all_lines : {A : Type 0} (tokens : A → List (List ℕ)) (Fits : A → Type 0) (xs : List A) → ((x : A) → Fits x → is_line (tokens x) ≡ true)
    → AllByRecursion Fits xs → list_all is_line (map tokens xs) ≡ true
all_lines tokens Fits [] each fits = refl
all_lines tokens Fits (x ∷ xs) each fits =
    and_from (is_line (tokens x)) (list_all is_line (map tokens xs)) (each x fits.0) (all_lines tokens Fits xs each fits.1)

move_words : (moves : List Move) → AllByRecursion HasMoveText moves → list_all is_line (map move_tokens moves) ≡ true
move_words moves fits = all_lines move_tokens HasMoveText moves move_line fits

pub moves_words : (moves : List Move) → HaveMovesText moves → list_all is_line (moves_lines (codes "moves") moves) ≡ true
moves_words moves fits = rw (decimal_word (length moves) fits.count, move_words moves fits.each) refl

-- ---- quandles

all_both : (p : List (List ℕ) → Bool) (xs ys : List (List (List ℕ))) → list_all p xs ≡ true → list_all p ys ≡ true → list_all p (xs ++ ys) ≡ true
all_both p [] ys first second = second
all_both p (x ∷ xs) ys first second =
    let h = and_parts (p x) (list_all p xs) first in
    and_from (p x) (list_all p (xs ++ ys)) h.0 (all_both p xs ys h.1 second)

pub name_words : (most : ℕ) (called_so : QuandleName) (t : Table) → most ≤ MAX_NUMBER → NamesWithin most called_so t → HasFactor called_so
    → is_line (codes "different" ∷ name_tokens called_so t.order) ≡ true
name_words most (name.Trivial n) t small names factor = rw (decimal_word n (omega (arith, names.0.1))) refl
name_words most (name.Dihedral n) t small names factor = rw (decimal_word n (omega (arith, names.0.1))) refl
name_words most name.Tetrahedral t small names factor = refl
name_words most (name.Alexander n a) t small names factor =
    rw (decimal_word n (omega (arith, names.0.1)), decimal_word a (omega (arith, names.0.1, factor))) refl
name_words most name.Table t small names factor = rw (decimal_word t.order (omega (arith, names.1, small))) refl

range_short : (t : Table) (x a n : ℕ) → ((y : ℕ) → a ≤ y → y < a + n → over t x y ≤ MAX_NUMBER)
    → list_all is_word (map (λ y. decimal (over t x y)) (range_with_len a n)) ≡ true
range_short t x a zero each = refl
range_short t x a (suc n) each =
    and_from (is_word (decimal (over t x a))) (list_all is_word (map (λ y. decimal (over t x y)) (range_with_len (a + 1) n)))
    (decimal_word (over t x a) (each a (omega arith) (omega arith))) (range_short t x (a + 1) n (λ y low high. each y (omega arith) (omega arith)))

row_words : (t : Table) (x k : ℕ) → IsQuandle t → t.order ≤ MAX_NUMBER → x < t.order → t.order ≡ suc k → is_line (row_tokens t x) ≡ true
row_words t x k is few lt size =
    let small : (y : ℕ) → y < t.order → over t x y ≤ MAX_NUMBER = λ y inside. omega (arith, is.within x y lt inside, few) in
    let first : over t x 0 ≤ MAX_NUMBER = small 0 (omega (arith, size)) in
    let rest = range_short t x (0 + 1) k (λ y low high. small y (omega (arith, size, high))) in
    let line : is_line (map (λ y. decimal (over t x y)) (range_with_len 0 (suc k))) ≡ true =
    digits_line (decimal (over t x 0)) (map (λ y. decimal (over t x y)) (range_with_len (0 + 1) k)) (decimal_nonempty (over t x 0) (omega (arith, first)))
    (decimal_is_IsNumeral (over t x 0) (omega (arith, first))).0.1 rest in
    ap (λ (n : ℕ). is_line (map (λ y. decimal (over t x y)) (range_with_len 0 n))) size ∙ line

rows_words : (t : Table) (a n k : ℕ) → IsQuandle t → t.order ≤ MAX_NUMBER → a + n ≤ t.order → t.order ≡ suc k
    → list_all is_line (map (row_tokens t) (range_with_len a n)) ≡ true
rows_words t a zero k is few fits size = refl
rows_words t a (suc n) k is few fits size =
    and_from (is_line (row_tokens t a)) (list_all is_line (map (row_tokens t) (range_with_len (a + 1) n))) (row_words t a k is few (omega arith) size)
    (rows_words t (a + 1) n k is few (omega arith) size)

pub table_words : (most : ℕ) (called_so : QuandleName) (t : Table) → most ≤ MAX_NUMBER → NamesWithin most called_so t
    → list_all is_line (table_lines called_so t) ≡ true
table_words most (name.Trivial n) t small names = refl
table_words most (name.Dihedral n) t small names = refl
table_words most name.Tetrahedral t small names = refl
table_words most (name.Alexander n a) t small names = refl
table_words most name.Table t small names =
    let size : t.order ≡ suc (t.order - 1) = omega (arith, names.0.least) in
    rows_words t 0 t.order (t.order - 1) names.0 (omega (arith, names.1, small)) (omega arith) size

-- ---- verdicts

colours_line : (width order : ℕ) → 1 ≤ width → order ≤ 255 → (c : ArrayVec ℕ) → AreColours width order c.items → is_line (map decimal c.items) ≡ true
colours_line width order some most c fits =
    numbers_line c.items (omega (arith, fits.0)) (all_short order c.items most (recursion_from_All (λ y. y < order) c.items fits.1))

list_words : (width order : ℕ) (lists : List (ArrayVec ℕ)) → 1 ≤ width → order ≤ 255 → HasListText width order lists
    → list_all is_line (list_lines lists) ≡ true
list_words width order lists some most fits =
    let lines = all_lines (λ (c : ArrayVec ℕ). map decimal c.items) (λ (c : ArrayVec ℕ). AreColours width order c.items) lists
    (colours_line width order some most) fits.each in
    rw (decimal_word (length lists) (omega (arith, fits.count)), lines) refl

pub verdict_words : (one two : ℕ) (v : Verdict) → 1 ≤ one → 1 ≤ two → HasVerdictText one two v → list_all is_line (verdict_lines v) ≡ true
verdict_words one two (Equal moves) some more fits = rw (decimal_word (length moves) fits.count, move_words moves fits.each) refl
verdict_words one two (Different q first second) some more fits =
    let order = q.table.order in
    let most : order ≤ 255 = omega (arith, names_order q.name q.table fits.0.names) in
    let table : list_all is_line (quandle_lines (codes "different") q)
    ≡ true = and_from (is_line (codes "different" ∷ name_tokens q.name order)) (list_all is_line (table_lines q.name q.table))
    (name_words MAX_ORDER q.name q.table (omega arith) fits.0.names fits.0.factor) (table_words MAX_ORDER q.name q.table (omega arith) fits.0.names) in
    all_both is_line (quandle_lines (codes "different") q) (list_lines first ++ list_lines second) table
    (all_both is_line (list_lines first) (list_lines second) (list_words one order first some most fits.1) (list_words two order second more most fits.2))
verdict_words one two (UnknownBudget budget) some more fits = rw (decimal_word budget fits) refl
verdict_words one two (UnknownExhausted cap admitted) some more fits = rw (decimal_word cap fits.0, decimal_word admitted fits.1) refl

pub version_words : (version : Version) (one two : ℕ) (v : Verdict) → 1 ≤ one → 1 ≤ two → HasVersionText version one two v
    → list_all is_line (version_lines version v) ≡ true
version_words Plain one two v some more fits = verdict_words one two v some more fits
version_words Tidy one two v some more fits =
    and_from (is_line head_tokens) (list_all is_line (verdict_lines v)) (rw (decimal_word TIDY_VERSION (omega arith)) refl)
    (verdict_words one two v some more fits.0)

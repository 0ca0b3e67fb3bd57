-- The readers of lines refuse them by their kinds.
use Rattle.std.proofs.Common.{◌≡◌, ◌∙◌, ◌<◌, ◌≤◌, ◌⊎◌, inl, inr, ℕ, ◌||◌, ◌&&◌, Bool, true, false, cond, List, [], ◌∷◌, codes, length, map, Option, Some, None}
use Rattle.std.proofs.Common.{Result, Ok, Err, is_none, nat_lt, refl, ap, ap₂, arith}
use Rattle.std.specs.List.{list_all, list_any}
use Rattle.std.specs.Str.{bytes_eq}
use Rattle.std.specs.Str.Parse.{digits_value}
use Rattle.std.proofs.lemmas.Bool.{ltb-false, le-ltb, or_parts}
use Rattle.std.proofs.lemmas.List.{length-map}
use Rattle.grid_core.specs.declared.grid.TheConstants.{MAX_SIZE}
use Rattle.grid_core.specs.Fault.{first_grid_fault}
use Rattle.colour_rows.specs.Colouring.{are_colours}
use Rattle.text_lines.specs.declared.numbers.TheConstants.{MAX_DIGITS, OVERLONG}
use Rattle.text_lines.specs.Lines.{NumberedLine}
use Rattle.text_lines.specs.NumberTokens.{is_number, number_of}
use Rattle.knot_text.proofs.NumberTexts.{number_range}
use Rattle.text_items.specs.declared.fault.TextFault.{TextFault}
use Rattle.text_items.specs.declared.fault.TextFault.TheVariants.{Malformed, Limit}
use Rattle.text_items.specs.declared.reading.TheConstants.{MAX_NUMBER}
use Rattle.text_items.specs.Reading.{◌>>=◌, next_token, word, each_token}
use Rattle.text_items.specs.NumberLists.{is_long}
use Rattle.text_items.specs.Numbers.{numbers_behind, numbers_below}
use Rattle.text_items.specs.Grids.{are_rows, x_at, o_at}
use Rattle.knot_text.specs.Colours.{colours_at}
use Rattle.text_laws.specs.LineKinds.{read_fault, fault_by, kind_fault, FailsByKind, is_overlong, worth, is_row, row_values, is_row_over}
use Rattle.text_laws.specs.FirstLines.{or_later}
use Rattle.text_laws.proofs.Worths.{kept, short_kept}
use Rattle.text_laws.specs.LineKinds.{x_kind, o_kind, colours_kind, below_kind}

-- ---- numbers of too many digits

short_by : (k : ℕ) (t : List ℕ) → (k < 1000000000) ⊎ ((k ≡ OVERLONG) × (MAX_DIGITS < length t)) → length t ≤ MAX_DIGITS → is_long k ≡ false
short_by k t (inl below) few = le-ltb MAX_NUMBER k (omega (arith, below))
short_by k t (inr long) few = absurd (omega (arith, few, long.1))

short_long : (t : List ℕ) → number_of t ≡ Some (digits_value 10 t) → length t ≤ MAX_DIGITS → is_long (digits_value 10 t) ≡ false
short_long t reads few = short_by (digits_value 10 t) t (number_range t (digits_value 10 t) reads) few

pub long_by : (t : List ℕ) (b : Bool) → is_number t ≡ true → is_overlong t ≡ b → is_long (kept t) ≡ b
long_by t true number is = rw is refl
long_by t false number is =
    let reads : number_of t ≡ Some (digits_value 10 t) = rw (number, is) refl in
    rw is (short_long t reads (ltb-false MAX_DIGITS (length t) is))

any_by : (t : List ℕ) (ts : List (List ℕ)) (b : Bool) → is_number t ≡ b → b && list_all is_number ts ≡ true
    → (list_all is_number ts ≡ true → list_any is_long (map kept ts) ≡ list_any is_overlong ts)
    → list_any is_long (map kept (t ∷ ts)) ≡ list_any is_overlong (t ∷ ts)
any_by t ts true is all more = ap₂ (λ (a b : Bool). a || b) (long_by t (is_overlong t) is refl) (more all)
any_by t ts false is all more = absurd cc

any_long : (ts : List (List ℕ)) → list_all is_number ts ≡ true → list_any is_long (map kept ts) ≡ list_any is_overlong ts
any_long [] all = refl
any_long (t ∷ ts) all = any_by t ts (is_number t) refl all (any_long ts)

-- ---- the tokens of a line as numbers

pub one_more : {A : Type 0} (b : Bool) (x : A) (xs : List A) (e : TextFault)
    → (cond b (Ok xs) (Err e) >>= λ others. Ok (x ∷ others)) ≡ cond b (Ok (x ∷ xs)) (Err e)
one_more true x xs e = refl
one_more false x xs e = refl

abbrev all_read : ℕ → List (List ℕ) → Result (List ℕ) TextFault
all_read n ts = cond (list_all is_number ts) (Ok (map kept ts)) (Err (Malformed n))

each_by : (n : ℕ) (t : List ℕ) (ts : List (List ℕ)) (b : Bool) → is_number t ≡ b → each_token number_of n ts ≡ all_read n ts
    → each_token number_of n (t ∷ ts) ≡ all_read n (t ∷ ts)
unfolding each_token
each_by n t ts true is others = rw (is, others) (one_more (list_all is_number ts) (kept t) (map kept ts) (Malformed n))
each_by n t ts false is others = rw is refl

each_read : (n : ℕ) (ts : List (List ℕ)) → each_token number_of n ts ≡ all_read n ts
unfolding each_token
each_read n [] = refl
each_read n (t ∷ ts) = each_by n t ts (is_number t) refl (each_read n ts)

-- ---- lines of a word and numbers

abbrev kept_of : List (List ℕ) → List ℕ
kept_of [] = []
kept_of (t ∷ ts) = map kept ts

all_kept : (ts : List (List ℕ)) → is_row_over ts ≡ false → kept_of ts ≡ row_values ts
all_kept [] within = refl
all_kept (t ∷ ts) within = short_kept ts (or_parts (nat_lt MAX_SIZE (length ts)) (list_any is_overlong ts) within).1

abbrev row_read : List ℕ → NumberedLine → Result (List ℕ) TextFault
row_read w line =
    cond (is_row w line.tokens) (cond (is_row_over line.tokens) (Err (Limit line.number)) (Ok (kept_of line.tokens))) (Err (Malformed line.number))

limited : (n : ℕ) (ts : List (List ℕ)) (b : Bool) → list_all is_number ts ≡ b
    → (cond b (Ok (map kept ts)) (Err (Malformed n)) >>= λ values.
    cond (nat_lt MAX_SIZE (length values) || list_any is_long values) (Err (Limit n)) (Ok values))
    ≡ cond b (cond (nat_lt MAX_SIZE (length ts) || list_any is_overlong ts) (Err (Limit n)) (Ok (map kept ts))) (Err (Malformed n))
limited n ts true all = rw (length-map ts kept, any_long ts all) refl
limited n ts false all = refl

behind_by : (w : List ℕ) (n : ℕ) (t : List ℕ) (ts : List (List ℕ)) (b : Bool) → bytes_eq t w ≡ b
    → numbers_behind w (record { number = n; tokens = t ∷ ts }) ≡ row_read w (record { number = n; tokens = t ∷ ts })
unfolding numbers_behind word next_token
behind_by w n t ts true is = rw (is, each_read n ts) (limited n ts (list_all is_number ts) refl)
behind_by w n t ts false is = rw is refl

row_by : (w : List ℕ) (n : ℕ) (ts : List (List ℕ)) → numbers_behind w (record { number = n; tokens = ts }) ≡ row_read w (record { number = n; tokens = ts })
unfolding numbers_behind word next_token
row_by w n [] = refl
row_by w n (t ∷ ts) = behind_by w n t ts (bytes_eq t w) refl

-- the value where there is no fault
abbrev pub or_fault : {A : Type 0} → Option TextFault → A → Result A TextFault
or_fault None x = Ok x
or_fault (Some fault) x = Err fault

-- what is read next, where there is no fault
pub fault_then : {A B : Type 0} (fault : Option TextFault) (x : A) (next : A → Result B TextFault)
    → read_fault (or_fault fault x >>= next) ≡ or_later fault (read_fault (next x))
fault_then None x next = refl
fault_then (Some fault) x next = refl

only_faults : {A : Type 0} (fault : Option TextFault) (x : A) → read_fault (or_fault fault x) ≡ fault
only_faults None x = refl
only_faults (Some fault) x = refl

-- what a test of the numbers then says
judged : {A : Type 0} (n : ℕ) (form over : Bool) (values numbers : List ℕ) (test : List ℕ → Bool) (make : List ℕ → A) (good : Bool)
    → (over ≡ false → values ≡ numbers) → test numbers ≡ good
    → (cond form (cond over (Err (Limit n)) (Ok values)) (Err (Malformed n)) >>= λ vs. cond (test vs) (Ok (make vs)) (Err (Malformed n)))
    ≡ or_fault (fault_by form over good n) (make numbers)
judged n true true values numbers test make good same is = refl
judged n true false values numbers test make true same is = rw (same refl, is) refl
judged n true false values numbers test make false same is = rw (same refl, is) refl
judged n false over values numbers test make good same is = refl

-- the rows of the Xs as they are read, those of the Os, and colours
pub x_read : (line : NumberedLine) → x_at line ≡ or_fault (kind_fault x_kind line) (row_values line.tokens)
unfolding x_at
x_read line =
    rw (row_by (codes "x") line.number line.tokens)
    (judged line.number (is_row (codes "x") line.tokens) (is_row_over line.tokens) (kept_of line.tokens) (row_values line.tokens)
    (λ rows. are_rows rows) (λ rows. rows) _ (all_kept line.tokens) refl)

pub o_read : (x : List ℕ) (line : NumberedLine) → o_at x line ≡ or_fault (kind_fault (o_kind x) line) (record { x = x; o = row_values line.tokens })
unfolding o_at
o_read x line =
    rw (row_by (codes "o") line.number line.tokens)
    (judged line.number (is_row (codes "o") line.tokens) (is_row_over line.tokens) (kept_of line.tokens) (row_values line.tokens)
    (λ rows. is_none (first_grid_fault x rows)) (λ rows. record { x = x; o = rows }) _ (all_kept line.tokens) refl)

pub colours_read : (width order : ℕ) (line : NumberedLine)
    → colours_at width order line ≡ or_fault (kind_fault (colours_kind width order) line) (record { items = row_values line.tokens })
unfolding colours_at
colours_read width order line =
    rw (row_by (codes "colours") line.number line.tokens)
    (judged line.number (is_row (codes "colours") line.tokens) (is_row_over line.tokens) (kept_of line.tokens) (row_values line.tokens)
    (λ colours. are_colours width order colours) (λ colours. record { items = colours }) _ (all_kept line.tokens) refl)

pub x_fails : FailsByKind x_kind x_at
x_fails line = ap read_fault (x_read line) ∙ only_faults (kind_fault x_kind line) (row_values line.tokens)

pub o_fails : (x : List ℕ) → FailsByKind (o_kind x) (o_at x)
o_fails x line = ap read_fault (o_read x line) ∙ only_faults (kind_fault (o_kind x) line) (record { x = x; o = row_values line.tokens })

pub colours_fail : (width order : ℕ) → FailsByKind (colours_kind width order) (colours_at width order)
colours_fail width order line =
    ap read_fault (colours_read width order line)
    ∙ only_faults (kind_fault (colours_kind width order) line) (record { items = row_values line.tokens })

-- ---- lines of numbers alone

below_by : (n width order : ℕ) (ts : List (List ℕ)) (form over good : Bool) → list_all is_number ts ≡ form → list_any is_overlong ts ≡ over
    → are_colours width order (map worth ts) ≡ good
    → (cond form (Ok (map kept ts)) (Err (Malformed n)) >>= λ values.
    cond (list_any is_long values) (Err (Limit n)) (cond (are_colours width order values) (Ok values) (Err (Malformed n))))
    ≡ or_fault (fault_by form over good n) (map worth ts)
below_by n width order ts true true good all is fits = rw (any_long ts all, is) refl
below_by n width order ts true false true all is fits = rw (any_long ts all, is, short_kept ts is, fits) refl
below_by n width order ts true false false all is fits = rw (any_long ts all, is, short_kept ts is, fits) refl
below_by n width order ts false over good all is fits = refl

pub below_read : (width order : ℕ) (line : NumberedLine)
    → numbers_below width order line ≡ or_fault (kind_fault (below_kind width order) line) (map worth line.tokens)
unfolding numbers_below
below_read width order line = rw (each_read line.number line.tokens) (below_by line.number width order line.tokens _ _ _ refl refl refl)

pub below_fails : (width order : ℕ) → FailsByKind (below_kind width order) (numbers_below width order)
below_fails width order line = ap read_fault (below_read width order line) ∙ only_faults (kind_fault (below_kind width order) line) (map worth line.tokens)

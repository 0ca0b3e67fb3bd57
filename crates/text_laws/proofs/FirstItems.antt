-- Items of one line, of two, and of a modulus and its table are refused by their first lines.
use Rattle.std.proofs.Common.{◌≡◌, ◌∙◌, ℕ, ◌||◌, ◌==◌, Bool, true, false, cond, List, [], ◌∷◌, codes, Option, Some, None, Result, Ok, Err, nat_le, nat_lt}
use Rattle.std.proofs.Common.{is_none, refl, ap, sym, arith}
use Rattle.std.specs.Str.{bytes_eq}
use Rattle.quandle_core.specs.Quandle.{Table}
use Rattle.cocycle_core.specs.Fault.{first_cocycle_fault}
use Rattle.arrayvec.specs.ArrayVec.{ArrayVec}
use Rattle.grid_core.specs.Diagram.{Diagram}
use Rattle.text_lines.specs.Lines.{NumberedLine, Text, starts}
use Rattle.text_lines.specs.NumberTokens.{is_number}
use Rattle.verdict_core.specs.declared.diagrams.Diagram.TheVariants as diagram
use Rattle.text_items.specs.declared.fault.TextFault.{TextFault}
use Rattle.text_items.specs.declared.fault.TextFault.TheVariants.{Malformed}
use Rattle.text_items.specs.declared.reading.TheConstants.{MAX_NUMBER}
use Rattle.verdict_text.specs.declared.verdicts.TheConstants.{TIDY_VERSION}
use Rattle.verdict_text.specs.declared.verdicts.Version.TheVariants.{Plain, Tidy}
use Rattle.text_items.specs.declared.modulus.TheConstants.{MAX_MODULUS}
use Rattle.text_items.specs.Reading.{◌>>=◌, next_line, next_token, line_end, word, number, last_number, last_count, at_most}
use Rattle.text_items.specs.Grids.{o_at, grid_item}
use Rattle.text_items.specs.Braids.{braid_at, braid_item}
use Rattle.knot_text.specs.Colours.{colours_item}
use Rattle.verdict_text.specs.Diagrams.{diagram_item}
use Rattle.verdict_text.specs.Verdicts.{verdict_of, version_at, tidy_item, plain_item, versioned_item, verdict_item}
use Rattle.verdict_text.specs.Cocycles.{cochain, cochain_item, cocycle_item}
use Rattle.text_items.specs.Modulus.{modulus_at}
use Rattle.text_laws.specs.LineKinds.{read_fault, fault_by, kind_fault, FailsByKind, worth, row_values, x_kind, o_kind, colours_kind, braid_kind, modulus_kind}
use Rattle.text_laws.specs.LineKinds.{counted_kind, says_version, certificate_kind}
use Rattle.text_laws.specs.FirstLines.{count, or_later, on_top, fault_among, lines_fault, rows_fault, BeginsBy, BeginsWith, BeginsElse}
use Rattle.knot_text.proofs.StepsAgain.{line_of}
use Rattle.text_laws.proofs.Worths.{kept, within, above_kept}
use Rattle.text_laws.proofs.StepFaults.{most_by, chosen}
use Rattle.text_laws.proofs.HeadFaults.{only_fault, none_later, head_fails}
use Rattle.text_laws.proofs.LineFaults.{or_fault, fault_then, x_read, o_read, colours_read}
use Rattle.text_laws.proofs.BraidFaults.{braid_fails}
use Rattle.text_laws.proofs.InTurn.{cochain_turn}

-- ---- one line

abbrev made : {A : Type 0} → Text → A → Result (A × Text) TextFault
made rest x = Ok (x, rest)

pub braid_begins : BeginsBy braid_kind (λ tokens text. None) braid_item
unfolding braid_item next_line
braid_begins line text = only_fault (braid_at line) (λ b. (b, text)) ∙ braid_fails line ∙ sym (none_later (kind_fault braid_kind line))

pub colours_begin : (width order : ℕ) → BeginsBy (colours_kind width order) (λ tokens text. None) (colours_item width order)
unfolding colours_item next_line
colours_begin width order line text =
    ap (λ (read : Result (ArrayVec ℕ) TextFault). read_fault (read >>= made text)) (colours_read width order line)
    ∙ fault_then (kind_fault (colours_kind width order) line) (record { items = row_values line.tokens }) (made text)

-- ---- the two lines of a grid

abbrev second : List ℕ → Text → Result (Diagram × Text) TextFault
second x text = next_line text >>= λ line. o_at x line.0 >>= made line.1

second_by : (x : List ℕ) (lines : List NumberedLine) (ending : ℕ)
    → read_fault (second x (record { lines = lines; ending = ending }))
    ≡ fault_among (o_kind x) 1 lines ending
unfolding next_line
second_by x [] ending = refl
second_by x (line ∷ lines) ending =
    rw (o_read x line)
    (fault_then (kind_fault (o_kind x) line) (record { x = x; o = row_values line.tokens }) (made (record { lines = lines; ending = ending })))

pub grid_begins : BeginsBy x_kind (λ tokens text. lines_fault (o_kind (row_values tokens)) 1 text) grid_item
unfolding grid_item next_line
grid_begins line text =
    let behind = λ (x : List ℕ). second x text in
    ap (λ (read : Result (List ℕ) TextFault). read_fault (read >>= behind)) (x_read line)
    ∙ fault_then (kind_fault x_kind line) (row_values line.tokens) behind
    ∙ ap (λ (later : Option TextFault). or_later (kind_fault x_kind line) later) (second_by (row_values line.tokens) text.lines text.ending)

-- ---- either diagram

pub braid_diagram_begins : BeginsWith (codes "braid") braid_kind (λ tokens text. None) diagram_item
unfolding diagram_item
braid_diagram_begins line text is =
    rw is (only_fault (braid_item (on_top line text)) (λ braid. (diagram.Braid braid.0, braid.1)) ∙ braid_begins line text)

pub grid_diagram_begins : BeginsElse (codes "braid") x_kind (λ tokens text. lines_fault (o_kind (row_values tokens)) 1 text) diagram_item
unfolding diagram_item
grid_diagram_begins line text is =
    rw is (only_fault (grid_item (on_top line text)) (λ grid. (diagram.Grid grid.0, grid.1)) ∙ grid_begins line text)

-- ---- a cocycle

-- the modulus that is read, by its kind
judged : (n value : ℕ) (least : Bool) → nat_le 2 value ≡ least
    → (cond (nat_le 2 value) (Ok value) (Err (Malformed n))) ≡ or_fault (fault_by true false least n) value
judged n value true is = rw is refl
judged n value false is = rw is refl

modulus_by : (n : ℕ) (t : List ℕ) (over : Bool) → is_number t ≡ true → nat_lt MAX_MODULUS (worth t) ≡ over
    → (at_most MAX_MODULUS n (kept t) >>= λ modulus. cond (nat_le 2 modulus) (Ok modulus) (Err (Malformed n)))
    ≡ or_fault (fault_by true (over || false) (nat_le 2 (worth t)) n) (worth t)
modulus_by n t true is above = rw (most_by MAX_MODULUS (kept t), above_kept MAX_MODULUS t (omega arith) is, above) refl
modulus_by n t false is above =
    rw (most_by MAX_MODULUS (kept t), above_kept MAX_MODULUS t (omega arith) is, above, within MAX_MODULUS t (omega arith) is above)
    (judged n (worth t) (nat_le 2 (worth t)) refl)

modulus_line : (n : ℕ) (tokens : List (List ℕ)) → modulus_at (line_of n tokens) ≡ or_fault (kind_fault modulus_kind (line_of n tokens)) (count tokens)
unfolding modulus_at word next_token last_number number line_end
modulus_line n [] = refl
modulus_line n (w ∷ []) = by (bytes_eq w (codes "weight")) refl
  where
    by : (b : Bool) → bytes_eq w (codes "weight") ≡ b
        → modulus_at (line_of n (w ∷ [])) ≡ or_fault (kind_fault modulus_kind (line_of n (w ∷ []))) (count (w ∷ []))
    by true is = rw is refl
    by false is = rw is refl
modulus_line n (w ∷ t ∷ []) = by (bytes_eq w (codes "weight")) (is_number t) refl refl
  where
    by : (b c : Bool) → bytes_eq w (codes "weight") ≡ b → is_number t ≡ c
        → modulus_at (line_of n (w ∷ t ∷ [])) ≡ or_fault (kind_fault modulus_kind (line_of n (w ∷ t ∷ []))) (count (w ∷ t ∷ []))
    by true true is number =
        let none : is_number w ≡ false = chosen (codes "weight") w (λ u. is_number u ≡ false) is refl in
        rw (is, number, none) (modulus_by n t (nat_lt MAX_MODULUS (worth t)) number refl)
    by true false is number = rw (is, number) refl
    by false c is number = rw is refl
modulus_line n (w ∷ t ∷ u ∷ more) = by (bytes_eq w (codes "weight")) (is_number t) refl refl
  where
    by : (b c : Bool) → bytes_eq w (codes "weight") ≡ b → is_number t ≡ c
        → modulus_at (line_of n (w ∷ t ∷ u ∷ more)) ≡ or_fault (kind_fault modulus_kind (line_of n (w ∷ t ∷ u ∷ more))) (count (w ∷ t ∷ u ∷ more))
    by true true is number = rw (is, number) refl
    by true false is number = rw (is, number) refl
    by false c is number = rw is refl

only_faults : {A : Type 0} (fault : Option TextFault) (x : A) → read_fault (or_fault fault x) ≡ fault
only_faults None x = refl
only_faults (Some fault) x = refl

pub modulus_fails : FailsByKind modulus_kind modulus_at
modulus_fails line = ap read_fault (modulus_line line.number line.tokens) ∙ only_faults (kind_fault modulus_kind line) (count line.tokens)

pub cocycle_begins : (q : Table) → BeginsBy modulus_kind
    (λ tokens text. rows_fault q.order (count tokens) (λ entries. is_none (first_cocycle_fault (cochain q (count tokens) entries))) text) (cocycle_item q)
unfolding cocycle_item next_line
cocycle_begins q line text =
    let behind = λ (modulus : ℕ). cochain_item q modulus text in
    ap (λ (read : Result ℕ TextFault). read_fault (read >>= behind)) (modulus_line line.number line.tokens)
    ∙ fault_then (kind_fault modulus_kind line) (count line.tokens) behind
    ∙ ap (λ (later : Option TextFault). or_later (kind_fault modulus_kind line) later) (cochain_turn q (count line.tokens) text)

-- ---- the head line of a verdict

-- what a number is worth there
abbrev judge : ℕ → ℕ → Result (Unit {0}) TextFault
judge n version = cond (version == TIDY_VERSION) (Ok tt) (Err (Malformed n))

abbrev judged_as : ℕ → Bool → Result (Unit {0}) TextFault
judged_as n good = cond good (Ok tt) (Err (Malformed n))

judged_version : (form over good : Bool) (n : ℕ)
    → or_later (fault_by form over true n) (read_fault (judged_as n good)) ≡ fault_by form over good n
judged_version false over good n = refl
judged_version true true good n = refl
judged_version true false true n = refl
judged_version true false false n = refl

says_count : (tokens : List (List ℕ)) → (count tokens == TIDY_VERSION) ≡ says_version tokens
says_count [] = refl
says_count (w ∷ []) = refl
says_count (w ∷ t ∷ tokens) = refl

version_line : (n : ℕ) (tokens : List (List ℕ)) → read_fault (version_at (line_of n tokens)) ≡ kind_fault certificate_kind (line_of n tokens)
unfolding version_at last_count
version_line n tokens =
    let kind = counted_kind (codes "certificate") MAX_NUMBER in
    head_fails (codes "certificate") MAX_NUMBER n (judge n) tokens (omega arith) refl
    ∙ ap (λ (good : Bool). or_later (fault_by (kind.form tokens) (kind.over tokens) true n) (read_fault (judged_as n good))) (says_count tokens)
    ∙ judged_version (kind.form tokens) (kind.over tokens) (says_version tokens) n

pub version_fails : FailsByKind certificate_kind version_at
version_fails line = version_line line.number line.tokens

-- ---- a verdict behind its head line, or without one

head_then : {A B : Type 0} (head : Result A TextFault) (next : A → Result B TextFault) (later : Option TextFault)
    → ((x : A) → read_fault (next x) ≡ later) → read_fault (head >>= next) ≡ or_later (read_fault head) later
head_then (Ok x) next later same = same x
head_then (Err e) next later same = refl

pub certificate_begins : (one two : ℕ) → BeginsWith (codes "certificate") certificate_kind
    (λ tokens text. read_fault (verdict_of Tidy one two text)) (verdict_item one two)
unfolding verdict_item versioned_item tidy_item next_line
certificate_begins one two line text is =
    let later = read_fault (verdict_of Tidy one two text) in
    rw is (only_fault (tidy_item one two (on_top line text)) (λ versioned. (versioned.0.1, versioned.1))
    ∙ head_then (version_at line) (λ head. verdict_of Tidy one two text >>= λ verdict. Ok ((Tidy, verdict.0), verdict.1)) later
    (λ head. only_fault (verdict_of Tidy one two text) (λ verdict. ((Tidy, verdict.0), verdict.1)))
    ∙ ap (λ (fault : Option TextFault). or_later fault later) (version_fails line))

pub plain_begins : (one two : ℕ) (line : NumberedLine) (text : Text) → starts (codes "certificate") line.tokens ≡ false
    → read_fault (verdict_item one two (on_top line text)) ≡ read_fault (verdict_of Plain one two (on_top line text))
unfolding verdict_item versioned_item plain_item
plain_begins one two line text is =
    rw is (only_fault (plain_item one two (on_top line text)) (λ versioned. (versioned.0.1, versioned.1))
    ∙ only_fault (verdict_of Plain one two (on_top line text)) (λ verdict. ((Plain, verdict.0), verdict.1)))

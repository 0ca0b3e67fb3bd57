-- The text of a shadow cocycle is read as this cocycle.
use Rattle.std.proofs.Common.{◌≡◌, ℕ, zero, suc, ◌<◌, ◌≤◌, ◌+◌, ◌*◌, ◌/◌, ◌%◌, ◌-◌, List, ◌∷◌, [], ◌++◌, length, map, Bool, true, false, not, cond, Result, Ok}
use Rattle.std.proofs.Common.{Err, refl, sym, ap, ap₂, subst, ◌∙◌, arith, codes}
use Rattle.std.specs.Prelude.{is_none}
use Rattle.std.specs.List.{flat_map, list_all, range_with_len}
use Rattle.std.specs.Str.{bytes_eq}
use Rattle.std.specs.Fmt.{decimal, digits}
use Rattle.std.proofs.Math.Nat.{mul-pos}
use Rattle.std.proofs.lemmas.Nat.{div-add-mod', div_below, mod_below}
use Rattle.std.proofs.lemmas.Bool.{le-leb, and_from}
use Rattle.std.proofs.lemmas.List.{length-map}
use Rattle.std.proofs.lemmas.List.FromFn.{length-range_with_len}
use Rattle.quandle_core.specs.declared.quandle.TheConstants.{MAX_ORDER}
use Rattle.quandle_core.specs.Quandle.{Table, over}
use Rattle.cocycle_core.specs.ShadowCocycle.{ShadowCochain, IsShadowCocycle}
use Rattle.cocycle_core.specs.ShadowFault.{first_shadow_fault}
use Rattle.cocycle_core.proofs.ShadowAccepted.{none_from_cocycle}
use Rattle.text_lines.specs.Lines.{Text, text_from}
use Rattle.text_lines.specs.Spelled.{numbered, is_line}
use Rattle.knot_text.proofs.NumberTexts.{decimal_read}
use Rattle.knot_text.proofs.Written.{lines_read}
use Rattle.text_items.specs.declared.fault.TextFault.{TextFault}
use Rattle.text_items.specs.declared.fault.TextFault.TheVariants.{Malformed}
use Rattle.text_items.specs.declared.modulus.TheConstants.{MAX_MODULUS}
use Rattle.text_items.specs.Reading.{next_line, next_token, line_end}
use Rattle.text_items.specs.Numbers.{numbers_below}
use Rattle.text_items.specs.Quandles.{table_row, table_rows}
use Rattle.knot_text.specs.Printed.{row_tokens}
use Rattle.knot_text.proofs.LineTexts.{map_decimals}
use Rattle.knot_text.proofs.Tables.{row}
use Rattle.knot_text.proofs.StepsAgain.{line_of, lines_before, word_again, most_again, below_again, all_short}
use Rattle.knot_text.proofs.SpelledNumbers.{at_one}
use Rattle.knot_text.proofs.Words.{decimal_word, numbers_line}
use Rattle.cocycle_core.specs.Formula.{has_formula, mochizuki}
use Rattle.evidence_core.specs.declared.shadows.Spelling.{Spelling}
use Rattle.evidence_core.specs.declared.shadows.Spelling.TheVariants as spelling
use Rattle.evidence_core.specs.declared.shadows.SpelledShadow.{SpelledShadow}
use Rattle.number_text.specs.declared.shadows.Head.TheVariants as head
use Rattle.number_text.specs.Shadows.{spelled, shadow_cochain, shadow_head_at, shadow_cochain_item, shadow_item}
use Rattle.certificates.specs.Shadows.{shadow_rows, shadow_value_lines, shadow_lines_by, shadow_lines, shadow_text, Spells, HasShadowText}
use Rattle.certificates.proofs.ValueRows.{AreWithin, value_row_below, value_rows_last}

-- ---- the lines of a table

value_line_again : (t : Table) (many bound n x : ℕ) → bound ≤ 255 → AreWithin t many bound → x < many
    → numbers_below t.order bound (line_of n (row_tokens t x)) ≡ Ok (row t x)
value_line_again t many bound n x most within lt =
    let len : length (row t x) ≡ t.order = length-map (range_with_len 0 t.order) (over t x) ∙ length-range_with_len 0 t.order in
    ap (λ (ts : List (List ℕ)). numbers_below t.order bound (line_of n ts)) (sym (map_decimals (over t x) (range_with_len 0 t.order)))
    ∙ below_again t.order bound n (row t x) len most (value_row_below t many bound x within lt)

value_row_again : (t : Table) (many bound n x : ℕ) (text : Text) → bound ≤ 255 → AreWithin t many bound → x < many
    → table_row t.order bound (lines_before (line_of n (row_tokens t x) ∷ []) text) ≡ Ok (row t x, text)
unfolding table_row next_line
value_row_again t many bound n x text most within lt = rw (value_line_again t many bound n x most within lt) refl

-- so many rows, behind which one more stands
value_rows_again : (t : Table) (many bound n a count : ℕ) (text : Text) → bound ≤ 255 → AreWithin t many bound → a + count < many
    → table_rows t.order bound count (lines_before (numbered n (map (row_tokens t) (range_with_len a (suc count)))) text)
    ≡ Ok (flat_map (row t) (range_with_len a count), lines_before (line_of (n + count + 1) (row_tokens t (a + count)) ∷ []) text)
unfolding table_rows
value_rows_again t many bound n a zero text most within lt =
    let number : n + 1 ≡ n + 0 + 1 = omega arith in
    let place : a ≡ a + 0 = omega arith in
    ap₂ (λ (j x : ℕ). Ok ([], lines_before (line_of j (row_tokens t x) ∷ []) text)) number place
value_rows_again t many bound n a (suc count) text most within lt =
    let behind = lines_before (numbered (n + 1) (map (row_tokens t) (range_with_len (a + 1) (suc count)))) text in
    let one = value_row_again t many bound (n + 1) a behind most within (omega arith) in
    let others = value_rows_again t many bound (n + 1) (a + 1) count text most within (omega arith) in
    let number : n + 1 + count + 1 ≡ n + suc count + 1 = omega arith in
    let place : a + 1 + count ≡ a + suc count = omega arith in
    rw (one, others) (ap₂ (λ (j x : ℕ). Ok (flat_map (row t) (range_with_len a (suc count)), lines_before (line_of j (row_tokens t x) ∷ []) text)) number place)

-- what the laws say of some entries
abbrev tested : Table → ℕ → List ℕ → ℕ → Text → Result (SpelledShadow × Text) TextFault
tested q k entries n text =
    cond (is_none (first_shadow_fault (shadow_cochain q k entries))) (Ok (spelled spelling.Table (shadow_cochain q k entries), text)) (Err (Malformed n))

within_of : (t : ShadowCochain) → IsShadowCocycle t → AreWithin (shadow_rows t) (t.quandle.order * t.quandle.order) t.modulus
within_of t is = λ x y lx ly.
    let q : ℕ = t.quandle.order in
    let some : 0 < t.quandle.order = omega (arith, is.quandle.least) in
    subst (λ (k : ℕ). over (shadow_rows t) k y < t.modulus) (div-add-mod' x t.quandle.order)
    (is.within (x / t.quandle.order) (x % t.quandle.order) y (div_below x t.quandle.order t.quandle.order some lx) (mod_below x t.quandle.order some) ly)

cochain_by : (t : ShadowCochain) (n j : ℕ) (text : Text) → IsShadowCocycle t → t.modulus ≤ MAX_MODULUS → t.quandle.order * t.quandle.order ≡ suc j
    → shadow_cochain_item t.quandle t.modulus (lines_before (numbered n (shadow_value_lines t)) text) ≡ Ok (spelled spelling.Table t, text)
unfolding shadow_cochain_item next_line
cochain_by t n j text is few size =
    let q = t.quandle in
    let k = t.modulus in
    let rows : Table = shadow_rows t in
    let many = q.order * q.order in
    let within = within_of t is in
    let front = flat_map (row rows) (range_with_len 0 j) in
    let last : 0 + j ≡ j = omega arith in
    let fewer : q.order * q.order - 1 ≡ j = omega (arith, size) in
    let lines = numbered n (map (row_tokens rows) (range_with_len 0 (suc j))) in
    let all_rows = value_rows_again rows many k n 0 j text few within (omega (arith, size)) in
    let end = value_line_again rows many k (n + j + 1) (0 + j) few within (omega (arith, size)) in
    let all : front ++ row rows (0 + j) ≡ t.entries = ap (λ (x : ℕ). front ++ row rows x) last ∙ value_rows_last rows many j is.cube size in
    let none : is_none (first_shadow_fault t) ≡ true = ap (λ f. is_none f) (none_from_cocycle t is) in
    let read : shadow_cochain_item q k (lines_before lines text) ≡ tested q k (front ++ row rows (0 + j)) (n + j + 1) text = rw (fewer, all_rows, end) refl in
    let passes : tested q k t.entries (n + j + 1) text ≡ Ok (spelled spelling.Table t, text) = rw none refl in
    ap (λ (i : ℕ). shadow_cochain_item q k (lines_before (numbered n (map (row_tokens rows) (range_with_len 0 i))) text)) size ∙ read
    ∙ ap (λ (es : List ℕ). tested q k es (n + j + 1) text) all ∙ passes

-- ---- the first line

others : list_all (λ k. not (bytes_eq (decimal k) (codes "mochizuki"))) (range_with_len 0 256) ≡ true
unfolding digits
others = refl

-- a modulus is not the name of the formula
no_name : (k : ℕ) → k ≤ MAX_MODULUS → bytes_eq (decimal k) (codes "mochizuki") ≡ false
no_name k few =
    turned (bytes_eq (decimal k) (codes "mochizuki"))
    (at_one (λ k. not (bytes_eq (decimal k) (codes "mochizuki"))) 0 256 k others (omega arith) (omega (arith, few)))
  where
    turned : (b : Bool) → not b ≡ true → b ≡ false
    turned true e = absurd (cc)
    turned false e = refl

modulus_again : (q : Table) (k n : ℕ) → q.order ≤ MAX_ORDER → 2 ≤ k → k ≤ MAX_MODULUS
    → shadow_head_at q (line_of n (codes "shadow" ∷ decimal k ∷ [])) ≡ Ok (head.Table k)
unfolding shadow_head_at next_token line_end
modulus_again q k n small some few =
    rw (
      word_again (codes "shadow") n (decimal k ∷ []),
      no_name k few,
      decimal_read k (omega (arith, few)),
      most_again MAX_ORDER n q.order small,
      most_again MAX_MODULUS n k few,
      le-leb 2 k some,
    ) refl

name_again : (q : Table) (n : ℕ) → q.order ≤ MAX_ORDER → has_formula q ≡ true
    → shadow_head_at q (line_of n (codes "shadow" ∷ codes "mochizuki" ∷ [])) ≡ Ok head.Mochizuki
unfolding shadow_head_at next_token line_end
name_again q n small formula = rw (word_again (codes "shadow") n (codes "mochizuki" ∷ []), most_again MAX_ORDER n q.order small, formula) refl

-- ---- the whole

table_again : (t : ShadowCochain) (n : ℕ) (text : Text) → IsShadowCocycle t → t.quandle.order ≤ MAX_ORDER → t.modulus ≤ MAX_MODULUS
    → shadow_item t.quandle (lines_before (numbered n (shadow_lines_by spelling.Table t)) text) ≡ Ok (spelled spelling.Table t, text)
unfolding shadow_item next_line
table_again t n text is small few =
    let some : 0 < t.quandle.order * t.quandle.order = mul-pos (omega (arith, is.quandle.least)) (omega (arith, is.quandle.least)) in
    let size : t.quandle.order * t.quandle.order ≡ suc (t.quandle.order * t.quandle.order - 1) = omega (arith, some) in
    rw (modulus_again t.quandle t.modulus (n + 1) small is.least few) (cochain_by t (n + 1) (t.quandle.order * t.quandle.order - 1) text is few size)

formula_again : (q : Table) (n : ℕ) (text : Text) → q.order ≤ MAX_ORDER → has_formula q ≡ true
    → shadow_item q (lines_before (numbered n (shadow_lines_by spelling.Mochizuki (mochizuki q.order))) text)
    ≡ Ok (spelled spelling.Mochizuki (mochizuki q.order), text)
unfolding shadow_item next_line
formula_again q n text small formula = rw (name_again q (n + 1) small formula) refl

by_spelling : (said : Spelling) (t : ShadowCochain) (n : ℕ) (text : Text) → IsShadowCocycle t → t.quandle.order ≤ MAX_ORDER → Spells said t
    → shadow_item t.quandle (lines_before (numbered n (shadow_lines_by said t)) text) ≡ Ok (spelled said t, text)
by_spelling spelling.Mochizuki t n text is small spells =
    formula_again t.quandle n text small spells.0 ∙ ap (λ (w : ShadowCochain). Ok (spelled spelling.Mochizuki w, text)) (sym spells.1)
by_spelling spelling.Table t n text is small spells = table_again t n text is small spells

pub shadow_again : (q : Table) (s : SpelledShadow) (n : ℕ) (text : Text) → HasShadowText q s
    → shadow_item q (lines_before (numbered n (shadow_lines s)) text) ≡ Ok (s, text)
shadow_again q s n text has =
    subst (λ (p : Table). shadow_item p (lines_before (numbered n (shadow_lines s)) text) ≡ Ok (s, text)) has.same
    (by_spelling s.spelling s.cocycle n text has.cocycle has.few has.spells)

-- ---- lines of words

value_line_words : (t : ShadowCochain) (x : ℕ) → IsShadowCocycle t → t.modulus ≤ MAX_MODULUS → x < t.quandle.order * t.quandle.order
    → is_line (row_tokens (shadow_rows t) x) ≡ true
value_line_words t x is few lt =
    let rows : Table = shadow_rows t in
    let some : 0 < t.quandle.order = omega (arith, is.quandle.least) in
    let short = all_short t.modulus (row rows x) (omega (arith, few))
    (value_row_below rows (t.quandle.order * t.quandle.order) t.modulus x (within_of t is) lt) in
    let long : length (row rows x) ≡ t.quandle.order =
    length-map (range_with_len 0 t.quandle.order) (over rows x) ∙ length-range_with_len 0 t.quandle.order in
    let line = numbers_line (row rows x) (omega (arith, long, some)) short in
    subst (λ (tokens : List (List ℕ)). is_line tokens ≡ true) (map_decimals (over rows x) (range_with_len 0 t.quandle.order)) line

values_words : (t : ShadowCochain) (a n : ℕ) → IsShadowCocycle t → t.modulus ≤ MAX_MODULUS → a + n ≤ t.quandle.order * t.quandle.order
    → list_all is_line (map (row_tokens (shadow_rows t)) (range_with_len a n)) ≡ true
values_words t a zero is few fits = refl
values_words t a (suc n) is few fits =
    and_from (is_line (row_tokens (shadow_rows t) a)) (list_all is_line (map (row_tokens (shadow_rows t)) (range_with_len (a + 1) n)))
    (value_line_words t a is few (omega (arith, fits))) (values_words t (a + 1) n is few (omega (arith, fits)))

words_by : (said : Spelling) (t : ShadowCochain) → IsShadowCocycle t → Spells said t → list_all is_line (shadow_lines_by said t) ≡ true
words_by spelling.Mochizuki t is spells = refl
words_by spelling.Table t is spells =
    rw (decimal_word t.modulus (omega (arith, spells)), values_words t 0 (t.quandle.order * t.quandle.order) is spells (omega arith)) refl

pub shadow_words : (q : Table) (s : SpelledShadow) → HasShadowText q s → list_all is_line (shadow_lines s) ≡ true
shadow_words q s has = words_by s.spelling s.cocycle has.cocycle has.spells

pub shadow_read : (q : Table) (s : SpelledShadow) (n : ℕ) (more : List ℕ) → HasShadowText q s
    → shadow_item q (text_from n (shadow_text s ++ more)) ≡ Ok (s, text_from (n + length (shadow_lines s)) more)
shadow_read q s n more has =
    ap (shadow_item q) (lines_read n (shadow_lines s) more (shadow_words q s has)) ∙ shadow_again q s n (text_from (n + length (shadow_lines s)) more) has

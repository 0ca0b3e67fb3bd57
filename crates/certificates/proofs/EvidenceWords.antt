-- The lines of evidence are lines of words.
use Rattle.std.proofs.Common.{◌≡◌, ℕ, zero, suc, ◌<◌, ◌≤◌, ◌+◌, ℤ, unsigned_abs, List, [], ◌∷◌, ◌++◌, length, map, true, Option, Some, None, refl, ◌∙◌, subst}
use Rattle.std.proofs.Common.{arith, codes}
use Rattle.std.specs.List.{AllByRecursion, list_all, range_with_len}
use Rattle.std.specs.Fmt.{decimal}
use Rattle.std.proofs.lemmas.Bool.{and_from}
use Rattle.std.proofs.lemmas.List.{length-map}
use Rattle.std.proofs.lemmas.List.FromFn.{length-range_with_len}
use Rattle.quandle_core.specs.declared.operations.TheConstants.{MAX_LARGE_ORDER}
use Rattle.quandle_core.specs.Quandle.{Table, over}
use Rattle.cocycle_core.specs.Cocycle.{Cochain, IsCocycle}
use Rattle.text_lines.specs.Spelled.{is_word, is_line}
use Rattle.text_items.specs.declared.reading.TheConstants.{MAX_NUMBER}
use Rattle.text_items.specs.declared.modulus.TheConstants.{MAX_MODULUS}
use Rattle.quandle_core.specs.Names.{NamedQuandle}
use Rattle.knot_text.specs.Printed.{letter_token, name_tokens, table_lines, HasQuandleTextWithin}
use Rattle.knot_text.specs.WrittenThere.{value_tokens, cocycle_lines}
use Rattle.knot_text.proofs.LineTexts.{map_decimals}
use Rattle.knot_text.proofs.StepsAgain.{IsShort, all_short}
use Rattle.knot_text.proofs.Tables.{row, row_below}
use Rattle.knot_text.proofs.Words.{both_lines, decimal_word, name_words, table_words, numbers_words, numbers_line}
use Rattle.knot_text.proofs.LettersAgain.{letter_word}
use Rattle.certificates.proofs.ShadowAgain.{shadow_words}
use Rattle.evidence_core.specs.declared.blocks.LargeWeighing.{LargeWeighing}
use Rattle.evidence_core.specs.declared.blocks.LargeWeighing.TheVariants.{Strands, Regions}
use Rattle.evidence_core.specs.declared.evidence.Counted.{Counted}
use Rattle.evidence_core.specs.declared.evidence.Linked.{Linked}
use Rattle.evidence_core.specs.declared.evidence.Evidence.{Evidence}
use Rattle.evidence_core.specs.declared.evidence.Evidence.TheVariants.{Numbers, Linking}
use Rattle.number_text.specs.declared.evidence_items.TheConstants.{THIRD_VERSION}
use Rattle.certificates.specs.Printed.{perhaps_cocycle, counted_lines, linked_lines, evidence_lines, third_lines, HasPerhapsText, HasCountedText, HasLinkedText}
use Rattle.certificates.specs.Printed.{HasEvidenceText}
use Rattle.certificates.proofs.EvidenceAgain.{bytes_short}

-- ---- the table of a cocycle

-- row x
value_line : (w : Cochain) (x : ℕ) → IsCocycle w → w.modulus ≤ MAX_MODULUS → x < w.quandle.order → is_line (value_tokens w x) ≡ true
value_line w x is few lt =
    let t : Table = record { order = w.quandle.order; entries = w.entries } in
    let short = all_short w.modulus (row t x) (omega (arith, few)) (row_below t w.modulus x is.within lt) in
    let long : length (row t x) ≡ t.order = length-map (range_with_len 0 t.order) (over t x) ∙ length-range_with_len 0 t.order in
    let line = numbers_line (row t x) (omega (arith, long, lt)) short in
    subst (λ (tokens : List (List ℕ)). is_line tokens ≡ true) (map_decimals (over t x) (range_with_len 0 t.order)) line

values_words : (w : Cochain) (a n : ℕ) → IsCocycle w → w.modulus ≤ MAX_MODULUS → a + n ≤ w.quandle.order
    → list_all is_line (map (value_tokens w) (range_with_len a n)) ≡ true
values_words w a zero is few fits = refl
values_words w a (suc n) is few fits =
    and_from (is_line (value_tokens w a)) (list_all is_line (map (value_tokens w) (range_with_len (a + 1) n))) (value_line w a is few (omega (arith, fits)))
    (values_words w (a + 1) n is few (omega (arith, fits)))

cocycle_words : (w : Cochain) → IsCocycle w → w.modulus ≤ MAX_MODULUS → list_all is_line (cocycle_lines w) ≡ true
cocycle_words w is few = rw (decimal_word w.modulus (omega (arith, few)), values_words w 0 w.quandle.order is few (omega arith)) refl

perhaps_words : (quandle : Table) (o : Option LargeWeighing) → HasPerhapsText quandle o → list_all is_line (perhaps_cocycle o) ≡ true
perhaps_words quandle None has = refl
perhaps_words quandle (Some (Strands w)) has = cocycle_words w has.cocycle has.few
perhaps_words quandle (Some (Regions s)) has = shadow_words quandle s has

-- ---- a quandle behind two words, as behind one

abbrev named_lines : NamedQuandle → List (List (List ℕ))
named_lines q = (codes "different" ∷ codes "numbers" ∷ name_tokens q.name q.table.order) ∷ table_lines q.name q.table

named_words : (q : NamedQuandle) → HasQuandleTextWithin MAX_LARGE_ORDER q → list_all is_line (named_lines q) ≡ true
named_words q has =
    let first : is_line (codes "different" ∷ name_tokens q.name q.table.order) ≡ true =
    name_words MAX_LARGE_ORDER q.name q.table (omega arith) has.names has.factor in
    and_from (is_line (codes "different" ∷ codes "numbers" ∷ name_tokens q.name q.table.order)) (list_all is_line (table_lines q.name q.table)) first
    (table_words MAX_LARGE_ORDER q.name q.table (omega arith) has.names)

-- ---- what is said of a diagram

counted_words : (due : ℕ) (c : Counted) → HasCountedText due c → list_all is_line (counted_lines c) ≡ true
counted_words due c has = rw (numbers_words c.seeds.items (bytes_short c.seeds.items has.seeds), numbers_words c.numbers has.numbers) refl

letters_words : (ls : List ℤ) → AllByRecursion (λ (a : ℤ). unsigned_abs a ≤ MAX_NUMBER) ls → list_all is_word (map letter_token ls) ≡ true
letters_words [] few = refl
letters_words (a ∷ ls) few =
    and_from (is_word (letter_token a)) (list_all is_word (map letter_token ls)) (letter_word a few.0) (letters_words ls few.1)

linked_words : (l : Linked) → HasLinkedText l → list_all is_line (linked_lines l) ≡ true
linked_words l has = rw (decimal_word l.components has.components, letters_words l.numbers has.numbers) refl

-- ---- all

evidence_words : (evidence : Evidence) → HasEvidenceText evidence → list_all is_line (evidence_lines evidence) ≡ true
evidence_words (Numbers b one two) has =
    let cocycle = perhaps_cocycle b.cocycle in
    let counts = counted_lines one ++ counted_lines two in
    both_lines (named_lines b.listed) (cocycle ++ counts) (named_words b.listed has.0.listed)
    (both_lines cocycle counts (perhaps_words b.listed.table b.cocycle has.0.cocycle)
    (both_lines (counted_lines one) (counted_lines two) (counted_words _ one has.1) (counted_words _ two has.2)))
evidence_words (Linking one two) has =
    both_lines (linked_lines one) (linked_lines two) (linked_words one has.0) (linked_words two has.1)

pub third_words : (evidence : Evidence) → HasEvidenceText evidence → list_all is_line (third_lines evidence) ≡ true
third_words evidence has =
    and_from (is_line (codes "certificate" ∷ decimal THIRD_VERSION ∷ [])) (list_all is_line (evidence_lines evidence))
    (rw (decimal_word THIRD_VERSION (omega arith)) refl) (evidence_words evidence has)

-- A shadow cocycle that was read has a text: its table has the laws, or it is that of the formula.
use Rattle.std.proofs.Common.{◌≡◌, ℕ, ◌≤◌, ◌*◌, ◌-◌, ◌∙◌, List, ◌++◌, cond, true, Option, Some, None, Result, Ok, Err, refl, sym, ap, subst, codes, nat_le}
use Rattle.std.specs.Prelude.{is_none}
use Rattle.std.specs.Str.{bytes_eq}
use Rattle.std.proofs.lemmas.Bool.{and_parts}
use Rattle.quandle_core.specs.declared.quandle.TheConstants.{MAX_ORDER}
use Rattle.quandle_core.specs.Quandle.{Table, IsQuandle}
use Rattle.quandle_core.specs.Tables.{dihedral}
use Rattle.cocycle_core.specs.ShadowFault.{first_shadow_fault}
use Rattle.cocycle_core.specs.declared.shadow_fault.ShadowFault.{ShadowFault}
use Rattle.cocycle_core.proofs.ShadowAccepted.{cocycle_from_none}
use Rattle.text_lines.specs.Lines.{NumberedLine, Text}
use Rattle.text_lines.specs.NumberTokens.{number_of}
use Rattle.text_items.specs.declared.fault.TextFault.{TextFault}
use Rattle.text_items.specs.declared.modulus.TheConstants.{MAX_MODULUS}
use Rattle.text_items.specs.Reading.{next_line, next_token, line_end, word, or_malformed}
use Rattle.text_items.specs.Numbers.{numbers_below}
use Rattle.text_items.specs.Quandles.{table_rows}
use Rattle.knot_text.proofs.Says.{Says, says_ok, says_err, says_bind, says_if}
use Rattle.knot_text.proofs.LineSays.{at_most_says}
use Rattle.cocycle_core.specs.Formula.{is_prime, is_dihedral, has_formula, mochizuki}
use Rattle.cocycle_core.proofs.FormulaLaw.{mochizuki_is}
use Rattle.cocycle_core.proofs.Reflections.{dihedral_known}
use Rattle.evidence_core.specs.declared.shadows.Spelling.TheVariants as spelling
use Rattle.evidence_core.specs.declared.shadows.SpelledShadow.{SpelledShadow}
use Rattle.number_text.specs.declared.shadows.Head.{Head}
use Rattle.number_text.specs.declared.shadows.Head.TheVariants as head
use Rattle.number_text.specs.Shadows.{formula_of, modulus_of, head_of, shadow_head_at, spelled, shadow_cochain, shadow_cochain_item, shadow_of, shadow_item}
use Rattle.certificates.specs.Shadows.{HasShadowText}

-- whatever is read
anything : {A : Type 0} (r : Result A TextFault) → Says r (λ x. Unit {0})
anything r = record { of = λ x is. tt }

-- what the first line has to say
abbrev IsHead : Table → Head → Type 0
IsHead q head.Mochizuki = (q.order ≤ MAX_ORDER) × (has_formula q ≡ true)
IsHead q (head.Table k) = (q.order ≤ MAX_ORDER) × (k ≤ MAX_MODULUS)

formula_says : (q : Table) (n : ℕ) → Says (formula_of q n) (IsHead q)
formula_says q n =
    says_bind (λ (k : ℕ). (q.order ≡ k) × (k ≤ MAX_ORDER)) (at_most_says MAX_ORDER n q.order) (λ order small.
    says_if (has_formula q) (λ formula. says_ok head.Mochizuki (subst (λ (k : ℕ). k ≤ MAX_ORDER) (sym small.0) small.1, formula)) (λ none. says_err))

modulus_says : (q : Table) (n value : ℕ) → Says (modulus_of q n value) (IsHead q)
modulus_says q n value =
    says_bind (λ (k : ℕ). (q.order ≡ k) × (k ≤ MAX_ORDER)) (at_most_says MAX_ORDER n q.order) (λ order small.
    says_bind (λ (k : ℕ). (value ≡ k) × (k ≤ MAX_MODULUS)) (at_most_says MAX_MODULUS n value) (λ k few.
    says_if (nat_le 2 k) (λ some. says_ok (head.Table k) (subst (λ (k : ℕ). k ≤ MAX_ORDER) (sym small.0) small.1, few.1)) (λ none. says_err)))

head_of_says : (q : Table) (n : ℕ) (token : List ℕ) → Says (head_of q n token) (IsHead q)
head_of_says q n token =
    says_if (bytes_eq token (codes "mochizuki")) (λ named. formula_says q n)
    (λ other. says_bind (λ x. Unit {0}) (anything (or_malformed n (number_of token))) (λ value is. modulus_says q n value))

head_says : (q : Table) (line : NumberedLine) → Says (shadow_head_at q line) (IsHead q)
unfolding shadow_head_at
head_says q line =
    says_bind (λ x. Unit {0}) (anything (word (codes "shadow") line)) (λ rest named.
    says_bind (λ x. Unit {0}) (anything (next_token rest)) (λ token there.
    says_bind (λ x. Unit {0}) (anything (line_end token.1)) (λ end ended. head_of_says q line.number token.0)))

formula_has : (q : Table) → IsQuandle q → q.order ≤ MAX_ORDER → has_formula q ≡ true
    → HasShadowText q (spelled spelling.Mochizuki (mochizuki q.order))
formula_has q quandle small formula =
    let parts = and_parts (is_prime q.order) (is_dihedral q) formula in
    let same : dihedral q.order ≡ q = sym (dihedral_known q quandle parts.1) in
    record {
      cocycle = mochizuki_is q.order parts.0 small;
      same = same;
      few = small;
      spells = (ap has_formula same ∙ formula, refl);
    }

tested_has : (q : Table) (k : ℕ) (entries : List ℕ) (text : Text) → IsQuandle q → q.order ≤ MAX_ORDER → k ≤ MAX_MODULUS → (f : Option ShadowFault)
    → first_shadow_fault (shadow_cochain q k entries) ≡ f → (e : TextFault)
    → Says {A = SpelledShadow × Text} (cond (is_none f) (Ok (spelled spelling.Table (shadow_cochain q k entries), text)) (Err e)) (λ x. HasShadowText q x.0)
tested_has q k entries text quandle small few (Some fault) is e = says_err
tested_has q k entries text quandle small few None is e =
    says_ok (spelled spelling.Table (shadow_cochain q k entries), text)
    (record { cocycle = cocycle_from_none (shadow_cochain q k entries) quandle is; same = refl; few = small; spells = few })

cochain_has : (q : Table) (k : ℕ) (text : Text) → IsQuandle q → q.order ≤ MAX_ORDER → k ≤ MAX_MODULUS
    → Says (shadow_cochain_item q k text) (λ x. HasShadowText q x.0)
unfolding shadow_cochain_item
cochain_has q k text quandle small few =
    says_bind (λ x. Unit {0}) (anything (table_rows q.order k (q.order * q.order - 1) text)) (λ front are.
    says_bind (λ x. Unit {0}) (anything (next_line front.1)) (λ line there.
    says_bind (λ x. Unit {0}) (anything (numbers_below q.order k line.0)) (λ row last.
    tested_has q k (front.0 ++ row) line.1 quandle small few (first_shadow_fault (shadow_cochain q k (front.0 ++ row))) refl _)))

said_has : (q : Table) (said : Head) (text : Text) → IsQuandle q → IsHead q said → Says (shadow_of q said text) (λ x. HasShadowText q x.0)
said_has q head.Mochizuki text quandle is = says_ok (spelled spelling.Mochizuki (mochizuki q.order), text) (formula_has q quandle is.0 is.1)
said_has q (head.Table k) text quandle is = cochain_has q k text quandle is.0 is.1

pub shadow_says : (q : Table) (text : Text) → IsQuandle q → Says (shadow_item q text) (λ x. HasShadowText q x.0)
unfolding shadow_item
shadow_says q text quandle =
    says_bind (λ x. Unit {0}) (anything (next_line text)) (λ line there.
    says_bind (IsHead q) (head_says q line.0) (λ said is. said_has q said line.1 quandle is))

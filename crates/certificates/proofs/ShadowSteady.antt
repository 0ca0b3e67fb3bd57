-- A shadow cocycle is read from the front of a text alone, and fails at its first bad line.
use Rattle.std.proofs.Common.{ℕ, ◌*◌, ◌-◌, ◌∙◌, List, Bool, codes, nat_le}
use Rattle.std.specs.Prelude.{is_none}
use Rattle.std.specs.Str.{bytes_eq}
use Rattle.quandle_core.specs.declared.quandle.TheConstants.{MAX_ORDER}
use Rattle.quandle_core.specs.Quandle.{Table}
use Rattle.cocycle_core.specs.ShadowFault.{first_shadow_fault}
use Rattle.text_lines.specs.Lines.{NumberedLine}
use Rattle.text_lines.specs.NumberTokens.{number_of}
use Rattle.text_items.specs.declared.modulus.TheConstants.{MAX_MODULUS}
use Rattle.text_items.specs.Quandles.{table_rows}
use Rattle.knot_text.proofs.Steady.{Anywhere, Steady, pure_steady, then_steady}
use Rattle.knot_text.proofs.AtLine.{At, at_ok, at_malformed, at_bind, at_cond, at_same, at_most_at, line_end_at, next_token_at, next_token_keeps}
use Rattle.knot_text.proofs.AtLine.{or_malformed_at, word_at, word_keeps}
use Rattle.knot_text.proofs.ItemsSteady.{line_then, rows_steady, last_read, last_steady}
use Rattle.cocycle_core.specs.Formula.{has_formula, mochizuki}
use Rattle.evidence_core.specs.declared.shadows.Spelling.TheVariants as spelling
use Rattle.evidence_core.specs.declared.shadows.SpelledShadow.{SpelledShadow}
use Rattle.number_text.specs.declared.shadows.Head.{Head}
use Rattle.number_text.specs.declared.shadows.Head.TheVariants as head
use Rattle.number_text.specs.Shadows.{formula_of, modulus_of, head_of, shadow_head_at, spelled, shadow_cochain, shadow_cochain_item, shadow_of, shadow_item}

-- ---- the first line

formula_of_at : (q : Table) (n : ℕ) → At n (formula_of q n)
formula_of_at q n = at_bind (at_most_at MAX_ORDER n q.order) (λ order e. at_cond (has_formula q) at_ok at_malformed)

modulus_of_at : (q : Table) (n value : ℕ) → At n (modulus_of q n value)
modulus_of_at q n value = at_bind (at_most_at MAX_ORDER n q.order) (λ order e.
    at_bind (at_most_at MAX_MODULUS n value) (λ modulus f. at_cond (nat_le 2 modulus) at_ok at_malformed))

head_of_at : (q : Table) (n : ℕ) (token : List ℕ) → At n (head_of q n token)
head_of_at q n token =
    at_cond (bytes_eq token (codes "mochizuki")) (formula_of_at q n)
    (at_bind (or_malformed_at n (number_of token)) (λ value e. modulus_of_at q n value))

head_at_at : (q : Table) (line : NumberedLine) → At line.number (shadow_head_at q line)
unfolding shadow_head_at
head_at_at q line =
    at_bind (word_at (codes "shadow") line) (λ rest e.
    let same = (word_keeps (codes "shadow") line).of rest e in
    at_bind (at_same same (next_token_at rest)) (λ token f.
    at_bind (at_same ((next_token_keeps rest).of token f ∙ same) (line_end_at token.1)) (λ end g. head_of_at q line.number token.0)))

-- ---- a table

abbrev is_shadow : Table → ℕ → List ℕ → Bool
is_shadow q k entries = is_none (first_shadow_fault (shadow_cochain q k entries))

abbrev of_entries : Table → ℕ → List ℕ → SpelledShadow
of_entries q k entries = spelled spelling.Table (shadow_cochain q k entries)

cochain_steady : (q : Table) (k : ℕ) → Steady Anywhere (shadow_cochain_item q k)
unfolding shadow_cochain_item
cochain_steady q k =
    then_steady Anywhere (table_rows q.order k (q.order * q.order - 1)) (last_read (is_shadow q k) (of_entries q k) q.order k)
    (rows_steady q.order k (q.order * q.order - 1)) (last_steady (is_shadow q k) (of_entries q k) q.order k)

-- ---- either

said_steady : (q : Table) (said : Head) → Steady Anywhere (shadow_of q said)
said_steady q head.Mochizuki = pure_steady (spelled spelling.Mochizuki (mochizuki q.order))
said_steady q (head.Table k) = cochain_steady q k

pub shadow_steady : (q : Table) → Steady Anywhere (shadow_item q)
unfolding shadow_item
shadow_steady q = line_then (shadow_head_at q) (λ said text. shadow_of q said text) (head_at_at q) (λ said. said_steady q said)

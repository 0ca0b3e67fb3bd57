-- A text of weights fails at its first bad line.
use Rattle.std.proofs.Common.{ℕ, ◌-◌, List, Bool, cond, Ok, Err, codes, nat_le}
use Rattle.std.specs.Prelude.{is_none}
use Rattle.quandle_core.specs.Quandle.{Table}
use Rattle.cocycle_core.specs.Fault.{first_cocycle_fault}
use Rattle.text_lines.specs.Lines.{NumberedLine}
use Rattle.text_items.specs.declared.fault.TextFault.TheVariants.{Malformed}
use Rattle.text_items.specs.declared.modulus.TheConstants.{MAX_MODULUS}
use Rattle.text_items.specs.Reading.{◌>>=◌, at_most, text_end}
use Rattle.text_items.specs.Quandles.{table_rows, quandle_item}
use Rattle.verdict_text.specs.Diagrams.{diagram_item}
use Rattle.verdict_text.specs.Cocycles.{cochain, cochain_item, cocycle_item}
use Rattle.text_items.specs.Modulus.{modulus_at}
use Rattle.knot_text.specs.Weights.{weight_in}
use Rattle.knot_text.specs.FirstBadLine.{FailsFirst}
use Rattle.knot_text.proofs.Steady.{Anywhere, Steady, then_steady}
use Rattle.knot_text.proofs.AtLine.{At, at_ok, at_malformed, at_bind, at_cond, at_same, at_most_at, word_at, word_keeps}
use Rattle.knot_text.proofs.AtLine.{last_number_at, last_number_keeps}
use Rattle.knot_text.proofs.ItemsSteady.{line_then, rows_steady, last_read, last_steady, quandle_steady}
use Rattle.knot_text.proofs.FirstFault.{anywhere_seen, then_fails, end_fails}
use Rattle.knot_text.proofs.ShapesFail.{diagram_steady}

-- ---- the line of a modulus

-- a number of line n that is to lie between 2 and the greatest modulus
content_at : (n value : ℕ) → At n (at_most MAX_MODULUS n value >>= λ modulus. cond (nat_le 2 modulus) (Ok modulus) (Err (Malformed n)))
content_at n value = at_bind (at_most_at MAX_MODULUS n value) (λ modulus e. at_cond (nat_le 2 modulus) at_ok at_malformed)

modulus_at_at : (line : NumberedLine) → At line.number (modulus_at line)
unfolding modulus_at
modulus_at_at line =
    at_bind (word_at (codes "weight") line) (λ rest e. at_same ((word_keeps (codes "weight") line).of rest e)
    (at_bind (last_number_at rest) (λ v f. at_same ((last_number_keeps rest).of v f) (content_at v.1.number v.0))))

-- ---- a cocycle

abbrev is_cocycle : Table → ℕ → List ℕ → Bool
is_cocycle quandle modulus entries = is_none (first_cocycle_fault (cochain quandle modulus entries))

cochain_steady : (quandle : Table) (modulus : ℕ) → Steady Anywhere (cochain_item quandle modulus)
unfolding cochain_item
cochain_steady quandle modulus =
    let q = quandle.order in
    then_steady Anywhere (table_rows q modulus (q - 1)) (last_read (is_cocycle quandle modulus) (cochain quandle modulus) q modulus)
    (rows_steady q modulus (q - 1)) (last_steady (is_cocycle quandle modulus) (cochain quandle modulus) q modulus)

pub cocycle_steady : (quandle : Table) → Steady Anywhere (cocycle_item quandle)
unfolding cocycle_item
cocycle_steady quandle = line_then modulus_at (λ modulus text. cochain_item quandle modulus text) modulus_at_at (λ modulus. cochain_steady quandle modulus)

-- ---- the whole text

pub weight_fails : FailsFirst weight_in
unfolding weight_in
weight_fails =
    then_fails Anywhere diagram_item (λ d text. diagram_item text >>= λ e. quandle_item e.1 >>= λ q. cocycle_item q.0.table q.1 >>= λ w. text_end w.1
    >>= λ end. Ok (record { first = d; second = e.0; listed = q.0; cocycle = w.0 })) anywhere_seen diagram_steady
    (λ d. then_fails Anywhere diagram_item (λ e text. quandle_item text >>= λ q. cocycle_item q.0.table q.1 >>= λ w. text_end w.1
    >>= λ end. Ok (record { first = d; second = e; listed = q.0; cocycle = w.0 })) anywhere_seen diagram_steady
    (λ e. then_fails Anywhere quandle_item (λ q text. cocycle_item q.table text >>= λ w. text_end w.1
    >>= λ end. Ok (record { first = d; second = e; listed = q; cocycle = w.0 })) anywhere_seen quandle_steady
    (λ q. then_fails Anywhere (cocycle_item q.table) (λ w text. text_end text
    >>= λ end. Ok (record { first = d; second = e; listed = q; cocycle = w })) anywhere_seen (cocycle_steady q.table)
    (λ w. end_fails (record { first = d; second = e; listed = q; cocycle = w })))))

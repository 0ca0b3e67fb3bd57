-- A text of two diagrams, a quandle and a cocycle of either kind fails at its first bad line.
use Rattle.std.proofs.Common.{◌≡◌, Ok, refl, codes}
use Rattle.quandle_core.specs.Quandle.{Table}
use Rattle.text_lines.specs.Lines.{Text}
use Rattle.text_items.specs.Reading.{◌>>=◌, next_line, text_end}
use Rattle.text_items.specs.Quandles.{quandle_item}
use Rattle.verdict_text.specs.Cocycles.{cocycle_item}
use Rattle.verdict_text.specs.Diagrams.{diagram_item}
use Rattle.knot_text.specs.FirstBadLine.{FailsFirst}
use Rattle.knot_text.proofs.Steady.{Anywhere, Steady, pure_steady, same_steady, then_steady}
use Rattle.knot_text.proofs.Choices.{choice, IsDue, choice_steady}
use Rattle.knot_text.proofs.ItemsSteady.{quandle_steady}
use Rattle.knot_text.proofs.FirstFault.{anywhere_seen, then_fails, end_fails}
use Rattle.knot_text.proofs.ShapesFail.{diagram_steady}
use Rattle.knot_text.proofs.WeightsFail.{cocycle_steady}
use Rattle.number_text.specs.Shadows.{shadow_item}
use Rattle.certificates.proofs.ShadowSteady.{shadow_steady}
use Rattle.number_text.specs.declared.weighed.Weighing.TheVariants.{Strands, Regions}
use Rattle.number_text.specs.Weighed.{strands_item, regions_item, cocycle_due, weighed_in}

strands_steady : (q : Table) → Steady Anywhere (strands_item q)
strands_steady q = then_steady Anywhere (cocycle_item q) (λ w text. Ok (Strands w, text)) (cocycle_steady q) (λ w. pure_steady (Strands w))

regions_steady : (q : Table) → Steady Anywhere (regions_item q)
regions_steady q = then_steady Anywhere (shadow_item q) (λ s text. Ok (Regions s, text)) (shadow_steady q) (λ s. pure_steady (Regions s))

strands_due : (q : Table) → IsDue (strands_item q)
unfolding cocycle_item next_line
strands_due q ending = refl

regions_due : (q : Table) → IsDue (regions_item q)
unfolding shadow_item next_line
regions_due q ending = refl

due_is : (q : Table) (text : Text) → cocycle_due q text ≡ choice (codes "shadow") (regions_item q) (strands_item q) text
unfolding cocycle_due
due_is q text = refl

due_steady : (q : Table) → Steady Anywhere (cocycle_due q)
due_steady q =
    same_steady Anywhere (choice (codes "shadow") (regions_item q) (strands_item q)) (cocycle_due q) (due_is q)
    (choice_steady (codes "shadow") (regions_item q) (strands_item q) (regions_due q) (strands_due q) (regions_steady q) (strands_steady q))

pub weighed_fails : FailsFirst weighed_in
unfolding weighed_in
weighed_fails =
    then_fails Anywhere diagram_item (λ d text. diagram_item text >>= λ e. quandle_item e.1 >>= λ q. cocycle_due q.0.table q.1 >>= λ w. text_end w.1
    >>= λ end. Ok (record { first = d; second = e.0; listed = q.0; cocycle = w.0 })) anywhere_seen diagram_steady
    (λ d. then_fails Anywhere diagram_item (λ e text. quandle_item text >>= λ q. cocycle_due q.0.table q.1 >>= λ w. text_end w.1
    >>= λ end. Ok (record { first = d; second = e; listed = q.0; cocycle = w.0 })) anywhere_seen diagram_steady
    (λ e. then_fails Anywhere quandle_item (λ q text. cocycle_due q.table text >>= λ w. text_end w.1
    >>= λ end. Ok (record { first = d; second = e; listed = q; cocycle = w.0 })) anywhere_seen quandle_steady
    (λ q. then_fails Anywhere (cocycle_due q.table) (λ w text. text_end text >>= λ end. Ok (record { first = d; second = e; listed = q; cocycle = w }))
    anywhere_seen (due_steady q.table) (λ w. end_fails (record { first = d; second = e; listed = q; cocycle = w })))))

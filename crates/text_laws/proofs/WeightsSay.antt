-- A text of weights that was read: its items are written there in order, and nothing else.
use Rattle.std.proofs.Common.{◌≡◌, ℕ, List, [], codes}
use Rattle.text_lines.specs.Lines.{Text}
use Rattle.quandle_core.proofs.Named.{named_is}
use Rattle.knot_text.specs.Weights.{weight_in}
use Rattle.knot_text.specs.Printed.{quandle_lines, HasQuandleText, diagram_lines, HasDiagramText}
use Rattle.knot_text.specs.WrittenThere.{tokens_by_line, cocycle_lines, HasCocycleText, HasWeightText, weight_lines}
use Rattle.knot_text.proofs.Says.{Says, says_ok, says_bind, in_front_of}
use Rattle.knot_text.proofs.ItemsSay.{IsWritten}
use Rattle.knot_text.proofs.QuandleSays.{quandle_says}
use Rattle.knot_text.proofs.CocycleSays.{cocycle_says}
use Rattle.knot_text.proofs.ShapesSay.{end_says, all_lines, diagram_says}

pub weight_in_says : (text : Text) → Says (weight_in text) (λ w. HasWeightText w × (tokens_by_line text.lines ≡ weight_lines w))
unfolding weight_in
weight_in_says text = says_bind (IsWritten HasDiagramText diagram_lines text) (diagram_says text) (λ d a.
    says_bind (IsWritten HasDiagramText diagram_lines d.1) (diagram_says d.1) (λ e b.
    says_bind (IsWritten HasQuandleText (quandle_lines (codes "quandle")) e.1) (quandle_says e.1) (λ q c.
    says_bind (IsWritten (HasCocycleText q.0.table) cocycle_lines q.1) (cocycle_says q.0.table q.1 (named_is q.0.name q.0.table c.0.names)) (λ w f.
    says_bind (λ (end : Unit {0}). w.1.lines ≡ []) (end_says w.1) (λ end none.
    says_ok (record { first = d.0; second = e.0; listed = q.0; cocycle = w.0 })
    (record { first = a.0; second = b.0; listed = c.0; cocycle = f.0 }, all_lines (in_front_of a.1 (in_front_of b.1 (in_front_of c.1 f.1))) none))))))

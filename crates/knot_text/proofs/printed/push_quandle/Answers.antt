use Rattle.std.proofs.Common.{◌≡◌, ◌++◌, ◌∙◌, OnOk, OnErr, ap₂, subst}
use Rattle.quandle_core.specs.Quandle.{Table}
use Rattle.text_lines.specs.Spelled.{lines_text}
use Rattle.text_lines.specs.Appended.{AppendsPart}
use Rattle.quandle_core.specs.declared.names.QuandleName.{QuandleName}
use Rattle.quandle_core.specs.Names.{NamedQuandle, called}
use Rattle.knot_text.specs.Printed.{quandle_lines}
use Rattle.knot_text.proofs.printed.push_quandle.Goals as goal

pub returns-clause-text : goal.returns-clause-text
returns-clause-text c =
    subst (λ (q : NamedQuandle). OnOk c.push_named.result (c.push_named.new.out.items ≡ c.args.out.now.items ++ lines_text (quandle_lines c.args.word.now q)))
    (ap₂ (λ (n : QuandleName) (t : Table). called n t) c.name.ensures (c.operations-quandle.ensures ∙ c.quandle.ensures.quandle)) c.push_named.ensures.text

pub returns-clause-part : goal.returns-clause-part
returns-clause-part c =
    subst (λ (q : NamedQuandle).
    OnErr c.push_named.result (AppendsPart c.args.out.now.items c.push_named.new.out.items (lines_text (quandle_lines c.args.word.now q))))
    (ap₂ (λ (n : QuandleName) (t : Table). called n t) c.name.ensures (c.operations-quandle.ensures ∙ c.quandle.ensures.quandle)) c.push_named.ensures.part

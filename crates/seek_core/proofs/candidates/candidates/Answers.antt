use Rattle.std.proofs.Common.{◌∙◌, List, All, sym, subst}
use Rattle.quandle_core.specs.Names.{NamedQuandle}
use Rattle.knot_text.specs.Printed.{HasQuandleText}
use Rattle.seek_core.proofs.Separated.{candidates_are, candidate_texts}
use Rattle.seek_core.proofs.candidates.candidates.Goals as goal

pub returns-clause-texts : goal.returns-clause-texts
returns-clause-texts c =
    let d = c.args.first.now in
    let e = c.args.second.now in
    let listed = c.args.listed.now in
    let is =
    candidates_are d e listed c.as_slice.result.now c.new-tried.result.items c.push_fitting.new.tried.items c.push_fitting-2.new.tried.items
    c.new-tried.ensures.items c.in_ok-push_fitting.ensures (c.as_slice.ensures.value ∙ c.in_ok-by_formula.ensures) c.in_ok-push_fitting-2.ensures in
    subst (λ (qs : List NamedQuandle). All HasQuandleText qs) (sym is) (candidate_texts d e listed c.requires)

use Rattle.std.proofs.Common.{rules}
use Rattle.seek_parts.specs.Fault.{IsPartFaultOf}
use Rattle.seek_parts.specs.Parts.{all_due, diagrams_due, quandles_due}
use Rattle.seek_parts.proofs.Adding.{diagram_fault, quandle_added, path_fault}
use Rattle.seek_parts.proofs.parts.Parts.read_all.Goals as goal

pub returns-in_err-add-clause-fault : goal.returns-in_err-add-clause-fault
returns-in_err-add-clause-fault g c =
    let asked = c.args.asked.now in
    let fault : IsPartFaultOf (g.F.Texts.told c.args.files.now) (all_due asked) c.in_err-add.field-0.0 =
    path_fault _ (diagrams_due asked.diagrams) asked.quandles.items _ _ _ _ _ c.deref-path-items.ensures.value c.loop-path-test.true
    c.loop-path.invariant c.in_err-add.ensures.fault in
    search (rules, fault)

pub loop-path-preserved : goal.loop-path-preserved
loop-path-preserved g c =
    quandle_added _ _ _ _ _ _ _ _ c.deref-path-items.ensures.value c.loop-path-test.true c.loop-path.invariant c.in_ok-add.ensures.part

pub returns-in_err-read_diagrams-clause-fault : goal.returns-in_err-read_diagrams-clause-fault
returns-in_err-read_diagrams-clause-fault g c =
    let asked = c.args.asked.now in
    let fault : IsPartFaultOf (g.F.Texts.told c.args.files.now) (all_due asked) c.in_err-read_diagrams.field-0.0 =
    diagram_fault _ (diagrams_due asked.diagrams) (quandles_due asked.quandles.items) _ c.in_err-read_diagrams.ensures.fault in
    search (rules, fault)

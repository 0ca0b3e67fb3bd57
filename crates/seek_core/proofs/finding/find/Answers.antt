use Rattle.std.proofs.Common.{List, subst}
use Rattle.grid_core.specs.Diagram.{IsGrid}
use Rattle.quandle_core.specs.Names.{NamedQuandle}
use Rattle.evidence_core.specs.declared.blocks.Block.{Block}
use Rattle.seek_core.specs.declared.finding.SearchOutcome.{SearchOutcome}
use Rattle.seek_core.specs.Found.{IsFoundOn, IsSearchOf}
use Rattle.seek_core.specs.Pairs.{SeededPair}
use Rattle.seek_core.specs.Sizes.{as_tried}
use Rattle.seek_core.proofs.Separated.{search_of, finding_if}
use Rattle.seek_core.proofs.finding.find.Goals as goal

pub returns-clause-search : goal.returns-clause-search
returns-clause-search g c =
    let p = c.args.problem.now in
    let d = c.grid-first.result in
    let e = c.grid-second.result in
    let given = c.as_slice-given.result.now in
    let s : SearchOutcome = record { said = c.in_ok-said.said; quandles = c.in_ok-quandles.quandles; blocks = c.count_fitting.result } in
    let found = subst (λ (p : SeededPair). IsFoundOn p c.in_ok-quandles.quandles.items (as_tried given) c.in_ok-said.said) c.new-pair.ensures
    (subst (λ (qs : List NamedQuandle). IsFoundOn c.new-pair.result qs (as_tried given) c.in_ok-said.said) c.as_slice-2.ensures.value c.in_ok-said.ensures) in
    subst (λ (bs : List Block). IsSearchOf p bs s) c.as_slice-given.ensures.list
    (search_of p given s d e c.as_slice.result.now c.in_ok-seeds.seeds c.grid-first.ensures c.grid-second.ensures c.as_slice.ensures
    c.in_ok-quandles.ensures.quandles c.in_ok-seeds.ensures c.count_fitting.ensures found)

pub returns-clause-finding : goal.returns-clause-finding
returns-clause-finding g c =
    let s : SearchOutcome = record { said = c.in_ok-said.said; quandles = c.in_ok-quandles.quandles; blocks = c.count_fitting.result } in
    finding_if c.args.problem.now c.args.blocks.now s (subst IsGrid c.grid-first.ensures c.size.ensures.grid)
    (subst IsGrid c.grid-second.ensures c.size-2.ensures.grid) c.in_ok-quandles.ensures.texts c.as_slice-given.ensures.texts (returns-clause-search g c)

use Rattle.std.proofs.Common.{◌≡◌}
use Rattle.std.proofs.lemmas.Result.{IfOk-weaker}
use Rattle.search_jobs.specs.Text.{sample_text, TellsOfWalk}
use Rattle.search_jobs.proofs.SameText.{walk_found, walk_goes_on, walk_told, told_same}
use Rattle.search_jobs.proofs.text.sample_text.Goals as goal

pub walk_text-requires-clause-last : goal.walk_text-requires-clause-last
walk_text-requires-clause-last c =
    (walk_found c.args.seed c.in_ok-moves.moves.items c.as_slice.result.now c.right_trefoil-first.result c.in-Ok.last c.in_ok-moves.ensures.walk
    c.right_trefoil-first.ensures c.as_slice.ensures.value c.in-Ok.ensures.joined).small

pub unreachable-requires : goal.unreachable-requires
unreachable-requires c =
    walk_goes_on c.args.seed c.in_ok-moves.moves.items c.as_slice.result.now c.right_trefoil-first.result c.in-Err.field-0.0 c.in-Err.field-0.1
    c.in_ok-moves.ensures.walk c.right_trefoil-first.ensures c.as_slice.ensures.value c.in-Err.ensures.stopped

pub returns-clause-found : goal.returns-clause-found
returns-clause-found c =
    let found = walk_found c.args.seed c.in_ok-moves.moves.items c.as_slice.result.now c.right_trefoil-first.result c.in-Ok.last
    c.in_ok-moves.ensures.walk c.right_trefoil-first.ensures c.as_slice.ensures.value c.in-Ok.ensures.joined in
    IfOk-weaker c.walk_text.result _ (λ v. TellsOfWalk c.args.seed v.items)
    (λ v is. walk_told c.args.seed c.in_ok-moves.moves.items c.as_slice-in-Ok.result.now c.right_trefoil-first.result c.in-Ok.last v.items
    c.right_trefoil-first.ensures c.as_slice-in-Ok.ensures.value found is) c.walk_text.ensures

pub returns-clause-text : goal.returns-clause-text
returns-clause-text c =
    IfOk-weaker c.walk_text.result _ (λ v. v.items ≡ sample_text c.args.seed) (λ v told. told_same c.args.seed v.items told) (returns-clause-found c)

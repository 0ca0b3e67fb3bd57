use Rattle.std.proofs.Common.{◌<◌, ◌≢◌, ◌+◌, ◌∙◌, sym, subst, arith, below_more}
use Rattle.grid_core.specs.Diagram.{size}
use Rattle.crossing_codes.specs.Components.{column_after}
use Rattle.std.proofs.lemmas.List.Elements.{All-push}
use Rattle.std.specs.List.{All}
use Rattle.crossing_codes.proofs.FollowSteps.{walked_more, walked_round, is_back_by, after_more}
use Rattle.crossing_codes.proofs.components.component.Goals as goal

pub returns-then-column-start-clause-columns : goal.returns-then-column-start-clause-columns
returns-then-column-start-clause-columns c =
    let d = c.args.layout.now in
    let i = c.loop.invariant in
    walked_more d c.args.start c.loop.counter c.loop.columns.items c.push.new.self.items c.loop.column i.columns i.column c.push.ensures.items
    ∙ walked_round d c.args.start c.loop.counter c.size-end.ensures.grid c.requires (omega arith)
    (sym (after_more d c.args.start c.loop.counter c.loop.column c.next_column-column.result i.column c.next_column-column.ensures.column)
    ∙ c.if-column-start.true) i.away

pub loop-preserved : goal.loop-preserved
loop-preserved c =
    let d = c.args.layout.now in
    let i = c.loop.invariant in
    let next = after_more d c.args.start c.loop.counter c.loop.column c.next_column-column.result i.column c.next_column-column.ensures.column in
    record {
      columns = walked_more d c.args.start c.loop.counter c.loop.columns.items c.push.new.self.items c.loop.column i.columns i.column c.push.ensures.items;
      column = next;
      inside = c.next_column-column.ensures.inside;
      all = subst (All (λ k. k < size d)) (sym c.push.ensures.items) (All-push (λ k. k < size d) c.loop.columns.items c.loop.column i.all i.inside);
      long = omega (arith, c.push.ensures.len, i.long);
      away = below_more (λ k. column_after d (k + 1) c.args.start ≢ c.args.start) c.loop.counter i.away (λ e. c.if-column-start.false (next ∙ e));
    }

pub unreachable-requires : goal.unreachable-requires
unreachable-requires c = is_back_by c.args.layout.now c.args.start c.loop.counter c.size-end.ensures.grid c.requires (omega arith) c.loop.invariant.away

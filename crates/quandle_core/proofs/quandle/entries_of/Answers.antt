use Rattle.std.proofs.Common.{◌/◌, ◌%◌, ◌*◌, ◌∙◌, ◌≡◌, ℕ, map, ap, arith}
use Rattle.std.specs.List.{range_with_len}
use Rattle.quandle_core.specs.Quandle.{over}
use Rattle.quandle_core.proofs.Entries.{entries_more}
use Rattle.quandle_core.proofs.LargeColumns.{entries_again}
use Rattle.quandle_core.proofs.quandle.entries_of.Goals as goal

pub loop-place-preserved : goal.loop-place-preserved
loop-place-preserved c = (
  entries_more (λ k. over c.args.quandle.now (k / c.args.order) (k % c.args.order)) c.loop-place.entries.items c.push.new.self.items c.loop-place.place
      _ c.loop-place.invariant.0 c.push.ensures.items c.over-value.ensures,
  omega (arith, c.push.ensures.len),
  c.loop-place.invariant.2,
)

pub returns : goal.returns
returns c =
    let whole : c.loop-place.place ≡ c.args.order * c.args.order = omega arith in
    c.loop-place.invariant.0
    ∙ ap (λ (n : ℕ). map (λ k. over c.args.quandle.now (k / c.args.order) (k % c.args.order)) (range_with_len 0 n)) whole
    ∙ entries_again c.args.quandle.now c.args.order c.requires.laws c.requires.order

use Rattle.std.proofs.Common.{ℕ, ◌+◌, ◌∙◌, length, ap, ap₂, arith, sym}
use Rattle.std.proofs.lemmas.Bool.{ltb-false}
use Rattle.grid_core.specs.declared.mark.Kind.TheVariants.{Cross, Ring}
use Rattle.grid_core.specs.Parts.{column_of}
use Rattle.grid_braid.specs.Strands.{is_strand, strands_within}
use Rattle.grid_braid.proofs.Ranges.{passing_size}
use Rattle.grid_braid.proofs.Rows.{ahead_most}
use Rattle.grid_braid.proofs.word.append_row.Goals as goal

pub append_leftward-requires : goal.append_leftward-requires
append_leftward-requires c =
    let d = c.args.grid.now in
    let r = c.args.row in
    let few = passing_size (is_strand d r) 0 c.column_of-ring.result in
    let most = c.size-size.ensures.grid.most in
    let leftward = ltb-false (column_of Ring d r) (column_of Cross d r) (sym c.is_rightward.ensures ∙ c.if-is_rightward.false) in
    let left = ahead_most d c.size-size.ensures.grid r c.requires leftward in
    let ahead = c.count_within-ahead.ensures ∙ ap (λ (k : ℕ). length (strands_within d r 0 k)) c.column_of-ring.ensures.column in
    let between = c.count_within-between.ensures
    ∙ ap₂ (λ (low high : ℕ). length (strands_within d r (low + 1) high)) c.ends-left.ensures.left c.ends-left.ensures.right in
    (omega (arith, ahead, between, left), omega (arith, c.count_within-ahead.ensures, few, c.column_of-ring.ensures.inside))

pub append_rightward-requires : goal.append_rightward-requires
append_rightward-requires c =
    let d = c.args.grid.now in
    let r = c.args.row in
    let few = passing_size (is_strand d r) 0 c.column_of-ring.result in
    let short = passing_size (is_strand d r) (c.ends-left.result.0 + 1) c.ends-left.result.1 in
    let most = c.size-size.ensures.grid.most in (
      omega (arith, c.count_within-ahead.ensures, few, c.column_of-ring.ensures.inside),
      omega (arith, c.count_within-between.ensures, short, c.ends-left.ensures.within),
    )

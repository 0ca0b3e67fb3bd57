use Rattle.std.proofs.Common.{◌≡◌, ◌<◌, ◌∙◌, ℕ, set, arith, sym, subst}
use Rattle.std.proofs.lemmas.List.{length-set}
use Rattle.std.specs.Prelude.{slice_index}
use Rattle.grid_core.specs.Diagram.{size}
use Rattle.grid_core.specs.Parts.{column_of}
use Rattle.grid_core.proofs.Marks.{column_mark}
use Rattle.next_moves.proofs.Legal.{column_put}
use Rattle.next_moves.proofs.spans.columns_by_row.Goals as goal

pub loop-c-preserved : goal.loop-c-preserved
loop-c-preserved c =
    let d = c.args.grid.now in
    let kind = c.args.kind in
    let n = c.loop-c.c in
    let columns = c.loop-c.columns in
    let grid = c.size-size.ensures.grid in
    let inside : n < size d = omega (arith, c.size-c-end.ensures.size) in
    record {
      long = length-set columns c.row_of.result n ∙ c.loop-c.invariant.long;
      known = λ r hr below.
          subst (λ (z : ℕ). slice_index (set columns z n) r ≡ column_of kind d r) (sym c.row_of.ensures.row)
          (column_put d kind n columns grid inside (omega (arith, c.loop-c.invariant.long, grid.most)) c.loop-c.invariant.known r hr below);
    }

pub returns : goal.returns
returns c = λ r lt.
    let mark = column_mark c.args.grid.now c.size-size.ensures.grid c.args.kind r lt in
    c.loop-c.invariant.known r lt (omega (arith, mark.inside, c.size-c-end.ensures.size))

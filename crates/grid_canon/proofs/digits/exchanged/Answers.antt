use Rattle.std.proofs.Common.{arith}
use Rattle.grid_canon.proofs.ShortGrids.{exchanged_sums, exchanged_word}
use Rattle.grid_canon.proofs.digits.exchanged.Goals as goal

pub overflow_add-both : goal.overflow_add-both
overflow_add-both c =
    let w = exchanged_sums c.args.size c.args.row c.args.value c.lifted.result c.lifted-2.result c.requires.most c.requires.value
    c.requires.row c.requires.inside c.lifted.ensures c.lifted-2.ensures in
    omega (arith, w.1)

pub overflow_add-result : goal.overflow_add-result
overflow_add-result c =
    let w = exchanged_sums c.args.size c.args.row c.args.value c.lifted.result c.lifted-2.result c.requires.most c.requires.value
    c.requires.row c.requires.inside c.lifted.ensures c.lifted-2.ensures in
    omega (arith, w.1, w.0)

pub overflow_mul-result : goal.overflow_mul-result
overflow_mul-result c =
    let w = exchanged_word c.args.size c.args.row c.args.value c.lifted.result c.lifted-3.result c.lifted-2.result c.requires.most c.requires.value
    c.requires.row c.requires.inside c.lifted.ensures c.lifted-3.ensures c.lifted-2.ensures in
    omega (arith, w.twice)

pub overflow_sub-result : goal.overflow_sub-result
overflow_sub-result c =
    let w = exchanged_word c.args.size c.args.row c.args.value c.lifted.result c.lifted-3.result c.lifted-2.result c.requires.most c.requires.value
    c.requires.row c.requires.inside c.lifted.ensures c.lifted-3.ensures c.lifted-2.ensures in
    omega (arith, w.sum)

pub returns : goal.returns
returns c =
    let w = exchanged_word c.args.size c.args.row c.args.value c.lifted.result c.lifted-3.result c.lifted-2.result c.requires.most c.requires.value
    c.requires.row c.requires.inside c.lifted.ensures c.lifted-3.ensures c.lifted-2.ensures in
    omega (arith, w.sum)

use Rattle.std.proofs.Common.{arith}
use Rattle.grid_canon.proofs.Guards.{lifted_digits}
use Rattle.grid_canon.proofs.digits.lifted.Goals as goal

pub overflow_mul-guards : goal.overflow_mul-guards
overflow_mul-guards c =
    let facts =
    lifted_digits c.args.size c.args.value c.args.row c.ones-ones.result c.requires.most c.requires.value c.requires.row c.requires.inside
    c.ones-ones.ensures in
    omega arith

pub overflow_add-result : goal.overflow_add-result
overflow_add-result c =
    let facts =
    lifted_digits c.args.size c.args.value c.args.row c.ones-ones.result c.requires.most c.requires.value c.requires.row c.requires.inside
    c.ones-ones.ensures in
    omega arith

pub overflow_mul-result : goal.overflow_mul-result
overflow_mul-result c =
    let facts =
    lifted_digits c.args.size c.args.value c.args.row c.ones-ones.result c.requires.most c.requires.value c.requires.row c.requires.inside
    c.ones-ones.ensures in
    omega arith

pub overflow_add-result-2 : goal.overflow_add-result-2
overflow_add-result-2 c =
    let facts =
    lifted_digits c.args.size c.args.value c.args.row c.ones-ones.result c.requires.most c.requires.value c.requires.row c.requires.inside
    c.ones-ones.ensures in
    omega arith

pub returns : goal.returns
returns c =
    let facts =
    lifted_digits c.args.size c.args.value c.args.row c.ones-ones.result c.requires.most c.requires.value c.requires.row c.requires.inside
    c.ones-ones.ensures in
    facts.whole

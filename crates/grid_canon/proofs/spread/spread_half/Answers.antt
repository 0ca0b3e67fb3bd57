use Rattle.std.proofs.Common.{arith}
use Rattle.grid_canon.proofs.SpreadHalves.{spread_known}
use Rattle.grid_canon.proofs.spread.spread_half.Goals as goal

pub overflow_add-apart : goal.overflow_add-apart
overflow_add-apart c = let known = spread_known c.args.value c.requires in omega (arith, known.apart_below, known.taken)

pub overflow_mul-result : goal.overflow_mul-result
overflow_mul-result c = let known = spread_known c.args.value c.requires in omega (arith, known.apart_below, known.taken)

pub overflow_sub-result : goal.overflow_sub-result
overflow_sub-result c = let known = spread_known c.args.value c.requires in omega (arith, known.apart_below, known.taken)

pub overflow_sub-result-2 : goal.overflow_sub-result-2
overflow_sub-result-2 c = let known = spread_known c.args.value c.requires in omega (arith, known.apart_below, known.taken)

pub overflow_mul-result-2 : goal.overflow_mul-result-2
overflow_mul-result-2 c = let known = spread_known c.args.value c.requires in omega (arith, known.apart_below, known.taken)

pub returns : goal.returns
returns c = (spread_known c.args.value c.requires).whole

use Rattle.std.proofs.Common.{arith}
use Rattle.code_rows.specs.CodeMap.{is_least_of_face}
use Rattle.code_rows.proofs.Counted.{counted_by}
use Rattle.code_rows.proofs.code_map.faces.Goals as goal

pub loop-dart-preserved : goal.loop-dart-preserved
loop-dart-preserved c = (
  counted_by (is_least_of_face c.args.ends.now) c.loop-dart.dart c.loop-dart.count c.one_if-count.result c.is_least_of_face.result
      c.loop-dart.invariant.0 c.one_if-count.ensures.one c.is_least_of_face.ensures,
  omega (arith, c.loop-dart.invariant.1, c.one_if-count.ensures.most),
)

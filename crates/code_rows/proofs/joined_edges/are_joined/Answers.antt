use Rattle.std.proofs.Common.{refl}
use Rattle.code_rows.proofs.AllJoined.{all_joined, not_all_joined}
use Rattle.code_rows.proofs.joined_edges.are_joined.Goals as goal

pub returns-in-None : goal.returns-in-None
returns-in-None c = (
  (λ yes. all_joined c.as_slice.result.now c.args.code.now.crossings c.args.code.now.edges c.lowest_unjoined.result
      c.as_slice.ensures c.lowest_unjoined.ensures.lowest c.in-None.is),
  λ all. refl,
)

pub returns-in-Some : goal.returns-in-Some
returns-in-Some c = (
  (λ yes. absurd cc),
  λ all. absurd (not_all_joined c.as_slice.result.now c.args.code.now.crossings c.args.code.now.edges c.in-Some.field-0
      c.lowest_unjoined.result c.as_slice.ensures c.lowest_unjoined.ensures.lowest c.in-Some.is all),
)

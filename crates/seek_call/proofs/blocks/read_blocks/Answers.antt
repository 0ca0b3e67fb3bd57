use Rattle.std.proofs.Common.{[], rules}
use Rattle.seek_call.specs.Blocks.{IsBlocksFailure}
use Rattle.seek_call.proofs.BlocksGiven.{file_added, file_failed}
use Rattle.seek_call.proofs.blocks.read_blocks.Goals as goal

pub loop-path-init : goal.loop-path-init
loop-path-init g c = record { lists = []; each = tt; all = c.new-blocks.ensures }

pub loop-path-preserved : goal.loop-path-preserved
loop-path-preserved g c =
    file_added _ _ _ _ _ _ _ c.deref-path-items.ensures.value c.loop-path-test.true c.loop-path.invariant c.in_ok-blocks.ensures.blocks

pub returns-in_err-blocks-clause-failure : goal.returns-in_err-blocks-clause-failure
returns-in_err-blocks-clause-failure g c =
    let failed : IsBlocksFailure (g.F.Texts.told c.args.files.now) c.args.asked.now.weights.items c.in_err-blocks.field-0.0 =
    file_failed _ _ _ _ _ _ _ c.deref-path-items.ensures.value c.loop-path-test.true c.loop-path.invariant c.in_err-blocks.ensures.failure in
    search (rules, failed)

use Rattle.std.proofs.Common.{subst}
use Rattle.std.proofs.KnownBytes.{Keeps-refl}
use Rattle.seek_core.specs.Answers.{IsTrueAnswer}
use Rattle.seek_core.proofs.ending.deliver.Goals as goal

pub returns-in-NotFound-clause-ends : goal.returns-in-NotFound-clause-ends
returns-in-NotFound-clause-ends g c = λ bytes blocks was.
    ((subst (IsTrueAnswer bytes blocks) c.in-NotFound.is was).0, Keeps-refl (g.K.Sink.held c.args.sink.now))

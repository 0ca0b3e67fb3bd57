use Rattle.std.proofs.Common.{◌∙◌, sym}
use Rattle.std.proofs.lemmas.Bool.{false≢true}
use Rattle.grid_laws.proofs.moves.what_may_be_exchanged_does_not_slide.Goals as goal

pub returns : goal.returns
returns c = λ s t exchange slide. false≢true (sym exchange.different ∙ slide.shared)

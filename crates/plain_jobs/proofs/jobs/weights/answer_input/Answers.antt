use Rattle.std.proofs.Common.{◌∙◌, List, ℕ, ap, ap₂}
use Rattle.grid_core.specs.Diagram.{Diagram as Marks}
use Rattle.reply_text.specs.Reply.{done}
use Rattle.plain_jobs.specs.Jobs.Weights.{weights_text}
use Rattle.plain_jobs.proofs.jobs.weights.answer_input.Goals as goal

pub returns-clause-answer : goal.returns-clause-answer
returns-clause-answer c =
    let grids = ap₂ (λ (d e : Marks). weights_text c.args.input.now.cocycle d e) c.grid-first.ensures c.grid-second.ensures in
    c.new.ensures ∙ ap (λ (text : List ℕ). done text) (c.in_ok-text.ensures.text ∙ grids)

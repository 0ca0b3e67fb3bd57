use Rattle.std.proofs.Common.{◌∙◌, ap₂}
use Rattle.std.proofs.lemmas.Result.{IfOk-weaker}
use Rattle.clap.specs.Simple.{with_rule}
use Rattle.knot_words.proofs.words.command.Goals as goal

pub returns : goal.returns
returns c = IfOk-weaker c.arg-5.result _ _ (λ last added. added.shape c.seed_arg.ensures.local
    ∙ ap₂ with_rule (c.in_ok-arg-4.ensures.shape c.spare_arg.ensures.local
    ∙ ap₂ with_rule (c.in_ok-arg-3.ensures.shape c.budget_arg.ensures.local
    ∙ ap₂ with_rule (c.in_ok-arg-2.ensures.shape c.workers_arg.ensures.local
    ∙ ap₂ with_rule (c.in_ok-arg.ensures.shape c.job_arg.ensures.local
    ∙ ap₂ with_rule c.new.ensures.app c.job_arg.ensures.rule) c.workers_arg.ensures.rule) c.budget_arg.ensures.rule) c.spare_arg.ensures.rule)
    c.seed_arg.ensures.rule) c.arg-5.ensures

use Rattle.std.proofs.Common.{◌∙◌, ap, ap₂}
use Rattle.std.proofs.lemmas.Result.{IfOk-weaker}
use Rattle.clap.specs.Simple.{app_of, with_rule}
use Rattle.seek_words.proofs.command.with_bounds.Goals as goal

pub returns : goal.returns
returns c = IfOk-weaker c.arg-4.result _ _ (λ last added. added.shape c.workers_arg.ensures.local
    ∙ ap₂ with_rule (c.in_ok-arg-3.ensures.shape c.room_arg.ensures.local
    ∙ ap₂ with_rule (c.in_ok-arg-2.ensures.shape c.steps_arg.ensures.local
    ∙ ap₂ with_rule (c.in_ok-arg.ensures.shape c.seed_arg.ensures.local
    ∙ ap (with_rule (app_of c.args.command)) c.seed_arg.ensures.rule) c.steps_arg.ensures.rule) c.room_arg.ensures.rule) c.workers_arg.ensures.rule) c.arg-4.ensures

use Rattle.std.proofs.Common.{◌∙◌, ap, ap₂}
use Rattle.std.proofs.lemmas.Result.{IfOk-weaker}
use Rattle.clap.specs.Simple.{app_of, with_rule}
use Rattle.seek_words.proofs.command.with_inputs.Goals as goal

pub returns : goal.returns
returns c = IfOk-weaker c.arg-7.result _ _ (λ last added. added.shape c.out_arg.ensures.local
    ∙ ap₂ with_rule (c.in_ok-arg-6.ensures.shape c.no_weights_arg.ensures.local
    ∙ ap₂ with_rule (c.in_ok-arg-5.ensures.shape c.weights_arg.ensures.local
    ∙ ap₂ with_rule (c.in_ok-arg-4.ensures.shape c.quandles_arg.ensures.local
    ∙ ap₂ with_rule (c.in_ok-arg-3.ensures.shape c.code_arg.ensures.local
    ∙ ap₂ with_rule (c.in_ok-arg-2.ensures.shape c.braid_arg.ensures.local
    ∙ ap₂ with_rule (c.in_ok-arg.ensures.shape c.files_arg.ensures.local
    ∙ ap (with_rule (app_of c.args.command)) c.files_arg.ensures.rule) c.braid_arg.ensures.rule) c.code_arg.ensures.rule)
    c.quandles_arg.ensures.rule) c.weights_arg.ensures.rule) c.no_weights_arg.ensures.rule) c.out_arg.ensures.rule) c.arg-7.ensures

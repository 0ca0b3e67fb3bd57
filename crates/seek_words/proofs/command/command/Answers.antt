use Rattle.std.proofs.Common.{◌∙◌, ap, ap₂}
use Rattle.std.proofs.lemmas.Result.{IfOk-weaker}
use Rattle.clap.specs.Simple.{with_rule}
use Rattle.seek_words.specs.Words.{with_inputs, with_bounds}
use Rattle.seek_words.proofs.command.command.Goals as goal

pub returns : goal.returns
returns c = IfOk-weaker c.arg-2.result _ _ (λ last added. added.shape c.quiet_arg.ensures.local
    ∙ ap₂ with_rule (c.in_ok-arg.ensures.shape c.progress_arg.ensures.local
    ∙ ap₂ with_rule (c.in_ok-bounded.ensures ∙ ap with_bounds (c.in_ok-asking.ensures ∙ ap with_inputs c.bare_command.ensures))
    c.progress_arg.ensures.rule) c.quiet_arg.ensures.rule) c.arg-2.ensures

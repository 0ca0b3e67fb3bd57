use Rattle.std.proofs.Common.{◌∙◌, List, ℕ, Option, IfSome, sym, subst}
use Rattle.number_text.specs.declared.said.Said.{Said}
use Rattle.certificate_check.specs.Decision.{IsFindingOf, IsDecision}
use Rattle.seek_core.proofs.Separated.{in_vain_of}
use Rattle.seek_core.proofs.Texts.{tidy_said}
use Rattle.seek_core.proofs.answer.answer_problem.Goals as goal

pub returns-in-None : goal.returns-in-None
returns-in-None g c = λ bytes read.
    in_vain_of bytes c.args.problem.now c.args.blocks.now c.in_ok-said.field-0 c.in_vain.result read c.in_vain.ensures.columns
    c.in_vain.ensures.quandles c.in_vain.ensures.blocks c.in-None.is c.in_ok-said.ensures.search

pub print_said-requires : goal.print_said-requires
print_said-requires g c =
    let p = c.args.problem.now in
    tidy_said p c.in-Some.said (subst (λ (o : Option Said). IfSome o (λ x. IsFindingOf p x)) c.in-Some.is c.in_ok-said.ensures.finding)

pub returns-in_ok-text-in-Some : goal.returns-in_ok-text-in-Some
returns-in_ok-text-in-Some g c = λ bytes read.
    let p = c.args.problem.now in
    let finding = subst (λ (o : Option Said). IfSome o (λ x. IsFindingOf p x)) c.in-Some.is c.in_ok-said.ensures.finding in
    subst (λ (text : List ℕ). IsDecision bytes text) (sym (c.from_vec.ensures ∙ c.in_ok-text-in-Some.ensures))
    (c.what_holds_is_a_decision.ensures.decision bytes p c.in-Some.said read finding)

use Rattle.std.proofs.Common.{◌≡◌, ◌∙◌, ℕ, ap, subst}
use Rattle.search_book.specs.declared.problem.Problem.{Problem}
use Rattle.search_book.specs.Claim.{ClaimsEntry}
use Rattle.search_pool.specs.declared.locked.Task.{Task}
use Rattle.search_pool.specs.Task.{AllowsOffers, IsTaskOf}
use Rattle.search_pool.proofs.Tasks.{allows_offers, task_of_ticket}
use Rattle.search_pool.proofs.locked.Locked.claim.Goals as goal

pub returns-in-Work-clause-answer : goal.returns-in-Work-clause-answer
returns-in-Work-clause-answer g c =
    let claims = subst (λ (w : ℕ). ClaimsEntry c.args.self.now.book w c.in-Work.ticket.id c.claim.new.self) c.worker.ensures c.in-Work.ensures.answer.0 in
    task_of_ticket c.args.self.now.book c.claim.new.self _ c.in-Work.ticket c.task_of.result c.task_of.ensures.id c.task_of.ensures.form
    (c.task_of.ensures.cap ∙ ap (λ (p : Problem). p.cap) c.problem.ensures.problem) claims c.in-Work.ensures.answer.1

pub returns-in-Work-clause-work : goal.returns-in-Work-clause-work
returns-in-Work-clause-work g c = λ task is.
    let made : Task = c.task_of.result in
    let same : made ≡ task = cc in
    let is_made : IsTaskOf c.args.self.now.book c.worker.result made c.claim.new.self =
    task_of_ticket c.args.self.now.book c.claim.new.self c.worker.result c.in-Work.ticket made c.task_of.ensures.id c.task_of.ensures.form
    (c.task_of.ensures.cap ∙ ap (λ (p : Problem). p.cap) c.problem.ensures.problem) c.in-Work.ensures.answer.0 c.in-Work.ensures.answer.1 in
    subst (λ (t : Task). AllowsOffers t) same
    (allows_offers c.args.self.now.book c.claim.new.self c.worker.result made c.problem.ensures.sound is_made)

use Rattle.std.proofs.Common.{Ok}
use Rattle.knot_text.specs.Shapes.{lone_diagram_of}
use Rattle.plain_jobs.specs.Job.{plain_task}
use Rattle.knot_words.specs.declared.job.Job.TheVariants.{Simplify, Least, Sample, Plain}
use Rattle.search_jobs.specs.Simplify.{AnswersSimplify}
use Rattle.search_jobs.specs.Least.{AnswersLeast}
use Rattle.search_jobs.specs.Sample.{AnswersSample}
use Rattle.knot_jobs.proofs.AcceptedBehind.{decided_truth}
use Rattle.knot_jobs.proofs.Plainly.{read_plainly, answers_as}
use Rattle.knot_jobs.proofs.answer.answer_alone.Goals as goal

pub returns-in-Decide-clause-claim : goal.returns-in-Decide-clause-claim
returns-in-Decide-clause-claim c =
    decided_truth c.args.asked.now.job c.args.bytes.now c.answer_alone.result c.in-Decide.is c.answer_alone.ensures.claim

pub returns-in_ok-answer-in-Simplify-clause-answer : goal.returns-in_ok-answer-in-Simplify-clause-answer
returns-in_ok-answer-in-Simplify-clause-answer c =
    let asked = c.args.asked.now in
    let bytes = c.args.bytes.now in
    let plain = c.in_ok-answer-in-Simplify.field-0 in
    answers_as asked bytes Simplify plain c.without_search.result c.in-Simplify.is c.without_search.ensures
    (read_plainly (AnswersSimplify asked.budget) (lone_diagram_of bytes) plain c.in_ok-answer-in-Simplify.ensures)

pub returns-in_ok-answer-in-Least-clause-answer : goal.returns-in_ok-answer-in-Least-clause-answer
returns-in_ok-answer-in-Least-clause-answer c =
    let asked = c.args.asked.now in
    let bytes = c.args.bytes.now in
    let plain = c.in_ok-answer-in-Least.field-0 in
    answers_as asked bytes Least plain c.without_search-in-Least.result c.in-Least.is c.without_search-in-Least.ensures
    (read_plainly (AnswersLeast asked.budget) (lone_diagram_of bytes) plain c.in_ok-answer-in-Least.ensures)

pub returns-in_ok-answer-in-Sample-clause-answer : goal.returns-in_ok-answer-in-Sample-clause-answer
returns-in_ok-answer-in-Sample-clause-answer c =
    let asked = c.args.asked.now in
    let plain = c.in_ok-answer-in-Sample.field-0 in
    answers_as asked c.args.bytes.now Sample plain c.without_search-in-Sample.result c.in-Sample.is c.without_search-in-Sample.ensures
    (read_plainly AnswersSample (Ok asked.seed) plain c.in_ok-answer-in-Sample.ensures)

pub returns-in_ok-answer-in-Plain-clause-answer : goal.returns-in_ok-answer-in-Plain-clause-answer
returns-in_ok-answer-in-Plain-clause-answer c =
    let bytes = c.args.bytes.now in
    let job = c.in-Plain.job in
    let plain = c.in_ok-answer-in-Plain.field-0 in
    answers_as c.args.asked.now bytes (Plain job) plain c.without_search-in-Plain.result c.in-Plain.is c.without_search-in-Plain.ensures
    (read_plainly (plain_task job).Replies ((plain_task job).read bytes) plain c.in_ok-answer-in-Plain.ensures.answer)

use Rattle.std.proofs.Common.{◌≡◌, ◌∙◌, true, false, sym}
use Rattle.std.proofs.lemmas.Result.{IfOk-weaker}
use Rattle.table_check.specs.Tables.{begins_table}
use Rattle.check_job.proofs.Read.{table_answered, pair_answered, table_true, pair_true}
use Rattle.check_job.proofs.checking.answer.Goals as goal

pub returns-then-begins_table-clause-answer : goal.returns-then-begins_table-clause-answer
returns-then-begins_table-clause-answer c =
    let begins : begins_table c.args.bytes.now ≡ true = sym c.begins_table.ensures ∙ c.if-begins_table.true in
    IfOk-weaker c.answer_table.result _ _ (λ reply answers. table_answered c.args.bytes.now reply begins answers) c.answer_table.ensures.answer

pub returns-then-begins_table-clause-claim : goal.returns-then-begins_table-clause-claim
returns-then-begins_table-clause-claim c =
    let begins : begins_table c.args.bytes.now ≡ true = sym c.begins_table.ensures ∙ c.if-begins_table.true in
    IfOk-weaker c.answer_table.result _ _ (λ reply claim done. table_true c.args.bytes.now begins (claim done)) c.answer_table.ensures.claim

pub returns-else-begins_table-clause-answer : goal.returns-else-begins_table-clause-answer
returns-else-begins_table-clause-answer c =
    let begins : begins_table c.args.bytes.now ≡ false = sym c.begins_table.ensures ∙ c.if-begins_table.false in
    IfOk-weaker c.answer_pair.result _ _ (λ reply answers. pair_answered c.args.bytes.now reply begins answers) c.answer_pair.ensures.answer

pub returns-else-begins_table-clause-claim : goal.returns-else-begins_table-clause-claim
returns-else-begins_table-clause-claim c =
    let begins : begins_table c.args.bytes.now ≡ false = sym c.begins_table.ensures ∙ c.if-begins_table.false in
    IfOk-weaker c.answer_pair.result _ _ (λ reply claim done. pair_true c.args.bytes.now begins (claim done)) c.answer_pair.ensures.claim

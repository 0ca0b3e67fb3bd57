use Rattle.std.proofs.Common.{rules, ◌≡◌, ◌∙◌, ◌++◌, sym, append_assoc}
use Rattle.std.specs.Cmp.Rules.{signed_items}
use Rattle.std.proofs.lemmas.Bool.{true≢false}
use Rattle.linking_core.specs.Linking.{linking}
use Rattle.verdict_core.specs.Diagrams.{grid_of}
use Rattle.plain_jobs.specs.Comparison.{compared_line}
use Rattle.plain_jobs.specs.Jobs.Linking.{linking_numbers_line, numbers_are_alike, linking_text}
use Rattle.plain_jobs.proofs.Compared.{told_apart}
use Rattle.plain_jobs.proofs.jobs.linking.answer_pair.Goals as goal

pub returns-in-Ok-clause-claim : goal.returns-in-Ok-clause-claim
returns-in-Ok-clause-claim c = λ ends equivalent.
    let d = grid_of c.args.first.now in
    let e = grid_of c.args.second.now in
    let same = (signed_items (linking d) (linking e)).1 (c.equivalent_diagrams_have_equal_linking_numbers.ensures.list d e equivalent) in
    let alike = numbers_are_alike (linking d) (linking e) in
    let whole : c.new.result.text ≡ linking_text d e = search rules in
    let is = whole ∙ sym (append_assoc (linking_numbers_line d) (linking_numbers_line e) (compared_line alike)) in
    true≢false (sym same ∙ told_apart (linking_numbers_line d ++ linking_numbers_line e) c.new.result.text alike is ends)

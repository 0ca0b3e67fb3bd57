use Rattle.std.proofs.Common.{◌≡◌, ◌∙◌, true, sym}
use Rattle.std.proofs.lemmas.Slice.Eq.{bytes_eq-Decides}
use Rattle.std.proofs.lemmas.Bool.{true≢false}
use Rattle.plain_jobs.proofs.Compared.{told_apart}
use Rattle.plain_jobs.proofs.jobs.weights.weighed_text.Goals as goal

pub returns-clause-apart : goal.returns-clause-apart
returns-clause-apart c = λ ends same.
    let one = c.as_slice-3.ensures.value ∙ c.in_ok-one.ensures in
    let two = c.as_slice-4.ensures.value ∙ c.in_ok-two.ensures in
    let equal : c.eq.result ≡ true = c.eq.ensures ∙ (bytes_eq-Decides c.as_slice-3.result.now c.as_slice-4.result.now).1 (one ∙ same ∙ sym two) in
    true≢false (sym equal ∙ told_apart c.push_labelled_line-2.new.out.items c.push_comparison.new.out.items c.eq.result c.in_ok-push_comparison.ensures ends)

use Rattle.std.proofs.Common.{ap, sym, ◌∙◌, true≢false, is_some}
use Rattle.knot_words.proofs.words.number_given.Goals as goal

pub unreachable-requires : goal.unreachable-requires
unreachable-requires g c = true≢false (sym (c.requires c.get_one.result c.get_one.ensures.value) ∙ ap (λ o. is_some o) c.in-None.is)

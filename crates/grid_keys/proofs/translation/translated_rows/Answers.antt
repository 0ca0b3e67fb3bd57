use Rattle.std.proofs.Common.{◌≡◌, ◌<◌, ◌∙◌, ◌++◌, rules, take, drop, sym, subst}
use Rattle.std.specs.List.{All}
use Rattle.grid_keys.proofs.Translated.{cut_inside}
use Rattle.grid_keys.proofs.translation.translated_rows.Goals as goal

pub lower_all-requires-clause-inside : goal.lower_all-requires-clause-inside
lower_all-requires-clause-inside c =
    let items : c.try_extend_from_slice-2.new.self.items ≡ drop c.args.columns c.args.list.now ++ take c.args.columns c.args.list.now = search rules in
    subst (λ zs. All (λ r. r < c.args.size) zs) (sym (c.as_mut_slice.ensures.value ∙ items))
    (cut_inside c.args.size c.args.columns c.args.list.now c.requires.inside)

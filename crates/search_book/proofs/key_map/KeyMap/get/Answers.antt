use Rattle.std.proofs.Common.{◌∙◌, ap, List}
use Rattle.std.specs.Map.{lookup}
use Rattle.grid_keys.specs.declared.key.Packed.{Packed}
use Rattle.grid_keys.specs.Key.{same_key}
use Rattle.search_book.specs.declared.key_map.Known.{Known}
use Rattle.search_book.proofs.TwoMaps.{by_brief, by_whole}
use Rattle.search_book.proofs.key_map.KeyMap.get.Goals as goal

pub returns-in-Some : goal.returns-in-Some
returns-in-Some c =
    let m = c.self.inside in
    c.copied.ensures ∙ c.get.ensures.value
    ∙ by_brief c.in-Some.brief c.args.key.now m.brief.entries m.whole.entries c.in-Some.ensures.some c.self.invariant
    ∙ ap (λ (ps : List (Packed × Known)). lookup (same_key c.args.key.now) ps) c.self.view_is

pub returns-in-None : goal.returns-in-None
returns-in-None c =
    let m = c.self.inside in
    c.copied-in-None.ensures ∙ c.get-in-None.ensures.value
    ∙ by_whole c.args.key.now m.brief.entries m.whole.entries c.in-None.ensures.none
    ∙ ap (λ (ps : List (Packed × Known)). lookup (same_key c.args.key.now) ps) c.self.view_is

use Rattle.std.proofs.Common.{◌∙◌, ◌<◌, List, ℕ, take, drop, arith, sym, ap, subst}
use Rattle.std.proofs.lemmas.List.Elements.{All-take, All-drop}
use Rattle.grid_keys.specs.declared.key.TheConstants.{BASE, WORD_COLUMNS}
use Rattle.grid_keys.proofs.Numbers.{AreDigits}
use Rattle.grid_keys.proofs.Words.{word_behind, word_by_shift, take_at_most}
use Rattle.grid_keys.proofs.key.word_at.Goals as goal

pub returns-then-rows-from : goal.returns-then-rows-from
returns-then-rows-from c = sym (word_behind c.args.rows.now c.args.from (omega arith) c.requires.from)

pub returns : goal.returns
returns c =
    let piece =
    take_at_most WORD_COLUMNS c.min.result c.split_at.result.1.now c.min.ensures
    ∙ ap (λ (xs : List ℕ). take WORD_COLUMNS xs) c.split_at.ensures.back in
    let is = c.split_at-2.ensures.front ∙ piece in
    word_by_shift c.args.rows.now c.args.from c.split_at-2.result.0.now c.number.result c.requires.count c.requires.from
    (subst AreDigits (sym is)
    (All-take (λ digit. digit < BASE) WORD_COLUMNS (drop c.args.from c.args.rows.now) (All-drop (λ digit. digit < BASE) c.args.from c.args.rows.now c.requires.inside)))
    is c.number.ensures

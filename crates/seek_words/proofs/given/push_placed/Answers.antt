use Rattle.std.proofs.Common.{◌∙◌, arith}
use Rattle.seek_words.proofs.Named.{all_valued}
use Rattle.seek_words.proofs.given.push_placed.Goals as goal

pub returns : goal.returns
returns c =
    let values = c.in_ok-values.values in
    c.loop-at.invariant ∙ all_valued _ _ values.items _ c.loop-at.at _ c.name.ensures c.in_ok-values.ensures (omega (arith, values.ok.0))

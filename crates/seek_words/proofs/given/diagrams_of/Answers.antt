use Rattle.std.proofs.Common.{◌∙◌, List, map, ap, subst}
use Rattle.seek_words.specs.Matched.{FindsNamed}
use Rattle.seek_words.specs.Words.{Named, named}
use Rattle.seek_words.specs.declared.given.Placed.{Placed}
use Rattle.seek_words.proofs.Named.{in_turn}
use Rattle.seek_words.proofs.given.diagrams_of.Goals as goal

pub returns : goal.returns
returns c =
    let all = in_turn c.new-placed.result.items c.push_placed.new.placed.items c.push_placed-2.new.placed.items c.push_placed-3.new.placed.items _ _ _
    c.new-placed.ensures.items c.in_ok-push_placed.ensures c.in_ok-push_placed-2.ensures c.in_ok-push_placed-3.ensures in
    let seen = ap (λ (ps : List Placed). map (λ (p : Placed). named p.given) ps) c.as_slice.ensures.value in
    subst (λ (xs : List Named). FindsNamed xs c.diagrams_among.result) (seen ∙ all) c.diagrams_among.ensures

use Rattle.std.proofs.Common.{◌<◌, ◌∙◌, ℕ, false, length, get_or, sym, ap, subst, arith, below_more}
use Rattle.std.proofs.lemmas.List.{get_or_default}
use Rattle.crossing_codes.specs.declared.crossing.Crossing.{Crossing}
use Rattle.code_grids.specs.Correspond.{KeepsNames}
use Rattle.code_grids.specs.Renaming.{AreInverse, IsSameAt, renamed}
use Rattle.code_grids.proofs.Naming.{renamed_kept}
use Rattle.code_grids.proofs.edge_names.name_all.Goals as goal

pub loop-k-preserved : goal.loop-k-preserved
loop-k-preserved c =
    let ones = c.args.ones.now in
    let twos = c.args.twos.now in
    let crossings = c.args.crossings.now in
    let n = length c.args.there.now in
    let before = c.loop-k.there in
    let after = c.name_edges.new.there in
    let k = c.loop-k.k in
    let to = get_or crossings k 0 in
    let none : Crossing = record { first = 0; second = 0; third = 0; fourth = 0; positive = false } in
    let long = c.loop-k.invariant.0.long in
    let size = c.requires.long in
    let within : k < length ones = c.loop-k-test.true in
    let inside : to < length twos = c.requires.inside k (omega arith) in (
      subst (λ (m : ℕ). AreInverse m after c.name_edges.new.back) long c.name_edges.ensures.inverse,
      λ wanted back w same.
          let w' = subst (λ (m : ℕ). AreInverse m wanted back) (sym long) w in
          let here = same k within none in
          let keeps = subst (λ (m : ℕ). KeepsNames m before after wanted) long (c.name_edges.ensures.kept wanted back w' here) in
          below_more (IsSameAt after crossings ones twos) k
          (λ j less d.
          let lt : j < length ones = omega (arith, less, within) in
          renamed_kept n before after wanted (get_or ones j d) keeps (c.requires.named j d lt)
          (c.loop-k.invariant.1 wanted back w same j less d ∙ sym (same j lt d))
          ∙ same j lt d)
          (λ d.
          ap (renamed after) (get_or_default ones k d none within)
          ∙ (c.name_edges.ensures.given wanted back w' here ∙ get_or_default twos to none d inside)),
    )

pub returns-clause-wanted : goal.returns-clause-wanted
returns-clause-wanted c = λ wanted back w same k lt d. c.loop-k.invariant.1 wanted back w same k (omega (arith, lt, c.loop-k-test.false)) d

use Rattle.std.proofs.Common.{◌∙◌, ℕ, List, length, get_or, sym, ap, subst, arith}
use Rattle.std.proofs.lemmas.List.FromFn.{length-range_with_len}
use Rattle.crossing_codes.specs.CodeColouring.{names_edges}
use Rattle.code_grids.specs.Renaming.{AreInverse, IsSame}
use Rattle.code_grids.proofs.Undone.{own_inverse, refilled, both_refilled}
use Rattle.code_grids.proofs.edge_names.edge_names.Goals as goal

pub name_all-requires-clause-inverse : goal.name_all-requires-clause-inverse
name_all-requires-clause-inverse c =
    own_inverse c.args.edges c.as_mut_slice.result.now c.as_mut_slice-2.result.now (c.as_mut_slice.ensures.value ∙ c.in_ok-there.ensures.all)
    (c.as_mut_slice-2.ensures.value ∙ c.in_ok-back.ensures.all)

pub name_all-requires-clause-named : goal.name_all-requires-clause-named
name_all-requires-clause-named c = λ k d lt.
    let size = ap length (c.as_mut_slice.ensures.value ∙ c.in_ok-there.ensures.all) ∙ length-range_with_len 0 c.args.edges in
    ap (λ (m : ℕ). names_edges m (get_or c.args.ones.now k d)) size ∙ c.requires.named k d lt

pub name_all-requires-clause-named_too : goal.name_all-requires-clause-named_too
name_all-requires-clause-named_too c = λ k d lt.
    let size = ap length (c.as_mut_slice.ensures.value ∙ c.in_ok-there.ensures.all) ∙ length-range_with_len 0 c.args.edges in
    ap (λ (m : ℕ). names_edges m (get_or c.args.twos.now k d)) size ∙ c.requires.named_too k d lt

pub returns-clause-inverse : goal.returns-clause-inverse
returns-clause-inverse c =
    let n = c.args.edges in
    let there = c.name_all.new.there in
    let back = c.name_all.new.back in
    let size = ap length (c.as_mut_slice.ensures.value ∙ c.in_ok-there.ensures.all) ∙ length-range_with_len 0 n in
    let i = c.name_all.ensures.inverse in
    let items = ap length c.as_mut_slice.ensures.value in
    let items' = ap length c.as_mut_slice-2.ensures.value in
    let size' = ap length (c.as_mut_slice-2.ensures.value ∙ c.in_ok-back.ensures.all) ∙ length-range_with_len 0 n in
    let len = c.as_mut_slice.ensures.len in
    let len' = c.as_mut_slice-2.ensures.len in
    let long = i.long in
    let as_long = i.as_long in
    both_refilled n c.in_ok-there.there.len c.in_ok-back.back.len c.in_ok-there.there.items c.in_ok-back.back.items there back
    (omega arith) (omega arith) (omega arith) (omega arith) (subst (λ (m : ℕ). AreInverse m there back) size i)

pub returns-clause-wanted : goal.returns-clause-wanted
returns-clause-wanted c = λ wanted wanted_back w same.
    let n = c.args.edges in
    let there = c.name_all.new.there in
    let size = ap length (c.as_mut_slice.ensures.value ∙ c.in_ok-there.ensures.all) ∙ length-range_with_len 0 n in
    let items = ap length c.as_mut_slice.ensures.value in
    let len = c.as_mut_slice.ensures.len in
    let long = c.name_all.ensures.inverse.long in
    subst (λ (xs : List ℕ). IsSame xs c.args.crossings.now c.args.ones.now c.args.twos.now)
    (sym (refilled c.in_ok-there.there.len c.in_ok-there.there.items there (omega arith) (omega arith)))
    (c.name_all.ensures.wanted wanted wanted_back (subst (λ (m : ℕ). AreInverse m wanted wanted_back) (sym size) w) same)

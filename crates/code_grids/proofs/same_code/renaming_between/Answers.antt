use Rattle.std.proofs.Common.{◌∙◌, ℕ, List, length, refl, sym, ap, subst}
use Rattle.code_grids.specs.declared.renaming.Renaming.{Renaming}
use Rattle.code_grids.specs.Correspond.{Correspond}
use Rattle.code_grids.specs.Renaming.{AreInverse}
use Rattle.code_grids.proofs.Renamed.{corresponds, same_of, inverse_of, made}
use Rattle.code_grids.proofs.same_code.renaming_between.Goals as goal

pub returns-then-not-correspond-clause-none : goal.returns-then-not-correspond-clause-none
returns-then-not-correspond-clause-none c = λ r i.
    let one = c.args.one.now in
    let two = c.args.two.now in
    let no = c.if-not-correspond.true in
    let yes = c.correspond.ensures.1
    (subst (λ (xs : List ℕ). Correspond one two xs) (sym c.as_slice.ensures.value) (corresponds one two c.args.crossings.items r i)) in
    cc

pub returns-then-not-are_same-clause-none : goal.returns-then-not-are_same-clause-none
returns-then-not-are_same-clause-none c = λ r i.
    let one = c.args.one.now in
    let two = c.args.two.now in
    let ones = c.as_slice-ones.result.now in
    let twos = c.as_slice-twos.result.now in
    let places = c.as_slice-3.result.now in
    let names = c.in_ok-edges.edges.items in
    let wanted = c.in_ok-edges.ensures.wanted r.edges r.edges_back i.0.edges
    (same_of r.edges r.crossings r.edges places one.crossings two.crossings ones twos refl (i.1 ∙ sym c.as_slice-3.ensures.value)
    (sym c.as_slice-ones.ensures) (sym c.as_slice-twos.ensures) i.0.same) in
    let no = c.if-not-are_same.true in
    let yes = c.are_same.ensures.1
    (same_of names places c.as_slice-4.result.now c.as_slice-5.result.now ones twos ones twos (sym c.as_slice-4.ensures.value)
    (c.as_slice-3.ensures.value ∙ sym c.as_slice-5.ensures.value) refl refl wanted) in
    cc

pub returns-clause-some : goal.returns-clause-some
returns-clause-some c =
    let one = c.args.one.now in
    let two = c.args.two.now in
    let crossings = c.args.crossings.items in
    let ones = c.as_slice-ones.result.now in
    let twos = c.as_slice-twos.result.now in
    let there = c.as_slice-2.result.now in
    let back = c.in-Some.crossings_back.items in
    let edges = c.in_ok-edges.edges.items in
    let edges_back = c.in_ok-edges.edges_back.items in
    let r : Renaming = c.of-renaming.result in
    let both = subst (λ (xs : List ℕ). Correspond one two xs) c.as_slice.ensures.value (c.correspond.ensures.0 c.if-not-correspond.false) in
    let undone : AreInverse (length there) there back = rw c.in-Some.is at c.in_ok-crossings_back.ensures.some in
    let same = c.are_same.ensures.0 c.if-not-are_same.false in
    made one two r crossings both c.of-renaming.ensures.crossings
    (inverse_of (length there) (length crossings) there back r.crossings r.crossings_back (ap length c.as_slice-2.ensures.value)
    (c.as_slice-2.ensures.value ∙ sym c.of-renaming.ensures.crossings) (sym c.of-renaming.ensures.crossings_back) undone)
    (inverse_of one.edges one.edges edges edges_back r.edges r.edges_back refl (sym c.of-renaming.ensures.edges) (sym c.of-renaming.ensures.edges_back)
    c.in_ok-edges.ensures.inverse)
    (same_of c.as_slice-4.result.now c.as_slice-5.result.now r.edges r.crossings ones twos one.crossings two.crossings
    (c.as_slice-4.ensures.value ∙ sym c.of-renaming.ensures.edges) (c.as_slice-5.ensures.value ∙ sym c.of-renaming.ensures.crossings)
    c.as_slice-ones.ensures c.as_slice-twos.ensures same)

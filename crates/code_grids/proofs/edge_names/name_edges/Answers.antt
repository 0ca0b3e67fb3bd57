use Rattle.std.proofs.Common.{◌≡◌, ◌∙◌, ℕ, true, length, sym, ap, subst}
use Rattle.crossing_codes.specs.declared.crossing.Crossing.{Crossing}
use Rattle.crossing_codes.specs.CodeColouring.{is_edge}
use Rattle.code_grids.proofs.Renamed.{edges_from}
use Rattle.code_grids.proofs.Naming.{four_kept, four_given, kept_at}
use Rattle.code_grids.proofs.edge_names.name_edges.Goals as goal

pub name_edge-requires-4-clause-old : goal.name_edge-requires-4-clause-old
name_edge-requires-4-clause-old c =
    let x = c.args.one.now in
    let long = c.name_edge-3.ensures.inverse.long ∙ (c.name_edge-2.ensures.inverse.long ∙ c.name_edge.ensures.inverse.long) in
    subst (λ (k : ℕ). is_edge k x.fourth ≡ true) (sym long) (edges_from (length c.args.there.now) x c.requires.named).fourth

pub name_edge-requires-4-clause-new : goal.name_edge-requires-4-clause-new
name_edge-requires-4-clause-new c =
    let x = c.args.two.now in
    let long = c.name_edge-3.ensures.inverse.long ∙ (c.name_edge-2.ensures.inverse.long ∙ c.name_edge.ensures.inverse.long) in
    subst (λ (k : ℕ). is_edge k x.fourth ≡ true) (sym long) (edges_from (length c.args.there.now) x c.requires.named_too).fourth

pub returns-clause-given : goal.returns-clause-given
returns-clause-given c = λ wanted back w is.
    let x = c.args.one.now in
    let y = c.args.two.now in
    let n = length c.args.there.now in
    let a = c.name_edge.new.there in
    let b = c.name_edge-2.new.there in
    let d = c.name_edge-3.new.there in
    let e = c.name_edge-4.new.there in
    let one = c.name_edge.ensures.inverse.long in
    let two = c.name_edge-2.ensures.inverse.long ∙ one in
    let three = c.name_edge-3.ensures.inverse.long ∙ two in
    four_given n a b d e wanted x y c.requires.named is
    (kept_at n (length a) a b wanted back x.second y.second one w (ap (λ (z : Crossing). z.second) is) c.name_edge-2.ensures.kept)
    (kept_at n (length b) b d wanted back x.third y.third two w (ap (λ (z : Crossing). z.third) is) c.name_edge-3.ensures.kept)
    (kept_at n (length d) d e wanted back x.fourth y.fourth three w (ap (λ (z : Crossing). z.fourth) is) c.name_edge-4.ensures.kept)
    c.name_edge.ensures.given c.name_edge-2.ensures.given c.name_edge-3.ensures.given c.name_edge-4.ensures.given

pub returns-clause-kept : goal.returns-clause-kept
returns-clause-kept c = λ wanted back w is.
    let x = c.args.one.now in
    let y = c.args.two.now in
    let there = c.args.there.now in
    let n = length there in
    let a = c.name_edge.new.there in
    let b = c.name_edge-2.new.there in
    let d = c.name_edge-3.new.there in
    let e = c.name_edge-4.new.there in
    let one = c.name_edge.ensures.inverse.long in
    let two = c.name_edge-2.ensures.inverse.long ∙ one in
    let three = c.name_edge-3.ensures.inverse.long ∙ two in
    four_kept n there a b d e wanted
    (c.name_edge.ensures.kept wanted back w (ap (λ (z : Crossing). z.first) is))
    (kept_at n (length a) a b wanted back x.second y.second one w (ap (λ (z : Crossing). z.second) is) c.name_edge-2.ensures.kept)
    (kept_at n (length b) b d wanted back x.third y.third two w (ap (λ (z : Crossing). z.third) is) c.name_edge-3.ensures.kept)
    (kept_at n (length d) d e wanted back x.fourth y.fourth three w (ap (λ (z : Crossing). z.fourth) is) c.name_edge-4.ensures.kept)

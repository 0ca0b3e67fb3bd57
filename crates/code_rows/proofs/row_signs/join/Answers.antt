use Rattle.std.proofs.Common.{◌∙◌, inl, sym, ap₂, arith}
use Rattle.code_rows.specs.RowSigns.{tied}
use Rattle.code_rows.proofs.Joining.{one_found, two_found}
use Rattle.code_rows.proofs.row_signs.join.Goals as goal

pub end_from-two-requires : goal.end_from-two-requires
end_from-two-requires c =
    let twice = sym c.ends_of.ensures ∙ c.if-ends_of-ne2.false in
    let within = one_found c.args.names.now c.args.edge c.end_from-one.result twice c.end_from-one.ensures.before in
    omega (arith, within)

pub tie_at-second-requires : goal.tie_at-second-requires
tie_at-second-requires c =
    let twice = sym c.ends_of.ensures ∙ c.if-ends_of-ne2.false in
    let within =
    two_found c.args.names.now c.args.edge c.end_from-one.result c.end_from-two.result twice c.end_from-one.ensures.before
    c.end_from-two.ensures.before in
    omega (arith, within, c.requires)

pub returns : goal.returns
returns c =
    let one = c.end_from-one.result in
    let two = c.end_from-two.result in
    let twice = sym c.ends_of.ensures ∙ c.if-ends_of-ne2.false in
    let low = c.end_from-two.ensures.within.0 in
    let within = two_found c.args.names.now c.args.edge one two twice c.end_from-one.ensures.before c.end_from-two.ensures.before in
    inl (record {
      twice = twice;
      one = one;
      two = two;
      ascending = omega (arith, low);
      within = within;
      first = c.end_from-one.ensures.there (omega (arith, low, within));
      second = c.end_from-two.ensures.there within;
      is = c.part.ensures ∙ ap₂ (λ a b. tied a b c.args.ties.now) c.tie_at-first.ensures c.tie_at-second.ensures;
    })

use Rattle.std.proofs.Common.{◌∙◌, subst, sym, arith}
use Rattle.cocycle_core.specs.ShadowCocycle.{IsShadowCocycle}
use Rattle.cocycle_core.proofs.FormulaLaw.{least, same_cochain}
use Rattle.cocycle_core.proofs.formula.mochizuki.Goals as goal

pub values-requires : goal.values-requires
values-requires c = (omega (arith, least c.args.p c.requires.prime), c.requires.most)

pub dihedral-requires : goal.dihedral-requires
dihedral-requires c = (omega (arith, least c.args.p c.requires.prime), c.requires.most)

pub of_table-requires : goal.of_table-requires
of_table-requires c =
    subst IsShadowCocycle (sym (same_cochain c.args.p c.dihedral.result c.in_ok-table.table.items c.dihedral.ensures c.in_ok-table.ensures))
    (c.mochizuki_is_a_shadow_cocycle.ensures.cocycle c.args.p c.requires.prime c.requires.most)

pub returns : goal.returns
returns c = c.of_table.ensures ∙ same_cochain c.args.p c.dihedral.result c.in_ok-table.table.items c.dihedral.ensures c.in_ok-table.ensures

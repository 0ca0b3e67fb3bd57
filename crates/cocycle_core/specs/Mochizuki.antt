-- Mochizuki's shadow cocycle of the dihedral quandle of order 3.
use Rattle.std.specs.Prelude.{[], ◌∷◌}
use Rattle.quandle_core.specs.Tables.{dihedral}
use Rattle.cocycle_core.specs.ShadowCocycle.{ShadowCochain}

-- θ(x, y, z) = (x - y) ((2z - y)³ + y³ - 2z³) / 3 mod 3, over the dihedral quandle of order 3 (Mochizuki 2003)
abbrev pub mochizuki_three : ShadowCochain
mochizuki_three = record {
  quandle = dihedral 3;
  modulus = 3;
  entries = 0 ∷ 0 ∷ 0 ∷ 0 ∷ 0 ∷ 2 ∷ 0 ∷ 2 ∷ 0 ∷ 0 ∷ 2 ∷ 1 ∷ 0 ∷ 0 ∷ 0 ∷ 0 ∷ 1 ∷ 0 ∷ 0 ∷ 1 ∷ 2 ∷ 0 ∷ 0 ∷ 1 ∷ 0 ∷ 0 ∷ 0 ∷ [];
}

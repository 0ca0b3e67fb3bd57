-- Each corner is one of the four.
use Rattle.std.proofs.Common.{refl, arith}
use Rattle.std.specs.List.{Contains}
use Rattle.grid_core.specs.declared.mark.Corner.{Corner}
use Rattle.grid_core.specs.declared.mark.Corner.TheVariants.{LowLeft, LowRight, HighLeft, HighRight}
use Rattle.grid_core.specs.Corners.{corners}

pub corner_listed : (corner : Corner) → Contains corners corner
corner_listed LowLeft = (0, omega arith, refl)
corner_listed LowRight = (1, omega arith, refl)
corner_listed HighLeft = (2, omega arith, refl)
corner_listed HighRight = (3, omega arith, refl)

use Rattle.std.proofs.Common.{◌≡◌, true, subst, List, ℕ}
use Rattle.colour_rows.specs.Colouring.{is_colouring}
use Rattle.colour_rows.proofs.Colourings.{coloured}
use Rattle.colour_list.proofs.Cut.{listed_once, listed_only}
use Rattle.quandle_laws.proofs.lists.each_colouring_is_listed_once.Goals as goal

pub returns-clause-once : goal.returns-clause-once
returns-clause-once c = listed_once

pub returns-clause-only : goal.returns-clause-only
returns-clause-only c = λ t d f there. coloured t d f (subst (λ (h : List ℕ). is_colouring t d h ≡ true) there.2 (listed_only t d there.0 f there.1))

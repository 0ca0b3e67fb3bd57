use Rattle.std.proofs.Common.{◌≡◌, length, take}
use Rattle.braid_core.specs.Action.{IsTuple, action}
use Rattle.braid_core.proofs.action.act_letters.Given as goal

abbrev pub invariant-loop-place : goal.invariant-loop-place
invariant-loop-place l = (l.colours ≡ action l.quandle (take l.place l.letters) l.fn.colours) × IsTuple l.quandle (length l.fn.colours) l.colours

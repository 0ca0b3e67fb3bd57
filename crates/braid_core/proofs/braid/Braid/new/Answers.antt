use Rattle.std.proofs.Common.{◌∙◌, ℤ, List, All, arith, sym, subst}
use Rattle.grid_core.proofs.Accepted.{none_left}
use Rattle.braid_core.specs.Braid.{IsLetter}
use Rattle.braid_core.proofs.Accepted.{none_letters}
use Rattle.braid_core.proofs.braid.Braid.new.Goals as goal

pub invariant_of-result : goal.invariant_of-result
invariant_of-result c =
    let crossings = none_letters c.args.strands c.args.letters.now (sym c.first_outside.ensures ∙ none_left c.first_outside.result c.in_default.not-Some) in
    record {
      least = omega arith;
      most = omega arith;
      crossings = subst (λ (xs : List ℤ). All (IsLetter c.args.strands) xs) (sym c.in_ok-letters.ensures.ok) crossings;
      room = rw c.in_ok-letters.ensures.ok (omega arith);
    }

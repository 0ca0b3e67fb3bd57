use Rattle.std.proofs.Common.{◌%◌, ◌==◌, ap₂}
use Rattle.cocycle_core.proofs.shadow_fault.obeys.Goals as goal

pub returns : goal.returns
returns c =
    ap₂ (λ a b. a == b) (ap₂ (λ a k. a % k) (c.one_side-one.ensures c.args.modulus) c.from.ensures)
    (ap₂ (λ a k. a % k) (c.other_side-other.ensures c.args.modulus) c.from-2.ensures)

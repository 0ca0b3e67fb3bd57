use Rattle.std.proofs.Common.{◌*◌, ◌^◌, ◌%◌, ◌∙◌, ℕ, ap, sym, arith, add-one}
use Rattle.std.proofs.Math.Nat.{mod-eq_of_lt, pow-zero, pow-suc}
use Rattle.std.proofs.lemmas.Nat.{mul-mod_first}
use Rattle.cocycle_core.proofs.formula.power.Goals as goal

pub loop-init : goal.loop-init
loop-init c = record {
  power = sym (ap (λ (n : ℕ). n % c.args.k) (pow-zero c.args.base) ∙ mod-eq_of_lt (omega arith));
  below = omega arith;
}

pub loop-preserved : goal.loop-preserved
loop-preserved c = record {
  power =
      c.times-product.ensures.product
      ∙ (ap (λ (n : ℕ). (n * c.args.base) % c.args.k) c.loop.invariant.power
      ∙ (mul-mod_first (c.args.base ^ c.loop.counter) c.args.base c.args.k
      ∙ ap (λ (n : ℕ). n % c.args.k) (sym (ap (λ (i : ℕ). c.args.base ^ i) (add-one c.loop.counter) ∙ pow-suc c.args.base c.loop.counter))));
  below = c.times-product.ensures.below;
}

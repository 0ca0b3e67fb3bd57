use Rattle.std.proofs.Common.{◌∙◌, ◌≡◌, ◌≤◌, ◌^◌, ℕ, Bool, Option, Some, None, cond, ap, ap₂, arith, refl}
use Rattle.std.proofs.lemmas.Bool.{le-ltb}
use Rattle.braid_core.specs.FixedPoints.{tuples_of, is_fixed}
use Rattle.braid_core.specs.declared.tuples.TheConstants.{MAX_TUPLES}
use Rattle.braid_core.specs.declared.tuples.FixFault.{FixFault}
use Rattle.braid_core.specs.declared.tuples.FixFault.TheVariants.{TooWide}
use Rattle.braid_core.proofs.AllTuples.{found_from_none}
use Rattle.braid_core.proofs.tuples.fixed_points.Goals as goal

pub returns-clause-complete : goal.returns-clause-complete
returns-clause-complete c =
    let q = c.args.quandle.now.order in
    let m = c.args.braid.now.strands in
    let power : c.from.result ^ c.from-2.result ≡ q ^ m =
    ap₂ (λ (x y : ℕ). x ^ y) (c.from.ensures ∙ c.order.ensures.order) (c.from-2.ensures ∙ c.strands-strands.ensures.strands) in
    let few : q ^ m ≤ MAX_TUPLES = let least = c.saturating_pow-tuples.ensures in omega arith in (
      ap (λ (b : Bool). cond {A = Option FixFault} b (Some (TooWide m)) None) (le-ltb MAX_TUPLES (q ^ m) few),
      found_from_none (is_fixed c.args.quandle.now c.args.braid.now) (tuples_of c.new-found.result.items)
          (tuples_of c.append_fixed.new.found.items) c.new-colours.result.items q m _
          (ap tuples_of c.new-found.ensures.items) c.new-colours.ensures refl c.in_ok-append_fixed.ensures.found,
    )

use Rattle.std.proofs.Common.{◌≡◌, ◌∙◌, ℕ, List, length, sym}
use Rattle.std.proofs.lemmas.List.{length-map}
use Rattle.mono_simplify.specs.Ways.{Member, keys_in}
use Rattle.mono_simplify.proofs.Explored.{cut_full}
use Rattle.mono_simplify.proofs.Ways.{admitted}
use Rattle.mono_simplify.proofs.explore.admit_all.Goals as goal

counted : (members : List Member) (n b : ℕ) → n ≡ length members → n ≡ b → length (keys_in members) ≡ b
counted members n b is full = length-map members (λ (m : Member). m.0) ∙ sym is ∙ full

pub returns-then-len-budget-clause-keys : goal.returns-then-len-budget-clause-keys
returns-then-len-budget-clause-keys c =
    (cut_full c.args.offers.now (keys_in c.args.class.now)
    (keys_in c.loop-offer.class) c.loop-offer.offer-index c.args.budget _ c.loop-offer-test.true c.loop-offer.invariant.0
    (sym c.is_exchange.ensures ∙ c.if-not-is_exchange.false) (sym c.holds.ensures ∙ c.if-holds.false)
    (counted c.loop-offer.class c.len.result c.args.budget c.len.ensures c.if-len-budget.true)).0

pub returns-then-len-budget-clause-over : goal.returns-then-len-budget-clause-over
returns-then-len-budget-clause-over c =
    (cut_full c.args.offers.now (keys_in c.args.class.now)
    (keys_in c.loop-offer.class) c.loop-offer.offer-index c.args.budget _ c.loop-offer-test.true c.loop-offer.invariant.0
    (sym c.is_exchange.ensures ∙ c.if-not-is_exchange.false) (sym c.holds.ensures ∙ c.if-holds.false)
    (counted c.loop-offer.class c.len.result c.args.budget c.len.ensures c.if-len-budget.true)).1

pub loop-offer-preserved : goal.loop-offer-preserved
loop-offer-preserved c =
    admitted c.args.offers.now c.args.place c.args.budget c.loop-offer.offer-index c.len.result _ c.args.class.now c.loop-offer.class c.admit.new.self
    c.loop-offer-test.true c.len.ensures c.if-len-budget.false c.loop-offer.invariant (sym c.is_exchange.ensures ∙ c.if-not-is_exchange.false)
    (sym c.holds.ensures ∙ c.if-holds.false) c.in_ok-admit.ensures

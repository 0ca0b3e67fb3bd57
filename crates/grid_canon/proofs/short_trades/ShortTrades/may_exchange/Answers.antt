use Rattle.std.proofs.Common.{◌∙◌, ◌==◌, ℕ, not, arith, ap}
use Rattle.grid_canon.specs.ShortTrades.{is_marked}
use Rattle.grid_canon.proofs.Guards.{digit_of}
use Rattle.grid_canon.proofs.MarkedTrades.{test_at}
use Rattle.grid_canon.proofs.short_trades.ShortTrades.may_exchange.Goals as goal

pub nth_digit-requires-clause-place : goal.nth_digit-requires-clause-place
nth_digit-requires-clause-place c =
    let s = c.self.inside in
    let at = test_at s.size c.args.c (is_marked s.size s.exchanges) c.args.self.now.exchange (ap (λ t. t.exchange) c.self.view_is) c.requires in
    omega (arith, at.0, c.from.ensures)

pub returns : goal.returns
returns c =
    let s = c.self.inside in
    let at = test_at s.size c.args.c (is_marked s.size s.exchanges) c.args.self.now.exchange (ap (λ t. t.exchange) c.self.view_is) c.requires in
    ap (λ (z : ℕ). not (z == 0)) (c.nth_digit.ensures ∙ ap (λ (z : ℕ). digit_of s.size s.exchanges z) c.from.ensures) ∙ at.1

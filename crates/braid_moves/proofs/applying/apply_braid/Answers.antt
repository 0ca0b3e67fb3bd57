use Rattle.std.proofs.Common.{◌≡◌, ◌∙◌, ℕ, ℤ, List, length, ap, ap₂, arith, sym, subst}
use Rattle.braid_core.specs.Braid.{Word, IsBraid}
use Rattle.braid_core.proofs.Accepted.{braid_none}
use Rattle.braid_moves.specs.Step.{moved}
use Rattle.braid_moves.proofs.Steps.{step_braid}
use Rattle.braid_moves.proofs.applying.apply_braid.Goals as goal

pub returns-in-Err-clause-inline : goal.returns-in-Err-clause-inline
returns-in-Err-clause-inline c = λ legal few.
    let after = moved c.args.braid.now c.args.step in
    let letters = c.as_slice.ensures.value ∙ c.letters_after-letters.ensures in
    let made : Word = record { strands = c.strands_after.result; letters = c.as_slice.result.now } in
    let is : made ≡ after = ap₂ (λ (m : ℕ) (ls : List ℤ). record { strands = m; letters = ls }) c.strands_after.ensures letters in
    let braid : IsBraid made = subst IsBraid (sym is) (step_braid c.args.braid.now c.strands-strands.ensures.braid c.args.step legal) in
    c.in-Err.ensures.inline (braid_none made braid) (omega (arith, few, ap length letters))

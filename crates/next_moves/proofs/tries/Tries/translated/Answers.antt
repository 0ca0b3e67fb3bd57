use Rattle.std.proofs.Common.{◌∙◌, ℕ, ap, ap₂, sym}
use Rattle.grid_keys.specs.Translation.{translate}
use Rattle.grid_keys.proofs.Joined.{translate_none}
use Rattle.next_moves.specs.Extends.{Tried}
use Rattle.next_moves.proofs.tries.Tries.translated.Goals as goal

pub returns-then-before-eq0-2 : goal.returns-then-before-eq0-2
returns-then-before-eq0-2 c =
    let d = c.self.inside.grid.now in
    let by = ap₂ (λ (a b : ℕ). translate d a b) (sym c.if-before-eq0.true) (sym c.if-before-eq0-2.true) in
    c.copy.ensures
    ∙ sym (translate_none d c.size-size.ensures.grid)
    ∙ by
    ∙ ap (λ (t : Tried). translate t.diagram c.args.before.0 c.args.before.1) c.self.view_is

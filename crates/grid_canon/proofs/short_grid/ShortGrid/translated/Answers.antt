use Rattle.std.proofs.Common.{◌∙◌, ℕ, ap₂, sym}
use Rattle.grid_keys.specs.Translation.{translate}
use Rattle.grid_keys.proofs.Joined.{translate_none}
use Rattle.grid_canon.proofs.short_grid.ShortGrid.translated.Goals as goal

pub returns-then-rows-eq0 : goal.returns-then-rows-eq0
returns-then-rows-eq0 c =
    c.copy.ensures.same ∙ sym (translate_none c.args.self.now c.copy.ensures.grid)
    ∙ ap₂ (λ (a b : ℕ). translate c.args.self.now a b) (sym c.if-columns-eq0.true) (sym c.if-rows-eq0.true)

use Rattle.std.proofs.Common.{◌≡◌, ◌∙◌, ℕ, ap, refl}
use Rattle.grid_keys.specs.Translation.{translate}
use Rattle.grid_keys.proofs.LeastTranslates.{first_least_read, least_form_at}
use Rattle.grid_keys.proofs.CanonicalForms.{canonical_own}
use Rattle.grid_canon.proofs.canonical_form.canonical.Goals as goal

pub returns-clause-form : goal.returns-clause-form
returns-clause-form c =
    let d = c.args.grid.now in
    let best =
    first_least_read d c.rows.result.now c.rows-2.result.now c.least_column-columns.result c.rows.ensures.rows c.rows-2.ensures.rows
    c.least_column-columns.ensures in
    least_form_at d c.least_column-columns.result _ c.size-size.ensures.grid best
    (c.translate.ensures ∙ ap (λ (b : ℕ). translate d c.least_column-columns.result b) c.row_of-rows.ensures.row) refl c.row_of-rows.ensures.row

pub returns-clause-own : goal.returns-clause-own
returns-clause-own c = canonical_own c.args.grid.now c.translate.result c.size-size.ensures.grid (returns-clause-form c).canonical

use Rattle.std.proofs.Common.{ℕ, refl, get_or, sym}
use Rattle.grid_core.specs.declared.mark.Kind.TheVariants.{Cross}
use Rattle.grid_core.specs.Diagram.{Diagram}
use Rattle.grid_core.proofs.Marks.{row_below}
use Rattle.grid_keys.specs.Translation.{translate}
use Rattle.grid_keys.proofs.LeastTranslates.{least_form_at}
use Rattle.grid_canon.proofs.canonical_form.long_key.Goals as goal

pub translated_key-requires-clause-by : goal.translated_key-requires-clause-by
translated_key-requires-clause-by c =
    row_below (record { x = c.args.x.now; o = c.args.o.now }) c.requires Cross c.least_column-columns.result c.least_column-columns.ensures.inside

pub returns : goal.returns
returns c =
    let d : Diagram = record { x = c.args.x.now; o = c.args.o.now } in
    let a : ℕ = c.least_column-columns.result in
    let b : ℕ = get_or c.args.x.now a 0 in
    record {
      form = translate d a b;
      key = sym c.translated_key.ensures;
      least = least_form_at d a (record { grid = translate d a b; columns = a; rows = b }) c.requires c.least_column-columns.ensures refl refl refl;
    }

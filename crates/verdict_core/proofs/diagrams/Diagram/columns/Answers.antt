use Rattle.std.proofs.Common.{◌+◌, ◌*◌, List, ℤ, ℕ, length, sym, ap, ap₂, ◌∙◌}
use Rattle.braid_closure.proofs.Grids.{size_closure}
use Rattle.verdict_core.specs.declared.diagrams.Diagram.{Diagram}
use Rattle.verdict_core.specs.Diagrams.{column_count}
use Rattle.verdict_core.proofs.diagrams.Diagram.columns.Goals as goal

pub returns-in-Braid-clause-columns : goal.returns-in-Braid-clause-columns
returns-in-Braid-clause-columns c =
    ap₂ (λ (ls : List ℤ) (m : ℕ). length ls + 2 * m) c.letters.ensures.letters c.strands.ensures.strands
    ∙ sym (size_closure c.in-Braid.braid c.letters.ensures.braid)
    ∙ sym (ap (λ (d : Diagram). column_count d) c.in-Braid.is)

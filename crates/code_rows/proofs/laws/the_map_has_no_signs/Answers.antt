use Rattle.std.proofs.Common.{◌∙◌, sym}
use Rattle.code_rows.proofs.Unsigned.{same_plane}
use Rattle.code_rows.proofs.laws.the_map_has_no_signs.Goals as goal

pub returns : goal.returns
returns c = λ rows loops a b one other. same_plane a.crossings b.crossings (one.rows ∙ sym other.rows)

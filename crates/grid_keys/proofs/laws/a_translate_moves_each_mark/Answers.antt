use Rattle.grid_keys.proofs.Translated.{translate-renumbered, translate-grid}
use Rattle.grid_keys.proofs.laws.a_translate_moves_each_mark.Goals as goal

pub returns-clause-marks : goal.returns-clause-marks
returns-clause-marks c = λ d a b grid ha hb. translate-renumbered d a b grid ha

pub returns-clause-grid : goal.returns-clause-grid
returns-clause-grid c = translate-grid

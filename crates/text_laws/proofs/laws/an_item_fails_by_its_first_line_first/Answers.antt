use Rattle.text_laws.proofs.HeadFaults.{moves_begin, steps_begin, list_begins, equal_begins, unknown_begins}
use Rattle.text_laws.proofs.NameFaults.{quandle_begins, different_fails, others_fail}
use Rattle.text_laws.proofs.FirstItems.{grid_begins, braid_begins, braid_diagram_begins, grid_diagram_begins, colours_begin, cocycle_begins, certificate_begins}
use Rattle.text_laws.proofs.FirstItems.{plain_begins}
use Rattle.text_laws.proofs.SurplusFaults.{surplus_begins}
use Rattle.text_laws.proofs.laws.an_item_fails_by_its_first_line_first.Goals as goal

pub returns : goal.returns
returns c = record {
  grid = grid_begins;
  braid = braid_begins;
  braid_diagram = braid_diagram_begins;
  grid_diagram = grid_diagram_begins;
  colours = colours_begin;
  cocycle = cocycle_begins;
  moves = moves_begin;
  steps = steps_begin;
  quandle = quandle_begins;
  surplus = surplus_begins;
  list = list_begins;
  equal = equal_begins;
  unknown = unknown_begins;
  different = different_fails;
  other = others_fail;
  certificate = certificate_begins;
  plain = plain_begins;
}

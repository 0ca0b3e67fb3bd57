use Rattle.crossing_codes.proofs.EdgePieces.{edge_leads}
use Rattle.crossing_codes.proofs.laws.an_edge_has_no_crossing_on_its_way.Goals as goal

pub returns : goal.returns
returns c = λ d p q grid hp hq e. let leads = edge_leads d p q grid hp hq e in (leads.between, leads.comes, leads.clear)

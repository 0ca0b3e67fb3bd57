use Rattle.seek_call.proofs.Found.{kept, sought_to_file}
use Rattle.seek_call.proofs.search.Search.seek_inputs.Goals as goal

pub returns-in-Some : goal.returns-in-Some
returns-in-Some g c = sought_to_file _ _ _ _ _ _ _ c.in-Some.is c.seek_to_file.ensures (kept _)

use Rattle.grid_keys.proofs.Joined.{shifts_joined, shifts_joined_within}
use Rattle.grid_keys.proofs.laws.a_translate_is_joined_by_its_shifts.Goals as goal

pub returns-clause-joined : goal.returns-clause-joined
returns-clause-joined c = shifts_joined

pub returns-clause-within : goal.returns-clause-within
returns-clause-within c = shifts_joined_within

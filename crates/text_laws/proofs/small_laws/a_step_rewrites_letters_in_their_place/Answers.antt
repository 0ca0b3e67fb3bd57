use Rattle.std.proofs.Common.{refl}
use Rattle.text_laws.proofs.Rewritten.{far_trades, triple_turns, pair_cancels, pair_comes, front_goes_behind, strand_goes}
use Rattle.text_laws.proofs.small_laws.a_step_rewrites_letters_in_their_place.Goals as goal

pub returns-clause-far : goal.returns-clause-far
returns-clause-far c = far_trades

pub returns-clause-triple : goal.returns-clause-triple
returns-clause-triple c = triple_turns

pub returns-clause-cancel : goal.returns-clause-cancel
returns-clause-cancel c = pair_cancels

pub returns-clause-insert : goal.returns-clause-insert
returns-clause-insert c = pair_comes

pub returns-clause-turn : goal.returns-clause-turn
returns-clause-turn c = front_goes_behind

pub returns-clause-grow : goal.returns-clause-grow
returns-clause-grow c = λ m letters positive. refl

pub returns-clause-shrink : goal.returns-clause-shrink
returns-clause-shrink c = strand_goes

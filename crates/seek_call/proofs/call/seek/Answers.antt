use Rattle.std.proofs.Common.{inl, inr, refl}
use Rattle.seek_call.proofs.Found.{kept}
use Rattle.seek_call.proofs.call.seek.Goals as goal

pub returns-in-Some : goal.returns-in-Some
returns-in-Some g c = inr record {
  clash = c.in-Some.ensures.clashes;
  status_is = c.tell.ensures.is;
  untouched = record { output = kept _; files = refl };
}

pub returns-in-None : goal.returns-in-None
returns-in-None g c = inl record { apart = c.in-None.ensures.apart; ends = c.seek_apart.ensures }

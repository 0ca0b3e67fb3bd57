use Rattle.std.proofs.Common.{◌∙◌, Some, refl, sym, ap}
use Rattle.seek_parts.specs.Place.{HeldText}
use Rattle.seek_call.proofs.Found.{decided, only_done, sought_in_memory, wanting}
use Rattle.seek_call.proofs.search.Search.find_text.Goals as goal

pub returns-in-Done-clause-found : goal.returns-in-Done-clause-found
returns-in-Done-clause-found g c =
    decided _ _ _ _ c.run_told-ended.result.ending _ c.run_told-ended.ensures c.in-Done.is (ap (λ (t : HeldText). Some t.bytes) c.new-text.ensures) refl

pub returns-in-WriteFault-clause-sought : goal.returns-in-WriteFault-clause-sought
returns-in-WriteFault-clause-sought g c = wanting _ _ _ c.tell.ensures.is

pub returns-in_default : goal.returns-in_default
returns-in_default g c =
    let ending = c.run_told-ended.result.ending in
    record {
      found = tt;
      none = λ done. c.in_default.not-Done (only_done ending (sym c.tell_ending.ensures ∙ done));
      sought = sought_in_memory _ _ _ _ ending _ c.run_told-ended.ensures c.in_default.not-WriteFault c.tell_ending.ensures;
    }

use Rattle.std.proofs.Common.{sym, subst}
use Rattle.seek_core.specs.Parts.{joined}
use Rattle.seek_call.specs.Search.{port_held, EndsSearch}
use Rattle.seek_call.proofs.search.Search.seek_to_output.Goals as goal

pub returns : goal.returns
returns g c =
    let sink = c.args.sink.now in
    record {
      ending = c.run_told-ended.result.ending;
      status_is = c.tell_ending.ensures;
      ends = subst (λ s. EndsSearch (joined c.args.self.now.inputs.now.parts.texts) c.args.self.now.inputs.now.blocks
          (port_held g.W.Write.contents sink) (port_held g.W.Write.contents s)
          c.run_told-ended.result.ending) (sym c.take_error.ensures) c.run_told-ended.ensures;
    }

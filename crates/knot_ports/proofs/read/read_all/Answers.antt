use Rattle.std.proofs.Common.{◌≡◌, rules, length, length-take, take}
use Rattle.knot_ports.specs.declared.read.ReadEnd.TheVariants as ending
use Rattle.knot_ports.proofs.Takings.{TakesBefore-last}
use Rattle.knot_ports.proofs.read.read_all.Goals as goal

pub returns-then-count-limit-clause-lost : goal.returns-then-count-limit-clause-lost
returns-then-count-limit-clause-lost g c =
    let last = take c.in-Ok.count c.take.new.room in
    let whole : length last ≡ c.in-Ok.count = simp length-take (search rules) in
    TakesBefore-last _ _ _ c.args.limit ending.TooLong _ last c.loop-count.invariant.taken c.in-Ok.ensures.bytes (search rules)

pub returns-in_default-extend_from_slice-clause-lost : goal.returns-in_default-extend_from_slice-clause-lost
returns-in_default-extend_from_slice-clause-lost g c =
    let last = take c.in-Ok.count c.take.new.room in
    let whole : length last ≡ c.in-Ok.count = simp length-take (search rules) in
    TakesBefore-last _ _ _ c.args.limit ending.OutOfMemory _ last c.loop-count.invariant.taken c.in-Ok.ensures.bytes (search rules)

use Rattle.std.proofs.Common.{◌∙◌, ap, sym, take, drop}
use Rattle.knot_ports.specs.Memory.{MemorySource}
use Rattle.knot_ports.proofs.Fronts.{front_given}
use Rattle.knot_ports.proofs.memory_source.MemSourceSource.take.Goals as goal

pub returns-clause-bytes : goal.returns-clause-bytes
returns-clause-bytes c =
    let at = c.self.inside.at in
    let n = c.min-count.result in
    let rest = c.split_at.ensures.back ∙ ap (λ xs. drop at xs) c.deref.ensures.value in
    let left = ap (λ (s : MemorySource). s.bytes) (sym c.self.view_is) in
    left ∙ front_given c.self.inside.bytes.items at n (take n c.fill_front.new.room) (c.fill_front.ensures ∙ ap (λ xs. take n xs) rest)

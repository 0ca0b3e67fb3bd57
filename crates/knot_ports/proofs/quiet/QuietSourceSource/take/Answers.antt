use Rattle.std.proofs.Common.{◌∙◌, ap, sym, take, drop}
use Rattle.knot_ports.proofs.Fronts.{front_given}
use Rattle.knot_ports.proofs.quiet.QuietSourceSource.take.Goals as goal

pub returns-clause-bytes : goal.returns-clause-bytes
returns-clause-bytes c =
    let at = c.self.inside.at in
    let n = c.min-count.result in
    let rest = c.split_at.ensures.back ∙ ap (λ xs. drop at xs) c.deref.ensures.value in
    sym c.self.view_is ∙ front_given c.self.inside.bytes.items at n (take n c.fill_front.new.room) (c.fill_front.ensures ∙ ap (λ xs. take n xs) rest)

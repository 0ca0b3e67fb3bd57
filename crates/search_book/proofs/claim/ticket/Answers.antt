use Rattle.std.proofs.Common.{◌≡◌, ◌∙◌, Some, ap, sym}
use Rattle.search_book.specs.declared.entry.Entry.{Entry}
use Rattle.search_book.proofs.claim.ticket.Goals as goal

pub named_by-requires : goal.named_by-requires
named_by-requires c =
    let named = c.requires.named c.at.result c.at.ensures in
    (named.0, record { grid = named.1.grid; key = named.1.named })

pub returns-clause-form : goal.returns-clause-form
returns-clause-form c = λ e d stands named.
    let both : Some c.at.result ≡ Some e = sym c.at.ensures ∙ stands in
    let same : c.at.result ≡ e = cc in
    c.named_by.ensures.grid d (record { grid = named.grid; key = named.named ∙ sym (ap (λ (f : Entry). f.key) same) })

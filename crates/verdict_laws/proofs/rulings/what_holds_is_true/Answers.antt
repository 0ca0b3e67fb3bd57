use Rattle.colour_list.specs.Listing.{lists_of}
use Rattle.cert_check.proofs.ToldApart.{told_apart}
use Rattle.verdict_laws.proofs.rulings.what_holds_is_true.Goals as goal

pub returns-clause-equal : goal.returns-clause-equal
returns-clause-equal c = λ d e moves joined. (moves, joined)

pub returns-clause-different : goal.returns-clause-different
returns-clause-different c = λ d e listed one two quandle told. told_apart listed.table d e (lists_of one) (lists_of two) quandle told

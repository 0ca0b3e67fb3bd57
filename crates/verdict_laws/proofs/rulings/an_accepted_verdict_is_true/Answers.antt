use Rattle.colour_list.specs.Listing.{lists_of}
use Rattle.cert_check.proofs.ToldApart.{told_apart}
use Rattle.verdict_laws.proofs.rulings.an_accepted_verdict_is_true.Goals as goal

pub returns-clause-different : goal.returns-clause-different
returns-clause-different c = λ d e listed one two quandle told. told_apart listed.table d e (lists_of one) (lists_of two) quandle told

pub returns-clause-not_both : goal.returns-clause-not_both
returns-clause-not_both c = λ d e moves listed one two quandle joined told.
    told_apart listed.table d e (lists_of one) (lists_of two) quandle told (moves, joined)

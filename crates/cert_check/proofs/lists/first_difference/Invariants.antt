use Rattle.std.proofs.Common.{◌≡◌, take}
use Rattle.colour_list.specs.Listing.{lists_of}
use Rattle.cert_check.proofs.lists.first_difference.Given as goal

-- before this place the lists are the same
abbrev pub invariant-loop-place : goal.invariant-loop-place
invariant-loop-place l = take l.place (lists_of l.given) ≡ take l.place (lists_of l.complete)

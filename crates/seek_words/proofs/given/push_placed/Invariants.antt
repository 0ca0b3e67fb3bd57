use Rattle.std.proofs.Common.{◌≡◌, ◌++◌, ℕ, List, map, take}
use Rattle.seek_words.specs.Matched.{way_name}
use Rattle.seek_words.specs.Words.{named}
use Rattle.seek_words.specs.declared.given.Placed.{Placed}
use Rattle.std.specs.Borrow.{Bor}
use Rattle.seek_words.proofs.given.push_placed.Given as goal

abbrev pub invariant-loop-at : goal.invariant-loop-at
invariant-loop-at l =
    map (λ (p : Placed). named p.given) l.placed.items
    ≡ map (λ (p : Placed). named p.given) l.fn.placed.items
    ++ map (λ (s : Bor (List ℕ)). record { way = way_name l.way; text = s.now }) (take l.at l.values.items)

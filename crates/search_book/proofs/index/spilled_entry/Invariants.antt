use Rattle.std.proofs.Common.{◌≢◌, Some, slice_get, take}
use Rattle.std.specs.List.{All}
use Rattle.search_book.specs.Entries.{keys}
use Rattle.search_book.proofs.index.spilled_entry.Given as goal

-- none of the ids so far is the place of the key
abbrev pub invariant-loop-id : goal.invariant-loop-id
invariant-loop-id l = All (λ id. slice_get (keys l.entries.entries) id ≢ Some l.key) (take l.id-index l.ids)

-- Rolls of which nothing changes but the entries.
use Rattle.std.proofs.Common.{◌≡◌, ◌∙◌, ◌<◌, ap, refl, sym, true, ℕ, List, length}
use Rattle.search_book.specs.declared.entry.Entry.{Entry}
use Rattle.search_book.specs.declared.entry.Stage.TheVariants.{Settled}
use Rattle.search_book.specs.Entries.{StandsAt, at_stage}
use Rattle.search_book.specs.EntryList.{EntriesIn}
use Rattle.search_book.specs.Roll.{is_in_flight}
use Rattle.search_book.proofs.LeftOver.{IsFlying, flying_at}

pub rest_of : (old new : EntriesIn) (es : List Entry) → new ≡ record old { entries = es } → new ≡ record old { entries = new.entries }
rest_of old new es is = is ∙ ap (λ (fs : List Entry). record old { entries = fs }) (sym (ap (λ (k : EntriesIn). k.entries) is))

-- one change after another
pub rest_after : (first second third : EntriesIn)
    → second ≡ record first { entries = second.entries } → third ≡ record second { entries = third.entries }
    → third ≡ record first { entries = third.entries }
rest_after first second third one other = other ∙ ap (λ (k : EntriesIn). record k { entries = third.entries }) one

-- an entry in flight was settled
pub rest_settled : (old new : EntriesIn) (id : ℕ)
    → id < length old.entries → ((e : Entry) → StandsAt old.entries id e → is_in_flight e ≡ true)
    → ((e : Entry) → StandsAt old.entries id e → new ≡ record old { entries = at_stage old.entries id e Settled })
    → new ≡ record old { entries = new.entries }
rest_settled old new id inside in_flight settles =
    let f : IsFlying old.entries id = flying_at old.entries id old refl inside in_flight in
    rest_of old new (at_stage old.entries id f.entry Settled) (settles f.entry f.stands)

-- Entries in little memory, of which one gets another stage.
use Rattle.std.proofs.Common.{◌≡◌, ◌∙◌, ap, sym, ℕ, List, map, get_or, length, ◌<◌, arith, Some, slice_set}
use Rattle.std.specs.Option.{option_map}
use Rattle.std.proofs.lemmas.List.{map-set, length-map}
use Rattle.std.proofs.lemmas.Option.{get_or_from_slice_get, slice_get-get_or, slice_get-map, slice_get_within}
use Rattle.search_book.specs.declared.entry.Entry.{Entry}
use Rattle.search_book.specs.declared.entry.Stage.{Stage}
use Rattle.search_book.specs.declared.entry_list.BriefEntry.{BriefEntry}
use Rattle.search_book.specs.Entries.{StandsAt, at_stage}
use Rattle.search_book.specs.EntryList.{whole_entry}

-- the entry that stands for one that is read from the list
stands_for : (brief : List BriefEntry) (id : ℕ) (b z : BriefEntry) (e : Entry)
    → StandsAt (map whole_entry brief) id e → b ≡ get_or brief id z → whole_entry b ≡ e
stands_for brief id b z e stands read =
    let within : id < length brief = omega (arith, slice_get_within (map whole_entry brief) id e stands, length-map brief whole_entry) in
    let there : Some (whole_entry (get_or brief id z)) ≡ Some e =
    sym (slice_get-map whole_entry brief id ∙ ap (option_map whole_entry) (slice_get-get_or brief id z within)) ∙ stands in
    let same : whole_entry (get_or brief id z) ≡ e = cc in
    ap whole_entry read ∙ same

-- in brief
pub brief_restaged : (brief : List BriefEntry) (id : ℕ) (b z : BriefEntry) (e : Entry) (stage : Stage)
    → StandsAt (map whole_entry brief) id e → b ≡ get_or brief id z
    → map whole_entry (slice_set brief id (record b { stage = stage })) ≡ at_stage (map whole_entry brief) id e stage
brief_restaged brief id b z e stage stands read =
    map-set whole_entry brief id (record b { stage = stage })
    ∙ ap (λ (f : Entry). slice_set (map whole_entry brief) id (record f { stage = stage })) (stands_for brief id b z e stands read)

-- whole
pub whole_restaged : (whole : List Entry) (id : ℕ) (f z e : Entry) (stage : Stage) → StandsAt whole id e → f ≡ get_or whole id z
    → slice_set whole id (record f { stage = stage }) ≡ at_stage whole id e stage
whole_restaged whole id f z e stage stands read =
    ap (λ (g : Entry). slice_set whole id (record g { stage = stage })) (read ∙ get_or_from_slice_get whole id e z stands)

-- The entries in little memory; only private clauses and proofs cite this file.
use Rattle.std.specs.Prelude.{◌≡◌, ◌<◌, ◌≤◌, ◌^◌, ℕ, List, Bool, nat_le}
use Rattle.grid_core.specs.Diagram.{Diagram, IsGrid, size}
use Rattle.grid_keys.specs.declared.key.Packed.{Packed}
use Rattle.grid_keys.specs.declared.key.TheConstants.{WORD_COLUMNS}
use Rattle.grid_keys.specs.Brief.{whole_key}
use Rattle.grid_keys.specs.Key.{key_of, size_of}
use Rattle.search_book.specs.declared.entry.Entry.{Entry}
use Rattle.search_book.specs.declared.entry_list.BriefEntry.{BriefEntry}

-- what contracts see of a list of entries: for how many there is room, how many columns their diagrams have at most, and the entries
pub record EntriesIn : Type 0 where
  pub room : ℕ
  pub columns : ℕ
  pub entries : List Entry

-- the entry with the key that its brief key stands for
abbrev pub whole_entry : BriefEntry → Entry
whole_entry e = record { key = whole_key e.key; side = e.side; origin = e.origin; stage = e.stage }

-- the size that is read from its key is a number of 8 bits
abbrev pub IsSmall : BriefEntry → Type 0
IsSmall e = size_of (whole_key e.key) < 2 ^ 8

-- diagrams of at most so many columns all have brief keys
abbrev pub are_brief : ℕ → Bool
are_brief columns = nat_le columns WORD_COLUMNS

-- a diagram of at most so many columns
pub record IsWithin (columns : ℕ) (d : Diagram) : Type 0 where
  pub grid : IsGrid d
  pub small : size d ≤ columns

-- the key of a diagram of at most so many columns
pub record Fits (columns : ℕ) (key : Packed) : Type 0 where
  pub diagram : Diagram
  pub within : IsWithin columns diagram
  pub named : key_of diagram ≡ key

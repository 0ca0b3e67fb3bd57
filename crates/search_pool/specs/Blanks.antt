-- The blanks of the ledgers of a shared book.
use Rattle.std.specs.Prelude.{◌≡◌, ℕ}
use Rattle.std.specs.declared.sync.ledger.Blank.{Blank}
use Rattle.std.specs.declared.sync.ledger.Ledger.{Ghosts as LedgerOf}

-- the blank is that of a ledger that has a part for each of so many workers
abbrev pub IsBlankFor : {L : Type 0} → LedgerOf L → Blank → ℕ → Type 0
IsBlankFor ledger blank workers = (blank.name ≡ ledger.name) × (blank.parts ≡ ledger.parts) × (ledger.parts ≡ workers)

-- What a draft has: an X and an O in each column and a place for each crossing, or the number of columns alone.
use Rattle.std.specs.Prelude.{◌≡◌, ◌+◌, ℕ, [], length, vec_len}
use Rattle.crossing_codes.specs.declared.crossing.Code.{Code}
use Rattle.code_drafts.specs.declared.draft.Draft.{Draft}

-- each column has one X and one O, and each crossing of the code a place
pub record IsDrawn (code : Code) (draft : Draft) : Type 0 where
  pub crosses : vec_len draft.x ≡ draft.columns
  pub rings : vec_len draft.o ≡ draft.columns
  pub places : vec_len draft.crossings ≡ length code.crossings

-- no column has a mark, and no crossing a place
pub record IsBlank (draft : Draft) : Type 0 where
  pub crosses : draft.x.items ≡ []
  pub rings : draft.o.items ≡ []
  pub places : draft.crossings.items ≡ []

-- so many columns more have marks, and so many crossings places
pub record HasMore (columns crossings : ℕ) (old new : Draft) : Type 0 where
  pub crosses : vec_len new.x ≡ vec_len old.x + columns
  pub rings : vec_len new.o ≡ vec_len old.o + columns
  pub places : vec_len new.crossings ≡ vec_len old.crossings + crossings
  pub needed : new.columns ≡ old.columns

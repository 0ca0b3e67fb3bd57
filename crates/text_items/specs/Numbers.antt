-- A word and numbers behind it, and so many numbers below an order; and, for private clauses, what is kept of the numbers of a line.
use Rattle.std.specs.Prelude.{◌≡◌, ℕ, ◌==◌, ◌&&◌, ◌||◌, Bool, not, List, length, take, map, Result, Ok, Err, nat_lt, if◌then◌else◌}
use Rattle.std.specs.List.{list_all, list_any}
use Rattle.arrayvec.specs.ArrayVec.{ArrayVec}
use Rattle.grid_core.specs.declared.grid.TheConstants.{MAX_SIZE}
use Rattle.text_lines.specs.Lines.{NumberedLine}
use Rattle.text_items.specs.declared.fault.TextFault.{TextFault}
use Rattle.text_items.specs.declared.fault.TextFault.TheVariants.{Malformed, Limit}
use Rattle.text_items.specs.declared.numbers.Kept.{Kept}
use Rattle.text_items.specs.Reading.{◌>>=◌, Fails, word}
use Rattle.text_items.specs.NumberLists.{line_numbers, is_long}

-- a word, and at most MAX_SIZE numbers
unfoldable pub numbers_behind : List ℕ → NumberedLine → Result (List ℕ) TextFault
numbers_behind expected line = do
  rest ← word expected line
  values ← line_numbers rest
  if nat_lt MAX_SIZE (length values) || list_any is_long values then Err (Limit rest.number) else Ok values

-- so many numbers below the order: first their form, then their digits, then how many and how large they are
unfoldable pub numbers_below : ℕ → ℕ → NumberedLine → Result (List ℕ) TextFault
numbers_below width order line = do
  values ← line_numbers line
  if list_any is_long values then Err (Limit line.number)
      else if (length values == width) && list_all (λ v. nat_lt v order) values then Ok values
      else Err (Malformed line.number)

-- ---- what is kept of the numbers of a line

-- the first MAX_SIZE of these values, cut down; whether there are more; and whether one has too many digits
pub record TellsOf {A B : Type 0} (cut : A → B) (has_many_digits : A → Bool) (kept : List B) (has_more has_long : Bool) (values : List A) : Type 0 where
  pub first : kept ≡ take MAX_SIZE (map cut values)
  pub more : has_more ≡ nat_lt MAX_SIZE (length values)
  pub long : has_long ≡ list_any has_many_digits values

-- what was kept tells of the values that were read
pub record KeepsRead {A : Type 0} (Told : List A → Type 0) (read : Result (List A) TextFault) : Type 0 where
  pub values : List A
  pub is : read ≡ Ok values
  pub tells : Told values

-- a call that may have failed: what it kept tells of the values that were read, or the fault is that of the definition
abbrev pub KeepsOrFails : {K A : Type 0} → (K → List A → Type 0) → Result K TextFault → Result (List A) TextFault → Type 0
KeepsOrFails Told (Ok kept) read = KeepsRead (Told kept) read
KeepsOrFails Told (Err e) read = Fails e read

-- the number, or 255 where it is larger
abbrev pub low : ℕ → ℕ
low value = if nat_lt value 255 then value else 255

-- what is kept of numbers
abbrev pub Tells : Kept → List ℕ → Type 0
Tells kept values = TellsOf low is_long kept.first.items kept.more kept.long values

-- what was kept is the numbers that were read, cut down
pub record CutsRead (rows : ArrayVec ℕ) (read : Result (List ℕ) TextFault) : Type 0 where
  pub values : List ℕ
  pub is : read ≡ Ok values
  pub cut : rows.items ≡ map low values

-- a call that may have failed: the rows are the numbers that were read, cut down, or the fault is that of the definition
abbrev pub CutsOrFails : Result (ArrayVec ℕ) TextFault → Result (List ℕ) TextFault → Type 0
CutsOrFails (Ok rows) read = CutsRead rows read
CutsOrFails (Err e) read = Fails e read

-- so many numbers were kept and no more, all of them below the order
abbrev pub are_kept_below : Kept → ℕ → ℕ → Bool
are_kept_below kept width order = not kept.more && ((length kept.first.items == width) && list_all (λ v. nat_lt v order) kept.first.items)

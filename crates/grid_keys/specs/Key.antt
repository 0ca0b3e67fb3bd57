-- Keys: a grid as its size and the words of its rows.
use Rattle.std.specs.Prelude.{◌≡◌, ℕ, zero, suc, ◌+◌, ◌-◌, ◌*◌, ◌/◌, ◌%◌, ◌^◌, List, [], ◌∷◌, ◌++◌, Bool, ◌==◌, ◌&&◌, if◌then◌else◌, nat_lt, fold, length}
use Rattle.std.specs.Prelude.{replicate, take, drop, slice_index}
use Rattle.std.specs.Hash as fed
use Rattle.std.specs.Hash.{HashWrites}
use Rattle.std.specs.Str.{bytes_eq}
use Rattle.std.specs.Ordering.{nat_cmp, ordering_then}
use Rattle.std.specs.Cmp.Lexicographic.{slice_cmp}
use Rattle.std.specs.declared.cmp.Ordering.{Ordering}
use Rattle.grid_core.specs.Diagram.{Diagram, IsGrid, size}
use Rattle.grid_keys.specs.declared.key.Packed.{Packed}
use Rattle.grid_keys.specs.declared.key.TheConstants.{BASE, WORD_COLUMNS, WORDS}
use Rattle.grid_keys.specs.KeyNumbers.{number_to}

-- the number with these digits to the base of keys, the highest first
abbrev pub key_number : List ℕ → ℕ
key_number digits = number_to BASE digits

-- the rows by column, with 0 for each further column that the words of a key have
abbrev pub filled : List ℕ → List ℕ
filled rows = rows ++ replicate (WORDS * WORD_COLUMNS - length rows) 0

-- the first words of some digits: each is the number of as many digits as a word has columns
abbrev pub words : ℕ → List ℕ → List ℕ
words zero digits = []
words (suc n) digits = key_number (take WORD_COLUMNS digits) ∷ words n (drop WORD_COLUMNS digits)

-- the words of the rows of a kind
abbrev pub words_of : List ℕ → List ℕ
words_of rows = words WORDS (filled rows)

-- the key of a diagram: its size, the words of the rows of its Xs, and those of its Os
abbrev pub key_of : Diagram → Packed
key_of d = record { size = size d; x = words_of d.x; o = words_of d.o }

-- the key is that of the grid d
pub record IsKeyOf (name : Packed) (d : Diagram) : Type 0 where
  pub grid : IsGrid d
  pub key : key_of d ≡ name

-- the size of the diagram with this key
abbrev pub size_of : Packed → ℕ
size_of key = key.size

-- whether two keys are one
abbrev pub same_key : Packed → Packed → Bool
same_key p q = (p.size == q.size) && (bytes_eq p.x q.x && bytes_eq p.o q.o)

-- the order of keys: by size, then by the words of the Xs, then by those of the Os
abbrev pub compare_keys : Packed → Packed → Ordering
compare_keys p q = ordering_then (nat_cmp p.size q.size) (ordering_then (slice_cmp nat_cmp p.x q.x) (slice_cmp nat_cmp p.o q.o))

-- a checksum of 128 bits with one more number counted in
abbrev pub mixed : ℕ → ℕ → ℕ
mixed sum number = (sum * 31 % 2 ^ 128 + number) % 2 ^ 128

-- the digit of column c in the words of a kind; only private clauses and proofs cite it
abbrev pub digit_at : List ℕ → ℕ → ℕ
digit_at ws c = slice_index ws (c / WORD_COLUMNS) / BASE ^ (WORD_COLUMNS - 1 - c % WORD_COLUMNS) % BASE

-- what is hashed of a key behind its size and the first words: of more columns than a word has, one number of all words of each kind
abbrev pub more_hashed : Packed → HashWrites
more_hashed key = if nat_lt WORD_COLUMNS key.size then fed.u128 (fold mixed 0 key.x) ++ fed.u128 (fold mixed 0 key.o) else []

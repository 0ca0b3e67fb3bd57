-- Which neighbours of a short grid may trade places: of its columns, or of its rows, each with the next one, round the circle.
use Rattle.std.specs.Prelude.{◌≢◌, ◌<◌, ◌≤◌, ◌+◌, ◌^◌, ◌==◌, ◌||◌, ℕ, List, Bool, not, map, nat_lt, slice_index, if◌then◌else◌}
use Rattle.std.specs.List.{All, range_with_len}
use Rattle.std.specs.Option.{is_none}
use Rattle.grid_core.specs.declared.span.Span.{Span}
use Rattle.grid_core.specs.Span.{span, share_one_end}
use Rattle.grid_moves.specs.MoveFault.{exchange_fault}
use Rattle.grid_canon.specs.declared.digits.TheConstants.{MAX_SHORT_SIZE, SHORT_BASE}
use Rattle.grid_canon.specs.Digits.{digits}

-- the next number, round the circle of n
abbrev pub next : ℕ → ℕ → ℕ
next n c = if c + 1 == n then 0 else c + 1

-- what contracts see of these trades: which neighbours may be exchanged with the next one, and which may slide past it
pub record Trades : Type 0 where
  pub exchange : List Bool
  pub slide : List Bool

-- of n neighbours
abbrev pub trades_where : ℕ → (ℕ → Bool) → (ℕ → Bool) → Trades
trades_where n exchange slide = record { exchange = map exchange (range_with_len 0 n); slide = map slide (range_with_len 0 n) }

-- by their spans: an exchange is legal, or the two have exactly one end in common
abbrev pub trades_of : ℕ → (ℕ → Span) → Trades
trades_of n spans =
    trades_where n (λ c. is_none (exchange_fault (spans c) (spans (next n c)))) (λ c. share_one_end (spans c) (spans (next n c)))

-- the digits of a number, as marks; only the model of `ShortTrades`, private clauses and proofs cite what follows
abbrev pub is_marked : ℕ → ℕ → ℕ → Bool
is_marked n marks c = not (slice_index (digits n marks) c == 0)

-- the numbers have no more digits
pub record AreMasks (n exchanges slides : ℕ) : Type 0 where
  pub most : n ≤ MAX_SHORT_SIZE
  pub exchanges_fit : exchanges < SHORT_BASE ^ n
  pub slides_fit : slides < SHORT_BASE ^ n

-- the digits of two numbers, as the ends of n spans
abbrev pub digit_span : ℕ → ℕ → ℕ → ℕ → Span
digit_span n crosses rings c = span (slice_index (digits n crosses) c) (slice_index (digits n rings) c)

-- each span has two ends, and two neighbours share no end of one kind
pub record ArePairs (n crosses rings : ℕ) : Type 0 where
  pub least : 2 ≤ n
  pub most : n ≤ MAX_SHORT_SIZE
  pub crosses_fit : crosses < SHORT_BASE ^ n
  pub rings_fit : rings < SHORT_BASE ^ n
  pub crosses_inside : All (λ r. r < n) (digits n crosses)
  pub rings_inside : All (λ r. r < n) (digits n rings)
  pub two_ends : (c : ℕ) → c < n → slice_index (digits n crosses) c ≢ slice_index (digits n rings) c
  pub crosses_apart : (c : ℕ) → c < n → slice_index (digits n crosses) c ≢ slice_index (digits n crosses) (next n c)
  pub rings_apart : (c : ℕ) → c < n → slice_index (digits n rings) c ≢ slice_index (digits n rings) (next n c)

-- exactly one of the two
abbrev pub one_alone : Bool → Bool → Bool
one_alone a b = if a then not b else b

-- the other end of a span, and the two ends of the next one, all counted from the first end, round the circle:
-- four different ends of which the next one's two lie on one side, or exactly one end in common
abbrev pub apart_from : ℕ → ℕ → ℕ → Bool
apart_from end cross ring = not (((cross == end) || (ring == 0)) || one_alone (nat_lt cross end) (nat_lt ring end))

abbrev pub touch_once_from : ℕ → ℕ → ℕ → Bool
touch_once_from end cross ring = one_alone (cross == end) (ring == 0)

-- the trades by the digits of three numbers, as these ends
abbrev pub counted_trades : ℕ → ℕ → ℕ → ℕ → Trades
counted_trades n end cross ring =
    trades_where n (λ c. apart_from (slice_index (digits n end) c) (slice_index (digits n cross) c) (slice_index (digits n ring) c))
    (λ c. touch_once_from (slice_index (digits n end) c) (slice_index (digits n cross) c) (slice_index (digits n ring) c))

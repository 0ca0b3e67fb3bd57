-- Sources and sinks in memory, as contracts see them.
use Rattle.std.specs.Prelude.{◌≡◌, ◌⊎◌, ◌<◌, ◌-◌, ℕ, List, Contains, length, min}
use Rattle.knot_ports.specs.Faults.{greatest_count, one_more}

-- calls, numbered from 0: the numbers of those that fail, how many calls have a number, and how many failed
pub record CallRecord : Type 0 where
  pub failing : List ℕ
  pub made : ℕ
  pub failed : ℕ

-- no call was made yet
abbrev pub no_calls : List ℕ → CallRecord
no_calls failing = record { failing = failing; made = 0; failed = 0 }

-- the next call is one that fails: it has a number, of at most 2^64 - 2, and that number is listed
abbrev pub FailsNext : CallRecord → Type 0
FailsNext calls = (calls.made < greatest_count) × Contains calls.failing calls.made

-- the calls after one more that passed
abbrev pub after_pass : CallRecord → CallRecord
after_pass calls = record calls { made = one_more calls.made }

-- the calls after one more that failed
abbrev pub after_failure : CallRecord → CallRecord
after_failure calls = record calls { made = one_more calls.made; failed = one_more calls.failed }

-- a source: the bytes that are left, and the most that one call gives
pub record MemorySource : Type 0 where
  pub bytes : List ℕ
  pub piece : ℕ
  pub calls : CallRecord

-- how many bytes a call gives into a room of this size: the least of piece, room and bytes left
abbrev pub amount_given : MemorySource → ℕ → ℕ
amount_given source room = min (min source.piece room) (length source.bytes)

-- a sink: the bytes that are held, the most that one call takes, and how many bytes can be held
pub record MemorySink : Type 0 where
  pub bytes : List ℕ
  pub piece : ℕ
  pub room : ℕ
  pub calls : CallRecord

-- how many of the bytes offered a call takes: the least of piece, bytes offered and room left
abbrev pub amount_taken : MemorySink → ℕ → ℕ
amount_taken sink offered = min (min sink.piece offered) (sink.room - length sink.bytes)

-- the next call fails at so many bytes: it is listed, or there are bytes and no room is left
abbrev pub FailsAt : MemorySink → ℕ → Type 0
FailsAt sink offered = FailsNext sink.calls ⊎ ((0 < offered) × (length sink.bytes ≡ sink.room))

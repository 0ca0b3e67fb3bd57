-- How the fields of a frontier keep the lists. No public clause cites this.
use Rattle.std.specs.Prelude.{◌≡◌, ℕ, zero, suc, ◌+◌, ◌-◌, ◌<◌, ◌^◌, ◌==◌, nat_lt, List, [], ◌∷◌, length, map, slice_index, slice_index_or, if◌then◌else◌}
use Rattle.std.specs.Int.{bit_at}
use Rattle.frontier_core.specs.declared.queue.Queue.{Queue}
use Rattle.frontier_core.specs.declared.sizes.TheConstants.{SIZES}
use Rattle.frontier_core.specs.Held.{HeldIds}

-- so many ids from one on, each the next of the one before
abbrev pub chain : List ℕ → ℕ → ℕ → List ℕ
chain next first zero = []
chain next first (suc more) = first ∷ chain next (slice_index next first) more

-- the ids of a queue
abbrev pub ids_in : List ℕ → Queue → List ℕ
ids_in next queue = chain next queue.first queue.count

abbrev pub held_by : List ℕ → List Queue → HeldIds
held_by next queues = record { capacity = length next; by_size = map (ids_in next) queues }

-- the queue of a size; behind the last size an empty one
abbrev pub queue_at : List Queue → ℕ → Queue
queue_at queues size = slice_index_or queues size (record { first = 0; last = 0; count = 0 })

-- the queue with an id behind its last one
abbrev pub longer : Queue → ℕ → Queue
longer q id = record { first = if q.count == 0 then id else q.first; last = id; count = q.count + 1 }

-- the queue without its first id
abbrev pub shorter : Queue → ℕ → Queue
shorter q second = record { first = second; last = q.last; count = q.count - 1 }

-- the id behind which the new one is put
abbrev pub end_before : Queue → ℕ → ℕ
end_before q id = if q.count == 0 then id else q.last

-- the bit of a queue in the mask
abbrev pub bit_of : Queue → ℕ
bit_of q = if nat_lt 0 q.count then 1 else 0

-- at place i of the ids of size s stands this id
pub record IdStandsAt (next : List ℕ) (queues : List Queue) (s i id : ℕ) : Type 0 where
  pub within : i < (queue_at queues s).count
  pub is : slice_index (ids_in next (queue_at queues s)) i ≡ id

-- The queues of all sizes are linked in the table, end at their last ids and have no id twice, and the mask has the sizes held.
pub record IsLinked (next : List ℕ) (queues : List Queue) (mask : ℕ) : Type 0 where
  pub room : length next < 2 ^ 32
  pub sizes : length queues ≡ SIZES
  pub below : (s i id : ℕ) → IdStandsAt next queues s i id → id < length next
  pub once : (s t i j id : ℕ) → IdStandsAt next queues s i id → IdStandsAt next queues t j id → (s ≡ t) × (i ≡ j)
  pub ends : (s i : ℕ) → i + 1 ≡ (queue_at queues s).count → IdStandsAt next queues s i (queue_at queues s).last
  pub bits : (s : ℕ) → s < 128 → bit_at mask s ≡ bit_of (queue_at queues s)

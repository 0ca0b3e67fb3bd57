-- The queues of a frontier that holds nothing.
use Rattle.std.proofs.Common.{◌≡◌, ◌∙◌, ap, sym, ℕ, ◌<◌, ◌^◌, inl, inr, List, [], length, replicate, arith}
use Rattle.std.proofs.lemmas.Nat.Bits.{bit_at-zero}
use Rattle.std.proofs.lemmas.List.{get_or-replicate, get_or_past}
use Rattle.std.proofs.lemmas.Simd.{length-replicate}
use Rattle.std.proofs.lemmas.Bool.{cases_lt}
use Rattle.frontier_core.specs.declared.queue.Queue.{Queue}
use Rattle.frontier_core.specs.declared.sizes.TheConstants.{SIZES}
use Rattle.frontier_core.specs.Held.{ids_of}
use Rattle.frontier_core.specs.Chain.{held_by, ids_in, queue_at, bit_of, IdStandsAt, IsLinked}
use Rattle.frontier_core.proofs.Chains.{ids_of_queue}

abbrev pub nothing : Queue
nothing = record { first = 0; last = 0; count = 0 }

abbrev all_empty : List Queue
all_empty = replicate SIZES nothing

each_empty : (n s : ℕ) → queue_at (replicate n nothing) s ≡ nothing
each_empty n s = elim (cases_lt s n) [
  | inl lt ↦ get_or-replicate n s nothing nothing lt
  | inr ge ↦ get_or_past (replicate n nothing) s nothing (omega (arith, length-replicate n nothing))
]

none_stands : (next : List ℕ) (n s i id : ℕ) → IdStandsAt next (replicate n nothing) s i id → ⊥
none_stands next n s i id stands = omega (arith, stands.within, ap (λ (q : Queue). q.count) (each_empty n s))

pub linked : (next : List ℕ) → length next < 2 ^ 32 → IsLinked next all_empty 0
linked next room = record {
  room = room;
  sizes = length-replicate SIZES nothing;
  below = λ s i id stands. absurd (none_stands next SIZES s i id stands);
  once = λ s t i j id one other. absurd (none_stands next SIZES s i id one);
  ends = λ s i last. absurd (omega (arith, last, ap (λ (q : Queue). q.count) (each_empty SIZES s)));
  bits = λ s lt. bit_at-zero s ∙ ap bit_of (sym (each_empty SIZES s));
}

-- no id of any size
pub ids : (next : List ℕ) (s : ℕ) → ids_of (held_by next all_empty) s ≡ []
ids next s = ids_of_queue next all_empty s ∙ ap (ids_in next) (each_empty SIZES s)

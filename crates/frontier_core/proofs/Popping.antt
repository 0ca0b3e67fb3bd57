-- A pop, on the table and the queues.
use Rattle.std.proofs.Common.{◌≡◌, ◌≢◌, ◌∙◌, ap, refl, sym, subst, ℕ, zero, suc, ◌+◌, ◌-◌, ◌<◌, ◌⊎◌, inl, inr, List, [], ◌∷◌, length, get_or, set, nat_lt, cond}
use Rattle.std.proofs.Common.{Some, None, Bool, arith}
use Rattle.std.specs.Int.{bit_at}
use Rattle.std.proofs.lemmas.Nat.Bits.{bit_at-zero}
use Rattle.std.proofs.lemmas.List.{get_or-set_same, get_or-set_other, length-set, get_or_past}
use Rattle.std.proofs.lemmas.List.{length-map}
use Rattle.std.proofs.lemmas.Bool.{cases_lt, lt-ltb}
use Rattle.std.proofs.lemmas.Bool.Decides.{eqb_tells, nat_tests}
use Rattle.frontier_core.specs.declared.queue.Queue.{Queue}
use Rattle.frontier_core.specs.declared.sizes.TheConstants.{SIZES}
use Rattle.frontier_core.specs.Held.{HeldIds, ids_of, first_of_least, without_first_of_least, first_id, without_first_id}
use Rattle.frontier_core.specs.Chain.{chain, ids_in, held_by, queue_at, shorter, bit_of, IdStandsAt, IsLinked}
use Rattle.frontier_core.proofs.Chains.{ids_of_queue, stands_as, stands_from}
use Rattle.frontier_core.proofs.Lists.{map-set, first_found, none_found}
use Rattle.frontier_core.proofs.Empty.{nothing}

-- a queue whose bit is not set has no id
no_ids : (next : List ℕ) (q : Queue) → bit_of q ≡ 0 → ids_in next q ≡ []
no_ids next q bit = by q.count refl
  where
    by : (n : ℕ) → q.count ≡ n → ids_in next q ≡ []
    by zero is = rw is refl
    by (suc n) is =
        let some : bit_of q ≡ 1 = ap (λ b. cond b 1 0) (lt-ltb 0 q.count (omega arith)) in
        absurd (omega (arith, some, bit))

-- a queue whose bit is set has one
some_ids : (q : Queue) → bit_of q ≡ 1 → 0 < q.count
some_ids q bit = by q.count refl
  where
    by : (n : ℕ) → q.count ≡ n → 0 < q.count
    by zero is =
        let none : bit_of q ≡ 0 = rw is refl in
        absurd (omega (arith, none, bit))
    by (suc n) is = omega arith

module _ (next : List ℕ) (queues : List Queue) (mask : ℕ) (linked : IsLinked next queues mask) (held : HeldIds) (view : held_by next queues ≡ held) where
  empty_at : (t : ℕ) → t < 128 → bit_at mask t ≡ 0 → ids_of (held_by next queues) t ≡ []
  empty_at t lt bit = ids_of_queue next queues t ∙ no_ids next (queue_at queues t) (sym (linked.bits t lt) ∙ bit)

  -- with no bit set nothing is held
  pub none_held : mask ≡ 0 → (first_of_least held ≡ None) × (without_first_of_least held ≡ held)
  none_held is =
      let empty : ((t : ℕ) → t < length (held_by next queues).by_size → ids_of (held_by next queues) t ≡ []) =
      λ t lt. empty_at t (omega (arith, lt, length-map queues (ids_in next), linked.sizes)) (ap (λ m. bit_at m t) is ∙ bit_at-zero t) in
      let found = none_found (held_by next queues).by_size empty in (
        ap first_of_least (sym view) ∙ found.0,
        ap without_first_of_least (sym view)
            ∙ ap (λ (b : List (List ℕ)). record { capacity = length next; by_size = b }) found.1 ∙ view,
      )

  module _ (size : ℕ) (within : size < 128) (set_bit : bit_at mask size ≡ 1) (least : (s : ℕ) → s < size → bit_at mask s ≡ 0) where
    abbrev q : Queue
    q = queue_at queues size

    pub some_here : 0 < q.count
    some_here = some_ids q (sym (linked.bits size within) ∙ set_bit)

    pub is_size : size < SIZES
    is_size = elim (cases_lt size (length queues)) [
      | inl lt ↦ omega (arith, lt, linked.sizes)
      | inr ge ↦ absurd (omega (arith, some_here, ap (λ (r : Queue). r.count) (get_or_past queues size nothing ge)))
    ]

    abbrev rest : Queue
    rest = shorter q (get_or next q.first 0)

    abbrev queues' : List Queue
    queues' = set queues size rest

    -- the ids, the first one and the others
    uncons : ids_in next q ≡ q.first ∷ ids_in next (rest)
    uncons = by q.count refl
      where
        by : (n : ℕ) → q.count ≡ n → ids_in next q ≡ q.first ∷ ids_in next (rest)
        by zero is = absurd (omega (arith, some_here))
        by (suc n) is =
            let rest : q.count - 1 ≡ n = omega (arith, is) in
            ap (chain next q.first) is ∙ ap (λ m. q.first ∷ chain next (get_or next q.first 0) m) (sym rest)

    this_queue : queue_at queues' size ≡ rest
    this_queue = get_or-set_same queues size (rest) nothing (omega (arith, linked.sizes, is_size))

    other_queue : (t : ℕ) → t ≢ size → queue_at queues' t ≡ queue_at queues t
    other_queue t other = get_or-set_other queues size t (rest) nothing other

    -- what stands in the queues behind the pop
    popped_at : (t i x : ℕ) → IdStandsAt next queues' t i x → ((t ≡ size) × IdStandsAt next queues t (suc i) x) ⊎ ((t ≢ size) × IdStandsAt next queues t i x)
    popped_at t i x stands = elim (eqb_tells t size) [
      | inl same ↦ let now = stands_as t i x rest (ids_in next rest) stands (ap (queue_at queues') same.1 ∙ this_queue) refl in
          inl (same.1, stands_from t (suc i) x q (q.first ∷ ids_in next rest) (omega (arith, now.0)) now.1 (ap (queue_at queues) same.1) uncons)
      | inr other ↦ let old = stands_as t i x (queue_at queues t) (ids_in next (queue_at queues t)) stands (other_queue t other.1) refl in
          inr (other.1, record { within = old.0; is = old.1 })
    ]

    stays_at : (t i x : ℕ) → t ≢ size → IdStandsAt next queues t i x → IdStandsAt next queues' t i x
    stays_at t i x other stands = stands_from t i x (queue_at queues t) (ids_in next (queue_at queues t)) stands.within stands.is (other_queue t other) refl

    moves_up : (i x : ℕ) → IdStandsAt next queues size (suc i) x → IdStandsAt next queues' size i x
    moves_up i x stands =
        let old = stands_as size (suc i) x q (q.first ∷ ids_in next rest) stands refl uncons in
        stands_from size i x rest (ids_in next rest) (omega (arith, old.0)) old.1 this_queue refl

    first_stands : IdStandsAt next queues size 0 q.first
    first_stands = record { within = some_here; is = ap (λ ids. get_or ids 0 0) uncons }

    -- the first id is one of the table
    pub first_below : q.first < length next
    first_below = linked.below size 0 q.first first_stands

    pub still_linked : (mask' : ℕ) (stays : Bool) → stays ≡ nat_lt 1 q.count → bit_at mask' size ≡ cond stays 1 0
        → ((s : ℕ) → s < 128 → s ≢ size → bit_at mask' s ≡ bit_at mask s) → IsLinked next queues' mask'
    still_linked mask' stays is this_bit other_bits = record {
      room = linked.room;
      sizes = length-set queues size rest ∙ linked.sizes;
      below = λ s i x stands. elim (popped_at s i x stands) [ inl same ↦ linked.below s (suc i) x same.1 | inr other ↦ linked.below s i x other.1 ];
      once = λ s t i j x one other. both s t i j x (popped_at s i x one) (popped_at t j x other);
      ends = λ s i last. elim (eqb_tells s size) [
        | inl same ↦ end_here s i same.1 last
        | inr other ↦ subst (λ (r : Queue). IdStandsAt next queues' s i r.last) (sym (other_queue s other.1))
            (stays_at s i (queue_at queues s).last other.1 (linked.ends s i (last ∙ ap (λ (r : Queue). r.count) (other_queue s other.1))))
      ];
      bits = λ s lt. elim (eqb_tells s size) [
        | inl same ↦ ap (bit_at mask') same.1 ∙ this_bit ∙ ap (λ b. cond b 1 0) (is ∙ one_less q.count)
            ∙ ap bit_of (sym (ap (queue_at queues') same.1 ∙ this_queue))
        | inr other ↦ other_bits s lt other.1 ∙ linked.bits s lt ∙ ap bit_of (sym (other_queue s other.1))
      ];
    }
      where
        one_less : (n : ℕ) → nat_lt 1 n ≡ nat_lt 0 (n - 1)
        one_less n = grind (arith, nat_tests)

        both : (s t i j x : ℕ) → ((s ≡ size) × IdStandsAt next queues s (suc i) x) ⊎ ((s ≢ size) × IdStandsAt next queues s i x)
            → ((t ≡ size) × IdStandsAt next queues t (suc j) x) ⊎ ((t ≢ size) × IdStandsAt next queues t j x) → (s ≡ t) × (i ≡ j)
        both s t i j x (inl one) (inl other) = let same = linked.once s t (suc i) (suc j) x one.1 other.1 in (same.0, omega (arith, same.1))
        both s t i j x (inl one) (inr other) = absurd (other.0 (sym (linked.once s t (suc i) j x one.1 other.1).0 ∙ one.0))
        both s t i j x (inr one) (inl other) = absurd (one.0 ((linked.once s t i (suc j) x one.1 other.1).0 ∙ other.0))
        both s t i j x (inr one) (inr other) = linked.once s t i j x one.1 other.1

        end_here : (s i : ℕ) → s ≡ size → i + 1 ≡ (queue_at queues' s).count → IdStandsAt next queues' s i (queue_at queues' s).last
        end_here s i same last =
            let queue : queue_at queues' s ≡ rest = ap (queue_at queues') same ∙ this_queue in
            let count : i + 1 ≡ q.count - 1 = last ∙ ap (λ (r : Queue). r.count) queue in
            subst (λ (r : Queue). IdStandsAt next queues' s i r.last) (sym queue)
            (subst (λ k. IdStandsAt next queues' k i q.last) (sym same) (moves_up i q.last (linked.ends size (suc i) (omega (arith, count, some_here)))))

    popped : (first_id (held_by next queues).by_size ≡ Some q.first) × (without_first_id (held_by next queues).by_size
        ≡ set (held_by next queues).by_size size (ids_in next rest))
    popped = first_found (held_by next queues).by_size size q.first (ids_in next rest) (ids_of_queue next queues size ∙ uncons)
        (λ t lt. empty_at t (omega arith) (least t lt))

    -- the id that comes out, and the lists behind the pop
    pub first_out : Some q.first ≡ first_of_least held
    first_out = sym popped.0 ∙ ap first_of_least view

    pub held_after : held_by next queues' ≡ without_first_of_least held
    held_after =
        ap (λ (b : List (List ℕ)). record { capacity = length next; by_size = b })
        (map-set (ids_in next) (ids_in next) nothing queues size rest (ids_in next rest) refl (λ t lt other. refl) ∙ sym popped.1)
        ∙ ap without_first_of_least view

-- A push, on the table and the queues.
use Rattle.std.proofs.Common.{◌≡◌, ◌≢◌, ◌∙◌, ap, ap₂, refl, sym, subst, ℕ, zero, suc, ◌+◌, ◌<◌, ◌^◌, ◌⊎◌, inl, inr, List, [], ◌∷◌, ◌++◌, length, get_or, set}
use Rattle.std.proofs.Common.{cond, Contains, arith}
use Rattle.std.specs.Int.{bit_at}
use Rattle.std.proofs.lemmas.List.{get_or-set_same, get_or-set_other, length-set, length-map, get_or_append_left}
use Rattle.std.proofs.Math.Seq.{get_or-append_seam}
use Rattle.std.proofs.Math.Dec.{eqb-suc-zero}
use Rattle.std.proofs.lemmas.Bool.{cases_lt, lt-ltb}
use Rattle.std.proofs.lemmas.Bool.Decides.{eqb_tells}
use Rattle.std.proofs.lemmas.Grind.{get_or_default_zero}
use Rattle.frontier_core.specs.declared.queue.Queue.{Queue}
use Rattle.frontier_core.specs.declared.sizes.TheConstants.{SIZES}
use Rattle.frontier_core.specs.Held.{HeldIds, IsHeld, ids_of, pushed}
use Rattle.frontier_core.specs.Chain.{chain, ids_in, held_by, queue_at, longer, end_before, bit_of, IdStandsAt, IsLinked}
use Rattle.frontier_core.proofs.Chains.{length-chain, ids_of_queue, chain_untouched, chain_longer, stands_as, stands_from, end_cases}
use Rattle.frontier_core.proofs.Lists.{map-set}
use Rattle.frontier_core.proofs.Pigeonhole as pigeonhole
use Rattle.frontier_core.proofs.Empty.{nothing}

module _ (next : List ℕ) (queues : List Queue) (mask : ℕ) (linked : IsLinked next queues mask) (held : HeldIds) (view : held_by next queues ≡ held) (id size : ℕ) (in_range : id < held.capacity) (not_held : IsHeld held id → ⊥) (range : size < SIZES) where
  below : id < length next
  below = subst (λ (h : HeldIds). id < h.capacity) (sym view) in_range

  free : IsHeld (held_by next queues) id → ⊥
  free = subst (λ (h : HeldIds). IsHeld h id → ⊥) (sym view) not_held

  abbrev q : Queue
  q = queue_at queues size

  abbrev end : ℕ
  end = end_before q id

  abbrev next' : List ℕ
  next' = set next end id

  abbrev queues' : List Queue
  queues' = set queues size (longer q id)

  absent : (s i : ℕ) → IdStandsAt next queues s i id → ⊥
  absent s i stands =
      let read : get_or (ids_in next (queue_at queues s)) i id
      ≡ id = get_or_default_zero (ids_in next (queue_at queues s)) i id
      (omega (arith, length-chain next (queue_at queues s).first (queue_at queues s).count, stands.within)) ∙ stands.is in
      let here : Contains (ids_in next (queue_at queues s)) id =
      (i, omega (arith, length-chain next (queue_at queues s).first (queue_at queues s).count, stands.within), read) in
      free (s, subst (λ (ids : List ℕ). Contains ids id) (sym (ids_of_queue next queues s)) here)

  last_stands : (n : ℕ) → q.count ≡ suc n → IdStandsAt next queues size n q.last
  last_stands n is = linked.ends size n (omega arith)

  -- the end is an id of the table
  pub end_below : end < length next
  end_below = elim (end_cases q id) [
    | inl none ↦ omega (arith, none.1, below)
    | inr some ↦ omega (arith, some.2, linked.below size some.0 q.last (last_stands some.0 some.1))
  ]

  -- no queue but this one has the end
  elsewhere : (t k : ℕ) → t ≢ size → k < (queue_at queues t).count → get_or (ids_in next (queue_at queues t)) k 0 ≢ end
  elsewhere t k other lt same = elim (end_cases q id) [
    | inl none ↦ absent t k (record { within = lt; is = same ∙ none.1 })
    | inr some ↦ other (linked.once t size k some.0 q.last (record { within = lt; is = same ∙ some.2 }) (last_stands some.0 some.1)).0
  ]

  others_stay : (t : ℕ) → t ≢ size → ids_in next' (queue_at queues t) ≡ ids_in next (queue_at queues t)
  others_stay t other = chain_untouched next (queue_at queues t).first (queue_at queues t).count end id (λ k lt. elsewhere t k other lt)

  -- this queue has the id at its end
  grows : ids_in next' (longer q id) ≡ ids_in next q ++ id ∷ []
  grows = by q.count refl
    where
      by : (n : ℕ) → q.count ≡ n → ids_in next' (longer q id) ≡ ids_in next q ++ id ∷ []
      by zero is = rw is refl
      by (suc n) is =
          let more : suc n + 1 ≡ suc (suc n) = omega arith in
          let stands : IdStandsAt next queues size n q.last = last_stands n is in
          let ends : get_or (chain next q.first (suc n)) n 0 ≡ q.last = ap (λ m. get_or (chain next q.first m) n 0) (sym is) ∙ stands.is in
          let only : ((k : ℕ) → k < n → get_or (chain next q.first (suc n)) k 0 ≢ q.last) = λ k lt same. absurd
          (omega (
            arith,
            (linked.once size size k n q.last (record {
              within = omega arith;
              is = ap (λ m. get_or (chain next q.first m) k 0) is
                  ∙ same;
            }) stands).1,
          )) in
          rw (is, eqb-suc-zero n) (ap (chain (set next q.last id) q.first) more
          ∙ chain_longer next q.first n q.last id (linked.below size n q.last stands) ends only)

  this_queue : queue_at queues' size ≡ longer q id
  this_queue = get_or-set_same queues size (longer q id) nothing (omega (arith, linked.sizes))

  other_queue : (t : ℕ) → t ≢ size → queue_at queues' t ≡ queue_at queues t
  other_queue t other = get_or-set_other queues size t (longer q id) nothing other

  count_ids : length (ids_in next q) ≡ q.count
  count_ids = length-chain next q.first q.count

  -- what stands in the queues behind the push
  pushed_at : (t i x : ℕ) → IdStandsAt next' queues' t i x → IdStandsAt next queues t i x ⊎ ((t ≡ size) × (i ≡ q.count) × (x ≡ id))
  pushed_at t i x stands = elim (eqb_tells t size) [
    | inl same ↦ here (stands_as t i x (longer q id) (ids_in next q ++ id ∷ []) stands (ap (queue_at queues') same.1 ∙ this_queue) grows) same.1
    | inr other ↦ let old = stands_as t i x (queue_at queues t) (ids_in next (queue_at queues t)) stands (other_queue t other.1) (others_stay t other.1) in
        inl (record { within = old.0; is = old.1 })
  ]
    where
      here : (i < q.count + 1) × (get_or (ids_in next q ++ id ∷ []) i 0 ≡ x) → t ≡ size → IdStandsAt next queues t i x ⊎ ((t ≡ size) × (i ≡ q.count) × (x ≡ id))
      here now same = elim (cases_lt i q.count) [
        | inl before ↦ inl (stands_from t i x q (ids_in next q) before
            (sym (get_or_append_left (ids_in next q) (id ∷ []) 0 i (omega (arith, count_ids))) ∙ now.1) (ap (queue_at queues) same) refl)
        | inr behind ↦
            let last : i ≡ q.count = omega arith in
            inr (same, last, sym now.1 ∙ ap (λ k. get_or (ids_in next q ++ id ∷ []) k 0) (last ∙ sym count_ids) ∙ get_or-append_seam (ids_in next q) id [] 0)
      ]

  -- what stood there stands there still, and the id at the end
  stays_at : (t i x : ℕ) → t ≢ size → IdStandsAt next queues t i x → IdStandsAt next' queues' t i x
  stays_at t i x other stands = stands_from t i x (queue_at queues t) (ids_in next (queue_at queues t)) stands.within stands.is (other_queue t other)
      (others_stay t other)

  new_stands : IdStandsAt next' queues' size q.count id
  new_stands =
      let read : get_or (ids_in next q ++ id ∷ []) q.count 0 ≡ id =
      ap (λ k. get_or (ids_in next q ++ id ∷ []) k 0) (sym count_ids) ∙ get_or-append_seam (ids_in next q) id [] 0 in
      stands_from size q.count id (longer q id) (ids_in next q ++ id ∷ []) (omega arith) read this_queue grows

  below_after : (s i x : ℕ) → IdStandsAt next' queues' s i x → x < length next'
  below_after s i x stands = elim (pushed_at s i x stands) [
    | inl old ↦ omega (arith, length-set next end id, linked.below s i x old)
    | inr new ↦ omega (arith, length-set next end id, new.2, below)
  ]

  once_after : (s t i j x : ℕ) → IdStandsAt next' queues' s i x → IdStandsAt next' queues' t j x → (s ≡ t) × (i ≡ j)
  once_after s t i j x one other = both (pushed_at s i x one) (pushed_at t j x other)
    where
      both : IdStandsAt next queues s i x ⊎ ((s ≡ size) × (i ≡ q.count) × (x ≡ id)) → IdStandsAt next queues t j x ⊎ ((t ≡ size) × (j ≡ q.count) × (x ≡ id))
          → (s ≡ t) × (i ≡ j)
      both (inl one) (inl other) = linked.once s t i j x one other
      both (inl one) (inr other) = absurd (absent s i (subst (IdStandsAt next queues s i) other.2 one))
      both (inr one) (inl other) = absurd (absent t j (subst (IdStandsAt next queues t j) one.2 other))
      both (inr one) (inr other) = (one.0 ∙ sym other.0, one.1 ∙ sym other.1)

  pub still_linked : (mask' : ℕ) → bit_at mask' size ≡ 1 → ((s : ℕ) → s ≢ size → bit_at mask' s ≡ bit_at mask s) → IsLinked next' queues' mask'
  still_linked mask' set_bit other_bits = record {
    room = omega (arith, length-set next end id, linked.room);
    sizes = length-set queues size (longer q id) ∙ linked.sizes;
    below = below_after;
    once = once_after;
    ends = λ s i is. elim (eqb_tells s size) [
      | inl same ↦ end_here s i same.1 is
      | inr other ↦ subst (λ (r : Queue). IdStandsAt next' queues' s i r.last) (sym (other_queue s other.1))
          (stays_at s i (queue_at queues s).last other.1 (linked.ends s i (is ∙ ap (λ (r : Queue). r.count) (other_queue s other.1))))
    ];
    bits = λ s lt. elim (eqb_tells s size) [
      | inl same ↦ ap (bit_at mask') same.1 ∙ set_bit ∙ sym (some s same.1)
      | inr other ↦ other_bits s other.1 ∙ linked.bits s lt ∙ ap bit_of (sym (other_queue s other.1))
    ];
  }
    where
      end_here : (s i : ℕ) → s ≡ size → i + 1 ≡ (queue_at queues' s).count → IdStandsAt next' queues' s i (queue_at queues' s).last
      end_here s i same is =
          let queue : queue_at queues' s ≡ longer q id = ap (queue_at queues') same ∙ this_queue in
          let count : i + 1 ≡ q.count + 1 = is ∙ ap (λ (r : Queue). r.count) queue in
          let place : q.count ≡ i = omega arith in
          subst (λ (r : Queue). IdStandsAt next' queues' s i r.last) (sym queue)
          (subst (λ k. IdStandsAt next' queues' k i id) (sym same) (subst (λ k. IdStandsAt next' queues' size k id) place new_stands))

      some : (s : ℕ) → s ≡ size → bit_of (queue_at queues' s) ≡ 1
      some s same = ap bit_of (ap (queue_at queues') same ∙ this_queue) ∙ ap (λ b. cond b 1 0) (lt-ltb 0 (q.count + 1) (omega arith))

  -- there is a number for the ids of this size and one more
  pub counts : q.count + 1 < 2 ^ 32
  counts =
      let ids : List ℕ = ids_in next' (longer q id) in
      let count : length ids ≡ q.count + 1 = length-chain next' (longer q id).first (q.count + 1) in
      let stands : ((i : ℕ) → i < length ids → IdStandsAt next' queues' size i (get_or ids i 0)) =
      λ i lt. stands_from size i (get_or ids i 0) (longer q id) ids (omega arith) refl this_queue refl in
      omega (
        arith,
        count,
        length-set next end id,
        linked.room,
        pigeonhole.length-le ids (length next')
            (λ i j p r same. (once_after size size i j (get_or ids j 0) (subst (IdStandsAt next' queues' size i) same (stands i p)) (stands j r)).1)
            (λ i lt. below_after size i (get_or ids i 0) (stands i lt)),
      )

  pub has_size : size < length held.by_size
  has_size =
      let count : length held.by_size ≡ length queues = ap (λ (h : HeldIds). length h.by_size) (sym view) ∙ length-map queues (ids_in next) in
      omega (arith, count, linked.sizes)

  -- the lists behind the push
  pub held_after : held_by next' queues' ≡ pushed held id size
  held_after = ap₂ (λ (c : ℕ) (b : List (List ℕ)). record { capacity = c; by_size = b }) (length-set next end id)
      (map-set (ids_in next') (ids_in next) nothing queues size (longer q id) (ids_of (held_by next queues) size ++ id ∷ [])
      (grows ∙ ap (λ xs. xs ++ id ∷ []) (sym (ids_of_queue next queues size))) (λ t lt other. others_stay t other))
      ∙ ap (λ (h : HeldIds). pushed h id size) view

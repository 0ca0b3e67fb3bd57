-- Chains through the table of next ids.
use Rattle.std.proofs.Common.{◌≡◌, ◌≢◌, ◌∙◌, ap, refl, sym, ℕ, zero, suc, ◌<◌, List, [], ◌∷◌, ◌++◌, length, get_or, set, arith, subst, ◌⊎◌, inl, inr}
use Rattle.std.proofs.lemmas.List.{get_or-set_same, get_or-set_other}
use Rattle.std.proofs.Math.ListN.{get_or-map}
use Rattle.std.proofs.Math.Dec.{eqb-suc-zero}
use Rattle.frontier_core.specs.declared.queue.Queue.{Queue}
use Rattle.frontier_core.specs.Held.{ids_of}
use Rattle.frontier_core.specs.Chain.{chain, ids_in, held_by, queue_at, end_before, IdStandsAt}

pub length-chain : (next : List ℕ) (first count : ℕ) → length (chain next first count) ≡ count
length-chain next first zero = refl
length-chain next first (suc more) = let rest = length-chain next (get_or next first 0) more in omega (arith, rest)

-- the ids held of a size are those of its queue
pub ids_of_queue : (next : List ℕ) (queues : List Queue) (s : ℕ) → ids_of (held_by next queues) s ≡ ids_in next (queue_at queues s)
ids_of_queue next queues s = get_or-map (ids_in next) queues s (record { first = 0; last = 0; count = 0 })

-- a write behind an id that is not in the chain leaves it as it is
pub chain_untouched : (next : List ℕ) (first count at id : ℕ) → ((k : ℕ) → k < count → get_or (chain next first count) k 0 ≢ at)
    → chain (set next at id) first count ≡ chain next first count
chain_untouched next first zero at id apart = refl
chain_untouched next first (suc more) at id apart =
    let behind : get_or (set next at id) first 0 ≡ get_or next first 0 = get_or-set_other next at first id 0 (apart 0 (omega arith)) in
    ap (λ ids. first ∷ ids) (ap (λ f. chain (set next at id) f more) behind
    ∙ chain_untouched next (get_or next first 0) more at id (λ k lt. apart (suc k) (omega arith)))

-- a write behind the last id, which stands in the chain only there, makes the chain longer
pub chain_longer : (next : List ℕ) (first more last id : ℕ) → last < length next → get_or (chain next first (suc more)) more 0 ≡ last
    → ((k : ℕ) → k < more → get_or (chain next first (suc more)) k 0 ≢ last)
    → chain (set next last id) first (suc (suc more)) ≡ chain next first (suc more) ++ id ∷ []
chain_longer next first zero last id within ends apart =
    ap (λ ids. first ∷ ids) (ap (λ f. f ∷ []) (ap (λ f. get_or (set next last id) f 0) ends ∙ get_or-set_same next last id 0 within))
chain_longer next first (suc more) last id within ends apart =
    let behind : get_or (set next last id) first 0 ≡ get_or next first 0 = get_or-set_other next last first id 0 (apart 0 (omega arith)) in
    ap (λ ids. first ∷ ids) (ap (λ f. chain (set next last id) f (suc (suc more))) behind
    ∙ chain_longer next (get_or next first 0) more last id within ends (λ k lt. apart (suc k) (omega arith)))

-- what stands at a place, by another writing of the queue and its ids
pub stands_as : {next : List ℕ} {queues : List Queue} (t i x : ℕ) (r : Queue) (ids : List ℕ) → IdStandsAt next queues t i x → queue_at queues t ≡ r
    → ids_in next r ≡ ids → (i < r.count) × (get_or ids i 0 ≡ x)
stands_as {next = next} t i x r ids stands queue same =
    (subst (λ (q : Queue). i < q.count) queue stands.within, sym (ap (λ ys. get_or ys i 0) (ap (ids_in next) queue ∙ same)) ∙ stands.is)

pub stands_from : {next : List ℕ} {queues : List Queue} (t i x : ℕ) (r : Queue) (ids : List ℕ) → i < r.count → get_or ids i 0 ≡ x → queue_at queues t ≡ r
    → ids_in next r ≡ ids → IdStandsAt next queues t i x
stands_from {next = next} t i x r ids within is queue same = record {
  within = subst (λ (q : Queue). i < q.count) (sym queue) within;
  is = ap (λ ys. get_or ys i 0) (ap (ids_in next) queue ∙ same) ∙ is;
}

-- the id behind which one is put: itself in an empty queue, and else the last one
pub end_cases : (q : Queue) (id : ℕ) → ((q.count ≡ 0) × (end_before q id ≡ id)) ⊎ ((n : ℕ) × (q.count ≡ suc n) × (end_before q id ≡ q.last))
end_cases q id = by q.count refl
  where
    by : (n : ℕ) → q.count ≡ n → ((q.count ≡ 0) × (end_before q id ≡ id)) ⊎ ((n : ℕ) × (q.count ≡ suc n) × (end_before q id ≡ q.last))
    by zero is = inl (is, rw is refl)
    by (suc n) is = inr (n, is, rw (is, eqb-suc-zero n) refl)

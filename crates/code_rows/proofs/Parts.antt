-- The numbers of parts are those of the classes that chains of crossings make.
use Rattle.std.proofs.Common.{◌≡◌, ◌<◌, ◌≤◌, ◌+◌, ◌*◌, ◌/◌, ◌%◌, ◌∙◌, ◌++◌, ◌∷◌, ◌==◌, [], ℕ, Bool, true, false, not, List, Option, Some, None, length}
use Rattle.std.proofs.Common.{arith, sym, subst, refl, ap, ap₂, inl, inr, zero-add}
use Rattle.std.specs.Prelude.{slice_index, slice_index_or, unwrap_or}
use Rattle.std.specs.List.{range_with_len}
use Rattle.std.proofs.lemmas.Bool.{cases_eq, eq-eqb, ne_eqb, eqb-true, and_parts, and_from, and_left, not_from_false, both_ways}
use Rattle.std.proofs.lemmas.List.FromFn.{length-range_with_len, get_or-range_with_len, length-map-range_with_len, get_or-map-range_with_len}
use Rattle.std.proofs.lemmas.List.Quantifiers.{position-Some}
use Rattle.grid_core.specs.Fault.{lowest}
use Rattle.grid_core.proofs.Accepted.{lowest_some, none_lowest}
use Rattle.crossing_codes.specs.declared.crossing.Crossing.{Crossing}
use Rattle.code_rows.specs.CodeMap.{darts, in_slot, no_crossing, edge_at, is_other_end, twin, twins}
use Rattle.code_rows.specs.Chains.{HasEdge, ShareAnEdge, IsPartChain, OfOnePart, HaveOtherEnds, part_number}
use Rattle.code_rows.proofs.PartNumbers.{RunBetween, JoinsDarts, number_le, number_joined, related}

-- the lowest number that passes, where one does
record IsLowest (test : ℕ → Bool) (n c : ℕ) : Type 0 where
  within : c < n
  passes : test c ≡ true
  before : (k : ℕ) → k < c → test k ≡ false

lowest_by : (test : ℕ → Bool) (n k : ℕ) → k < n → test k ≡ true → (o : Option ℕ) → lowest test n ≡ o → IsLowest test n (unwrap_or o 0)
lowest_by test n k lt here None e = absurd (both_ways (test k) (none_lowest test n e k lt) here)
lowest_by test n k lt here (Some c) e =
    let found = position-Some test (range_with_len 0 n) c 0 e in
    let inside : c < n = omega (arith, found.0, length-range_with_len 0 n) in
    record {
      within = inside;
      passes = ap test (sym (get_or-range_with_len 0 n c 0 inside ∙ zero-add c)) ∙ found.1;
      before = λ j low. ap test (sym (get_or-range_with_len 0 n j 0 (omega (arith, low, inside)) ∙ zero-add j)) ∙ found.2 j low;
    }

lowest_is : (test : ℕ → Bool) (n k : ℕ) → k < n → test k ≡ true → IsLowest test n (unwrap_or (lowest test n) 0)
lowest_is test n k lt here = lowest_by test n k lt here (lowest test n) refl

-- the other ends of darts
twins_long : (xs : List Crossing) → length (twins xs) ≡ darts xs
twins_long xs = length-map-range_with_len (twin xs) 0 (darts xs)

twins_at : (xs : List Crossing) (d : ℕ) → d < darts xs → slice_index (twins xs) d ≡ twin xs d
twins_at xs d lt = get_or-map-range_with_len (twin xs) 0 (darts xs) d d 0 lt (zero-add d)

twin_is : (xs : List Crossing) → HaveOtherEnds xs → (d : ℕ) → d < darts xs → IsLowest (is_other_end xs d) (darts xs) (twin xs d)
twin_is xs have d lt = let other = have d lt in lowest_is (is_other_end xs d) (darts xs) other.0 other.1 other.2

run_between : (xs : List Crossing) → HaveOtherEnds xs → RunBetween (twins xs) (length xs)
run_between xs have d lt =
    let inside : d < darts xs = omega (arith, lt, twins_long xs) in
    let there = (twin_is xs have d inside).within in
    (omega (arith, inside), omega (arith, there, twins_at xs d inside))

-- two darts of one edge are of crossings with one number: each but the lowest has the lowest as its twin
joined_to_lowest : (xs : List Crossing) → HaveOtherEnds xs → (edge m : ℕ) → IsLowest (λ k. edge_at xs k == edge) (darts xs) m
    → (d : ℕ) → d < darts xs → edge_at xs d ≡ edge → part_number xs (d / 4) ≡ part_number xs (m / 4)
joined_to_lowest xs have edge m low d lt is = elim (cases_eq d m) [
  | inl same ↦ ap (λ (k : ℕ). part_number xs (k / 4)) same
  | inr ne ↦
      let before : (k : ℕ) → k < m → is_other_end xs d k ≡ false =
      λ k under. and_left (edge_at xs k == edge_at xs d) (not (k == d)) (ap (λ (e : ℕ). edge_at xs k == e) is ∙ low.before k under) in
      let here : is_other_end xs d m ≡ true =
      and_from (edge_at xs m == edge_at xs d) (not (m == d)) (ap (λ (e : ℕ). edge_at xs m == e) is ∙ low.passes)
      (not_from_false (m == d) (ne_eqb m d (λ e. ne (sym e)))) in
      let other : twin xs d ≡ m = ap (λ (o : Option ℕ). unwrap_or o 0) (lowest_some (is_other_end xs d) (darts xs) m low.within before here) in
      number_joined (twins xs) (length xs) (run_between xs have) d (omega (arith, lt, twins_long xs))
      ∙ ap (λ (k : ℕ). part_number xs (k / 4)) (twins_at xs d lt ∙ other)
]

joined_by_edge : (xs : List Crossing) → HaveOtherEnds xs → (d e : ℕ) → d < darts xs → e < darts xs → edge_at xs d ≡ edge_at xs e
    → part_number xs (d / 4) ≡ part_number xs (e / 4)
joined_by_edge xs have d e lt within same =
    let edge = edge_at xs e in
    let low = lowest_is (λ k. edge_at xs k == edge) (darts xs) e within (eq-eqb edge edge refl) in
    let m = unwrap_or (lowest (λ k. edge_at xs k == edge) (darts xs)) 0 in
    joined_to_lowest xs have edge m low d lt same ∙ sym (joined_to_lowest xs have edge m low e within refl)

-- the dart of an edge at a crossing
dart_of : (xs : List Crossing) (k edge : ℕ) → (has : HasEdge xs k edge)
    → (4 * k + has.slot < darts xs) × ((4 * k + has.slot) / 4 ≡ k) × (edge_at xs (4 * k + has.slot) ≡ edge)
dart_of xs k edge has =
    let within = has.within in
    let four = has.four in
    let place : (4 * k + has.slot) / 4 ≡ k = omega (arith, four) in
    let slot : (4 * k + has.slot) % 4 ≡ has.slot = omega (arith, four) in
    (omega (arith, within, four), place, ap₂ (λ (i s : ℕ). in_slot (slice_index_or xs i no_crossing) s) place slot ∙ has.is)

shared_number : (xs : List Crossing) → HaveOtherEnds xs → (j k : ℕ) → ShareAnEdge xs j k → part_number xs j ≡ part_number xs k
shared_number xs have j k share =
    let one = dart_of xs j share.edge share.of_first in
    let two = dart_of xs k share.edge share.of_second in
    ap (part_number xs) (sym one.1) ∙ (joined_by_edge xs have (4 * j + share.of_first.slot) (4 * k + share.of_second.slot) one.0 two.0 (one.2 ∙ sym two.2)
    ∙ ap (part_number xs) two.1)

edge_of : (xs : List Crossing) (d : ℕ) → d < darts xs → HasEdge xs (d / 4) (edge_at xs d)
edge_of xs d lt = record { within = omega (arith, lt); slot = d % 4; four = omega arith; is = refl }

-- chains
chain_onward : (xs : List Crossing) (i j k : ℕ) (one two : List ℕ) → IsPartChain xs i one j → IsPartChain xs j two k → IsPartChain xs i (one ++ two) k
chain_onward xs i j k [] two here rest = subst (λ (a : ℕ). IsPartChain xs a two k) (sym here.1) rest
chain_onward xs i j k (a ∷ one) two link rest = (link.0, chain_onward xs a j k one two link.1 rest)

part_onward : (xs : List Crossing) (i j k : ℕ) → OfOnePart xs i j → OfOnePart xs j k → OfOnePart xs i k
part_onward xs i j k one two = (one.0 ++ two.0, chain_onward xs i j k one.0 two.0 one.1 two.1)

part_once : (xs : List Crossing) (j k : ℕ) → ShareAnEdge xs j k → OfOnePart xs j k
part_once xs j k share = (k ∷ [], (share, (share.of_second.within, refl)))

chain_back : (xs : List Crossing) (j k : ℕ) (chain : List ℕ) → IsPartChain xs j chain k → OfOnePart xs k j
chain_back xs j k [] here = ([], (omega (arith, here.0, here.1), sym here.1))
chain_back xs j k (i ∷ chain) link =
    part_onward xs k i j (chain_back xs i k chain link.1)
    (part_once xs i j (record { edge = link.0.edge; of_first = link.0.of_second; of_second = link.0.of_first }))

chains_join : (xs : List Crossing) → HaveOtherEnds xs → JoinsDarts (twins xs) (length xs) (OfOnePart xs)
chains_join xs have = record {
  same = λ k lt. ([], (lt, refl));
  back = λ j k joined. chain_back xs j k joined.0 joined.1;
  onward = part_onward xs;
  darts = λ d lt.
      let inside : d < darts xs = omega (arith, lt, twins_long xs) in
      let other = twin_is xs have d inside in
      let edge : edge_at xs (twin xs d) ≡ edge_at xs d =
      eqb-true (edge_at xs (twin xs d)) (edge_at xs d) (and_parts (edge_at xs (twin xs d) == edge_at xs d) (not (twin xs d == d)) other.passes).0 in
      subst (λ (e : ℕ). OfOnePart xs (d / 4) (e / 4)) (sym (twins_at xs d inside))
      (part_once xs (d / 4) (twin xs d / 4) (record {
        edge = edge_at xs d;
        of_first = edge_of xs d inside;
        of_second = subst (HasEdge xs (twin xs d / 4)) edge (edge_of xs (twin xs d) other.within);
      }));
}

chain_number : (xs : List Crossing) → HaveOtherEnds xs → (j k : ℕ) (chain : List ℕ) → IsPartChain xs j chain k → part_number xs j ≡ part_number xs k
chain_number xs have j k [] here = ap (part_number xs) here.1
chain_number xs have j k (i ∷ chain) link = shared_number xs have j i link.0 ∙ chain_number xs have i k chain link.1

pub part_joined : (xs : List Crossing) → HaveOtherEnds xs → (k : ℕ) → k < length xs → OfOnePart xs (part_number xs k) k
part_joined xs have k lt = related (twins xs) (length xs) (OfOnePart xs) (run_between xs have) (chains_join xs have) k lt

pub same_number_joined : (xs : List Crossing) → HaveOtherEnds xs → (j k : ℕ) → j < length xs → k < length xs → part_number xs j ≡ part_number xs k
    → OfOnePart xs j k
same_number_joined xs have j k in_j in_k same =
    let from_j = part_joined xs have j in_j in
    part_onward xs j (part_number xs j) k (chain_back xs (part_number xs j) j from_j.0 from_j.1)
    (subst (λ (i : ℕ). OfOnePart xs i k) (sym same) (part_joined xs have k in_k))

pub joined_same_number : (xs : List Crossing) → HaveOtherEnds xs → (j k : ℕ) → OfOnePart xs j k → part_number xs j ≡ part_number xs k
joined_same_number xs have j k joined = chain_number xs have j k joined.0 joined.1

-- a chain begins at a crossing
chain_begins : (xs : List Crossing) (j k : ℕ) (chain : List ℕ) → IsPartChain xs j chain k → j < length xs
chain_begins xs j k [] here = here.0
chain_begins xs j k (i ∷ chain) link = link.0.of_first.within

pub part_least : (xs : List Crossing) → HaveOtherEnds xs → (j k : ℕ) → OfOnePart xs j k → part_number xs k ≤ j
part_least xs have j k joined =
    let same = joined_same_number xs have j k joined in
    let le = number_le (twins xs) (length xs) (run_between xs have) j (chain_begins xs j k joined.0 joined.1) in
    omega (arith, same, le)

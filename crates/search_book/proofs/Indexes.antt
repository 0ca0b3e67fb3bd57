-- The index of entries by their keys: what a look-up finds, and one id more.
use Rattle.std.proofs.Common.{◌≡◌, ◌≢◌, ◌∙◌, ap, refl, sym, subst, ℕ, zero, suc, ◌<◌, ◌≤◌, ◌⊎◌, inl, inr, List, [], ◌∷◌, ◌++◌, ◌+◌, length, map}
use Rattle.std.proofs.Common.{get_or, All, Bool, true, false, cond, Contains, Option, Some, None, IfSome, IfNone, slice_get, IsPermutation, arith}
use Rattle.std.specs.List.{AllPairs, range_with_len}
use Rattle.std.specs.Map.{lookup}
use Rattle.std.specs.Option.{option_map}
use Rattle.std.proofs.lemmas.Bool.{cases_lt}
use Rattle.std.proofs.lemmas.List.{append_assoc, length-append, length_push, map_push}
use Rattle.std.proofs.lemmas.List.Elements.{All-contains, All-push, All-weaker, Contains-append_cases, Contains-append_right, Contains-get_or}
use Rattle.std.proofs.lemmas.List.Quantifiers.{all_pairs_push}
use Rattle.std.proofs.lemmas.List.Sorted.{Contains-permutation, IsPermutation-append_left, IsPermutation-map, IsPermutation-trans, All-permutation}
use Rattle.std.proofs.lemmas.Map.Entries.{place_from_lookup}
use Rattle.std.proofs.lemmas.Option.{get_or_from_slice_get, slice_get-map, slice_get_within}
use Rattle.grid_core.specs.Diagram.{IsOneEach}
use Rattle.grid_core.proofs.OneEach.{each_below, each_length, range_more}
use Rattle.grid_keys.specs.declared.key.Packed.{Packed}
use Rattle.grid_keys.specs.Key.{same_key}
use Rattle.grid_keys.proofs.Keys.{same_key_true, same_key_false}
use Rattle.search_book.specs.declared.problem.Side.{Side}
use Rattle.search_book.specs.declared.entry.Entry.{Entry}
use Rattle.search_book.specs.declared.key_map.Known.{Known}
use Rattle.search_book.specs.Entries.{StandsAt, id_of, keys, sides}
use Rattle.search_book.specs.Index.{Indexed, IsIndexOf, IsKnown, paired_ids}
use Rattle.search_book.proofs.Appended.{stands_before, stands_last}
use Rattle.search_book.proofs.Restaged.{SameButStages, same_keys, kept_sides}
use Rattle.search_book.proofs.Lookups.{HasKeyAt, id_of_some, id_of_none}
use Rattle.search_book.proofs.TwoMaps.{moved_in}
use Rattle.grid_keys.proofs.LeastTranslates.{range_contains}

-- where a look-up finds nothing no key passes the test
none_at : (test : Packed → Bool) (ps : List (Packed × Known)) (k : ℕ) (p : Packed × Known) → lookup test ps ≡ None → slice_get ps k ≡ Some p → test p.0 ≡ false
none_at test [] k p none at = cc
none_at test (q ∷ qs) k p none at = by k (test q.0) refl none at (λ i rest there. none_at test qs i p rest there)
  where
    by : (k : ℕ) (t : Bool)
        → test q.0 ≡ t → cond t (Some q.1) (lookup test qs) ≡ None → slice_get (q ∷ qs) k ≡ Some p
        → ((i : ℕ) → lookup test qs ≡ None → slice_get qs i ≡ Some p → test p.0 ≡ false) → test p.0 ≡ false
    by k true is none at deeper = cc
    by zero false is none at deeper =
        let same : q ≡ p = cc in
        subst (λ (r : Packed × Known). test r.0 ≡ false) same is
    by (suc k) false is none at deeper = deeper k none at

-- an id among the pairs has its pair there
pair_of : (ps : List (Packed × Known)) (k id : ℕ)
    → k < length (map (λ (p : Packed × Known). p.1.id) ps) → get_or (map (λ (p : Packed × Known). p.1.id) ps) k id ≡ id
    → (p : Packed × Known) × ((slice_get ps k ≡ Some p) × (p.1.id ≡ id))
pair_of [] k id lt is = absurd (omega (arith, lt))
pair_of (p ∷ ps) zero id lt is = (p, (refl, is))
pair_of (p ∷ ps) (suc k) id lt is = pair_of ps k id (omega (arith, lt)) is

pair_all : (P : Packed × Known → Type 0) (ps : List (Packed × Known)) (k : ℕ) (p : Packed × Known) → All P ps → slice_get ps k ≡ Some p → P p
pair_all P ps k p all at = All-contains P ps p all (k, slice_get_within ps k p at, get_or_from_slice_get ps k p p at)

-- of keys that differ each has one place
one_place : (ks : List Packed) (i j : ℕ) (key : Packed) → AllPairs (λ (p q : Packed). p ≢ q) ks → slice_get ks i ≡ Some key → slice_get ks j ≡ Some key → i ≡ j
one_place ks i j key differ first second = elim (cases_lt i j) [
  | inl before ↦ absurd (differ i j key before (slice_get_within ks j key second)
      (get_or_from_slice_get ks i key key first ∙ sym (get_or_from_slice_get ks j key key second)))
  | inr from ↦ elim (cases_lt j i) [
    | inl behind ↦ absurd (differ j i key behind (slice_get_within ks i key first)
        (get_or_from_slice_get ks j key key second ∙ sym (get_or_from_slice_get ks i key key first)))
    | inr to ↦ omega (arith, from, to)
  ]
]

-- a key that all keys differ from has no place
no_place : (ks : List Packed) (key : Packed) (id : ℕ) → All (λ (k : Packed). k ≢ key) ks → slice_get ks id ≢ Some key
no_place ks key id new stands = new id key (slice_get_within ks id key stands) (get_or_from_slice_get ks id key key stands)

module _ (ks : List Packed) (ss : List Side) (index : Indexed) (is : IsIndexOf ks ss index) where
  -- the id that a look-up of a key finds is its place
  pub place_of_pair : (key : Packed) (known : Known) → lookup (same_key key) index.paired ≡ Some known → slice_get ks known.id ≡ Some key
  place_of_pair key known found =
      let at = place_from_lookup (same_key key) index.paired known found in
      pair_all (λ (p : Packed × Known). slice_get ks p.1.id ≡ Some p.0) index.paired at.0 (at.1, known) is.own_keys at.2
      ∙ ap Some (sym (same_key_true key at.1 at.3))

  -- and the side that it finds stands there
  pub side_of_pair : (key : Packed) (known : Known) → lookup (same_key key) index.paired ≡ Some known → slice_get ss known.id ≡ Some known.side
  side_of_pair key known found =
      let at = place_from_lookup (same_key key) index.paired known found in
      pair_all (λ (p : Packed × Known). slice_get ss p.1.id ≡ Some p.1.side) index.paired at.0 (at.1, known) is.own_sides at.2

  -- a new key is not looked up
  pub new_key : (key : Packed) → All (λ (k : Packed). k ≢ key) ks → lookup (same_key key) index.paired ≡ None
  new_key key new = by (lookup (same_key key) index.paired) refl
    where
      by : (o : Option Known) → lookup (same_key key) index.paired ≡ o → o ≡ None
      by None found = refl
      by (Some known) found = absurd (no_place ks key known.id new (place_of_pair key known found))

  -- a key that is not looked up and stands at none of the spilled ids has no place
  pub absent_key : (key : Packed)
      → lookup (same_key key) index.paired ≡ None → All (λ id. slice_get ks id ≢ Some key) index.spilled → (id : ℕ)
      → slice_get ks id ≢ Some key
  absent_key key none apart id stands =
      let somewhere : Contains (paired_ids index) id ⊎ Contains index.spilled id =
      Contains-append_cases (paired_ids index) index.spilled id
      (Contains-permutation (range_with_len 0 (length ks)) (paired_ids index ++ index.spilled) id is.once
      (range_contains (length ks) id (slice_get_within ks id key stands))) in
      elim somewhere [
        | inl paired ↦
            let found = pair_of index.paired paired.0 id paired.1 paired.2 in
            let p : Packed × Known = found.0 in
            let own : slice_get ks id ≡ Some p.0 =
            subst (λ i. slice_get ks i ≡ Some p.0) found.1.1
            (pair_all (λ (q : Packed × Known). slice_get ks q.1.id ≡ Some q.0) index.paired paired.0 p is.own_keys found.1.0) in
            let same : Some key ≡ Some p.0 = sym stands ∙ own in
            let key_is : key ≡ p.0 = cc in
            same_key_false key p.0 (none_at (same_key key) index.paired paired.0 p none found.1.0) key_is
        | inr spilled ↦ All-contains (λ i. slice_get ks i ≢ Some key) index.spilled id apart spilled stands
      ]

  -- each spilled id is a place
  pub spilled_inside : All (λ id. id < length ks) index.spilled
  spilled_inside k d lt =
      All-contains (λ i. i < length ks) (paired_ids index ++ index.spilled) (get_or index.spilled k d)
      (each_below (length ks) (paired_ids index ++ index.spilled) is.once)
      (Contains-append_right (paired_ids index) index.spilled (get_or index.spilled k d) (Contains-get_or index.spilled k d lt))

  -- there are at most as many spilled ids as keys
  pub spilled_count : length index.spilled ≤ length ks
  spilled_count = omega (arith, each_length (length ks) (paired_ids index ++ index.spilled) is.once, length-append (paired_ids index) index.spilled)

  -- one key more
  module _ (key : Packed) (known : Known) (new : All (λ (k : Packed). k ≢ key) ks) (place : known.id ≡ length ks) (beside : known.id ≡ length ss) where
    differ_more : AllPairs (λ (p q : Packed). p ≢ q) (ks ++ key ∷ [])
    differ_more = all_pairs_push (λ (p q : Packed). p ≢ q) ks key is.differ new

    -- each id once, and this one behind them
    once_more : IsOneEach (length (ks ++ key ∷ [])) ((paired_ids index ++ index.spilled) ++ known.id ∷ [])
    once_more =
        let here : known.id ≡ 0 + length ks = omega (arith, place) in
        let count : suc (length ks) ≡ length (ks ++ key ∷ []) = omega (arith, length_push ks key) in
        let range : range_with_len 0 (length ks) ++ known.id ∷ [] ≡ range_with_len 0 (length (ks ++ key ∷ [])) =
        ap (λ (z : ℕ). range_with_len 0 (length ks) ++ z ∷ []) here
        ∙ sym (range_more (length ks) 0)
        ∙ ap (range_with_len 0) count in
        subst (λ (ys : List ℕ). IsPermutation ys ((paired_ids index ++ index.spilled) ++ known.id ∷ [])) range
        (IsPermutation-append_left (known.id ∷ []) (range_with_len 0 (length ks)) (paired_ids index ++ index.spilled) is.once)

    keys_more : All (λ (p : Packed × Known). slice_get (ks ++ key ∷ []) p.1.id ≡ Some p.0) index.paired
    keys_more =
        All-weaker (λ (p : Packed × Known). slice_get ks p.1.id ≡ Some p.0) (λ (p : Packed × Known). slice_get (ks ++ key ∷ []) p.1.id ≡ Some p.0)
        (λ p. stands_before ks (key ∷ []) p.1.id p.0) index.paired is.own_keys

    sides_more : All (λ (p : Packed × Known). slice_get (ss ++ known.side ∷ []) p.1.id ≡ Some p.1.side) index.paired
    sides_more =
        All-weaker (λ (p : Packed × Known). slice_get ss p.1.id ≡ Some p.1.side)
        (λ (p : Packed × Known). slice_get (ss ++ known.side ∷ []) p.1.id ≡ Some p.1.side)
        (λ p. stands_before ss (known.side ∷ []) p.1.id p.1.side) index.paired is.own_sides

    -- beside its key
    pub paired_more : IsIndexOf (ks ++ key ∷ []) (ss ++ known.side ∷ [])
        (record { room = index.room; paired = index.paired ++ (key, known) ∷ []; spilled = index.spilled })
    paired_more = record {
      differ = differ_more;
      once =
          subst (λ (ids : List ℕ). IsOneEach (length (ks ++ key ∷ [])) (ids ++ index.spilled))
          (sym (map_push (λ (p : Packed × Known). p.1.id) index.paired (key, known)))
          (IsPermutation-trans (range_with_len 0 (length (ks ++ key ∷ []))) ((paired_ids index ++ index.spilled) ++ known.id ∷ [])
          ((paired_ids index ++ known.id ∷ []) ++ index.spilled) once_more (moved_in (paired_ids index) index.spilled known.id));
      own_keys =
          All-push (λ (p : Packed × Known). slice_get (ks ++ key ∷ []) p.1.id ≡ Some p.0) index.paired (key, known) keys_more
          (subst (λ (i : ℕ). slice_get (ks ++ key ∷ []) i ≡ Some key) (sym place) (stands_last ks key));
      own_sides =
          All-push (λ (p : Packed × Known). slice_get (ss ++ known.side ∷ []) p.1.id ≡ Some p.1.side) index.paired (key, known) sides_more
          (subst (λ (i : ℕ). slice_get (ss ++ known.side ∷ []) i ≡ Some known.side) (sym beside) (stands_last ss known.side));
    }

    -- alone
    pub spilled_more : IsIndexOf (ks ++ key ∷ []) (ss ++ known.side ∷ [])
        (record { room = index.room; paired = index.paired; spilled = index.spilled ++ known.id ∷ [] })
    spilled_more = record {
      differ = differ_more;
      once = subst (λ (ys : List ℕ). IsOneEach (length (ks ++ key ∷ [])) ys) (append_assoc (paired_ids index) index.spilled (known.id ∷ [])) once_more;
      own_keys = keys_more;
      own_sides = sides_more;
    }

-- the order of the pairs doesn't matter
pub rearranged : (ks : List Packed) (ss : List Side) (room : ℕ) (ps qs : List (Packed × Known)) (spilled : List ℕ) → IsPermutation ps qs
    → IsIndexOf ks ss (record { room = room; paired = ps; spilled = spilled }) → IsIndexOf ks ss (record { room = room; paired = qs; spilled = spilled })
rearranged ks ss room ps qs spilled moved is = record {
  differ = is.differ;
  once =
      IsPermutation-trans (range_with_len 0 (length ks)) (map (λ (p : Packed × Known). p.1.id) ps ++ spilled)
      (map (λ (p : Packed × Known). p.1.id) qs ++ spilled) is.once
      (IsPermutation-append_left spilled (map (λ (p : Packed × Known). p.1.id) ps) (map (λ (p : Packed × Known). p.1.id) qs)
      (IsPermutation-map (λ (p : Packed × Known). p.1.id) ps qs moved));
  own_keys = All-permutation (λ (p : Packed × Known). slice_get ks p.1.id ≡ Some p.0) ps qs moved is.own_keys;
  own_sides = All-permutation (λ (p : Packed × Known). slice_get ss p.1.id ≡ Some p.1.side) ps qs moved is.own_sides;
}

-- the place of a key among those of the entries is the id of its entry
pub found_id : (es : List Entry) (key : Packed) (id : ℕ)
    → AllPairs (λ (p q : Packed). p ≢ q) (keys es) → slice_get (keys es) id ≡ Some key → id_of es key ≡ Some id
found_id es key id differ stands = by (id_of es key) refl
  where
    by : (o : Option ℕ) → id_of es key ≡ o → o ≡ Some id
    by None is = absurd (no_place (keys es) key id (id_of_none es key is) stands)
    by (Some other) is =
        let at : HasKeyAt es key other = id_of_some es key other is in
        let there : slice_get (keys es) other ≡ Some key =
        slice_get-map (λ (e : Entry). e.key) es other ∙ ap (option_map (λ (e : Entry). e.key)) at.stands ∙ ap Some at.has_key in
        ap Some (one_place (keys es) other id key differ there stands)

-- a key without a place is that of no entry
pub absent_id : (es : List Entry) (key : Packed) → ((id : ℕ) → slice_get (keys es) id ≢ Some key) → id_of es key ≡ None
absent_id es key absent = by (id_of es key) refl
  where
    by : (o : Option ℕ) → id_of es key ≡ o → o ≡ None
    by None is = refl
    by (Some other) is =
        let at : HasKeyAt es key other = id_of_some es key other is in
        absurd (absent other (slice_get-map (λ (e : Entry). e.key) es other ∙ ap (option_map (λ (e : Entry). e.key)) at.stands ∙ ap Some at.has_key))

-- the key and the side of an entry
pub own_key : (es : List Entry) (id : ℕ) (e : Entry) → StandsAt es id e → slice_get (keys es) id ≡ Some e.key
own_key es id e stands = slice_get-map (λ (f : Entry). f.key) es id ∙ ap (option_map (λ (f : Entry). f.key)) stands

pub own_side : (es : List Entry) (id : ℕ) (e : Entry) → StandsAt es id e → slice_get (sides es) id ≡ Some e.side
own_side es id e stands = slice_get-map (λ (f : Entry). f.side) es id ∙ ap (option_map (λ (f : Entry). f.side)) stands

-- an entry with another key
pub other_key : (es : List Entry) (id : ℕ) (e : Entry) (key : Packed) → StandsAt es id e → same_key e.key key ≡ false → slice_get (keys es) id ≢ Some key
other_key es id e key stands other there =
    let same : Some e.key ≡ Some key = sym (own_key es id e stands) ∙ there in
    let key_is : e.key ≡ key = cc in
    same_key_false e.key key other key_is

-- what is known of a key by its place and the side there
pub known_by_place : (es : List Entry) (key : Packed) (known : Known)
    → AllPairs (λ (p q : Packed). p ≢ q) (keys es) → slice_get (keys es) known.id ≡ Some key
    → slice_get (sides es) known.id ≡ Some known.side → IsKnown es key known
known_by_place es key known differ stands beside = by (slice_get es known.id) refl
  where
    side_there : (o : Option Entry) → slice_get es known.id ≡ o → option_map (λ (e : Entry). e.side) o ≡ Some known.side
    side_there o is = ap (option_map (λ (e : Entry). e.side)) (sym is) ∙ sym (slice_get-map (λ (e : Entry). e.side) es known.id) ∙ beside

    by : (o : Option Entry) → slice_get es known.id ≡ o → IsKnown es key known
    by None is =
        let no : ◌≡◌ {A = Option Side} None (Some known.side) = side_there None is in cc
    by (Some e) is =
        let same : Some e.side ≡ Some known.side = side_there (Some e) is in
        let side : e.side ≡ known.side = cc in
        record { id = found_id es key known.id differ stands; entry = e; stands = is; side = side }

-- what is found among the spilled ids
pub spilled_known : (es : List Entry) (index : Indexed) (key : Packed) (o : Option Known)
    → IsIndexOf (keys es) (sides es) index
    → IfSome o (λ known. slice_get (keys es) known.id ≡ Some key)
    → IfSome o (λ known. slice_get (sides es) known.id ≡ Some known.side)
    → IfSome o (λ known. IsKnown es key known)
spilled_known es index key None is stands beside = tt
spilled_known es index key (Some known) is stands beside = known_by_place es key known is.differ stands beside

-- where the look-up finds nothing, and none is found among them, no entry has the key
pub spilled_none : (es : List Entry) (index : Indexed) (key : Packed) (o : Option Known)
    → IsIndexOf (keys es) (sides es) index → lookup (same_key key) index.paired ≡ None
    → IfNone o (All (λ id. slice_get (keys es) id ≢ Some key) index.spilled) → IfNone o (id_of es key ≡ None)
spilled_none es index key None is none apart = absent_id es key (absent_key (keys es) (sides es) index is key none apart)
spilled_none es index key (Some known) is none apart = tt

-- the index of the entries at other stages
pub index_restaged : (old new : List Entry) (index : Indexed) → SameButStages old new
    → IsIndexOf (keys old) (sides old) index → IsIndexOf (keys new) (sides new) index
index_restaged old new index same is =
    subst (λ (ks : List Packed). IsIndexOf ks (sides new) index) (sym (same_keys old new same))
    (subst (λ (ss : List Side). IsIndexOf (keys old) ss index) (sym (kept_sides old new same)) is)

-- the index of one entry more
pub index_more : (es : List Entry) (e : Entry) (index : Indexed) → IsIndexOf (keys es ++ e.key ∷ []) (sides es ++ e.side ∷ []) index
    → IsIndexOf (keys (es ++ e ∷ [])) (sides (es ++ e ∷ [])) index
index_more es e index is =
    subst (λ (ks : List Packed). IsIndexOf ks (sides (es ++ e ∷ [])) index) (sym (map_push (λ (f : Entry). f.key) es e))
    (subst (λ (ss : List Side). IsIndexOf (keys es ++ e.key ∷ []) ss index) (sym (map_push (λ (f : Entry). f.side) es e)) is)

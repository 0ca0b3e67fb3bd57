-- One value more is kept, or there is no room for it: of numbers as of letters.
use Rattle.std.proofs.Common.{◌≡◌, ◌<◌, ◌≤◌, ◌+◌, ◌||◌, List, [], ◌∷◌, ◌++◌, length, map, take, Bool, true, false, refl, sym, ap, ap₂, ◌∙◌, arith}
use Rattle.std.proofs.lemmas.Bool.{lt-ltb, le-ltb}
use Rattle.std.proofs.lemmas.List.{length-map, length-take, length-append, map-append, take_all, take-append-le}
use Rattle.std.proofs.lemmas.List.Folds.{list_any-append}
use Rattle.grid_core.specs.declared.grid.TheConstants.{MAX_SIZE}
use Rattle.text_items.specs.Numbers.{TellsOf}

or_false : (b : Bool) → b ≡ (b || false)
or_false true = refl
or_false false = refl

-- there was room
pub one_more : {A B : Type 0} (cut : A → B) (is_long : A → Bool) (kept : List B) {next : List B} {more more' long long' : Bool} (v : A) (w : B) (vs : List A)
    → TellsOf cut is_long kept more long vs → length kept < MAX_SIZE → w ≡ cut v → next ≡ kept ++ w ∷ [] → more' ≡ more → long' ≡ (long || is_long v)
    → TellsOf cut is_long next more' long' (vs ++ v ∷ [])
one_more {A} {B} cut is_long kept v w vs tells room is first more long =
    let all = map cut vs in
    let short : length vs < MAX_SIZE = omega (arith, length-map vs cut, length-take MAX_SIZE all, ap (λ (xs : List B). length xs) tells.first, room) in
    let longer : length (vs ++ v ∷ []) ≡ length vs + 1 = length-append vs (v ∷ []) in
    let whole : map cut (vs ++ v ∷ []) ≡ all ++ cut v ∷ [] = map-append cut vs (v ∷ []) in
    record {
      first = first ∙ ap₂ (λ (xs : List B) (y : B). xs ++ y ∷ []) (tells.first ∙ take_all MAX_SIZE all (omega (arith, length-map vs cut, short))) is
          ∙ sym whole ∙ sym (take_all MAX_SIZE (map cut (vs ++ v ∷ [])) (omega (arith, length-map (vs ++ v ∷ []) cut, longer, short)));
      more = more ∙ tells.more ∙ le-ltb MAX_SIZE (length vs) (omega (arith, short))
          ∙ sym (le-ltb MAX_SIZE (length (vs ++ v ∷ [])) (omega (arith, longer, short)));
      long = long ∙ ap₂ (λ (s t : Bool). s || t) tells.long (or_false (is_long v)) ∙ sym (list_any-append is_long vs (v ∷ []));
    }

-- there was none
pub one_too_many : {A B : Type 0} (cut : A → B) (is_long : A → Bool) (kept : List B) {next : List B} {more more' long long' : Bool} (v : A) (vs : List A)
    → TellsOf cut is_long kept more long vs → MAX_SIZE ≤ length kept → next ≡ kept → more' ≡ true → long' ≡ (long || is_long v)
    → TellsOf cut is_long next more' long' (vs ++ v ∷ [])
one_too_many {A} {B} cut is_long kept v vs tells full first more long =
    let all = map cut vs in
    let many : MAX_SIZE ≤ length vs = omega (arith, length-map vs cut, length-take MAX_SIZE all, ap (λ (xs : List B). length xs) tells.first, full) in
    record {
      first = first ∙ tells.first
          ∙ sym (ap (λ (xs : List B). take MAX_SIZE xs) (map-append cut vs (v ∷ []))
          ∙ take-append-le MAX_SIZE all (cut v ∷ []) (omega (arith, length-map vs cut, many)));
      more = more ∙ sym (lt-ltb MAX_SIZE (length (vs ++ v ∷ [])) (omega (arith, length-append vs (v ∷ []), many)));
      long = long ∙ ap₂ (λ (s t : Bool). s || t) tells.long (or_false (is_long v)) ∙ sym (list_any-append is_long vs (v ∷ []));
    }

-- Maps of the colours that respect the quandle, and what the down columns to the left make of a colour.
use Rattle.std.proofs.Common.{◌≡◌, ◌<◌, ◌≤◌, ◌+◌, ◌∷◌, ◌++◌, ◌∙◌, [], ℕ, zero, suc, List, Bool, true, false, not, cond, All, length, get_or}
use Rattle.std.proofs.Common.{filter, fold, arith, sym, refl, ap, ap₂, subst, inl, inr}
use Rattle.std.specs.List.{range_with_len}
use Rattle.std.proofs.lemmas.Bool.{cases_lt}
use Rattle.std.proofs.lemmas.List.{get_or_past}
use Rattle.std.proofs.lemmas.List.Elements.{All-get_or, filter-append}
use Rattle.std.proofs.lemmas.List.Sums.{fold-append}
use Rattle.grid_core.specs.Diagram.{Diagram, size}
use Rattle.grid_core.specs.Parts.{is_up}
use Rattle.quandle_core.specs.Quandle.{Table, IsQuandle, over, back}
use Rattle.colour_rows.proofs.Ranges.{range_longer}
use Rattle.grid_braid.proofs.Behind.{behind_length, behind_before, behind_after}
use Rattle.grid_braid.specs.Feet.{passed_under, strand_colours}
use Rattle.quandle_core.proofs.Distributed.{back_over_kept, back_back_kept}

-- h takes colours to colours, no two to one, and commutes with both operations
pub record Respects (t : Table) (h : ℕ → ℕ) : Type 0 where
  pub within : (x : ℕ) → x < t.order → h x < t.order
  pub single : (x y : ℕ) → x < t.order → y < t.order → h x ≡ h y → x ≡ y
  pub over_kept : (x y : ℕ) → x < t.order → y < t.order → h (over t x y) ≡ over t (h x) (h y)
  pub back_kept : (x y : ℕ) → x < t.order → y < t.order → h (back t x y) ≡ back t (h x) (h y)

pub same_respects : (t : Table) → Respects t (λ x. x)
same_respects t = record {
  within = λ x at. at;
  single = λ x y at by_y e. e;
  over_kept = λ x y at by_y. refl;
  back_kept = λ x y at by_y. refl;
}

-- h, followed by ◁ z where the column is down
pub turned_respects : (t : Table) → IsQuandle t → (up : Bool) (h : ℕ → ℕ) (z : ℕ) → Respects t h → z < t.order
    → Respects t (λ x. cond up (h x) (back t (h x) z))
turned_respects t q true h z r at_z = r
turned_respects t q false h z r at_z = record {
  within = λ x at. q.back_within (h x) z (r.within x at) at_z;
  single = λ x y at by_y e. r.single x y at by_y
      (sym (q.over_back (h x) z (r.within x at) at_z) ∙ (ap (λ (w : ℕ). over t w z) e ∙ q.over_back (h y) z (r.within y by_y) at_z));
  over_kept = λ x y at by_y. ap (λ (w : ℕ). back t w z) (r.over_kept x y at by_y) ∙ back_over_kept t q (h x) (h y) z (r.within x at) (r.within y by_y) at_z;
  back_kept = λ x y at by_y. ap (λ (w : ℕ). back t w z) (r.back_kept x y at by_y) ∙ back_back_kept t q (h x) (h y) z (r.within x at) (r.within y by_y) at_z;
}

-- what the down columns left of column c make of the colour x, each in its own colour as already changed
pub turn : Table → Diagram → List ℕ → ℕ → ℕ → ℕ
turn t d f zero x = x
turn t d f (suc c) x = cond (is_up d c) (turn t d f c x) (back t (turn t d f c x) (turn t d f c (get_or f c 0)))

pub colour_below : (t : Table) → IsQuandle t → (f : List ℕ) → All (λ y. y < t.order) f → (c : ℕ) → get_or f c 0 < t.order
colour_below t q f below c = elim (cases_lt c (length f)) [
  | inl lt ↦ All-get_or (λ y. y < t.order) f c 0 lt below
  | inr le ↦ let past = get_or_past f c 0 le in let least = q.least in omega arith
]

pub turn_respects : (t : Table) → IsQuandle t → (d : Diagram) (f : List ℕ) → All (λ y. y < t.order) f → (c : ℕ) → Respects t (turn t d f c)
unfolding turn
turn_respects t q d f below zero = same_respects t
turn_respects t q d f below (suc c) =
    let r = turn_respects t q d f below c in
    turned_respects t q (is_up d c) (turn t d f c) (turn t d f c (get_or f c 0)) r (r.within (get_or f c 0) (colour_below t q f below c))

pub turn_first : (t : Table) (d : Diagram) (f : List ℕ) (x : ℕ) → turn t d f 0 x ≡ x
unfolding turn
turn_first t d f x = refl

pub turn_next : (t : Table) (d : Diagram) (f : List ℕ) (c x : ℕ)
    → turn t d f (c + 1) x ≡ cond (is_up d c) (turn t d f c x) (back t (turn t d f c x) (turn t d f c (get_or f c 0)))
unfolding turn
turn_next t d f c x = ap (λ (k : ℕ). turn t d f k x) (let e : c + 1 ≡ suc c = omega arith in e)

-- after the down columns among the first k
part : Table → Diagram → List ℕ → ℕ → List ℕ
part t d f k = fold (passed_under t) f (filter (λ c. not (is_up d c)) (range_with_len 0 k))

record IsPart (t : Table) (d : Diagram) (f : List ℕ) (k : ℕ) (ys : List ℕ) : Type 0 where
  long : length ys ≡ length f
  done : (c : ℕ) → c ≤ k → c < length f → get_or ys c 0 ≡ turn t d f c (get_or f c 0)
  ahead : (c : ℕ) → k ≤ c → c < length f → get_or ys c 0 ≡ turn t d f k (get_or f c 0)

part_more : (t : Table) (d : Diagram) (f ys : List ℕ) (k : ℕ) → IsPart t d f k ys → k < length f → (up : Bool) → is_up d k ≡ up
    → IsPart t d f (k + 1) (cond up ys (passed_under t ys k))
part_more t d f ys k p inside true is = record {
  long = p.long;
  done = λ c le lt. elim (cases_lt k c) [
    | inl more ↦ p.ahead c (omega arith) lt ∙ (step c ∙ ap (λ (i : ℕ). turn t d f i (get_or f c 0)) (let e : k + 1 ≡ c = omega arith in e))
    | inr less ↦ p.done c less lt
  ];
  ahead = λ c le lt. p.ahead c (omega arith) lt ∙ step c;
}
  where
    step : (c : ℕ) → turn t d f k (get_or f c 0) ≡ turn t d f (k + 1) (get_or f c 0)
    step c =
        sym (turn_next t d f k (get_or f c 0)
        ∙ ap (λ (b : Bool). cond b (turn t d f k (get_or f c 0)) (back t (turn t d f k (get_or f c 0)) (turn t d f k (get_or f k 0)))) is)
part_more t d f ys k p inside false is = record {
  long = behind_length (back t) ys k ∙ p.long;
  done = λ c le lt. elim (cases_lt k c) [
    | inl more ↦ behind c more lt ∙ ap (λ (i : ℕ). turn t d f i (get_or f c 0)) (let e : k + 1 ≡ c = omega arith in e)
    | inr less ↦ behind_before (back t) ys k c less (let long = p.long in omega arith) ∙ p.done c less lt
  ];
  ahead = λ c le lt. behind c (omega arith) lt;
}
  where
    behind : (c : ℕ) → k < c → c < length f → get_or (passed_under t ys k) c 0 ≡ turn t d f (k + 1) (get_or f c 0)
    behind c more lt =
        behind_after (back t) ys k c more (let long = p.long in omega arith)
        ∙ (ap₂ (back t) (p.ahead c (omega arith) lt) (p.ahead k (omega arith) inside)
        ∙ sym (turn_next t d f k (get_or f c 0)
        ∙ ap (λ (b : Bool). cond b (turn t d f k (get_or f c 0)) (back t (turn t d f k (get_or f c 0)) (turn t d f k (get_or f k 0)))) is))

part_next : (t : Table) (d : Diagram) (f : List ℕ) (k : ℕ) → part t d f (k + 1) ≡ cond (is_up d k) (part t d f k) (passed_under t (part t d f k) k)
unfolding part
part_next t d f k =
    ap (λ (cs : List ℕ). fold (passed_under t) f (filter (λ c. not (is_up d c)) cs))
    (range_longer 0 k ∙ ap (λ (z : ℕ). range_with_len 0 k ++ z ∷ []) (let e : 0 + k ≡ k = omega arith in e))
    ∙ (ap (fold (passed_under t) f) (filter-append (λ c. not (is_up d c)) (range_with_len 0 k) (k ∷ []))
    ∙ (fold-append (passed_under t) f (filter (λ c. not (is_up d c)) (range_with_len 0 k)) (filter (λ c. not (is_up d c)) (k ∷ []))
    ∙ by_test (is_up d k)))
  where
    by_test : (b : Bool) → fold (passed_under t) (part t d f k) (cond (not b) (k ∷ []) []) ≡ cond b (part t d f k) (passed_under t (part t d f k) k)
    by_test true = refl
    by_test false = refl

part_is : (t : Table) (d : Diagram) (f : List ℕ) (k : ℕ) → k ≤ length f → IsPart t d f k (part t d f k)
unfolding part
part_is t d f zero le = record {
  long = refl;
  done = λ c le lt. sym (turn_first t d f (get_or f c 0)) ∙ ap (λ (i : ℕ). turn t d f i (get_or f c 0)) (let e : 0 ≡ c = omega arith in e);
  ahead = λ c le lt. sym (turn_first t d f (get_or f c 0));
}
part_is t d f (suc k) le =
    subst (λ (i : ℕ). IsPart t d f i (part t d f i)) (let e : k + 1 ≡ suc k = omega arith in e)
    (subst (IsPart t d f (k + 1)) (sym (part_next t d f k)) (part_more t d f (part t d f k) k (part_is t d f k (omega arith)) (omega arith) (is_up d k) refl))

-- the colours of the strands, one by one
pub strand_long : (t : Table) (d : Diagram) (f : List ℕ) → length f ≡ size d → length (strand_colours t d f) ≡ size d
unfolding part
strand_long t d f long = (part_is t d f (size d) (omega arith)).long ∙ long

pub strand_colour : (t : Table) (d : Diagram) (f : List ℕ) → length f ≡ size d → (c : ℕ) → c < size d
    → get_or (strand_colours t d f) c 0 ≡ turn t d f c (get_or f c 0)
unfolding part
strand_colour t d f long c lt = (part_is t d f (size d) (omega arith)).done c (omega arith) (omega arith)

-- Automorphisms of a quandle carry colourings to colourings, and those with one colour in a column to those with its image there.
use Rattle.std.proofs.Common.{◌≡◌, ◌<◌, ◌==◌, ◌∙◌, ℕ, List, [], ◌∷◌, Bool, true, false, length, map, get_or, fold, refl, sym, ap, ap₂, arith}
use Rattle.std.specs.Prelude.{if◌then◌else◌}
use Rattle.std.specs.List.{All, filter}
use Rattle.std.proofs.lemmas.Bool.{eqb-true, eq-eqb}
use Rattle.std.proofs.lemmas.List.{length-map, get_or-map}
use Rattle.std.proofs.lemmas.List.Elements.{All-head, All-tail, All-map, All-weaker, All-get_or}
use Rattle.std.proofs.lemmas.List.Sums.{length-filter}
use Rattle.grid_core.specs.Diagram.{Diagram, IsGrid, size}
use Rattle.grid_core.specs.Parts.{is_up}
use Rattle.grid_core.proofs.Ends.{has_ends, left, right}
use Rattle.quandle_core.specs.Quandle.{Table, IsQuandle, over, back}
use Rattle.quandle_core.specs.Bijection.{IsBijection}
use Rattle.quandle_core.proofs.Lengths.{IsListing, equal_lengths}
use Rattle.quandle_core.proofs.Distributed.{back_over_kept, back_back_kept}
use Rattle.colour_rows.specs.Walk.{under, passed}
use Rattle.colour_rows.specs.Colouring.{IsColouring}
use Rattle.colour_rows.proofs.Walks.{IsPassed, each_passed, turn_stays}
use Rattle.colour_list.specs.Listing.{colourings}
use Rattle.colour_laws.proofs.Listings.{listing, kept_in, kept_out, kept_distinct}
use Rattle.colour_seeds.specs.Connected.{IsStableSet, IsConnected, coloured_so}

-- the map respects both operations
pub record Respects (t : Table) (h : ℕ → ℕ) : Type 0 where
  pub stays : (x : ℕ) → x < t.order → h x < t.order
  pub overs : (x y : ℕ) → x < t.order → y < t.order → h (over t x y) ≡ over t (h x) (h y)
  pub backs : (x y : ℕ) → x < t.order → y < t.order → h (back t x y) ≡ back t (h x) (h y)

-- both inner automorphisms of a colour do
inner_respect : (t : Table) → IsQuandle t → (z : ℕ) → z < t.order → Respects t (λ x. over t x z) × Respects t (λ x. back t x z)
inner_respect t q z at = (
  record {
    stays = λ x lt. q.within x z lt at;
    overs = λ x y first second. q.distributive x y z first second at;
    backs = λ x y first second.
        let w = back t x y in
        let below = q.back_within x y first second in
        let image : over t x z ≡ over t (over t w z) (over t y z) =
        ap (λ (v : ℕ). over t v z) (sym (q.over_back x y first second)) ∙ q.distributive w y z below second at in
        sym (ap (λ (v : ℕ). back t v (over t y z)) image ∙ q.back_over (over t w z) (over t y z) (q.within w z below at) (q.within y z second at));
  },
  record {
    stays = λ x lt. q.back_within x z lt at;
    overs = λ x y first second. back_over_kept t q x y z first second at;
    backs = λ x y first second. back_back_kept t q x y z first second at;
  },
)

-- so it carries walks
turn_carried : (t : Table) (h : ℕ → ℕ) → Respects t h → (up : Bool) (x y : ℕ) → x < t.order → y < t.order
    → (if up then back t (h x) (h y) else over t (h x) (h y)) ≡ h (if up then back t x y else over t x y)
turn_carried t h r true x y first second = sym (r.backs x y first second)
turn_carried t h r false x y first second = sym (r.overs x y first second)

walk_carried : (t : Table) → IsQuandle t → (d : Diagram) (h : ℕ → ℕ) → Respects t h → (f : List ℕ) → All (λ y. y < t.order) f → (cs : List ℕ)
    → All (λ c. c < length f) cs
    → (x : ℕ) → x < t.order → fold (under t d (map h f)) (h x) cs ≡ h (fold (under t d f) x cs)
walk_carried t q d h r f below [] inside x lt = refl
walk_carried t q d h r f below (c ∷ cs) inside x lt =
    let at : c < length f = All-head (λ c. c < length f) c cs inside in
    let y = get_or f c 0 in
    let second = All-get_or (λ y. y < t.order) f c 0 at below in
    let image : get_or (map h f) c 0 ≡ h (get_or f c 0) = get_or-map h f c 0 0 at in
    let one : under t d (map h f) (h x) c ≡ h (under t d f x c) =
    ap (λ (v : ℕ). if is_up d c then back t (h x) v else over t (h x) v) image ∙ turn_carried t h r (is_up d c) x y lt second in
    ap (λ (v : ℕ). fold (under t d (map h f)) v cs) one
    ∙ walk_carried t q d h r f below cs (All-tail (λ c. c < length f) c cs inside) (under t d f x c) (turn_stays t q (is_up d c) x y lt second)

pub carried : (t : Table) → IsQuandle t → (d : Diagram) → IsGrid d → (h : ℕ → ℕ) → Respects t h → (f : List ℕ) → IsColouring t d f → IsColouring t d (map h f)
carried t q d grid h r f c = record {
  colours_are = (
    length-map f h ∙ c.colours_are.0,
    All-map (λ y. y < t.order) h f
        (All-weaker (λ y. y < t.order) (λ y. h y < t.order) r.stays f c.colours_are.1),
  );
  rows = λ row lt.
      let ends = has_ends d grid row lt in
      let at_left : left d row < length f = omega (arith, ends.ordered, ends.within, c.colours_are.0) in
      let at_right : right d row < length f = omega (arith, ends.within, c.colours_are.0) in
      let inside = All-weaker (IsPassed d row) (λ k. k < length f) (λ k p. let ahead = p.ahead in omega arith)
      (passed d row) (each_passed d row ends.ordered) in
      ap (λ (x : ℕ). fold (under t d (map h f)) x (passed d row)) (get_or-map h f (left d row) 0 0 at_left)
      ∙ (walk_carried t q d h r f c.colours_are.1 (passed d row) inside (get_or f (left d row) 0)
      (All-get_or (λ y. y < t.order) f (left d row) 0 at_left c.colours_are.1)
      ∙ (ap h (c.rows row lt) ∙ sym (get_or-map h f (right d row) 0 0 at_right)));
}

-- a map that is undone
undone : (g h : ℕ → ℕ) (f : List ℕ) → All (λ x. g (h x) ≡ x) f → map g (map h f) ≡ f
undone g h [] all = refl
undone g h (x ∷ f) all =
    ap₂ (λ (y : ℕ) (l : List ℕ). y ∷ l) (All-head (λ x. g (h x) ≡ x) x f all) (undone g h f (All-tail (λ x. g (h x) ≡ x) x f all))

-- the colourings with colour a in column c
abbrev Coloured : Table → Diagram → ℕ → ℕ → List ℕ → Type 0
Coloured t d c a f = IsColouring t d f × (get_or f c 0 ≡ a)

bijection : (t : Table) → IsQuandle t → (d : Diagram) → IsGrid d → (c : ℕ) → c < size d → (g h : ℕ → ℕ) → Respects t g → Respects t h
    → ((x : ℕ) → x < t.order → g (h x) ≡ x) → ((x : ℕ) → x < t.order → h (g x) ≡ x) → (a : ℕ) → a < t.order
    → IsBijection (Coloured t d c a) (Coloured t d c (h a)) (map h)
bijection t q d grid c lt g h rg rh undo redo a at = record {
  into = λ f is.
      (carried t q d grid h rh f is.0, get_or-map h f c 0 0 (omega (arith, is.0.colours_are.0)) ∙ ap h is.1);
  onto = λ f is. (
    map g f,
    (carried t q d grid g rg f is.0, get_or-map g f c 0 0 (omega (arith, is.0.colours_are.0)) ∙ (ap g is.1 ∙ undo a at)),
    undone h g f (All-weaker (λ y. y < t.order) (λ y. h (g y) ≡ y) redo f is.0.colours_are.1),
  );
  one = λ e f first second same.
      sym (undone g h e (All-weaker (λ y. y < t.order) (λ y. g (h y) ≡ y) undo e first.0.colours_are.1))
      ∙ (ap (λ (l : List ℕ). map g l) same ∙ undone g h f (All-weaker (λ y. y < t.order) (λ y. g (h y) ≡ y) undo f second.0.colours_are.1));
}

-- their list
coloured_listing : (t : Table) (d : Diagram) (c a : ℕ) → IsListing (Coloured t d c a) (filter (λ f. get_or f c 0 == a) (colourings t d))
coloured_listing t d c a =
    let test = λ (f : List ℕ). get_or f c 0 == a in
    let all = listing t d in
    record {
      distinct = kept_distinct test (colourings t d) all.distinct;
      sound = λ f one. let kept = kept_out test f (colourings t d) one in (all.sound f kept.0, eqb-true (get_or f c 0) a kept.1);
      complete = λ f is. kept_in test f (colourings t d) (all.complete f is.0) (eq-eqb (get_or f c 0) a is.1);
    }

as_many : (t : Table) → IsQuandle t → (d : Diagram) → IsGrid d → (c : ℕ) → c < size d → (a z : ℕ) → a < t.order → z < t.order
    → coloured_so t d c a ≡ coloured_so t d c (over t a z)
as_many t q d grid c lt a z at by =
    sym (length-filter (λ f. get_or f c 0 == a) (colourings t d))
    ∙ (equal_lengths (Coloured t d c a) (Coloured t d c (over t a z)) (map (λ x. over t x z))
    (bijection t q d grid c lt (λ x. back t x z) (λ x. over t x z) (inner_respect t q z by).1 (inner_respect t q z by).0
    (λ x below. q.back_over x z below by) (λ x below. q.over_back x z below by) a at)
    (filter (λ f. get_or f c 0 == a) (colourings t d)) (filter (λ f. get_or f c 0 == over t a z) (colourings t d))
    (coloured_listing t d c a) (coloured_listing t d c (over t a z))
    ∙ length-filter (λ f. get_or f c 0 == over t a z) (colourings t d))

-- where operations lead from each colour to each other, each is as frequent
pub as_frequent : (t : Table) (d : Diagram) (c a b : ℕ) → IsQuandle t → IsGrid d → IsConnected t → c < size d → a < t.order → b < t.order
    → coloured_so t d c a ≡ coloured_so t d c b
as_frequent t d c a b q grid connected lt at to =
    let many = coloured_so t d c a in
    let p = λ (x : ℕ). coloured_so t d c x == many in
    let stable : IsStableSet t (λ x. coloured_so t d c x == coloured_so t d c a) = record {
      over_stays = λ x y first second has.
          eq-eqb (coloured_so t d c (over t x y)) many (sym (as_many t q d grid c lt x y first second) ∙ eqb-true (coloured_so t d c x) many has);
      back_stays = λ x y first second has.
          eq-eqb (coloured_so t d c (back t x y)) many
          (as_many t q d grid c lt (back t x y) y (q.back_within x y first second) second
          ∙ (ap (λ (v : ℕ). coloured_so t d c v) (q.over_back x y first second) ∙ eqb-true (coloured_so t d c x) many has));
    } in
    sym (eqb-true (coloured_so t d c b) many (connected p stable a b at to (eq-eqb many many refl)))

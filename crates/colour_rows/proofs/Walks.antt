-- Walks: what they read, where they stay, and how they are undone.
use Rattle.std.proofs.Common.{◌≡◌, ◌≢◌, ◌<◌, ◌≤◌, ◌+◌, ◌-◌, ◌==◌, ◌∙◌, ℕ, List, [], ◌∷◌, Bool, true, false, length, get_or, set, refl, sym, ap, subst, arith}
use Rattle.std.proofs.Common.{fold, reverse, All}
use Rattle.std.specs.Prelude.{if◌then◌else◌, nat_lt, slice_index}
use Rattle.std.specs.List.{range_with_len}
use Rattle.std.proofs.lemmas.Bool.{eqb-true, eqb-false, eq-eqb, ne_eqb, ltb-true, and_parts}
use Rattle.std.proofs.lemmas.List.{get_or-set_same, get_or-set_other, reverse-append}
use Rattle.std.proofs.lemmas.List.FromFn.{get_or-range_with_len, length-range_with_len}
use Rattle.std.proofs.lemmas.List.Elements.{All-head, All-tail, All-filter, All-weaker, filter_passes, All-get_or}
use Rattle.std.proofs.lemmas.List.Sums.{fold-append}
use Rattle.grid_core.specs.Diagram.{Diagram, size}
use Rattle.grid_core.specs.Parts.{covers, is_up, ends}
use Rattle.grid_core.proofs.Ends.{HasEnds, left, right, low, high}
use Rattle.quandle_core.specs.Quandle.{Table, IsQuandle, over, back}
use Rattle.colour_rows.specs.Walk.{under, passed, walk, closes}

-- what colour x was before it passed under column c
abbrev pub past : Table → Diagram → List ℕ → ℕ → ℕ → ℕ
past t d colours x c = if is_up d c then over t x (slice_index colours c) else back t x (slice_index colours c)

-- the colour from which the walk of row r ends with the colour of its right end: the walk taken backwards
abbrev pub walk_back : Table → Diagram → List ℕ → ℕ → ℕ
walk_back t d colours r = fold (past t d colours) (slice_index colours (right d r)) (reverse (passed d r))

-- two steps that agree at each element fold alike
pub fold_agree : {A B : Type 0} (f h : B → A → B) (xs : List A) → All (λ c. (x : B) → f x c ≡ h x c) xs → (a : B) → fold f a xs ≡ fold h a xs
fold_agree f h [] all a = refl
fold_agree f h (x ∷ xs) all a =
    ap (λ b. fold f b xs) (All-head (λ c. (y : _) → f y c ≡ h y c) x xs all a) ∙ fold_agree f h xs (All-tail (λ c. (y : _) → f y c ≡ h y c) x xs all) (h a x)

-- a step that keeps P keeps it through a fold
pub fold_keeps : {A B : Type 0} (f : B → A → B) (P : B → Type 0) (xs : List A) → All (λ c. (x : B) → P x → P (f x c)) xs → (a : B) → P a → P (fold f a xs)
fold_keeps f P [] all a at = at
fold_keeps f P (x ∷ xs) all a at =
    fold_keeps f P xs (All-tail (λ c. (y : _) → P y → P (f y c)) x xs all) (f a x) (All-head (λ c. (y : _) → P y → P (f y c)) x xs all a at)

-- steps that undo each other do so through a fold, taken backwards
pub record Undoes {A B : Type 0} (P : B → Type 0) (u v : B → A → B) (c : A) : Type 0 where
  pub to : (x : B) → P x → P (u x c)
  pub fro : (x : B) → P x → P (v x c)
  pub there : (x : B) → P x → v (u x c) c ≡ x
  pub back : (x : B) → P x → u (v x c) c ≡ x

unfold-cons : {A B : Type 0} (v : B → A → B) (c : A) (cs : List A) (b : B) → fold v b (reverse (c ∷ cs)) ≡ v (fold v b (reverse cs)) c
unfold-cons v c cs b = ap (fold v b) (reverse-append (c ∷ []) cs) ∙ fold-append v b (reverse cs) (c ∷ [])

pub undo_there : {A B : Type 0} (P : B → Type 0) (u v : B → A → B) (cs : List A) → All (Undoes P u v) cs → (a : B) → P a → fold v (fold u a cs) (reverse cs) ≡ a
undo_there P u v [] all a at = refl
undo_there P u v (c ∷ cs) all a at =
    let one = All-head (Undoes P u v) c cs all in
    let rest = All-tail (Undoes P u v) c cs all in
    unfold-cons v c cs (fold u (u a c) cs) ∙ (ap (λ x. v x c) (undo_there P u v cs rest (u a c) (one.to a at)) ∙ one.there a at)

pub undo_stays : {A B : Type 0} (P : B → Type 0) (u v : B → A → B) (cs : List A) → All (Undoes P u v) cs → (b : B) → P b → P (fold v b (reverse cs))
undo_stays P u v [] all b at = at
undo_stays P u v (c ∷ cs) all b at =
    subst P (sym (unfold-cons v c cs b)) ((All-head (Undoes P u v) c cs all).fro _ (undo_stays P u v cs (All-tail (Undoes P u v) c cs all) b at))

pub undo_back : {A B : Type 0} (P : B → Type 0) (u v : B → A → B) (cs : List A) → All (Undoes P u v) cs → (b : B) → P b → fold u (fold v b (reverse cs)) cs ≡ b
undo_back P u v [] all b at = refl
undo_back P u v (c ∷ cs) all b at =
    let one = All-head (Undoes P u v) c cs all in
    let rest = All-tail (Undoes P u v) c cs all in
    ap (λ x. fold u (u x c) cs) (unfold-cons v c cs b)
    ∙ (ap (λ x. fold u x cs) (one.back (fold v b (reverse cs)) (undo_stays P u v cs rest b at)) ∙ undo_back P u v cs rest b at)

-- what is known of each column on the walk of a row
pub record IsPassed (d : Diagram) (r c : ℕ) : Type 0 where
  pub after : left d r < c
  pub ahead : c < right d r
  pub lower : low d c < r

pub each_passed : (d : Diagram) (r : ℕ) → left d r < right d r → All (IsPassed d r) (passed d r)
each_passed d r ordered = λ k p at.
    let between : All (λ c. (left d r < c) × (c < right d r)) (range_with_len (left d r + 1) (right d r - left d r - 1)) =
    λ i e lt. let short : i < right d r - left d r - 1 = omega (arith, lt, length-range_with_len (left d r + 1) (right d r - left d r - 1)) in
    let is = get_or-range_with_len (left d r + 1) (right d r - left d r - 1) i e short in (omega arith, omega arith) in
    let place = All-filter (λ c. covers d c r) (λ c. (left d r < c) × (c < right d r))
    (range_with_len (left d r + 1) (right d r - left d r - 1)) between k p at in
    let over = filter_passes (λ c. covers d c r) (range_with_len (left d r + 1) (right d r - left d r - 1)) k p at in
    record {
      after = place.0;
      ahead = place.1;
      lower =
          ltb-true (low d (get_or (passed d r) k p)) r (and_parts (nat_lt (low d (get_or (passed d r) k p)) r) (nat_lt r (high d (get_or (passed d r) k p))) over).0;
    }

-- a change of a column that the walk does not read
pub walk_apart : (t : Table) (d : Diagram) (f : List ℕ) (r c a : ℕ) → left d r ≢ c → All (λ k. k ≢ c) (passed d r) → walk t d (set f c a) r ≡ walk t d f r
walk_apart t d f r c a start apart =
    ap (λ x. fold (under t d (set f c a)) x (passed d r)) (get_or-set_other f c (left d r) a 0 start)
    ∙ fold_agree (under t d (set f c a)) (under t d f) (passed d r)
    (All-weaker (λ k. k ≢ c) (λ k. (x : ℕ) → under t d (set f c a) x k ≡ under t d f x k)
    (λ k other x. ap (λ y. if is_up d k then back t x y else over t x y) (get_or-set_other f c k a 0 other)) (passed d r) apart)
    (get_or f (left d r) 0)

-- lists with the same colours in the columns of the diagram have the same walks
pub closes_agree : (t : Table) (d : Diagram) (f h : List ℕ) (r : ℕ) → HasEnds d r → ((c : ℕ) → c < size d → get_or f c 0 ≡ get_or h c 0)
    → closes t d f r ≡ closes t d h r
closes_agree t d f h r ends same =
    let ordered = ends.ordered in
    let within = ends.within in
    ap (λ x. fold (under t d f) x (passed d r) == get_or f (right d r) 0) (same (left d r) (omega arith))
    ∙ (ap (λ w. w == get_or f (right d r) 0)
    (fold_agree (under t d f) (under t d h) (passed d r)
    (All-weaker (IsPassed d r) (λ k. (x : ℕ) → under t d f x k ≡ under t d h x k)
    (λ k p x. ap (λ y. if is_up d k then back t x y else over t x y) (same k (omega (arith, p.ahead)))) (passed d r) (each_passed d r ordered))
    (get_or h (left d r) 0))
    ∙ ap (λ y. walk t d h r == y) (same (right d r) within))

pub closes_apart : (t : Table) (d : Diagram) (f : List ℕ) (r c a : ℕ) → left d r ≢ c → right d r ≢ c → All (λ k. k ≢ c) (passed d r)
    → closes t d (set f c a) r ≡ closes t d f r
closes_apart t d f r c a start end apart =
    ap (λ w. w == get_or (set f c a) (right d r) 0) (walk_apart t d f r c a start apart)
    ∙ ap (λ y. walk t d f r == y) (get_or-set_other f c (right d r) a 0 end)

-- a column whose lower mark is not below row r isn't read by the rows below it
pub closes_ignores : (t : Table) (d : Diagram) → (r s c : ℕ) → HasEnds d s → s < r → r ≤ low d c → (f : List ℕ) (a : ℕ)
    → closes t d (set f c a) s ≡ closes t d f s
closes_ignores t d r s c ends below begins f a =
    closes_apart t d f s c a
    (λ e. let h = ap (low d) e in let l = ends.left_low in absurd (omega arith))
    (λ e. let h = ap (low d) e in let l = ends.right_low in absurd (omega arith))
    (All-weaker (IsPassed d s) (λ k. k ≢ c) (λ k p e. let h = ap (low d) e in let l = p.lower in absurd (omega arith)) (passed d s)
    (each_passed d s ends.ordered))

-- the walk's equation, with the right end's colour still to be chosen
pub closes_right : (t : Table) (d : Diagram) (f : List ℕ) (r b : ℕ) → HasEnds d r → right d r < length f
    → closes t d (set f (right d r) b) r ≡ (walk t d f r == b)
closes_right t d f r b ends at =
    ap (λ w. w == get_or (set f (right d r) b) (right d r) 0)
    (walk_apart t d f r (right d r) b (λ e. let l = ends.ordered in absurd (omega arith))
    (All-weaker (IsPassed d r) (λ k. k ≢ right d r) (λ k p e. let l = p.ahead in absurd (omega arith)) (passed d r) (each_passed d r ends.ordered)))
    ∙ ap (λ y. walk t d f r == y) (get_or-set_same f (right d r) b 0 at)

pub turn_stays : (t : Table) → IsQuandle t → (up : Bool) (x y : ℕ) → x < t.order → y < t.order → (if up then back t x y else over t x y) < t.order
turn_stays t q true x y at by_y = q.back_within x y at by_y
turn_stays t q false x y at by_y = q.within x y at by_y

pub return_stays : (t : Table) → IsQuandle t → (up : Bool) (x y : ℕ) → x < t.order → y < t.order → (if up then over t x y else back t x y) < t.order
return_stays t q true x y at by_y = q.within x y at by_y
return_stays t q false x y at by_y = q.back_within x y at by_y

pub turn_return : (t : Table) → IsQuandle t → (up : Bool) (x y : ℕ) → x < t.order → y < t.order
    → (if up then over t (if up then back t x y else over t x y) y else back t (if up then back t x y else over t x y) y) ≡ x
turn_return t q true x y at by_y = q.over_back x y at by_y
turn_return t q false x y at by_y = q.back_over x y at by_y

return_turn : (t : Table) → IsQuandle t → (up : Bool) (x y : ℕ) → x < t.order → y < t.order
    → (if up then back t (if up then over t x y else back t x y) y else over t (if up then over t x y else back t x y) y) ≡ x
return_turn t q true x y at by_y = q.back_over x y at by_y
return_turn t q false x y at by_y = q.over_back x y at by_y

-- each column on the walk is undone
undone : (t : Table) (d : Diagram) (f : List ℕ) (r : ℕ) → IsQuandle t → HasEnds d r → size d ≤ length f → All (λ y. y < t.order) f
    → All (Undoes (λ x. x < t.order) (under t d f) (past t d f)) (passed d r)
undone t d f r q ends long below =
    All-weaker (IsPassed d r) (Undoes (λ x. x < t.order) (under t d f) (past t d f))
    (λ k p.
    let colour : get_or f k 0 < t.order = All-get_or (λ y. y < t.order) f k 0 (omega (arith, p.ahead, ends.within, long)) below in
    record {
      to = λ x at. turn_stays t q (is_up d k) x (get_or f k 0) at colour;
      fro = λ x at. return_stays t q (is_up d k) x (get_or f k 0) at colour;
      there = λ x at. turn_return t q (is_up d k) x (get_or f k 0) at colour;
      back = λ x at. return_turn t q (is_up d k) x (get_or f k 0) at colour;
    })
    (passed d r) (each_passed d r ends.ordered)

-- a walk stays below the order, from the left and back from the right
pub walk_stays : (t : Table) (d : Diagram) (f : List ℕ) (r : ℕ) → IsQuandle t → HasEnds d r → size d ≤ length f → All (λ y. y < t.order) f
    → walk t d f r < t.order
walk_stays t d f r q ends long below =
    fold_keeps (under t d f) (λ x. x < t.order) (passed d r)
    (All-weaker (Undoes (λ x. x < t.order) (under t d f) (past t d f)) (λ c. (x : ℕ) → x < t.order → under t d f x c < t.order) (λ c u. u.to) (passed d r)
    (undone t d f r q ends long below))
    (get_or f (left d r) 0) (All-get_or (λ y. y < t.order) f (left d r) 0 (omega (arith, ends.ordered, ends.within, long)) below)

pub walk_back_stays : (t : Table) (d : Diagram) (f : List ℕ) (r : ℕ) → IsQuandle t → HasEnds d r → size d ≤ length f → All (λ y. y < t.order) f
    → walk_back t d f r < t.order
walk_back_stays t d f r q ends long below =
    undo_stays (λ x. x < t.order) (under t d f) (past t d f) (passed d r) (undone t d f r q ends long below)
    (get_or f (right d r) 0) (All-get_or (λ y. y < t.order) f (right d r) 0 (omega (arith, ends.within, long)) below)

-- the walk of row r from colour a on
walk_from : (t : Table) (d : Diagram) (f : List ℕ) (r a : ℕ) → HasEnds d r → left d r < length f
    → walk t d (set f (left d r) a) r ≡ fold (under t d f) a (passed d r)
walk_from t d f r a ends at =
    ap (λ x. fold (under t d (set f (left d r) a)) x (passed d r)) (get_or-set_same f (left d r) a 0 at)
    ∙ fold_agree (under t d (set f (left d r) a)) (under t d f) (passed d r)
    (All-weaker (IsPassed d r) (λ k. (x : ℕ) → under t d (set f (left d r) a) x k ≡ under t d f x k)
    (λ k p x. ap (λ y. if is_up d k then back t x y else over t x y) (get_or-set_other f (left d r) k a 0 (λ e. let l = p.after in absurd (omega arith))))
    (passed d r) (each_passed d r ends.ordered))
    a

-- two tests of which each follows from the other
tests_agree : (a b c d : ℕ) → (a ≡ b → c ≡ d) → (c ≡ d → a ≡ b) → (t : Bool) → (a == b) ≡ t → (a == b) ≡ (c == d)
tests_agree a b c d into from true e = e ∙ sym (eq-eqb c d (into (eqb-true a b e)))
tests_agree a b c d into from false e = e ∙ sym (ne_eqb c d (λ h. eqb-false a b e (from h)))

-- the walk's equation, with the left end's colour still to be chosen
pub closes_left : (t : Table) (d : Diagram) (f : List ℕ) (r a : ℕ) → IsQuandle t → HasEnds d r → size d ≤ length f → All (λ y. y < t.order) f → a < t.order
    → closes t d (set f (left d r) a) r ≡ (walk_back t d f r == a)
closes_left t d f r a q ends long below lt =
    let at : left d r < length f = omega (arith, ends.ordered, ends.within, long) in
    let goal_colour : get_or f (right d r) 0 < t.order = All-get_or (λ y. y < t.order) f (right d r) 0 (omega (arith, ends.within, long)) below in
    let each = undone t d f r q ends long below in
    let w = fold (under t d f) a (passed d r) in
    ap (λ x. x == get_or (set f (left d r) a) (right d r) 0) (walk_from t d f r a ends at)
    ∙ (ap (λ y. w == y) (get_or-set_other f (left d r) (right d r) a 0 (λ e. let l = ends.ordered in absurd (omega arith)))
    ∙ tests_agree w (get_or f (right d r) 0) (walk_back t d f r) a
    (λ e. ap (λ b. fold (past t d f) b (reverse (passed d r))) (sym e) ∙ undo_there (λ x. x < t.order) (under t d f) (past t d f) (passed d r) each a lt)
    (λ e. ap (λ b. fold (under t d f) b (passed d r)) (sym e) ∙ undo_back (λ x. x < t.order) (under t d f) (past t d f) (passed d r) each
    (get_or f (right d r) 0) goal_colour)
    (w == get_or f (right d r) 0) refl)

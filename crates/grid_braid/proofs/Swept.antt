-- The sweep from the feet: below each row its colours are those that the word has made, and where the feet come back every strand arrives.
use Rattle.std.proofs.Common.{◌≡◌, ◌≢◌, ◌<◌, ◌≤◌, ◌+◌, ◌-◌, ◌∷◌, ◌∙◌, [], ℕ, zero, suc, List, Bool, true, false, not, cond, length, get_or}
use Rattle.std.proofs.Common.{map, fold, reverse, nat_lt, nat_le, arith, sym, refl, ap, ap₂, subst, inl, inr}
use Rattle.std.specs.List.{range_with_len}
use Rattle.std.proofs.lemmas.Bool.{cases_lt, ltb-true, and_parts}
use Rattle.std.proofs.lemmas.List.{get_or-set_same, get_or-set_other, length-set}
use Rattle.std.proofs.lemmas.List.Elements.{All-set, All-get_or}
use Rattle.std.proofs.lemmas.List.Sums.{fold-append}
use Rattle.grid_core.specs.declared.mark.Kind.TheVariants.{Cross, Ring}
use Rattle.grid_core.specs.Diagram.{Diagram, IsGrid, size, row_of}
use Rattle.grid_core.specs.Parts.{column_of, is_up, is_rightward, ends}
use Rattle.grid_core.proofs.Marks.{column_mark, row_below}
use Rattle.quandle_core.specs.Quandle.{Table, IsQuandle, over, back}
use Rattle.quandle_core.specs.Colours.{AreColours}
use Rattle.braid_core.specs.Action.{action}
use Rattle.grid_core.proofs.Ends.{has_ends}
use Rattle.grid_braid.specs.Strands.{is_strand, strands_at, down_columns}
use Rattle.grid_braid.specs.Word.{letters_below, word_of_diagram}
use Rattle.grid_braid.specs.Sweep.{moved_colour, swept_row, swept}
use Rattle.grid_braid.proofs.Ranges.{map_range, passing_same}
use Rattle.grid_braid.proofs.Heights.{runs_up}
use Rattle.grid_braid.proofs.Rows.{has_row, row_acts}
use Rattle.grid_braid.proofs.Closed.{moved_below}
use Rattle.grid_braid.proofs.Followed.{Arrives, led, lowest_strands, highest_strands}
use Rattle.grid_core.proofs.OneEach.{range_next}

-- one row more
pub swept_more : (t : Table) (d : Diagram) (f : List ℕ) (h : ℕ) → swept t d f (h + 1) ≡ swept_row t d (swept t d f h) h
swept_more t d f h = ap (fold (swept_row t d) f) (range_next h) ∙ fold-append (swept_row t d) f (range_with_len 0 h) (h ∷ [])

pub swept_stays : (t : Table) → IsQuandle t → (d : Diagram) → IsGrid d → (f : List ℕ) → AreColours (size d) t.order f → (h : ℕ) → h ≤ size d
    → AreColours (size d) t.order (swept t d f h)
swept_stays t q d grid f at zero le = at
swept_stays t q d grid f at (suc h) le =
    let ys = swept t d f h in
    let before = swept_stays t q d grid f at h (omega arith) in
    let a = column_of Cross d h in
    subst (AreColours (size d) t.order) (sym (swept_more t d f h) ∙ ap (swept t d f) (let e : h + 1 ≡ suc h = omega arith in e)) (
      length-set ys a (moved_colour t d (λ c. get_or ys c 0) h) ∙ before.0,
      All-set (λ y. y < t.order) ys a (moved_colour t d (λ c. get_or ys c 0) h)
          (moved_below t q d grid (λ c. get_or ys c 0) (λ c lt. All-get_or (λ y. y < t.order) ys c 0 (omega (arith, before.0)) before.1) h
          (omega arith)) before.1,
    )

swept_length : (t : Table) (d : Diagram) (f : List ℕ) (h : ℕ) → length (swept t d f h) ≡ length f
swept_length t d f zero = refl
swept_length t d f (suc h) =
    ap length (ap (swept t d f) (let e : suc h ≡ h + 1 = omega arith in e) ∙ swept_more t d f h)
    ∙ (length-set (swept t d f h) (column_of Cross d h) (moved_colour t d (λ c. get_or (swept t d f h) c 0) h) ∙ swept_length t d f h)

-- a row writes the colour of its X's column alone
swept_here : (t : Table) (d : Diagram) (f : List ℕ) (r : ℕ) → column_of Cross d r < length f
    → get_or (swept t d f (r + 1)) (column_of Cross d r) 0 ≡ moved_colour t d (λ c. get_or (swept t d f r) c 0) r
swept_here t d f r lt =
    ap (λ (ys : List ℕ). get_or ys (column_of Cross d r) 0) (swept_more t d f r)
    ∙ get_or-set_same (swept t d f r) (column_of Cross d r) (moved_colour t d (λ c. get_or (swept t d f r) c 0) r) 0 (omega (arith, swept_length t d f r))

swept_other : (t : Table) (d : Diagram) (f : List ℕ) (r c : ℕ) → c ≢ column_of Cross d r → get_or (swept t d f (r + 1)) c 0 ≡ get_or (swept t d f r) c 0
swept_other t d f r c other =
    ap (λ (ys : List ℕ). get_or ys c 0) (swept_more t d f r)
    ∙ get_or-set_other (swept t d f r) (column_of Cross d r) c (moved_colour t d (λ k. get_or (swept t d f r) k 0) r) 0 other

-- a column keeps its colour up to the row of its X, and from there on
swept_before : (t : Table) (d : Diagram) → IsGrid d → (f : List ℕ) (c : ℕ) → c < size d → (h : ℕ) → h ≤ row_of Cross d c
    → get_or (swept t d f h) c 0 ≡ get_or f c 0
swept_before t d grid f c lt zero le = refl
swept_before t d grid f c lt (suc h) le =
    let x_in = row_below d grid Cross c lt in
    ap (λ (k : ℕ). get_or (swept t d f k) c 0) (let e : suc h ≡ h + 1 = omega arith in e)
    ∙ (swept_other t d f h c (λ e. let is = (column_mark d grid Cross h (omega arith)).row in let same = ap (row_of Cross d) e in absurd (omega arith))
    ∙ swept_before t d grid f c lt h (omega arith))

swept_after : (t : Table) (d : Diagram) → IsGrid d → (f : List ℕ) (c h k : ℕ) → c < size d → row_of Cross d c < h → h + k ≤ size d
    → get_or (swept t d f (h + k)) c 0 ≡ get_or (swept t d f h) c 0
swept_after t d grid f c h zero lt above le = ap (λ (i : ℕ). get_or (swept t d f i) c 0) (let e : h + 0 ≡ h = omega arith in e)
swept_after t d grid f c h (suc k) lt above le =
    ap (λ (i : ℕ). get_or (swept t d f i) c 0) (let e : h + suc k ≡ h + k + 1 = omega arith in e)
    ∙ (swept_other t d f (h + k) c (λ e. let is = (column_mark d grid Cross (h + k) (omega arith)).row in let same = ap (row_of Cross d) e in
    absurd (omega arith))
    ∙ swept_after t d grid f c h k lt above (omega arith))

-- the word leads from the feet to the colours of the strands at each height
pub swept_led : (t : Table) (d : Diagram) → IsGrid d → (f : List ℕ) → length f ≡ size d → (h : ℕ) → h ≤ size d
    → action t (letters_below d h) (map (λ c. get_or f c 0) (strands_at d 0)) ≡ map (λ c. get_or (swept t d f h) c 0) (strands_at d h)
swept_led t d grid f long =
    led t d (λ h. map (λ c. get_or (swept t d f h) c 0) (strands_at d h)) (size d)
    (λ r lt.
    let row = has_row d grid r lt in
    row_acts t d r (λ c. get_or (swept t d f r) c 0) (λ c. get_or (swept t d f (r + 1)) c 0) grid lt
    (λ c inside at other. swept_other t d f r c (λ e. let no : ◌≡◌ {A = Bool} true false = sym at ∙ (ap (is_strand d r) e ∙ row.cross_below) in absurd (cc)))
    (swept_here t d f r (let inside = row.cross_inside in omega arith)))

-- the colours of the strands above all rows are those below where the action fixes the feet
pub feet_return : (t : Table) (d : Diagram) → IsGrid d → (f : List ℕ) → length f ≡ size d
    → action t (word_of_diagram d).letters (map (λ c. get_or f c 0) (down_columns d)) ≡ map (λ c. get_or (swept t d f (size d)) c 0) (down_columns d)
feet_return t d grid f long =
    ap (λ (cs : List ℕ). action t (word_of_diagram d).letters (map (λ c. get_or f c 0) cs)) (sym (lowest_strands d))
    ∙ (swept_led t d grid f long (size d) (omega arith)
    ∙ ap (map (λ c. get_or (swept t d f (size d)) c 0)) (highest_strands d grid))

-- a strand of an up column begins below
up_begins : (d : Diagram) (r c : ℕ) → is_strand d r c ≡ true → is_up d c ≡ true → row_of Cross d c < r
up_begins d r c at up =
    let lt = ltb-true (row_of Cross d c) (row_of Ring d c) up in
    let both = sym (runs_up (row_of Cross d c) (row_of Ring d c) r lt) ∙ at in
    ltb-true (row_of Cross d c) r ((and_parts (nat_lt (row_of Cross d c) r) (nat_le r (row_of Ring d c)) both).0)

-- then the colours of the strands at each row are those at the end
strand_settled : (t : Table) (d : Diagram) → IsGrid d → (f : List ℕ)
    → map (λ c. get_or (swept t d f (size d)) c 0) (down_columns d) ≡ map (λ c. get_or f c 0) (down_columns d)
    → (r : ℕ) → r < size d → (c : ℕ) → c < size d → is_strand d r c ≡ true → get_or (swept t d f (size d)) c 0 ≡ get_or (swept t d f r) c 0
strand_settled t d grid f returned r lt c inside at = elim (cases_lt (row_of Cross d c) r) [
  | inl above ↦
      ap (λ (k : ℕ). get_or (swept t d f k) c 0) (let e : size d ≡ r + (size d - r) = omega arith in e)
      ∙ swept_after t d grid f c r (size d - r) inside above (omega arith)
  | inr ahead ↦
      passing_same (λ k. not (is_up d k)) (λ k. get_or (swept t d f (size d)) k 0) (λ k. get_or f k 0) 0 (size d) returned c (omega arith) (omega arith)
      (down (is_up d c) refl ahead)
      ∙ sym (swept_before t d grid f c inside r ahead)
]
  where
    down : (b : Bool) → is_up d c ≡ b → r ≤ row_of Cross d c → not b ≡ true
    down true e ahead = absurd (let begins = up_begins d r c at e in omega arith)
    down false e ahead = refl

-- a moved strand's colour hangs on those of the strands
moved_same : (t : Table) (d : Diagram) → IsGrid d → (e f : ℕ → ℕ) (r : ℕ) → r < size d → ((c : ℕ) → c < size d → is_strand d r c ≡ true → e c ≡ f c)
    → moved_colour t d e r ≡ moved_colour t d f r
moved_same t d grid e f r lt same =
    let row = has_ends d grid r lt in
    let within = row.within in
    let marks = has_row d grid r lt in
    ap₂ (λ (y : ℕ) (zs : List ℕ). cond (is_rightward d r) (fold (back t) y zs) (fold (over t) y (reverse zs)))
    (same (column_of Ring d r) marks.ring_inside marks.ring_below)
    (map_range (is_strand d r) e f ((ends d r).low + 1) ((ends d r).high - ((ends d r).low + 1)) (λ c least most at. same c (omega arith) at))

pub swept_arrives : (t : Table) (d : Diagram) → IsGrid d → (f : List ℕ) → length f ≡ size d
    → map (λ c. get_or (swept t d f (size d)) c 0) (down_columns d) ≡ map (λ c. get_or f c 0) (down_columns d)
    → Arrives t d (λ c. get_or (swept t d f (size d)) c 0)
swept_arrives t d grid f long returned = λ r lt.
    let row = has_row d grid r lt in
    let a = column_of Cross d r in
    let x = (column_mark d grid Cross r lt).row in
    moved_same t d grid (λ c. get_or (swept t d f (size d)) c 0) (λ c. get_or (swept t d f r) c 0) r lt (strand_settled t d grid f returned r lt)
    ∙ (sym (swept_here t d f r (let inside = row.cross_inside in omega arith))
    ∙ sym (ap (λ (k : ℕ). get_or (swept t d f k) a 0) (let e : size d ≡ r + 1 + (size d - (r + 1)) = omega arith in e)
    ∙ swept_after t d grid f a (r + 1) (size d - (r + 1)) row.cross_inside (omega arith) (omega arith)))

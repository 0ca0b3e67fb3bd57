-- The rows of the letters: they close exactly where the colours of the open columns follow the braid's action.
use Rattle.std.proofs.Common.{◌≡◌, ◌<◌, ◌≤◌, ◌+◌, ◌-◌, ◌∷◌, ◌++◌, ◌∙◌, inl, inr, [], ℕ, zero, suc, ℤ, pos, negsuc, List, length, take}
use Rattle.std.proofs.Common.{get_or, All, arith, sym, refl, ap, ap₂, subst}
use Rattle.std.specs.Prelude.{slice_index}
use Rattle.std.proofs.lemmas.List.Elements.{All-head, All-tail, All-nil, All-cons, All-get_or}
use Rattle.std.proofs.lemmas.Bool.{cases_eq}
use Rattle.braid_laws.proofs.Letters.{letter_stays}
use Rattle.grid_core.specs.Diagram.{IsGrid}
use Rattle.grid_core.specs.Parts.{ends}
use Rattle.quandle_core.specs.Quandle.{Table, IsQuandle, over, back}
use Rattle.colour_rows.specs.Walk.{walk}
use Rattle.braid_core.specs.Braid.{IsLetter}
use Rattle.braid_core.specs.Action.{IsTuple, colour_at, letter_action, action}
use Rattle.braid_closure.specs.declared.columns.Column.{Column}
use Rattle.braid_closure.specs.Columns.{diagram_of}
use Rattle.braid_closure.specs.Closure.{after_letter, after_letters}
use Rattle.braid_closure.proofs.Positions.{Pair}
use Rattle.braid_closure.proofs.Stages.{IsStage, EndsBelow, letter_pair, stage_letter, stage_x, stage_o, up_back}
use Rattle.braid_laws.proofs.Cut.{cut, cut_whole, cut_letters}
use Rattle.braid_laws.proofs.Walked.{colours_of}
use Rattle.braid_laws.proofs.Covered.{Rising}
use Rattle.braid_laws.proofs.Crossed.{positive_row, negative_row}
use Rattle.braid_laws.proofs.Strands.{open_colours, new_colour, open_mid, mid_low, mid_high, letter_tuple}

-- the row closes under a colouring by rows
abbrev pub Closes : Table → (ℕ → ℕ) → ℕ → List Column → Type 0
Closes t colour r columns =
    walk t (diagram_of columns) (colours_of colour columns) r ≡ slice_index (colours_of colour columns) (ends (diagram_of columns) r).high

pair_below : (r k : ℕ) (columns : List Column) (pair : Pair k columns) → All (λ (c : Column). c.x < r) columns → (pair.first.x < r) × (pair.second.x < r)
pair_below r k columns pair below =
    let rest =
    up_back (λ (c : Column). c.x < r) pair.left (pair.first ∷ (pair.between ++ pair.second ∷ pair.right))
    (subst (All (λ (c : Column). c.x < r)) pair.is below) in (
      All-head (λ (c : Column). c.x < r) pair.first (pair.between ++ pair.second ∷ pair.right) rest,
      All-head (λ (c : Column). c.x < r) pair.second pair.right
          (up_back (λ (c : Column). c.x < r) pair.between (pair.second ∷ pair.right)
          (All-tail (λ (c : Column). c.x < r) pair.first (pair.between ++ pair.second ∷ pair.right) rest)),
    )

-- a colouring by rows with colours of the quandle
pub record IsBelow (t : Table) (colour : ℕ → ℕ) (n : ℕ) : Type 0 where
  pub quandle : IsQuandle t
  pub below : (x : ℕ) → x < n → colour x < t.order

-- what is known of the closure's columns
pub record Parts (body behind : List Column) : Type 0 where
  pub grid : IsGrid (diagram_of (body ++ behind))
  pub rising : All Rising body

letter_closes : (t : Table) (colour : ℕ → ℕ) (n m r e : ℕ) (a : ℤ) (columns body behind : List Column) → IsBelow t colour n → r < n → IsLetter m a
    → IsStage m m r e columns → Parts body behind → cut r body ≡ after_letter a r columns → Closes t colour r (body ++ behind)
    → colour r ≡ new_colour t (open_colours colour columns) a
letter_closes t colour n m r e (pos k) columns body behind is lt letter stage parts cut_is closes =
    let pair = letter_pair m k r e columns stage letter.least letter.most in
    let low = pair_below r k columns pair (stage_x m m r e columns stage) in
    let reads = positive_row t colour r k columns body behind pair parts.grid parts.rising (stage_x m m r e columns stage) cut_is in
    let mid = open_mid colour k columns pair in
    let xs = open_colours colour columns in
    let ys = open_colours colour pair.left in
    let zs = open_colours colour pair.right in
    sym (is.quandle.over_back (colour r) (colour pair.first.x) (is.below r lt) (is.below pair.first.x (let at = low.0 in omega arith)))
    ∙ (ap (λ (z : ℕ). over t z (colour pair.first.x)) (sym reads.walks ∙ (closes ∙ reads.ends_at))
    ∙ sym (ap₂ (over t) (mid_high k xs ys (colour pair.first.x) (colour pair.second.x) zs mid)
    (mid_low k xs ys (colour pair.first.x) (colour pair.second.x) zs mid)))
letter_closes t colour n m r e (negsuc j) columns body behind is lt letter stage parts cut_is closes =
    let most = letter.most in
    let pair = letter_pair m (j + 1) r e columns stage (omega arith) (omega arith) in
    let reads = negative_row t colour r (j + 1) columns body behind pair parts.grid parts.rising (stage_x m m r e columns stage) cut_is in
    let mid = open_mid colour (j + 1) columns pair in
    let xs = open_colours colour columns in
    let ys = open_colours colour pair.left in
    let zs = open_colours colour pair.right in
    sym (sym reads.walks ∙ (closes ∙ reads.ends_at))
    ∙ sym (ap₂ (back t) (mid_low (j + 1) xs ys (colour pair.first.x) (colour pair.second.x) zs mid)
    (mid_high (j + 1) xs ys (colour pair.first.x) (colour pair.second.x) zs mid))

closes_letter : (t : Table) (colour : ℕ → ℕ) (n m r e : ℕ) (a : ℤ) (columns body behind : List Column) → IsBelow t colour n → r < n → IsLetter m a
    → IsStage m m r e columns → Parts body behind → cut r body ≡ after_letter a r columns → colour r ≡ new_colour t (open_colours colour columns) a
    → Closes t colour r (body ++ behind)
closes_letter t colour n m r e (pos k) columns body behind is lt letter stage parts cut_is made =
    let pair = letter_pair m k r e columns stage letter.least letter.most in
    let low = pair_below r k columns pair (stage_x m m r e columns stage) in
    let reads = positive_row t colour r k columns body behind pair parts.grid parts.rising (stage_x m m r e columns stage) cut_is in
    let mid = open_mid colour k columns pair in
    let xs = open_colours colour columns in
    let ys = open_colours colour pair.left in
    let zs = open_colours colour pair.right in
    reads.walks
    ∙ (ap (λ (z : ℕ). back t z (colour pair.first.x))
    (made ∙ ap₂ (over t) (mid_high k xs ys (colour pair.first.x) (colour pair.second.x) zs mid)
    (mid_low k xs ys (colour pair.first.x) (colour pair.second.x) zs mid))
    ∙ (is.quandle.back_over (colour pair.second.x) (colour pair.first.x) (is.below pair.second.x (let at = low.1 in omega arith))
    (is.below pair.first.x (let at = low.0 in omega arith))
    ∙ sym reads.ends_at))
closes_letter t colour n m r e (negsuc j) columns body behind is lt letter stage parts cut_is made =
    let most = letter.most in
    let pair = letter_pair m (j + 1) r e columns stage (omega arith) (omega arith) in
    let reads = negative_row t colour r (j + 1) columns body behind pair parts.grid parts.rising (stage_x m m r e columns stage) cut_is in
    let mid = open_mid colour (j + 1) columns pair in
    let xs = open_colours colour columns in
    let ys = open_colours colour pair.left in
    let zs = open_colours colour pair.right in
    reads.walks
    ∙ (sym (ap₂ (back t) (mid_low (j + 1) xs ys (colour pair.first.x) (colour pair.second.x) zs mid)
    (mid_high (j + 1) xs ys (colour pair.first.x) (colour pair.second.x) zs mid))
    ∙ (sym made ∙ sym reads.ends_at))

-- the colours of the rows from r on are those that the letters make of these colours
abbrev pub Follows : Table → (ℕ → ℕ) → ℕ → List ℕ → List ℤ → Type 0
Follows t colour r xs [] = Unit {0}
Follows t colour r xs (a ∷ letters) = (colour r ≡ new_colour t xs a) × Follows t colour (r + 1) (letter_action t xs a) letters

-- the part of the body at or below a letter's row
pub letter_cut : (m r e : ℕ) (a : ℤ) (letters : List ℤ) (columns body : List Column) → r ≡ m + e → All (IsLetter m) (a ∷ letters)
    → IsStage m m r e columns → ((s : ℕ) → s < r + length (a ∷ letters) → cut s body ≡ cut s (after_letters r columns (a ∷ letters)))
    → cut r body ≡ after_letter a r columns
letter_cut m r e a letters columns body r_is all stage cuts =
    let next = stage_letter m r e a columns r_is (All-head (IsLetter m) a letters all) stage in
    cuts r (omega arith)
    ∙ (cut_letters r m (r + 1) (e + 1) letters (after_letter a r columns) (omega arith) (omega arith) (All-tail (IsLetter m) a letters all) next
    ∙ cut_whole r (after_letter a r columns) (stage_x m m (r + 1) (e + 1) (after_letter a r columns) next)
    (subst (λ (z : ℕ). All (EndsBelow z) (after_letter a r columns)) (omega arith) (stage_o m m (r + 1) (e + 1) (after_letter a r columns) next)))

-- the rows of the letters close exactly where the colours follow
pub closes_follows : (t : Table) (colour : ℕ → ℕ) (n m r e : ℕ) (letters : List ℤ) (columns body behind : List Column) → IsBelow t colour n
    → r + length letters ≤ n → r ≡ m + e → All (IsLetter m) letters → IsStage m m r e columns → Parts body behind
    → ((s : ℕ) → s < r + length letters → cut s body ≡ cut s (after_letters r columns letters))
    → ((s : ℕ) → r ≤ s → s < r + length letters → Closes t colour s (body ++ behind)) → Follows t colour r (open_colours colour columns) letters
closes_follows t colour n m r e [] columns body behind is most r_is all stage parts cuts closes = tt
closes_follows t colour n m r e (a ∷ letters) columns body behind is most r_is all stage parts cuts closes =
    let letter = All-head (IsLetter m) a letters all in
    let made =
    letter_closes t colour n m r e a columns body behind is (omega arith) letter stage parts (letter_cut m r e a letters columns body r_is all stage cuts)
    (closes r (omega arith) (omega arith)) in (
      made,
      subst (λ (xs : List ℕ). Follows t colour (r + 1) xs letters) (letter_tuple t colour m r e a columns letter stage made)
          (closes_follows t colour n m (r + 1) (e + 1) letters (after_letter a r columns) body behind is (omega arith) (omega arith)
          (All-tail (IsLetter m) a letters all) (stage_letter m r e a columns r_is letter stage) parts
          (λ s lt. cuts s (omega arith)) (λ s from lt. closes s (omega arith) (omega arith))),
    )

pub follows_closes : (t : Table) (colour : ℕ → ℕ) (n m r e : ℕ) (letters : List ℤ) (columns body behind : List Column) → IsBelow t colour n
    → r + length letters ≤ n → r ≡ m + e → All (IsLetter m) letters → IsStage m m r e columns → Parts body behind
    → ((s : ℕ) → s < r + length letters → cut s body ≡ cut s (after_letters r columns letters))
    → Follows t colour r (open_colours colour columns) letters → (s : ℕ) → r ≤ s → s < r + length letters → Closes t colour s (body ++ behind)
follows_closes t colour n m r e [] columns body behind is most r_is all stage parts cuts follows s from lt = absurd (omega arith)
follows_closes t colour n m r e (a ∷ letters) columns body behind is most r_is all stage parts cuts follows s from lt = elim (cases_eq s r) [
  | inl same ↦ subst (λ (z : ℕ). Closes t colour z (body ++ behind)) (sym same)
      (closes_letter t colour n m r e a columns body behind is (omega arith) (All-head (IsLetter m) a letters all) stage parts
      (letter_cut m r e a letters columns body r_is all stage cuts) follows.0)
  | inr other ↦
      let letter = All-head (IsLetter m) a letters all in
      follows_closes t colour n m (r + 1) (e + 1) letters (after_letter a r columns) body behind is (omega arith) (omega arith)
      (All-tail (IsLetter m) a letters all) (stage_letter m r e a columns r_is letter stage) parts
      (λ z low. cuts z (omega arith))
      (subst (λ (xs : List ℕ). Follows t colour (r + 1) xs letters) (sym (letter_tuple t colour m r e a columns letter stage follows.0)) follows.1)
      s (omega (arith, other)) (omega arith)
]

-- then the open columns' colours are the image under the letters so far
pub follows_action : (t : Table) (colour : ℕ → ℕ) (m r e : ℕ) (letters : List ℤ) (columns : List Column) → r ≡ m + e → All (IsLetter m) letters
    → IsStage m m r e columns → Follows t colour r (open_colours colour columns) letters
    → open_colours colour (after_letters r columns letters) ≡ action t letters (open_colours colour columns)
follows_action t colour m r e [] columns r_is all stage follows = refl
follows_action t colour m r e (a ∷ letters) columns r_is all stage follows =
    let letter = All-head (IsLetter m) a letters all in
    let step = letter_tuple t colour m r e a columns letter stage follows.0 in
    follows_action t colour m (r + 1) (e + 1) letters (after_letter a r columns) (omega arith) (All-tail (IsLetter m) a letters all)
    (stage_letter m r e a columns r_is letter stage)
    (subst (λ (xs : List ℕ). Follows t colour (r + 1) xs letters) (sym step) follows.1)
    ∙ ap (action t letters) step

-- the first letters of those that are followed are followed
pub follows_front : (t : Table) (colour : ℕ → ℕ) (r i : ℕ) (xs : List ℕ) (letters : List ℤ) → Follows t colour r xs letters
    → Follows t colour r xs (take i letters)
follows_front t colour r zero xs letters follows = tt
follows_front t colour r (suc i) xs [] follows = tt
follows_front t colour r (suc i) xs (a ∷ letters) follows = (follows.0, follows_front t colour (r + 1) i (letter_action t xs a) letters follows.1)

-- two colourings by rows that follow from the same colours agree
pub follows_agree : (t : Table) (colour other : ℕ → ℕ) (r : ℕ) (xs : List ℕ) (letters : List ℤ) → Follows t colour r xs letters
    → Follows t other r xs letters → (s : ℕ) → r ≤ s → s < r + length letters → colour s ≡ other s
follows_agree t colour other r xs [] one two s from lt = absurd (omega arith)
follows_agree t colour other r xs (a ∷ letters) one two s from lt = elim (cases_eq s r) [
  | inl same ↦ ap colour same ∙ (one.0 ∙ (sym two.0 ∙ ap other (sym same)))
  | inr apart ↦ follows_agree t colour other (r + 1) (letter_action t xs a) letters one.1 two.1 s (omega (arith, apart)) (omega arith)
]

-- the colours that the letters make, in turn
abbrev pub made_colours : Table → List ℕ → List ℤ → List ℕ
made_colours t xs [] = []
made_colours t xs (a ∷ letters) = new_colour t xs a ∷ made_colours t (letter_action t xs a) letters

pub made_follows : (t : Table) (colour : ℕ → ℕ) (r : ℕ) (xs : List ℕ) (letters : List ℤ)
    → ((i : ℕ) → i < length letters → colour (r + i) ≡ get_or (made_colours t xs letters) i 0) → Follows t colour r xs letters
made_follows t colour r xs [] made = tt
made_follows t colour r xs (a ∷ letters) made = (
  ap colour (let e : r ≡ r + 0 = omega arith in e) ∙ made 0 (omega arith),
  made_follows t colour (r + 1) (letter_action t xs a) letters
      (λ i lt. ap colour (let e : r + 1 + i ≡ r + suc i = omega arith in e) ∙ made (suc i) (omega arith)),
)

pub made_length : (t : Table) (xs : List ℕ) (letters : List ℤ) → length (made_colours t xs letters) ≡ length letters
made_length t xs [] = refl
made_length t xs (a ∷ letters) = ap suc (made_length t (letter_action t xs a) letters)

made_one : (t : Table) → IsQuandle t → (m : ℕ) (a : ℤ) → IsLetter m a → (xs : List ℕ) → IsTuple t m xs → new_colour t xs a < t.order
made_one t q m (pos k) letter xs tuple =
    let least = letter.least in
    let most = letter.most in
    let long = tuple.0 in
    q.within (colour_at xs (k + 1)) (colour_at xs k) (All-get_or (λ y. y < t.order) xs (k + 1 - 1) 0 (omega arith) tuple.1)
    (All-get_or (λ y. y < t.order) xs (k - 1) 0 (omega arith) tuple.1)
made_one t q m (negsuc n) letter xs tuple =
    let most = letter.most in
    let long = tuple.0 in
    q.back_within (colour_at xs (n + 1)) (colour_at xs (n + 1 + 1)) (All-get_or (λ y. y < t.order) xs (n + 1 - 1) 0 (omega arith) tuple.1)
    (All-get_or (λ y. y < t.order) xs (n + 1 + 1 - 1) 0 (omega arith) tuple.1)

pub made_below : (t : Table) → IsQuandle t → (m : ℕ) (letters : List ℤ) → All (IsLetter m) letters → (xs : List ℕ) → IsTuple t m xs
    → All (λ y. y < t.order) (made_colours t xs letters)
made_below t q m [] all xs tuple = All-nil (λ y. y < t.order)
made_below t q m (a ∷ letters) all xs tuple =
    let letter = All-head (IsLetter m) a letters all in
    All-cons (λ y. y < t.order) (new_colour t xs a) (made_colours t (letter_action t xs a) letters) (made_one t q m a letter xs tuple)
    (made_below t q m letters (All-tail (IsLetter m) a letters all) (letter_action t xs a) (letter_stays t q m a letter xs tuple))

-- Where each strand arrives in the colour of its new column, the word leads from the colours below all rows to those at each height.
use Rattle.std.proofs.Common.{◌≡◌, ◌<◌, ◌≤◌, ◌+◌, ◌-◌, ◌∷◌, ◌++◌, ◌∙◌, [], ℕ, zero, suc, ℤ, List, true, not, All, length, map, arith, sym, refl, ap, subst}
use Rattle.std.specs.List.{range_with_len, flat_map}
use Rattle.std.proofs.lemmas.List.{append-nil}
use Rattle.std.proofs.lemmas.List.Concat.{flat_map-append}
use Rattle.std.proofs.lemmas.List.Elements.{All-nil, All-same, All-append}
use Rattle.std.proofs.lemmas.List.Sums.{fold-append}
use Rattle.grid_core.specs.declared.mark.Kind.TheVariants.{Cross, Ring}
use Rattle.grid_core.specs.Diagram.{Diagram, IsGrid, size, row_of}
use Rattle.grid_core.specs.Parts.{column_of, is_up}
use Rattle.grid_core.proofs.Marks.{row_below, no_cell_twice}
use Rattle.quandle_core.specs.Quandle.{Table}
use Rattle.braid_core.specs.Braid.{IsLetter}
use Rattle.braid_core.specs.Action.{letter_action, action}
use Rattle.grid_braid.specs.Strands.{is_strand, strands_at, down_columns}
use Rattle.grid_braid.specs.Word.{row_letters, letters_below, word_of_diagram, IsWord}
use Rattle.grid_braid.specs.Sweep.{moved_colour}
use Rattle.grid_braid.proofs.Ranges.{filter_range, passing_all, passing_same}
use Rattle.grid_braid.proofs.Heights.{runs_lowest, runs_highest, above_cross}
use Rattle.grid_braid.proofs.Rows.{row_acts, row_counts, row_word}
use Rattle.grid_core.proofs.OneEach.{range_next}

-- the strands below and above all rows
pub lowest_strands : (d : Diagram) → strands_at d 0 ≡ down_columns d
lowest_strands d =
    passing_all (is_strand d 0) (size d)
    ∙ filter_range (is_strand d 0) (λ c. not (is_up d c)) 0 (size d) (λ c least most. runs_lowest (row_of Cross d c) (row_of Ring d c))

pub highest_strands : (d : Diagram) → IsGrid d → strands_at d (size d) ≡ down_columns d
highest_strands d grid =
    passing_all (is_strand d (size d)) (size d)
    ∙ filter_range (is_strand d (size d)) (λ c. not (is_up d c)) 0 (size d)
    (λ c least most. runs_highest (row_of Cross d c) (row_of Ring d c) (size d) (row_below d grid Cross c (omega arith))
    (row_below d grid Ring c (omega arith)))

pub letters_more : (d : Diagram) (h : ℕ) → letters_below d (h + 1) ≡ letters_below d h ++ row_letters d h
letters_more d h =
    ap (flat_map (row_letters d)) (range_next h)
    ∙ (flat_map-append (row_letters d) (range_with_len 0 h) (h ∷ []) ∙ ap (λ (ls : List ℤ). letters_below d h ++ ls) (append-nil (row_letters d h)))

action_more : (t : Table) (d : Diagram) (h : ℕ) (xs ys zs : List ℕ) → action t (letters_below d h) xs ≡ ys → action t (row_letters d h) ys ≡ zs
    → action t (letters_below d (h + 1)) xs ≡ zs
action_more t d h xs ys zs before row =
    ap (λ (ls : List ℤ). action t ls xs) (letters_more d h)
    ∙ (fold-append (letter_action t) xs (letters_below d h) (row_letters d h) ∙ (ap (action t (row_letters d h)) before ∙ row))

-- colours of the strands at each height that the rows lead from one to the next
pub led : (t : Table) (d : Diagram) (at : ℕ → List ℕ) (n : ℕ) → ((r : ℕ) → r < n → action t (row_letters d r) (at r) ≡ at (r + 1)) → (h : ℕ) → h ≤ n
    → action t (letters_below d h) (at 0) ≡ at h
led t d at n rows zero le = refl
led t d at n rows (suc h) le =
    subst (λ (k : ℕ). action t (letters_below d k) (at 0) ≡ at k) (let e : h + 1 ≡ suc h = omega arith in e)
    (action_more t d h (at 0) (at h) (at (h + 1)) (led t d at n rows h (omega arith)) (rows h (omega arith)))

-- each strand arrives in the colour of its new column
abbrev pub Arrives : Table → Diagram → (ℕ → ℕ) → Type 0
Arrives t d e = (r : ℕ) → r < size d → moved_colour t d e r ≡ e (column_of Cross d r)

pub followed : (t : Table) (d : Diagram) → IsGrid d → (e : ℕ → ℕ) → Arrives t d e → (h : ℕ) → h ≤ size d
    → action t (letters_below d h) (map e (strands_at d 0)) ≡ map e (strands_at d h)
followed t d grid e arrives =
    led t d (λ h. map e (strands_at d h)) (size d) (λ r lt. row_acts t d r e e grid lt (λ c inside at other. refl) (sym (arrives r lt)))

-- the same number of strands at each height, and letters of so many
pub strand_count : (d : Diagram) → IsGrid d → (h : ℕ) → h ≤ size d → length (strands_at d h) ≡ length (down_columns d)
strand_count d grid zero le = ap length (lowest_strands d)
strand_count d grid (suc h) le =
    ap (λ (k : ℕ). length (strands_at d k)) (let e : suc h ≡ h + 1 = omega arith in e)
    ∙ (row_counts d h grid (omega arith) ∙ strand_count d grid h (omega arith))

pub letters_fit : (d : Diagram) → IsGrid d → (h : ℕ) → h ≤ size d → All (IsLetter (length (down_columns d))) (letters_below d h)
letters_fit d grid zero le = All-nil (IsLetter (length (down_columns d)))
letters_fit d grid (suc h) le =
    let m = length (down_columns d) in
    All-same (IsLetter m) (letters_below d (suc h)) (letters_below d h ++ row_letters d h)
    (ap (letters_below d) (let e : suc h ≡ h + 1 = omega arith in e) ∙ letters_more d h)
    (All-append (IsLetter m) (letters_below d h) (row_letters d h) (letters_fit d grid h (omega arith))
    (row_word d h m grid (omega arith) (strand_count d grid h (omega arith))))

pub word_fits : (d : Diagram) → IsGrid d → IsWord (word_of_diagram d)
word_fits d grid = letters_fit d grid (size d) (omega arith)

-- the strand of a column is there directly above the column's X
pub strand_above_cross : (d : Diagram) → IsGrid d → (c : ℕ) → c < size d → is_strand d (row_of Cross d c + 1) c ≡ true
strand_above_cross d grid c lt = above_cross (row_of Cross d c) (row_of Ring d c) (no_cell_twice d grid c lt)

-- colours that arrive are known from those below all rows
pub same_arrivals : (t : Table) (d : Diagram) → IsGrid d → (e f : ℕ → ℕ) → Arrives t d e → Arrives t d f
    → map e (down_columns d) ≡ map f (down_columns d) → (c : ℕ) → c < size d → e c ≡ f c
same_arrivals t d grid e f arrive_e arrive_f same c lt =
    let x_in = row_below d grid Cross c lt in
    let h = row_of Cross d c + 1 in
    passing_same (is_strand d h) e f 0 (size d - 0)
    (sym (followed t d grid e arrive_e h (omega arith))
    ∙ (ap (action t (letters_below d h)) (ap (map e) (lowest_strands d) ∙ (same ∙ ap (map f) (sym (lowest_strands d))))
    ∙ followed t d grid f arrive_f h (omega arith)))
    c (omega arith) (omega arith) (strand_above_cross d grid c lt)

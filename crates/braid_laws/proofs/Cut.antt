-- The part of the columns at or below a row: it stays as it is while the rows above are built.
use Rattle.std.proofs.Common.{◌≡◌, ◌<◌, ◌≤◌, ◌+◌, ◌∷◌, ◌++◌, ◌∙◌, [], ℕ, zero, suc, ℤ, pos, negsuc, List, Bool, true, false, cond, Option}
use Rattle.std.proofs.Common.{Some, None, All, arith, sym, refl, ap, ap₂, nat_lt, nat_le}
use Rattle.std.specs.List.{flat_map}
use Rattle.std.proofs.lemmas.Bool.{lt-ltb, le-ltb, le-leb, lt-leb}
use Rattle.std.proofs.lemmas.Option.{none-some}
use Rattle.std.proofs.lemmas.Grind.{flat_map-append}
use Rattle.std.proofs.lemmas.List.Elements.{All-head, All-tail}
use Rattle.braid_core.specs.Braid.{IsLetter}
use Rattle.braid_closure.specs.declared.columns.Column.{Column}
use Rattle.braid_closure.specs.Columns.{begun, ended, is_open, at_position}
use Rattle.braid_closure.specs.Closure.{positive_columns, negative_columns, after_letter, after_letters, ended_at_the_top, top_row}
use Rattle.braid_closure.proofs.Positions.{Pair, positive_is, negative_is}
use Rattle.braid_closure.proofs.Stages.{IsStage, EndsBelow, open_none, letter_pair, stage_as, stage_letter}
use Rattle.braid_closure.proofs.Grids.{top_split, ended_at_top_is, stage_top}

abbrev pub cut_row : ℕ → Option ℕ → Option ℕ
cut_row r None = None
cut_row r (Some s) = cond (nat_lt r s) None (Some s)

-- nothing of a column that begins above row r, and the others without an O above it
abbrev pub cut_column : ℕ → Column → List Column
cut_column r c = cond (nat_le c.x r) (record { x = c.x; o = cut_row r c.o } ∷ []) []

abbrev pub cut : ℕ → List Column → List Column
cut r columns = flat_map (cut_column r) columns

pub cut_append : (r : ℕ) (left right : List Column) → cut r (left ++ right) ≡ cut r left ++ cut r right
cut_append r left right = flat_map-append (cut_column r) left right

cut_begun : (r s : ℕ) → r < s → cut_column r (begun s) ≡ []
cut_begun r s lt = ap (λ (b : Bool). cond {A = List Column} b (record { x = s; o = None } ∷ []) []) (lt-leb s r lt)

cut_ended : (r s : ℕ) (c : Column) → is_open c ≡ true → r < s → cut_column r (ended s c) ≡ cut_column r c
cut_ended r s c open_c lt =
    ap (λ (o : Option ℕ). cond {A = List Column} (nat_le c.x r) (record { x = c.x; o = o } ∷ []) [])
    (ap (λ (b : Bool). cond {A = Option ℕ} b None (Some s)) (lt-ltb r s lt) ∙ ap (cut_row r) (sym (open_none c open_c)))

-- what lies at or below row r is left whole
whole_row : (r : ℕ) (o : Option ℕ) → ((s : ℕ) → o ≡ Some s → s < r + 1) → cut_row r o ≡ o
whole_row r None below = refl
whole_row r (Some s) below = ap (λ (b : Bool). cond {A = Option ℕ} b None (Some s)) (le-ltb r s (let lt = below s refl in omega arith))

pub cut_whole : (r : ℕ) (columns : List Column) → All (λ (c : Column). c.x < r + 1) columns → All (EndsBelow (r + 1)) columns → cut r columns ≡ columns
cut_whole r [] xs os = refl
cut_whole r (c ∷ columns) xs os =
    ap₂ (λ (b : Bool) (o : Option ℕ). cond {A = List Column} b (record { x = c.x; o = o } ∷ []) [] ++ cut r columns)
    (le-leb c.x r (let lt = All-head (λ (d : Column). d.x < r + 1) c columns xs in omega arith))
    (whole_row r c.o (All-head (EndsBelow (r + 1)) c columns os))
    ∙ ap (λ (zs : List Column). c ∷ zs) (cut_whole r columns (All-tail (λ (d : Column). d.x < r + 1) c columns xs) (All-tail (EndsBelow (r + 1)) c columns os))

-- the rows above leave it as it is
cut_positive : (s r k : ℕ) (columns : List Column) → s < r → (pair : Pair k columns) → cut s (positive_columns k r columns) ≡ cut s columns
cut_positive s r k columns lt pair =
    ap (cut s) (positive_is k r columns pair)
    ∙ (cut_append s pair.left (begun r ∷ pair.first ∷ (pair.between ++ ended r pair.second ∷ pair.right))
    ∙ (ap (λ (zs : List Column). cut s pair.left ++ (zs ++ cut s (pair.first ∷ (pair.between ++ ended r pair.second ∷ pair.right)))) (cut_begun s r lt)
    ∙ (ap (λ (zs : List Column). cut s pair.left ++ (cut_column s pair.first ++ zs))
    (cut_append s pair.between (ended r pair.second ∷ pair.right)
    ∙ (ap (λ (zs : List Column). cut s pair.between ++ (zs ++ cut s pair.right)) (cut_ended s r pair.second pair.second_open lt)
    ∙ sym (cut_append s pair.between (pair.second ∷ pair.right))))
    ∙ (sym (cut_append s pair.left (pair.first ∷ (pair.between ++ pair.second ∷ pair.right)))
    ∙ ap (cut s) (sym pair.is)))))

cut_negative : (s r k : ℕ) (columns : List Column) → s < r → (pair : Pair k columns) → cut s (negative_columns k r columns) ≡ cut s columns
cut_negative s r k columns lt pair =
    ap (cut s) (negative_is k r columns pair)
    ∙ (cut_append s pair.left (ended r pair.first ∷ (pair.between ++ pair.second ∷ begun r ∷ pair.right))
    ∙ (ap (λ (zs : List Column). cut s pair.left ++ (zs ++ cut s (pair.between ++ pair.second ∷ begun r ∷ pair.right)))
    (cut_ended s r pair.first pair.first_open lt)
    ∙ (ap (λ (zs : List Column). cut s pair.left ++ (cut_column s pair.first ++ zs))
    (cut_append s pair.between (pair.second ∷ begun r ∷ pair.right)
    ∙ (ap (λ (zs : List Column). cut s pair.between ++ (cut_column s pair.second ++ (zs ++ cut s pair.right))) (cut_begun s r lt)
    ∙ sym (cut_append s pair.between (pair.second ∷ pair.right))))
    ∙ (sym (cut_append s pair.left (pair.first ∷ (pair.between ++ pair.second ∷ pair.right)))
    ∙ ap (cut s) (sym pair.is)))))

pub cut_letter : (s m r e : ℕ) (a : ℤ) (columns : List Column) → s < r → IsLetter m a → IsStage m m r e columns
    → cut s (after_letter a r columns) ≡ cut s columns
cut_letter s m r e (pos k) columns lt letter stage = cut_positive s r k columns lt (letter_pair m k r e columns stage letter.least letter.most)
cut_letter s m r e (negsuc n) columns lt letter stage =
    let most = letter.most in
    cut_negative s r (n + 1) columns lt (letter_pair m (n + 1) r e columns stage (omega arith) (omega arith))

pub cut_letters : (s m r e : ℕ) (letters : List ℤ) (columns : List Column) → s < r → r ≡ m + e → All (IsLetter m) letters → IsStage m m r e columns
    → cut s (after_letters r columns letters) ≡ cut s columns
cut_letters s m r e [] columns lt r_is all stage = refl
cut_letters s m r e (a ∷ letters) columns lt r_is all stage =
    cut_letters s m (r + 1) (e + 1) letters (after_letter a r columns) (omega arith) (omega arith) (All-tail (IsLetter m) a letters all)
    (stage_letter m r e a columns r_is (All-head (IsLetter m) a letters all) stage)
    ∙ cut_letter s m r e a columns lt (All-head (IsLetter m) a letters all) stage

pub cut_top : (s m n i r e : ℕ) (columns : List Column) → s < m + e → i + 1 + (m + e) ≡ n → IsStage m (i + 1) r e columns
    → cut s (at_position (i + 1) (λ c. ended (top_row n (i + 1)) c ∷ []) columns) ≡ cut s columns
cut_top s m n i r e columns lt n_is stage =
    let split = top_split m n i r e columns n_is stage in
    ap (cut s) (ended_at_top_is m n i r e columns n_is split)
    ∙ (cut_append s split.left (ended (m + e) split.here ∷ split.right)
    ∙ (ap (λ (zs : List Column). cut s split.left ++ (zs ++ cut s split.right)) (cut_ended s (m + e) split.here split.stands_open lt)
    ∙ (sym (cut_append s split.left (split.here ∷ split.right))
    ∙ ap (cut s) (sym split.is))))

pub cut_ended_at_top : (s m n j r e : ℕ) (columns : List Column) → s < m + e → j + (m + e) ≡ n → r ≤ m + e → IsStage m j r e columns
    → cut s (ended_at_the_top n j columns) ≡ cut s columns
cut_ended_at_top s m n zero r e columns lt n_is below stage = refl
cut_ended_at_top s m n (suc i) r e columns lt n_is below stage =
    let one = stage_as m (suc i) (i + 1) r r e e columns columns refl (omega arith) refl refl stage in
    cut_ended_at_top s m n i r (e + 1) (at_position (i + 1) (λ c. ended (top_row n (i + 1)) c ∷ []) columns) (omega arith) (omega arith) (omega arith)
    (stage_top m n i r e columns (omega arith) below one)
    ∙ cut_top s m n i r e columns lt (omega arith) one

-- the column of which a column in the part that is cut off is what is left
pub record CutSplit (r : ℕ) (columns before : List Column) (c : Column) (after : List Column) : Type 0 where
  pub left : List Column
  pub here : Column
  pub right : List Column
  pub is : columns ≡ left ++ here ∷ right
  pub cut_left : cut r left ≡ before
  pub cut_here : cut_column r here ≡ c ∷ []
  pub cut_right : cut r right ≡ after

-- the case of a first column, by what is left of it
split_more : (r : ℕ) (d : Column) (columns before : List Column) (c : Column) (after part : List Column) → cut_column r d ≡ part
    → CutSplit r columns before c after → CutSplit r (d ∷ columns) (part ++ before) c after
split_more r d columns before c after part part_is split = record {
  left = d ∷ split.left;
  here = split.here;
  right = split.right;
  is = ap (λ (zs : List Column). d ∷ zs) split.is;
  cut_left = ap₂ (λ (us vs : List Column). us ++ vs) part_is split.cut_left;
  cut_here = split.cut_here;
  cut_right = split.cut_right;
}

left_of : ℕ → Column → Column
left_of r d = record { x = d.x; o = cut_row r d.o }

none_left : (r : ℕ) (d : Column) → nat_le d.x r ≡ false → cut_column r d ≡ []
none_left r d e = ap (λ (b : Bool). cond {A = List Column} b (record { x = d.x; o = cut_row r d.o } ∷ []) []) e

one_left : (r : ℕ) (d : Column) → nat_le d.x r ≡ true → cut_column r d ≡ left_of r d ∷ []
unfolding left_of
one_left r d e = ap (λ (b : Bool). cond {A = List Column} b (record { x = d.x; o = cut_row r d.o } ∷ []) []) e

heads : (a b : Column) (xs ys : List Column) → a ∷ xs ≡ b ∷ ys → (a ≡ b) × (xs ≡ ys)
heads a b xs ys e = (cc, cc)

split_left : (r : ℕ) (d : Column) (columns before : List Column) (c : Column) (after : List Column) (b : Bool) → nat_le d.x r ≡ b
    → ((rest : List Column) → cut r columns ≡ rest ++ c ∷ after → CutSplit r columns rest c after) → cut r (d ∷ columns) ≡ before ++ c ∷ after
    → CutSplit r (d ∷ columns) before c after
split_left r d columns before c after false is rest e =
    split_more r d columns before c after [] (none_left r d is) (rest before (sym (ap (λ (zs : List Column). zs ++ cut r columns) (none_left r d is)) ∙ e))
split_left r d columns [] c after true is rest e =
    let both = heads (left_of r d) c (cut r columns) after (sym (ap (λ (zs : List Column). zs ++ cut r columns) (one_left r d is)) ∙ e) in
    record {
      left = [];
      here = d;
      right = columns;
      is = refl;
      cut_left = refl;
      cut_here = one_left r d is ∙ ap (λ (z : Column). z ∷ []) both.0;
      cut_right = both.1;
    }
split_left r d columns (b ∷ before) c after true is rest e =
    let both = heads (left_of r d) b (cut r columns) (before ++ c ∷ after) (sym (ap (λ (zs : List Column). zs ++ cut r columns) (one_left r d is)) ∙ e) in
    split_more r d columns before c after (b ∷ []) (one_left r d is ∙ ap (λ (z : Column). z ∷ []) both.0) (rest before both.1)

pub cut_split : (r : ℕ) (columns before : List Column) (c : Column) (after : List Column) → cut r columns ≡ before ++ c ∷ after
    → CutSplit r columns before c after
cut_split r [] [] c after e = absurd (let no : ◌≡◌ {A = List Column} [] (c ∷ after) = e in cc)
cut_split r [] (b ∷ before) c after e = absurd (let no : ◌≡◌ {A = List Column} [] (b ∷ (before ++ c ∷ after)) = e in cc)
cut_split r (d ∷ columns) before c after e = split_left r d columns before c after (nat_le d.x r) refl (λ rest h. cut_split r columns rest c after h) e

-- what is known of a column by what is left of it
row_from_cut : (r s : ℕ) (o : Option ℕ) → cut_row r o ≡ Some s → o ≡ Some s
row_from_cut r s None e = e
row_from_cut r s (Some z) e = row_by (nat_lt r z) refl e
  where
    row_by : (b : Bool) → nat_lt r z ≡ b → cond b None (Some z) ≡ Some s → ◌≡◌ {A = Option ℕ} (Some z) (Some s)
    row_by true is h = absurd (none-some s h)
    row_by false is h = h

here_by : (r : ℕ) (d c : Column) (b : Bool) → nat_le d.x r ≡ b → cut_column r d ≡ c ∷ [] → left_of r d ≡ c
here_by r d c true is e = (heads (left_of r d) c [] [] (sym (one_left r d is) ∙ e)).0
here_by r d c false is e = absurd (let no : ◌≡◌ {A = List Column} [] (c ∷ []) = sym (none_left r d is) ∙ e in cc)

pub here_x : (r : ℕ) (d c : Column) → cut_column r d ≡ c ∷ [] → d.x ≡ c.x
unfolding left_of
here_x r d c e = ap (λ (z : Column). z.x) (here_by r d c (nat_le d.x r) refl e)

pub here_o : (r s : ℕ) (d c : Column) → cut_column r d ≡ c ∷ [] → c.o ≡ Some s → d.o ≡ Some s
unfolding left_of
here_o r s d c e o_is = row_from_cut r s d.o (ap (λ (z : Column). z.o) (here_by r d c (nat_le d.x r) refl e) ∙ o_is)

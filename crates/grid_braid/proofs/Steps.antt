-- One column more: counts, lists and folds over the columns that pass a test.
use Rattle.std.proofs.Common.{◌≡◌, ◌<◌, ◌≤◌, ◌+◌, ◌-◌, ◌∷◌, ◌++◌, ◌∙◌, [], ℕ, List, Bool, true, false, cond, length, map, filter, fold}
use Rattle.std.proofs.Common.{reverse, arith, sym, refl, ap, length-append}
use Rattle.std.specs.List.{range_with_len}
use Rattle.std.proofs.lemmas.List.{append-nil, map-append, reverse-append}
use Rattle.std.proofs.lemmas.List.Elements.{filter-append}
use Rattle.std.proofs.lemmas.List.Sums.{fold-append}
use Rattle.grid_braid.proofs.Ranges.{passing, passing_all, passing_cut, passing_first, passing_last}
use Rattle.grid_core.proofs.OneEach.{range_next}

-- the column next to the last one
pub counted_in : (p : ℕ → Bool) (from to n : ℕ) → from ≤ to → p to ≡ true → n ≡ length (passing p from to) → n + 1 ≡ length (passing p from (to + 1))
counted_in p from to n le passes is =
    ap (λ (k : ℕ). k + 1) is
    ∙ (sym (length-append (passing p from to) (to ∷ []))
    ∙ ap length (sym (passing_last p from to le ∙ ap (λ (b : Bool). passing p from to ++ cond b (to ∷ []) []) passes)))

pub counted_out : (p : ℕ → Bool) (from to n : ℕ) → from ≤ to → p to ≡ false → n ≡ length (passing p from to) → n ≡ length (passing p from (to + 1))
counted_out p from to n le fails is =
    is ∙ ap length (sym (passing_last p from to le ∙ (ap (λ (b : Bool). passing p from to ++ cond b (to ∷ []) []) fails ∙ append-nil (passing p from to))))

pub filter_last : (p : ℕ → Bool) (n : ℕ) (b : Bool) → p n ≡ b → filter p (range_with_len 0 (n + 1)) ≡ filter p (range_with_len 0 n) ++ cond b (n ∷ []) []
filter_last p n b is =
    ap (filter p) (range_next n)
    ∙ (filter-append p (range_with_len 0 n) (n ∷ []) ∙ ap (λ (s : Bool). filter p (range_with_len 0 n) ++ cond s (n ∷ []) []) is)

pub map_in : (f : ℕ → ℕ) (p : ℕ → Bool) (n : ℕ) (xs : List ℕ) → p n ≡ true → xs ≡ map f (filter p (range_with_len 0 n))
    → xs ++ f n ∷ [] ≡ map f (filter p (range_with_len 0 (n + 1)))
map_in f p n xs passes is =
    ap (λ (ys : List ℕ). ys ++ f n ∷ []) is
    ∙ (sym (map-append f (filter p (range_with_len 0 n)) (n ∷ [])) ∙ ap (map f) (sym (filter_last p n true passes)))

pub filter_out : (p : ℕ → Bool) (n : ℕ) → p n ≡ false → filter p (range_with_len 0 (n + 1)) ≡ filter p (range_with_len 0 n)
filter_out p n fails = filter_last p n false fails ∙ append-nil (filter p (range_with_len 0 n))

-- a fold from the left
pub fold_in : {B : Type 0} (op : B → ℕ → B) (p : ℕ → Bool) (from to : ℕ) (a : B) → from ≤ to → p to ≡ true
    → fold op a (passing p from (to + 1)) ≡ op (fold op a (passing p from to)) to
fold_in op p from to a le passes =
    ap (fold op a) (passing_last p from to le ∙ ap (λ (b : Bool). passing p from to ++ cond b (to ∷ []) []) passes)
    ∙ fold-append op a (passing p from to) (to ∷ [])

pub fold_out : {B : Type 0} (op : B → ℕ → B) (p : ℕ → Bool) (from to : ℕ) (a : B) → from ≤ to → p to ≡ false
    → fold op a (passing p from (to + 1)) ≡ fold op a (passing p from to)
fold_out op p from to a le fails =
    ap (fold op a) (passing_last p from to le ∙ (ap (λ (b : Bool). passing p from to ++ cond b (to ∷ []) []) fails ∙ append-nil (passing p from to)))

-- a fold from the right
pub back_in : {B : Type 0} (op : B → ℕ → B) (p : ℕ → Bool) (from to : ℕ) (a : B) → from < to → p from ≡ true
    → fold op a (reverse (passing p from to)) ≡ op (fold op a (reverse (passing p (from + 1) to))) from
back_in op p from to a lt passes =
    ap (λ (zs : List ℕ). fold op a (reverse zs)) (passing_first p from to lt ∙ ap (λ (b : Bool). cond b (from ∷ []) [] ++ passing p (from + 1) to) passes)
    ∙ (ap (fold op a) (reverse-append (from ∷ []) (passing p (from + 1) to)) ∙ fold-append op a (reverse (passing p (from + 1) to)) (from ∷ []))

pub back_out : {B : Type 0} (op : B → ℕ → B) (p : ℕ → Bool) (from to : ℕ) (a : B) → from < to → p from ≡ false
    → fold op a (reverse (passing p from to)) ≡ fold op a (reverse (passing p (from + 1) to))
back_out op p from to a lt fails =
    ap (λ (zs : List ℕ). fold op a (reverse zs)) (passing_first p from to lt ∙ ap (λ (b : Bool). cond b (from ∷ []) [] ++ passing p (from + 1) to) fails)

-- of the numbers that a map gives
pub fold_mapped : (op : ℕ → ℕ → ℕ) (e : ℕ → ℕ) (a : ℕ) (zs : List ℕ) → fold op a (map e zs) ≡ fold (λ x c. op x (e c)) a zs
fold_mapped op e a [] = refl
fold_mapped op e a (z ∷ zs) = fold_mapped op e (op a (e z)) zs

pub reverse_mapped : (e : ℕ → ℕ) (zs : List ℕ) → reverse (map e zs) ≡ map e (reverse zs)
reverse_mapped e [] = refl
reverse_mapped e (z ∷ zs) =
    reverse-append (e z ∷ []) (map e zs)
    ∙ (ap (λ (ys : List ℕ). ys ++ e z ∷ []) (reverse_mapped e zs)
    ∙ (sym (map-append e (reverse zs) (z ∷ [])) ∙ ap (map e) (sym (reverse-append (z ∷ []) zs))))

pub passed_in : (op : ℕ → ℕ → ℕ) (e : ℕ → ℕ) (p : ℕ → Bool) (from to a x y : ℕ) → from ≤ to → p to ≡ true → x ≡ fold op a (map e (passing p from to))
    → y ≡ op x (e to) → y ≡ fold op a (map e (passing p from (to + 1)))
passed_in op e p from to a x y le passes x_is y_is =
    y_is ∙ (ap (λ (z : ℕ). op z (e to)) (x_is ∙ fold_mapped op e a (passing p from to))
    ∙ (sym (fold_in (λ z c. op z (e c)) p from to a le passes) ∙ sym (fold_mapped op e a (passing p from (to + 1)))))

pub passed_out : (op : ℕ → ℕ → ℕ) (e : ℕ → ℕ) (p : ℕ → Bool) (from to a x y : ℕ) → from ≤ to → p to ≡ false
    → x ≡ fold op a (map e (passing p from to)) → y ≡ x → y ≡ fold op a (map e (passing p from (to + 1)))
passed_out op e p from to a x y le fails x_is y_is =
    y_is ∙ (x_is ∙ (fold_mapped op e a (passing p from to)
    ∙ (sym (fold_out (λ z c. op z (e c)) p from to a le fails) ∙ sym (fold_mapped op e a (passing p from (to + 1))))))

back_mapped : (op : ℕ → ℕ → ℕ) (e : ℕ → ℕ) (a : ℕ) (zs : List ℕ) → fold op a (reverse (map e zs)) ≡ fold (λ x c. op x (e c)) a (reverse zs)
back_mapped op e a zs = ap (fold op a) (reverse_mapped e zs) ∙ fold_mapped op e a (reverse zs)

-- from the last of n numbers down: of these many, one more
pub listed_in : {B : Type 0} (op : B → ℕ → B) (p : ℕ → Bool) (n done c : ℕ) (a x y : B) → done < n → c ≡ n - 1 - done → p c ≡ true
    → x ≡ fold op a (reverse (passing p (n - done) n)) → y ≡ op x c → y ≡ fold op a (reverse (passing p (n - (done + 1)) n))
listed_in op p n done c a x y lt c_is passes x_is y_is =
    y_is ∙ (ap (λ (z : _). op z c) (x_is ∙ ap (λ (k : ℕ). fold op a (reverse (passing p k n))) (let e : n - done ≡ c + 1 = omega arith in e))
    ∙ (sym (back_in op p c n a (omega arith) passes) ∙ ap (λ (k : ℕ). fold op a (reverse (passing p k n))) (let e : c ≡ n - (done + 1) = omega arith in e)))

pub listed_out : {B : Type 0} (op : B → ℕ → B) (p : ℕ → Bool) (n done c : ℕ) (a x y : B) → done < n → c ≡ n - 1 - done → p c ≡ false
    → x ≡ fold op a (reverse (passing p (n - done) n)) → y ≡ x → y ≡ fold op a (reverse (passing p (n - (done + 1)) n))
listed_out op p n done c a x y lt c_is fails x_is y_is =
    y_is ∙ (x_is ∙ (ap (λ (k : ℕ). fold op a (reverse (passing p k n))) (let e : n - done ≡ c + 1 = omega arith in e)
    ∙ (sym (back_out op p c n a (omega arith) fails) ∙ ap (λ (k : ℕ). fold op a (reverse (passing p k n))) (let e : c ≡ n - (done + 1) = omega arith in e))))

pub returned_in : (op : ℕ → ℕ → ℕ) (e : ℕ → ℕ) (p : ℕ → Bool) (n done c a x y : ℕ) → done < n → c ≡ n - 1 - done → p c ≡ true
    → x ≡ fold op a (reverse (map e (passing p (n - done) n))) → y ≡ op x (e c) → y ≡ fold op a (reverse (map e (passing p (n - (done + 1)) n)))
returned_in op e p n done c a x y lt c_is passes x_is y_is =
    listed_in (λ z k. op z (e k)) p n done c a x y lt c_is passes (x_is ∙ back_mapped op e a (passing p (n - done) n)) y_is
    ∙ sym (back_mapped op e a (passing p (n - (done + 1)) n))

pub returned_out : (op : ℕ → ℕ → ℕ) (e : ℕ → ℕ) (p : ℕ → Bool) (n done c a x y : ℕ) → done < n → c ≡ n - 1 - done → p c ≡ false
    → x ≡ fold op a (reverse (map e (passing p (n - done) n))) → y ≡ x → y ≡ fold op a (reverse (map e (passing p (n - (done + 1)) n)))
returned_out op e p n done c a x y lt c_is fails x_is y_is =
    listed_out (λ z k. op z (e k)) p n done c a x y lt c_is fails (x_is ∙ back_mapped op e a (passing p (n - done) n)) y_is
    ∙ sym (back_mapped op e a (passing p (n - (done + 1)) n))

-- all columns from the first
pub last_in : {B : Type 0} (op : B → ℕ → B) (p : ℕ → Bool) (n : ℕ) (a x y : B) → p n ≡ true → x ≡ fold op a (filter p (range_with_len 0 n))
    → y ≡ op x n → y ≡ fold op a (filter p (range_with_len 0 (n + 1)))
last_in op p n a x y passes x_is y_is =
    y_is ∙ (ap (λ (z : _). op z n) x_is
    ∙ sym (ap (fold op a) (filter_last p n true passes) ∙ fold-append op a (filter p (range_with_len 0 n)) (n ∷ [])))

pub last_out : {B : Type 0} (op : B → ℕ → B) (p : ℕ → Bool) (n : ℕ) (a x y : B) → p n ≡ false → x ≡ fold op a (filter p (range_with_len 0 n)) → y ≡ x
    → y ≡ fold op a (filter p (range_with_len 0 (n + 1)))
last_out op p n a x y fails x_is y_is = y_is ∙ (x_is ∙ ap (fold op a) (sym (filter_out p n fails)))

-- a number that passes has fewer before it than there are in all
pub passing_room : (p : ℕ → Bool) (c n : ℕ) → c < n → p c ≡ true → length (filter p (range_with_len 0 c)) < length (filter p (range_with_len 0 n))
passing_room p c n lt passes =
    let whole = ap length (sym (passing_all p n) ∙ (passing_cut p 0 c n (omega arith) (omega arith)
    ∙ ap (λ (zs : List ℕ). passing p 0 c ++ zs) (passing_first p c n lt ∙ ap (λ (b : Bool). cond b (c ∷ []) [] ++ passing p (c + 1) n) passes))) in
    let parts = length-append (passing p 0 c) (c ∷ passing p (c + 1) n) in
    let front = ap length (passing_all p c) in
    omega arith

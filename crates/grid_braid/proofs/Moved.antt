-- What the letters of one strand that moves under others do to a tuple.
use Rattle.std.proofs.Common.{◌≡◌, ◌<◌, ◌≤◌, ◌+◌, ◌-◌, ◌∷◌, ◌++◌, ◌∙◌, [], ℕ, zero, suc, ℤ, pos, negsuc, List, All, length, map, fold}
use Rattle.std.proofs.Common.{reverse, arith, sym, refl, ap, ap₂, append_assoc, length-append}
use Rattle.std.specs.List.{range_with_len}
use Rattle.std.proofs.lemmas.List.{reverse-append, length-reverse}
use Rattle.std.proofs.lemmas.List.Elements.{All-nil, All-cons, All-same}
use Rattle.quandle_core.specs.Quandle.{Table, over, back}
use Rattle.braid_core.specs.Braid.{IsLetter}
use Rattle.braid_core.specs.Action.{positive, action}
use Rattle.braid_laws.proofs.Pairs.{second_assoc, pair_positive, pair_negative}
use Rattle.grid_braid.specs.Word.{leftward, rightward}

-- the letters of a move, one by one
left_letters : (ahead a n : ℕ) → map (λ i. pos (ahead - i)) (range_with_len (a + 1) n) ≡ map (λ i. pos (ahead - 1 - i)) (range_with_len a n)
left_letters ahead a zero = refl
left_letters ahead a (suc n) = ap₂ (λ (k : ℕ) (zs : List ℤ). pos k ∷ zs) (omega arith) (left_letters ahead (a + 1) n)

right_letters : (ahead a n : ℕ) → map (λ i. negsuc (ahead + i)) (range_with_len (a + 1) n) ≡ map (λ i. negsuc (ahead + 1 + i)) (range_with_len a n)
right_letters ahead a zero = refl
right_letters ahead a (suc n) = ap₂ (λ (k : ℕ) (zs : List ℤ). negsuc k ∷ zs) (omega arith) (right_letters ahead (a + 1) n)

pub leftward_more : (ahead n : ℕ) → leftward ahead (suc n) ≡ pos ahead ∷ leftward (ahead - 1) n
leftward_more ahead n = ap₂ (λ (k : ℕ) (zs : List ℤ). pos k ∷ zs) (omega arith) (left_letters ahead 0 n)

pub rightward_more : (ahead n : ℕ) → rightward ahead (suc n) ≡ negsuc ahead ∷ rightward (ahead + 1) n
rightward_more ahead n = ap₂ (λ (k : ℕ) (zs : List ℤ). negsuc k ∷ zs) (omega arith) (right_letters ahead 0 n)

-- to the right: under the strands of these colours, the leftmost first
pub rightward_acts : (t : Table) (left between right : List ℕ) (y : ℕ)
    → action t (rightward (length left) (length between)) (left ++ y ∷ (between ++ right)) ≡ left ++ (between ++ fold (back t) y between ∷ right)
rightward_acts t left [] right y = refl
rightward_acts t left (z ∷ between) right y =
    ap (λ (ls : List ℤ). action t ls (left ++ y ∷ z ∷ (between ++ right))) (rightward_more (length left) (length between))
    ∙ (ap (action t (rightward (length left + 1) (length between)))
    (pair_negative t (length left + 1) left y z (between ++ right) refl ∙ second_assoc left z (back t y z) (between ++ right))
    ∙ (ap (λ (n : ℕ). action t (rightward n (length between)) ((left ++ z ∷ []) ++ back t y z ∷ (between ++ right))) (sym (length-append left (z ∷ [])))
    ∙ (rightward_acts t (left ++ z ∷ []) between right (back t y z)
    ∙ append_assoc left (z ∷ []) (between ++ fold (back t) (back t y z) between ∷ right))))

-- to the left: under the strands of these colours, the rightmost first
pub leftward_acts : (t : Table) (left passed right : List ℕ) (y : ℕ)
    → action t (leftward (length left + length passed) (length passed)) (left ++ (reverse passed ++ y ∷ right))
    ≡ left ++ fold (over t) y passed ∷ (reverse passed ++ right)
leftward_acts t left [] right y = refl
leftward_acts t left (z ∷ passed) right y =
    ap₂ (action t) (leftward_more (length left + suc (length passed)) (length passed))
    (ap (λ (zs : List ℕ). left ++ (zs ++ y ∷ right)) (reverse-append (z ∷ []) passed)
    ∙ ap (λ (zs : List ℕ). left ++ zs) (append_assoc (reverse passed) (z ∷ []) (y ∷ right)))
    ∙ (ap (action t (leftward (length left + suc (length passed) - 1) (length passed))) step
    ∙ (ap (λ (n : ℕ). action t (leftward n (length passed)) (left ++ (reverse passed ++ over t y z ∷ z ∷ right))) (omega arith)
    ∙ (leftward_acts t left passed (z ∷ right) (over t y z)
    ∙ ap (λ (zs : List ℕ). left ++ fold (over t) (over t y z) passed ∷ zs)
    (sym (append_assoc (reverse passed) (z ∷ []) right) ∙ ap (λ (zs : List ℕ). zs ++ right) (sym (reverse-append (z ∷ []) passed))))))
  where
    step : positive t (length left + suc (length passed)) (left ++ (reverse passed ++ z ∷ y ∷ right)) ≡ left ++ (reverse passed ++ over t y z ∷ z ∷ right)
    step =
        ap (positive t (length left + suc (length passed))) (sym (append_assoc left (reverse passed) (z ∷ y ∷ right)))
        ∙ (pair_positive t (length left + suc (length passed)) (left ++ reverse passed) z y right
        (omega (arith, length-append left (reverse passed), length-reverse passed))
        ∙ append_assoc left (reverse passed) (over t y z ∷ z ∷ right))

-- all letters of a move are letters of so many strands
pub leftward_letters : (m ahead n : ℕ) → n ≤ ahead → ahead < m → All (IsLetter m) (leftward ahead n)
leftward_letters m ahead zero le lt = All-nil (IsLetter m)
leftward_letters m ahead (suc n) le lt =
    All-same (IsLetter m) (leftward ahead (suc n)) (pos ahead ∷ leftward (ahead - 1) n) (leftward_more ahead n)
    (All-cons (IsLetter m) (pos ahead) (leftward (ahead - 1) n) (record { least = omega arith; most = lt })
    (leftward_letters m (ahead - 1) n (omega arith) (omega arith)))

pub rightward_letters : (m ahead n : ℕ) → ahead + n < m → All (IsLetter m) (rightward ahead n)
rightward_letters m ahead zero lt = All-nil (IsLetter m)
rightward_letters m ahead (suc n) lt =
    All-same (IsLetter m) (rightward ahead (suc n)) (negsuc ahead ∷ rightward (ahead + 1) n) (rightward_more ahead n)
    (All-cons (IsLetter m) (negsuc ahead) (rightward (ahead + 1) n) (record { least = omega arith; most = omega arith })
    (rightward_letters m (ahead + 1) n (omega arith)))

-- Lists of moves that are tidy so far.
use Rattle.std.proofs.Common.{◌≡◌, ◌<◌, ◌≤◌, ◌+◌, ◌&&◌, ◌∙◌, ℕ, Bool, true, false, List, length, drop, get_or, Option, Some, ap}
use Rattle.std.proofs.lemmas.List.{drop_more, drop_all}
use Rattle.grid_moves.specs.declared.step.Move.{Move}
use Rattle.grid_moves.specs.Tidy.{may_follow, are_tidy_behind}

-- what is left, by its first move
pub tidy_next : (before : Option Move) (moves : List Move) (i : ℕ) (d : Move) → i < length moves
    → are_tidy_behind before (drop i moves) ≡ (may_follow before (get_or moves i d) && are_tidy_behind (Some (get_or moves i d)) (drop (i + 1) moves))
tidy_next before moves i d lt = ap (λ (ms : List Move). are_tidy_behind before ms) (drop_more moves i d lt)

-- one more move may follow, or may not
pub tidy_more : (before : Option Move) (moves : List Move) (i : ℕ) (d : Move) → i < length moves → may_follow before (get_or moves i d) ≡ true
    → are_tidy_behind before (drop i moves) ≡ are_tidy_behind (Some (get_or moves i d)) (drop (i + 1) moves)
tidy_more before moves i d lt may =
    tidy_next before moves i d lt ∙ ap (λ (b : Bool). b && are_tidy_behind (Some (get_or moves i d)) (drop (i + 1) moves)) may

pub tidy_not : (before : Option Move) (moves : List Move) (i : ℕ) (d : Move) → i < length moves → may_follow before (get_or moves i d) ≡ false
    → are_tidy_behind before (drop i moves) ≡ false
tidy_not before moves i d lt may =
    tidy_next before moves i d lt ∙ ap (λ (b : Bool). b && are_tidy_behind (Some (get_or moves i d)) (drop (i + 1) moves)) may

-- no move is left
pub tidy_end : (before : Option Move) (moves : List Move) (i : ℕ) → length moves ≤ i → are_tidy_behind before (drop i moves) ≡ true
tidy_end before moves i le = ap (λ (ms : List Move). are_tidy_behind before ms) (drop_all i moves le)

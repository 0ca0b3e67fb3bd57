-- The first line, and the lines behind it.
use Rattle.std.proofs.Common.{◌≡◌, ℕ, ◌<◌, ◌≤◌, ◌+◌, List, [], ◌∷◌, length, arith, refl, ap, Bool, true, false, suc, take, drop, length-drop}
use Rattle.std.specs.List.{position_or_len}
use Rattle.text_lines.specs.Tokens.{onto}
use Rattle.text_lines.specs.Lines.{lines_of}
use Rattle.text_lines.specs.Cut.{is_feed, first_line, behind_line}

line_more : (b : ℕ) (bs : List ℕ) → is_feed b ≡ false → first_line (b ∷ bs) ≡ b ∷ first_line bs
line_more b bs is =
    let n = position_or_len is_feed bs in
    let step : position_or_len is_feed (b ∷ bs) ≡ suc n = rw is (omega arith) in
    ap (λ k. take k (b ∷ bs)) step

rest_more : (b : ℕ) (bs : List ℕ) → is_feed b ≡ false → behind_line (b ∷ bs) ≡ behind_line bs
rest_more b bs is =
    let n = position_or_len is_feed bs in
    let step : position_or_len is_feed (b ∷ bs) + 1 ≡ suc (n + 1) = rw is (omega arith) in
    ap (λ k. drop k (b ∷ bs)) step

abbrev cut : List ℕ → List (List ℕ)
cut bytes = first_line bytes ∷ lines_of (behind_line bytes)

single : (b : ℕ) (t : Bool) → is_feed b ≡ t → lines_of (b ∷ []) ≡ cut (b ∷ [])
single b true is = rw is refl
single b false is = rw is refl

more : (b c : ℕ) (cs : List ℕ) → lines_of (c ∷ cs) ≡ cut (c ∷ cs) → (t : Bool) → is_feed b ≡ t → lines_of (b ∷ c ∷ cs) ≡ cut (b ∷ c ∷ cs)
more b c cs next true is = rw is refl
more b c cs next false is = rw (line_more b (c ∷ cs) is, rest_more b (c ∷ cs) is, is) (ap (onto b) next)

pub line_cut : (b : ℕ) (bs : List ℕ) → lines_of (b ∷ bs) ≡ first_line (b ∷ bs) ∷ lines_of (behind_line (b ∷ bs))
line_cut b [] = single b (is_feed b) refl
line_cut b (c ∷ cs) = more b c cs (line_cut c cs) (is_feed b) refl

pub line_cut_some : (bytes : List ℕ) → 0 < length bytes → lines_of bytes ≡ first_line bytes ∷ lines_of (behind_line bytes)
line_cut_some [] some = absurd (omega (arith, some))
line_cut_some (b ∷ bs) some = line_cut b bs

-- fewer bytes are left
pub behind_line_shorter : (bytes : List ℕ) → 0 < length bytes → length (behind_line bytes) + 1 ≤ length bytes
behind_line_shorter bytes some = omega (arith, length-drop (position_or_len is_feed bytes + 1) bytes)

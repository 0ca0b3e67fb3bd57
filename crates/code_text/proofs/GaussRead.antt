-- Signed Gauss lines read one behind the other, as a loop does.
use Rattle.std.proofs.Common.{◌≡◌, ℕ, List, [], ◌∷◌, ◌++◌, true, false, Ok, refl, codes}
use Rattle.text_lines.specs.Lines.{NumberedLine, Text, begins}
use Rattle.text_items.specs.declared.fault.TextFault.{TextFault}
use Rattle.text_items.specs.declared.fault.TextFault.TheVariants as fault
use Rattle.text_items.specs.Reading.{Fails}
use Rattle.code_text.specs.declared.gauss_lines.GaussPassage.{GaussPassage}
use Rattle.code_text.specs.GaussLines.{walk_at, walks_among, walks_from}
use Rattle.code_text.proofs.RowsRead.{line_then}

-- one line more
pub walks_more : (before : List (List GaussPassage)) (walk : List GaussPassage) (line : NumberedLine) (rest : Text)
    → begins (codes "gauss") (line_then line rest) ≡ true → walk_at line ≡ Ok walk
    → walks_from before (line_then line rest) ≡ walks_from (before ++ walk ∷ []) rest
unfolding walks_from
walks_more before walk line rest gauss read = rw (gauss, read) refl

-- a bad line
pub walks_fail : (before : List (List GaussPassage)) (e : TextFault) (line : NumberedLine) (rest : Text)
    → begins (codes "gauss") (line_then line rest) ≡ true → Fails e (walk_at line) → Fails e (walks_from before (line_then line rest))
unfolding walks_from
walks_fail before fault.OutOfMemory line rest gauss read = tt
walks_fail before (fault.Malformed n) line rest gauss read = rw (gauss, read) refl
walks_fail before (fault.Limit n) line rest gauss read = rw (gauss, read) refl

-- the next line begins otherwise, or there is none
walks_behind : (before : List (List GaussPassage)) (lines : List NumberedLine) (ending : ℕ)
    → begins (codes "gauss") (record { lines = lines; ending = ending }) ≡ false
    → walks_among before lines ending ≡ Ok (before, record { lines = lines; ending = ending })
walks_behind before [] ending gauss = refl
walks_behind before (line ∷ lines) ending gauss = rw gauss refl

pub walks_end : (before : List (List GaussPassage)) (text : Text) → begins (codes "gauss") text ≡ false → walks_from before text ≡ Ok (before, text)
unfolding walks_from
walks_end before text gauss = walks_behind before text.lines text.ending gauss

-- What is written in front of a text is read from it.
use Rattle.std.proofs.Common.{◌≡◌, ℕ, ◌≤◌, ◌+◌, List, [], ◌∷◌, ◌++◌, length, drop, Result, Ok, refl, sym, ap, ap₂, ◌∙◌, codes}
use Rattle.std.proofs.Math.Seq.{drop-append_seam}
use Rattle.std.proofs.lemmas.List.{map-append, length-map}
use Rattle.arrayvec.specs.ArrayVec.{ArrayVec}
use Rattle.grid_core.specs.declared.grid.TheConstants.{MAX_SIZE}
use Rattle.grid_core.specs.Diagram.{Diagram as Marks, IsGrid}
use Rattle.braid_core.specs.Braid.{Word, IsBraid}
use Rattle.colour_rows.specs.Colouring.{AreColours}
use Rattle.quandle_core.specs.declared.quandle.TheConstants.{MAX_ORDER}
use Rattle.grid_moves.specs.declared.step.Move.{Move}
use Rattle.text_lines.specs.Lines.{NumberedLine, Text}
use Rattle.text_lines.specs.Spelled.{numbered}
use Rattle.text_items.specs.declared.fault.TextFault.{TextFault}
use Rattle.verdict_core.specs.declared.verdict.Verdict.{Verdict}
use Rattle.quandle_core.specs.Names.{NamedQuandle}
use Rattle.text_items.specs.Reading.{◌>>=◌, next_line}
use Rattle.text_items.specs.Grids.{grid_item}
use Rattle.text_items.specs.Braids.{braid_item}
use Rattle.verdict_text.specs.Moves.{moves_item}
use Rattle.text_items.specs.Quandles.{quandle_item}
use Rattle.knot_text.specs.Colours.{colours_item}
use Rattle.verdict_text.specs.Verdicts.{versioned_item, verdict_item}
use Rattle.verdict_text.specs.declared.verdicts.Version.{Version}
use Rattle.knot_text.specs.Printed.{grid_lines, braid_lines, moves_lines, HaveMovesText, name_tokens, quandle_lines, HasQuandleText}
use Rattle.knot_text.specs.Printed.{colours_lines, version_lines, HasVersionText}
use Rattle.knot_text.specs.WrittenThere.{tokens_by_line, StandInFront}
use Rattle.knot_text.proofs.StepsAgain.{lines_before, word_again}
use Rattle.knot_text.proofs.GridAgain.{grid_again}
use Rattle.knot_text.proofs.MovesAgain.{moves_again}
use Rattle.knot_text.proofs.QuandleAgain.{quandle_again}
use Rattle.knot_text.proofs.VerdictAgain.{versioned_again}
use Rattle.text_laws.proofs.BraidAgain.{braid_again}
use Rattle.text_laws.proofs.ColoursAgain.{colours_again}
use Rattle.knot_text.proofs.Says.{Says}
use Rattle.knot_text.proofs.ItemsSay.{IsWritten, grid_says, braid_says, moves_say, colours_say}
use Rattle.knot_text.proofs.QuandleSays.{quandle_says}
use Rattle.knot_text.proofs.VerdictSays.{HasText, lines_of, versioned_says}
use Rattle.text_laws.proofs.Alike.{Alike, SameText, SameLeft}
use Rattle.text_laws.proofs.ItemsAlike.{grid_alike, braid_alike, moves_alike, quandle_alike, colours_alike, versioned_alike}

-- ---- lines in front

pub numbered_tokens : (n : ℕ) (lines : List (List (List ℕ))) → tokens_by_line (numbered n lines) ≡ lines
numbered_tokens n [] = refl
numbered_tokens n (tokens ∷ lines) = ap (λ (ls : List (List (List ℕ))). tokens ∷ ls) (numbered_tokens (n + 1) lines)

tokens_parted : (xs ys : List NumberedLine) → tokens_by_line (xs ++ ys) ≡ tokens_by_line xs ++ tokens_by_line ys
tokens_parted xs ys = map-append (λ (line : NumberedLine). line.tokens) xs ys

-- the tokens of the text are these, and those of the rest
front_tokens : {printed : List (List (List ℕ))} {text rest : Text} → StandInFront printed text rest
    → tokens_by_line text.lines ≡ printed ++ tokens_by_line rest.lines
front_tokens {rest = rest} there =
    ap tokens_by_line there.lines ∙ tokens_parted there.front rest.lines ∙ ap (λ (ls : List (List (List ℕ))). ls ++ tokens_by_line rest.lines) there.tokens

-- so many lines are in front
front_length : {printed : List (List (List ℕ))} {text rest : Text} (there : StandInFront printed text rest) → length there.front ≡ length printed
front_length there = sym (length-map there.front (λ (line : NumberedLine). line.tokens)) ∙ ap (λ (ls : List (List (List ℕ))). length ls) there.tokens

left_lines : {printed : List (List (List ℕ))} {text rest : Text} → StandInFront printed text rest → rest.lines ≡ drop (length printed) text.lines
left_lines {text = text} {rest = rest} there =
    sym (ap (λ (n : ℕ). drop n text.lines) (sym (front_length there)) ∙ ap (drop (length there.front)) there.lines ∙ drop-append_seam there.front rest.lines)

-- what is left is determined by how many lines are in front
pub rest_behind : {a b : List (List (List ℕ))} {text one two : Text} → StandInFront a text one → StandInFront b text two
    → length a ≡ length b → one ≡ two
rest_behind {text = text} {one = one} {two = two} first second many =
    let lines : one.lines ≡ two.lines = left_lines first ∙ ap (λ (n : ℕ). drop n text.lines) many ∙ sym (left_lines second) in
    ap₂ (λ (ls : List NumberedLine) (e : ℕ). record { lines = ls; ending = e }) lines (first.ending ∙ sym second.ending)

pub one_rest : {printed : List (List (List ℕ))} {text one two : Text} → StandInFront printed text one → StandInFront printed text two → one ≡ two
one_rest first second = rest_behind first second refl

-- ---- an item

-- one that is read behind no lines is read from each text with its tokens, if its reading there leaves this rest
pub read_from : {A : Type 0} (item : Text → Result (A × Text) TextFault) → ((t u : Text) → SameText t u → Alike SameLeft (item t) (item u))
    → (printed : List (List (List ℕ))) (value : A) (text rest : Text) → item (lines_before (numbered 0 printed) rest) ≡ Ok (value, rest)
    → StandInFront printed text rest → ((left : Text) → item text ≡ Ok (value, left) → left ≡ rest) → item text ≡ Ok (value, rest)
read_from {A = A} item alike printed value text rest again there one =
    let t = lines_before (numbered 0 printed) rest in
    let same : SameText t text = tokens_parted (numbered 0 printed) rest.lines ∙ ap (λ (ls : List (List (List ℕ))). ls ++ tokens_by_line rest.lines)
    (numbered_tokens 0 printed) ∙ sym (front_tokens there) in
    let found = (alike t text same).of (value, rest) again in
    let x = found.0 in
    let here : item text ≡ Ok (value, x.1) = found.1 ∙ ap (λ (v : A). Ok (v, x.1)) (sym found.2.0) in
    here ∙ ap (λ (s : Text). Ok (value, s)) (one x.1 here)

-- its reading leaves what stands behind its lines
pub read_again : {A : Type 0} (Has : A → Type 0) (lines : A → List (List (List ℕ))) (item : Text → Result (A × Text) TextFault)
    → ((t u : Text) → SameText t u → Alike SameLeft (item t) (item u)) → ((t : Text) → Says (item t) (IsWritten Has lines t))
    → (value : A) (text rest : Text) → item (lines_before (numbered 0 (lines value)) rest) ≡ Ok (value, rest) → StandInFront (lines value) text rest
    → item text ≡ Ok (value, rest)
read_again Has lines item alike says value text rest again there =
    read_from item alike (lines value) value text rest again there (λ left is. one_rest ((says text).of (value, left) is).1 there)

pub grid_written : (text : Text) (d : Marks) (rest : Text) → IsGrid d → StandInFront (grid_lines d) text rest → grid_item text ≡ Ok (d, rest)
grid_written text d rest grid there = read_again IsGrid grid_lines grid_item grid_alike grid_says d text rest (grid_again 0 d rest grid) there

pub braid_written : (text : Text) (b : Word) (rest : Text) → IsBraid b → StandInFront (braid_lines b) text rest → braid_item text ≡ Ok (b, rest)
braid_written text b rest braid there = read_again IsBraid braid_lines braid_item braid_alike braid_says b text rest (braid_again 0 b rest braid) there

pub moves_written : (text : Text) (moves : List Move) (rest : Text) → HaveMovesText moves → StandInFront (moves_lines (codes "moves") moves) text rest
    → moves_item text ≡ Ok (moves, rest)
moves_written text moves rest fits there =
    read_again HaveMovesText (moves_lines (codes "moves")) moves_item moves_alike moves_say moves text rest (moves_again 0 moves rest fits) there

item_again : (q : NamedQuandle) (rest : Text) → HasQuandleText q
    → quandle_item (lines_before (numbered 0 (quandle_lines (codes "quandle") q)) rest) ≡ Ok (q, rest)
unfolding quandle_item next_line
item_again q rest fits = rw (word_again (codes "quandle") 1 (name_tokens q.name q.table.order), quandle_again 1 q.name q.table rest fits.names fits.factor) refl

pub quandle_written : (text : Text) (q : NamedQuandle) (rest : Text) → HasQuandleText q → StandInFront (quandle_lines (codes "quandle") q) text rest
    → quandle_item text ≡ Ok (q, rest)
quandle_written text q rest fits there =
    read_again HasQuandleText (quandle_lines (codes "quandle")) quandle_item quandle_alike quandle_says q text rest (item_again q rest fits) there

pub colours_written : (width order : ℕ) (text : Text) (c : ArrayVec ℕ) (rest : Text) → width ≤ MAX_SIZE → order ≤ MAX_ORDER
    → AreColours width order c.items → StandInFront (colours_lines c) text rest → colours_item width order text ≡ Ok (c, rest)
colours_written width order text c rest fits most are there =
    read_again (λ c. AreColours width order c.items) colours_lines (colours_item width order) (colours_alike width order) (colours_say width order) c text rest
    (colours_again width order 0 c rest fits most are) there

versioned_written : (version : Version) (one two : ℕ) (text : Text) (v : Verdict) (rest : Text) → HasVersionText version one two v
    → StandInFront (version_lines version v) text rest → versioned_item one two text ≡ Ok ((version, v), rest)
versioned_written version one two text v rest fits there =
    read_again (HasText one two) lines_of (versioned_item one two) (versioned_alike one two) (versioned_says one two) (version, v) text rest
    (versioned_again version one two 0 v rest fits) there

pub verdict_written : (version : Version) (one two : ℕ) (text : Text) (v : Verdict) (rest : Text) → HasVersionText version one two v
    → StandInFront (version_lines version v) text rest → verdict_item one two text ≡ Ok (v, rest)
unfolding verdict_item
verdict_written version one two text v rest fits there =
    ap (λ r. r >>= λ w. Ok (w.0.1, w.1)) (versioned_written version one two text v rest fits there)

-- The text of a braid is read as this braid.
use Rattle.std.proofs.Common.{◌≡◌, ℕ, ◌≤◌, ◌+◌, ◌*◌, ◌||◌, ℤ, pos, negsuc, List, [], ◌∷◌, ◌++◌, length, map, Bool, true, false, Option}
use Rattle.std.proofs.Common.{Some, None, Ok, refl, ap, subst, add-one, neg_ℤ, ◌∙◌, arith, codes, nat_lt, ◌==◌, unsigned_abs}
use Rattle.std.specs.Prelude.{is_none}
use Rattle.std.specs.List.{AllByRecursion, list_all, list_any}
use Rattle.std.specs.Fmt.{decimal}
use Rattle.std.proofs.lemmas.Bool.{and_from, or_from, le-ltb, eqb-true}
use Rattle.std.proofs.lemmas.List.Elements.{recursion_from_All}
use Rattle.grid_core.specs.declared.grid.TheConstants.{MAX_SIZE}
use Rattle.braid_core.specs.declared.braid.TheConstants.{MAX_STRANDS}
use Rattle.braid_core.specs.declared.fault.BraidFault.{BraidFault}
use Rattle.braid_core.specs.Braid.{Word, IsLetter, IsBraid}
use Rattle.braid_core.specs.Fault.{first_word_fault}
use Rattle.braid_core.proofs.Accepted.{braid_none}
use Rattle.text_lines.specs.Lines.{Text, text_from}
use Rattle.text_lines.specs.NumberTokens.{number_of}
use Rattle.text_lines.specs.Spelled.{is_word, is_line, numbered}
use Rattle.knot_text.proofs.NumberTexts.{decimal_read}
use Rattle.knot_text.proofs.Written.{lines_read}
use Rattle.text_items.specs.declared.reading.TheConstants.{MAX_NUMBER}
use Rattle.text_items.specs.Reading.{next_line, each_token}
use Rattle.text_items.specs.Braids.{letter_of, is_long_letter, exceeds, braid_at, braid_item}
use Rattle.knot_text.specs.Printed.{letter_token, braid_lines, braid_text}
use Rattle.knot_text.proofs.StepsAgain.{line_of, lines_before, word_again, number_again}
use Rattle.knot_text.proofs.Words.{decimal_word}
use Rattle.knot_text.proofs.LettersAgain.{letter_again, letter_word}

-- ---- letters

letters_again : (m n : ℕ) (ls : List ℤ) → m ≤ MAX_STRANDS → AllByRecursion (IsLetter m) ls → each_token letter_of n (map letter_token ls) ≡ Ok ls
unfolding each_token
letters_again m n [] most all = refl
letters_again m n (a ∷ ls) most all = rw (letter_again a (omega (arith, all.0.most, most)), letters_again m n ls most all.1) refl

none_long : (m : ℕ) (ls : List ℤ) → m ≤ MAX_STRANDS → AllByRecursion (IsLetter m) ls → list_any is_long_letter ls ≡ false
none_long m [] most all = refl
none_long m (a ∷ ls) most all =
    or_from (is_long_letter a) (list_any is_long_letter ls) (le-ltb _ (unsigned_abs a) (omega (arith, all.0.most, most))) (none_long m ls most all.1)

-- ---- the line

none_exceeded : (b : Word) → IsBraid b → AllByRecursion (IsLetter b.strands) b.letters → exceeds b ≡ false
none_exceeded b braid all =
    or_from (nat_lt MAX_STRANDS b.strands) (list_any is_long_letter b.letters || nat_lt MAX_SIZE (length b.letters + 2 * b.strands))
    (le-ltb MAX_STRANDS b.strands braid.most)
    (or_from (list_any is_long_letter b.letters) (nat_lt MAX_SIZE (length b.letters + 2 * b.strands)) (none_long b.strands b.letters braid.most all)
    (le-ltb MAX_SIZE (length b.letters + 2 * b.strands) braid.room))

line_again : (n : ℕ) (b : Word) → IsBraid b → braid_at (line_of n (codes "braid" ∷ decimal b.strands ∷ map letter_token b.letters)) ≡ Ok b
unfolding braid_at
line_again n b braid =
    let all = recursion_from_All (IsLetter b.strands) b.letters braid.crossings in
    let content : is_none (first_word_fault b) ≡ true = ap (λ (f : Option BraidFault). is_none f) (braid_none b braid) in
    rw (
      word_again (codes "braid") n (decimal b.strands ∷ map letter_token b.letters),
      number_again b.strands n (map letter_token b.letters)
          (omega (arith, braid.most)),
      letters_again b.strands n b.letters braid.most all,
      none_exceeded b braid all,
      content,
    ) refl

-- ---- words

letters_words : (m : ℕ) (ls : List ℤ) → m ≤ MAX_STRANDS → AllByRecursion (IsLetter m) ls → list_all is_word (map letter_token ls) ≡ true
letters_words m [] most all = refl
letters_words m (a ∷ ls) most all =
    and_from (is_word (letter_token a)) (list_all is_word (map letter_token ls)) (letter_word a (omega (arith, all.0.most, most)))
    (letters_words m ls most all.1)

pub braid_words : (b : Word) → IsBraid b → list_all is_line (braid_lines b) ≡ true
braid_words b braid =
    let all = recursion_from_All (IsLetter b.strands) b.letters braid.crossings in
    rw (decimal_word b.strands (omega (arith, braid.most)), letters_words b.strands b.letters braid.most all) refl

pub braid_again : (n : ℕ) (b : Word) (text : Text) → IsBraid b → braid_item (lines_before (numbered n (braid_lines b)) text) ≡ Ok (b, text)
unfolding braid_item next_line
braid_again n b text braid = rw (line_again (n + 1) b braid) refl

pub braid_read : (n : ℕ) (b : Word) (more : List ℕ) → IsBraid b → braid_item (text_from n (braid_text b ++ more)) ≡ Ok (b, text_from (n + 1) more)
braid_read n b more braid = ap braid_item (lines_read n (braid_lines b) more (braid_words b braid)) ∙ braid_again n b (text_from (n + 1) more) braid

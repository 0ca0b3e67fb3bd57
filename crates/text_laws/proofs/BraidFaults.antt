-- The reader of braids refuses their line by its kind.
use Rattle.std.proofs.Common.{◌≡◌, ◌∙◌, ◌+◌, ◌*◌, inl, inr, ℕ, suc, ℤ, ◌&&◌, ◌||◌, Bool, true, false, not, cond, List, [], ◌∷◌, codes, length, map}
use Rattle.std.proofs.Common.{Some, None, Result, Ok, Err, is_none, nat_le, nat_lt, refl, ap₂, arith, sym}
use Rattle.std.specs.List.{list_all, list_any, position_or_len}
use Rattle.std.specs.Str.{bytes_eq}
use Rattle.std.proofs.lemmas.Bool.{lt-ltb, le-ltb, or_parts}
use Rattle.std.proofs.lemmas.Bool.Decides.{leb_tells}
use Rattle.std.proofs.lemmas.List.{length-map}
use Rattle.grid_core.specs.declared.grid.TheConstants.{MAX_SIZE}
use Rattle.grid_core.specs.Fault.{or_next}
use Rattle.braid_core.specs.declared.braid.TheConstants.{MAX_STRANDS}
use Rattle.braid_core.specs.declared.fault.BraidFault.TheVariants.{Letter}
use Rattle.braid_core.specs.Braid.{Word}
use Rattle.braid_core.specs.Fault.{is_outside_strands, first_word_fault}
use Rattle.text_lines.specs.NumberTokens.{is_number}
use Rattle.text_items.specs.declared.fault.TextFault.{TextFault}
use Rattle.text_items.specs.declared.fault.TextFault.TheVariants.{Malformed}
use Rattle.text_items.specs.Reading.{next_token, word, number, each_token}
use Rattle.text_items.specs.Braids.{letter_of, is_long_letter, braid_of, braid_at}
use Rattle.text_laws.specs.LineKinds.{read_fault, fault_by, kind_fault, FailsByKind, is_overlong, worth, without_sign, is_letter}
use Rattle.text_laws.specs.LineKinds.{is_letter_of, braid_kind}
use Rattle.knot_text.proofs.StepsAgain.{line_of}
use Rattle.text_laws.proofs.Worths.{kept, within, above_kept}
use Rattle.text_laws.proofs.LineFaults.{one_more, long_by}
use Rattle.text_laws.proofs.StepFaults.{most_by, letter_value, letter_read, letter_abs}

-- ---- letters as they are read

abbrev all_read : ℕ → List (List ℕ) → Result (List ℤ) TextFault
all_read n ts = cond (list_all is_letter ts) (Ok (map letter_value ts)) (Err (Malformed n))

each_by : (n : ℕ) (t : List ℕ) (ts : List (List ℕ)) (b : Bool) → is_letter t ≡ b → each_token letter_of n ts ≡ all_read n ts
    → each_token letter_of n (t ∷ ts) ≡ all_read n (t ∷ ts)
unfolding each_token
each_by n t ts true is others = rw (letter_read t, is, others) (one_more (list_all is_letter ts) (letter_value t) (map letter_value ts) (Malformed n))
each_by n t ts false is others = rw (letter_read t, is) refl

each_read : (n : ℕ) (ts : List (List ℕ)) → each_token letter_of n ts ≡ all_read n ts
unfolding each_token
each_read n [] = refl
each_read n (t ∷ ts) = each_by n t ts (is_letter t) refl (each_read n ts)

-- ---- letters of too many digits

abbrev is_long_token : List ℕ → Bool
is_long_token t = is_overlong (without_sign t)

long_by_sign : (t : List ℕ) → is_letter t ≡ true → is_long_letter (letter_value t) ≡ is_long_token t
long_by_sign t is = rw (letter_abs t) (long_by (without_sign t) (is_long_token t) is refl)

any_by : (t : List ℕ) (ts : List (List ℕ)) (b : Bool) → is_letter t ≡ b → b && list_all is_letter ts ≡ true
    → (list_all is_letter ts ≡ true → list_any is_long_letter (map letter_value ts) ≡ list_any is_long_token ts)
    → list_any is_long_letter (map letter_value (t ∷ ts)) ≡ list_any is_long_token (t ∷ ts)
any_by t ts true is all more = ap₂ (λ (a b : Bool). a || b) (long_by_sign t is) (more all)
any_by t ts false is all more = absurd cc

any_long : (ts : List (List ℕ)) → list_all is_letter ts ≡ true → list_any is_long_letter (map letter_value ts) ≡ list_any is_long_token ts
any_long [] all = refl
any_long (t ∷ ts) all = any_by t ts (is_letter t) refl all (any_long ts)

-- ---- letters of so many strands

next_lt : (k l : ℕ) → nat_lt (1 + k) (suc l) ≡ nat_lt k l
next_lt k l = elim (leb_tells l k) [
  | inl past ↦ le-ltb (1 + k) (suc l) (omega (arith, past.1)) ∙ sym (le-ltb k l past.1)
  | inr before ↦ lt-ltb (1 + k) (suc l) (omega (arith, before.1)) ∙ sym (lt-ltb k l before.1)
]

found_by : (test : ℤ → Bool) (a : ℤ) (ls : List ℤ) (b : Bool) → test a ≡ b → nat_lt (position_or_len test ls) (length ls) ≡ list_any test ls
    → nat_lt (position_or_len test (a ∷ ls)) (length (a ∷ ls)) ≡ list_any test (a ∷ ls)
found_by test a ls true is more = rw is (lt-ltb 0 (suc (length ls)) (omega arith))
found_by test a ls false is more = rw is (next_lt (position_or_len test ls) (length ls) ∙ more)

found : (test : ℤ → Bool) (ls : List ℤ) → nat_lt (position_or_len test ls) (length ls) ≡ list_any test ls
found test [] = refl
found test (a ∷ ls) = found_by test a ls (test a) refl (found test ls)

none_next : (b : Bool) (place : ℕ) → is_none (or_next (cond b (Some place) None) (λ at. Letter at) None) ≡ not b
none_next true place = refl
none_next false place = refl

inside_by : (good bad more : Bool) → not bad ≡ more → not (not good || bad) ≡ (good && more)
inside_by true bad more is = is
inside_by false bad more is = refl

letter_inside : (m : ℕ) (t : List ℕ) → is_long_token t ≡ false → is_outside_strands m (letter_value t) ≡ not (is_letter_of m t)
letter_inside m t short = rw (letter_abs t, short) refl

all_inside : (m : ℕ) (ts : List (List ℕ)) → list_any is_long_token ts ≡ false
    → not (list_any (is_outside_strands m) (map letter_value ts)) ≡ list_all (is_letter_of m) ts
all_inside m [] short = refl
all_inside m (t ∷ ts) short =
    let parts = or_parts (is_long_token t) (list_any is_long_token ts) short in
    rw (letter_inside m t parts.0)
    (inside_by (is_letter_of m t) (list_any (is_outside_strands m) (map letter_value ts)) (list_all (is_letter_of m) ts) (all_inside m ts parts.1))

-- ---- content

abbrev word_of : ℕ → List (List ℕ) → Word
word_of strands ts = record { strands = strands; letters = map letter_value ts }

content_by : (s : ℕ) (ts : List (List ℕ)) (least : Bool) → nat_le 1 s ≡ least → nat_lt MAX_STRANDS s ≡ false → list_any is_long_token ts ≡ false
    → nat_lt MAX_SIZE (length ts + 2 * s) ≡ false → is_none (first_word_fault (word_of s ts)) ≡ (least && list_all (is_letter_of s) ts)
content_by s ts false is few short room = rw is refl
content_by s ts true is few short room =
    rw (found (is_outside_strands s) (map letter_value ts), is, most_by MAX_STRANDS s, few, length-map ts letter_value, room)
    (none_next (list_any (is_outside_strands s) (map letter_value ts)) (position_or_len (is_outside_strands s) (map letter_value ts)) ∙ all_inside s ts short)

-- ---- the line

ruled : {A : Type 0} (n : ℕ) (good : Bool) (x : A) → read_fault (cond good (Ok x) (Err (Malformed n))) ≡ fault_by true false good n
ruled n true x = refl
ruled n false x = refl

word_fails : (n : ℕ) (m : List ℕ) (ts : List (List ℕ)) (many long wide : Bool) → is_number m ≡ true → list_all is_letter ts ≡ true
    → nat_lt MAX_STRANDS (worth m) ≡ many → list_any is_long_token ts ≡ long → nat_lt MAX_SIZE (length ts + 2 * worth m) ≡ wide
    → read_fault (braid_of n (word_of (kept m) ts))
    ≡ fault_by true (many || (long || wide)) (nat_le 1 (worth m) && list_all (is_letter_of (worth m)) ts) n
word_fails n m ts true long wide number all is digits size = rw (above_kept MAX_STRANDS m (omega arith) number, is) refl
word_fails n m ts false true wide number all is digits size =
    rw (above_kept MAX_STRANDS m (omega arith) number, is, any_long ts all, digits) refl
word_fails n m ts false false true number all is digits size =
    rw (within MAX_STRANDS m (omega arith) number is, is, any_long ts all, digits, length-map ts letter_value, size) refl
word_fails n m ts false false false number all is digits size =
    rw (
      within MAX_STRANDS m (omega arith) number is,
      content_by (worth m) ts (nat_le 1 (worth m)) refl is digits size,
      is,
      any_long ts all,
      digits,
      length-map ts letter_value,
      size,
    )
    (ruled n (nat_le 1 (worth m) && list_all (is_letter_of (worth m)) ts) (word_of (worth m) ts))

abbrev Refuses : ℕ → List (List ℕ) → Type 0
Refuses n tokens = read_fault (braid_at (line_of n tokens)) ≡ kind_fault braid_kind (line_of n tokens)

line_fails : (n : ℕ) (tokens : List (List ℕ)) → Refuses n tokens
unfolding braid_at word number next_token
line_fails n [] = refl
line_fails n (w ∷ []) = by (bytes_eq w (codes "braid")) refl
  where
    by : (b : Bool) → bytes_eq w (codes "braid") ≡ b → Refuses n (w ∷ [])
    by true is = rw is refl
    by false is = rw is refl
line_fails n (w ∷ m ∷ ts) = by (bytes_eq w (codes "braid")) (is_number m) (list_all is_letter ts) refl refl refl
  where
    by : (a b c : Bool) → bytes_eq w (codes "braid") ≡ a → is_number m ≡ b → list_all is_letter ts ≡ c → Refuses n (w ∷ m ∷ ts)
    by true true true is strands all = rw (is, strands, each_read n ts, all) (word_fails n m ts _ _ _ strands all refl refl refl)
    by true true false is strands all = rw (is, strands, each_read n ts, all) refl
    by true false c is strands all = rw (is, strands) refl
    by false b c is strands all = rw is refl

pub braid_fails : FailsByKind braid_kind braid_at
braid_fails line = line_fails line.number line.tokens

-- Numbers of options, and that one has none.
use Rattle.std.proofs.Common.{◌≡◌, ◌<◌, ◌^◌, ℕ, Option, Some, None, Result, refl, sym, ap, subst}
use Rattle.std.specs.Prelude.{codes, unwrap_or}
use Rattle.std.specs.Str.Parse.{ExplainsUnsignedError, HasUnsignedDigitsIfOk, ParsesUnsigned, IsNumeral, without_leading_plus}
use Rattle.std.specs.declared.num.ParseIntError.{ParseIntError}
use Rattle.clap.specs.Matches.{ReadsOne, found_of}
use Rattle.clap.specs.Walk.{Text, rows_of}
use Rattle.clap.specs.declared.parser.matches.ArgMatches.{ArgMatches}
use Rattle.clap.proofs.WalkLemmas.{one_text-rows}
use Rattle.seek_words.specs.Matched.{FindsNumber, FindsNumbers, AreGivenNumbers}
use Rattle.knot_words.specs.OptionNumbers.{number_of_text}
use Rattle.seek_words.specs.Words.{IsNumberBy, AreNumbersBy}
use Rattle.seek_words.specs.declared.asked.Numbers.{Numbers}

-- what reading a text as a number of k bits gives
abbrev FromText : ℕ → Text → Result ℕ ParseIntError → Type 0
FromText k t x = ParsesUnsigned k 10 t x × ExplainsUnsignedError 10 t x × HasUnsignedDigitsIfOk t x

-- what a getter of a number answers
pub found_by : (k : ℕ) (o : Option Text) (r : Option ℕ) → (o ≡ None → r ≡ None) → ((t : Text) → o ≡ Some t → ReadsOne (FromText k) t r)
    → FindsNumber k o r
found_by k None r none value = subst (FindsNumber k None) (sym (none refl)) (λ n has. let bad : None ≡ Some has.text = has.is in cc)
found_by k (Some t) (Some n) none value =
    let read = (value t refl).0 in
    record { text = t; is = refl; numeral = read.0.0; number = sym read.1; most = subst (λ (x : ℕ). x < 2 ^ k) (sym read.1) read.0.1 }
found_by k (Some t) None none value = λ n has.
    let same : has.text ≡ t = ap (λ (o : Option Text). unwrap_or o t) (sym has.is) in
    let below = subst (λ (x : ℕ). x < 2 ^ k) (sym has.number) has.most in
    (value t refl).1.0 (subst (λ (x : Text). IsNumeral 10 (without_leading_plus x)) same has.numeral, subst (λ (x : Text). number_of_text x < 2 ^ k) same below)

-- where one option has no number
pub none_found : (m : ArgMatches) (found : Option Numbers) → found ≡ None → ((numbers : Numbers) → AreGivenNumbers m numbers → ⊥) → FindsNumbers m found
none_found m found is none = subst (FindsNumbers m) (sym is) none

-- where the matches have no numbers, neither have their rows
pub no_numbers : (m : ArgMatches) → ((numbers : Numbers) → AreGivenNumbers m numbers → ⊥) → (seed steps room workers : ℕ)
    → AreNumbersBy (rows_of (found_of m)) seed steps room workers → ⊥
no_numbers m none seed steps room workers are =
    let f = found_of m in
    none (record { seed = seed; steps = steps; room = room; workers = workers }) (record {
      seed = subst (λ o. IsNumberBy 64 o seed) (sym (one_text-rows f (codes "seed"))) are.of_seed;
      steps = subst (λ o. IsNumberBy 64 o steps) (sym (one_text-rows f (codes "steps"))) are.of_steps;
      room = subst (λ o. IsNumberBy 32 o room) (sym (one_text-rows f (codes "room"))) are.of_room;
      workers = subst (λ o. IsNumberBy 32 o workers) (sym (one_text-rows f (codes "workers"))) are.of_workers;
    })

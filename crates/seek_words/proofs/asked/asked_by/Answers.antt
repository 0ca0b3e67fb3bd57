use Rattle.std.proofs.Common.{◌≤◌, ◌<◌, inl, inr, ℕ, zero, suc, false, arith}
use Rattle.std.specs.Prelude.{IsTrue}
use Rattle.seek_words.specs.Words.{inputs_read}
use Rattle.seek_words.proofs.Numbers.{no_numbers}
use Rattle.seek_words.proofs.asked.asked_by.Goals as goal

never : IsTrue false → ⊥
never is = cc

twice : (n : ℕ) → (n ≤ 1 → IsTrue false) → 1 < n
twice zero once = absurd (never (once (omega arith)))
twice (suc zero) once = absurd (never (once (omega arith)))
twice (suc (suc n)) once = omega arith

pub returns-in_default-numbers_of-clause-refused : goal.returns-in_default-numbers_of-clause-refused
returns-in_default-numbers_of-clause-refused c = inr (inr (inl (no_numbers c.args.matches.now c.in_default-numbers_of.ensures)))

pub returns-then-not-reads_input_once-clause-refused : goal.returns-then-not-reads_input_once-clause-refused
returns-then-not-reads_input_once-clause-refused c = inr (inr (inr record {
  asked = c.in_ok-asked.asked;
  asks = c.in_ok-asked.ensures;
  twice = twice (inputs_read c.in_ok-asked.asked) c.if-not-reads_input_once.ensures.1;
}))

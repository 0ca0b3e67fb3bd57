-- How a program ends with the words that came, or with none.
use Rattle.std.proofs.Common.{◌≡◌, ℕ, List, Result, Ok, Err, String, Vec, sym, subst}
use Rattle.std.specs.Process.{exit_status}
use Rattle.std.specs.declared.alloc.Global.{Global}
use Rattle.std.specs.declared.process.ExitCode.{ExitCode}
use Rattle.knot_ports.specs.Change.{Change, IsUntouched}
use Rattle.knot_ports.specs.declared.given.NoWords.{NoWords}
use Rattle.knot_ports.specs.Given.{status_without_words}
use Rattle.knot_jobs.specs.Call.{call_of}
use Rattle.knot_words.specs.OptionNumbers.{texts_of}
use Rattle.knot.specs.KnotExit.{IsExitOfKnot, came, EndsKnot}

pub with_words : (given : Result (Vec (String Global) Global) NoWords) (words : Vec (String Global) Global) (seen : List (String Global))
    (searching : ℕ → ℕ) (source sink : Change) (exit : ExitCode) → given ≡ Ok words → seen ≡ words.items
    → IsExitOfKnot (call_of (texts_of seen) searching source sink) exit → EndsKnot (came given) searching source sink exit
with_words given words seen searching source sink exit is same ends =
    subst (λ (g : Result (Vec (String Global) Global) NoWords). EndsKnot (came g) searching source sink exit) (sym is)
    (subst (λ (list : List (String Global)). IsExitOfKnot (call_of (texts_of list) searching source sink) exit) same ends)

pub without_words : (given : Result (Vec (String Global) Global) NoWords) (why : NoWords) (searching : ℕ → ℕ) (source sink : Change) (exit : ExitCode)
    → given ≡ Err why → exit_status exit ≡ status_without_words why → IsUntouched source → IsUntouched sink
    → EndsKnot (came given) searching source sink exit
without_words given why searching source sink exit is number source_same sink_same =
    subst (λ (g : Result (Vec (String Global) Global) NoWords). EndsKnot (came g) searching source sink exit) (sym is)
    (number, (source_same, sink_same))

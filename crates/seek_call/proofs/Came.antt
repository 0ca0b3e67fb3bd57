-- How a program ends with the words that came, or with none.
use Rattle.std.proofs.Common.{◌≡◌, List, Result, Ok, Err, String, Vec, sym, subst}
use Rattle.std.specs.Process.{exit_status}
use Rattle.std.specs.declared.alloc.Global.{Global}
use Rattle.std.specs.declared.process.ExitCode.{ExitCode}
use Rattle.knot_ports.specs.declared.given.NoWords.{NoWords}
use Rattle.knot_ports.specs.Given.{status_without_words}
use Rattle.knot_words.specs.OptionNumbers.{texts_of}
use Rattle.seek_call.specs.SeekExit.{FilesTold, Outside, IsOutsideUntouched, IsExitOfSeek, came, EndsSeek}

pub with_words : (files : FilesTold) (given : Result (Vec (String Global) Global) NoWords) (words : Vec (String Global) Global)
    (seen : List (String Global)) (old new : Outside) (exit : ExitCode) → given ≡ Ok words → seen ≡ words.items
    → IsExitOfSeek files (texts_of seen) old new exit → EndsSeek files (came given) old new exit
with_words files given words seen old new exit is same ends =
    subst (λ (g : Result (Vec (String Global) Global) NoWords). EndsSeek files (came g) old new exit) (sym is)
    (subst (λ (list : List (String Global)). IsExitOfSeek files (texts_of list) old new exit) same ends)

pub without_words : (files : FilesTold) (given : Result (Vec (String Global) Global) NoWords) (why : NoWords) (old new : Outside) (exit : ExitCode)
    → given ≡ Err why → exit_status exit ≡ status_without_words why → IsOutsideUntouched old new → EndsSeek files (came given) old new exit
without_words files given why old new exit is number same =
    subst (λ (g : Result (Vec (String Global) Global) NoWords). EndsSeek files (came g) old new exit) (sym is) (number, same)

-- What a search for moves from one diagram to another answers: a list of moves, or None.
use Rattle.std.specs.Prelude.{Option, IfSome, IsSome, Vec}
use Rattle.std.specs.List.{Contains}
use Rattle.std.specs.declared.alloc.Global.{Global}
use Rattle.grid_core.specs.Diagram.{Diagram}
use Rattle.grid_moves.specs.declared.step.Move.{Move}
use Rattle.grid_moves.specs.Joining.{Joins}
use Rattle.grid_keys.specs.Translation.{translates}

-- a list that is found is legal from d on, move by move, and leads to e; None says nothing
abbrev pub JoinsIfFound : Diagram → Diagram → Option (Vec Move Global) → Type 0
JoinsIfFound d e found = IfSome found (λ moves. Joins d moves.items e)

-- where e is a translate of d, a list is found
abbrev pub FindsTranslates : Diagram → Diagram → Option (Vec Move Global) → Type 0
FindsTranslates d e found = Contains (translates d) e → IsSome found

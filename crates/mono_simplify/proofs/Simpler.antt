-- One simplification after another.
use Rattle.std.proofs.Common.{◌≡◌, ◌++◌, ◌∙◌, [], List, true, false, arith, sym, ap, subst}
use Rattle.std.specs.List.{list_any}
use Rattle.std.proofs.lemmas.Bool.{or_right}
use Rattle.std.proofs.lemmas.List.Elements.{All-nil}
use Rattle.std.proofs.lemmas.List.Folds.{list_any-append}
use Rattle.grid_core.specs.Diagram.{Diagram, size}
use Rattle.grid_moves.specs.declared.step.Move.{Move}
use Rattle.grid_moves.specs.Joining.{JoinsWithin}
use Rattle.grid_moves.proofs.Within.{within_append, within_end, within_larger}
use Rattle.grid_moves.specs.Kinds.{is_destabilisation}
use Rattle.mono_simplify.specs.Simplified.{is_monotonic, AreMonotonic}
use Rattle.mono_simplify.proofs.Monotonic.{monotonic_more}

abbrev pub IsSimpler : Diagram → List Move → Diagram → Type 0
IsSimpler d moves here = JoinsWithin (size d) d moves here × (list_any is_destabilisation moves ≡ false → (here ≡ d) × (moves ≡ [])) × AreMonotonic moves

pub not_simpler : (d here : Diagram) (moves : List Move) → here ≡ d → moves ≡ [] → IsSimpler d moves here
not_simpler d here moves same none = (
  subst (λ (ms : List Move). JoinsWithin (size d) d ms here) (sym none) (omega arith, sym same),
  λ h. (same, none),
  subst AreMonotonic (sym none) (All-nil (λ (m : Move). is_monotonic m ≡ true)),
)

pub simpler_more : (d here smaller : Diagram) (moves way seen all : List Move) → all ≡ moves ++ seen → seen ≡ way → IsSimpler d moves here
    → JoinsWithin (size here) here way smaller → list_any is_destabilisation way ≡ true → AreMonotonic way → IsSimpler d all smaller
simpler_more d here smaller moves way seen all is same known joined shrinks monotonic =
    let whole : all ≡ moves ++ way = is ∙ ap (λ (ms : List Move). moves ++ ms) same in
    let small = within_end (size d) moves d here known.0 in
    let some : list_any is_destabilisation all ≡ true = ap (λ (ms : List Move). list_any is_destabilisation ms) whole
    ∙ list_any-append is_destabilisation moves way ∙ or_right (list_any is_destabilisation moves) (list_any is_destabilisation way) shrinks in (
      subst (λ (ms : List Move). JoinsWithin (size d) d ms smaller) (sym whole)
          (within_append (size d) moves way d here smaller known.0 (within_larger (size here) (size d) way here smaller small joined)),
      λ none. absurd (let no : true ≡ false = sym some ∙ none in cc),
      monotonic_more moves way all whole known.2 monotonic,
    )

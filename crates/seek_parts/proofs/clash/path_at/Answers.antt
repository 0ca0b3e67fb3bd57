use Rattle.std.proofs.Common.{List, ℕ, subst}
use Rattle.std.specs.Borrow.{Bor}
use Rattle.std.proofs.lemmas.List.{take_all}
use Rattle.std.proofs.lemmas.List.Elements.{All-more, Contains-get_or}
use Rattle.seek_parts.specs.Clash.{IsElsewhere, IsAtNone}
use Rattle.seek_parts.proofs.clash.path_at.Goals as goal

pub loop-path-preserved : goal.loop-path-preserved
loop-path-preserved g c =
    All-more (λ (path : Bor (List ℕ)). IsElsewhere (g.F.Texts.named c.args.files.now) c.args.file path.now) c.args.paths.now c.loop-path.path-index _
    c.loop-path-test.true c.loop-path.invariant (c.stands_at.ensures.none c.if-stands_at.false)

pub returns-clause-none : goal.returns-clause-none
returns-clause-none g c =
    subst (λ (paths : List (Bor (List ℕ))). IsAtNone (g.F.Texts.named c.args.files.now) c.args.file paths)
    (take_all c.loop-path.path-index c.args.paths.now c.loop-path-test.false) c.loop-path.invariant

pub returns-then-stands_at-clause-read : goal.returns-then-stands_at-clause-read
returns-then-stands_at-clause-read g c =
    (_, (Contains-get_or c.args.paths.now c.loop-path.path-index _ c.loop-path-test.true, c.stands_at.ensures.yes c.if-stands_at.true))

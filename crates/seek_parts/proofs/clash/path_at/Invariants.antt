use Rattle.std.proofs.Common.{take}
use Rattle.seek_parts.specs.Clash.{IsAtNone}
use Rattle.seek_parts.proofs.clash.path_at.Given as goal

-- the file stands at none of the paths so far
abbrev pub invariant-loop-path : goal.invariant-loop-path
invariant-loop-path g l = IsAtNone (g.F.Texts.named l.files) l.file (take l.path-index l.paths)

-- The job `close`: a braid and quandles are answered by the closure, the columns of its feet and the fixed points of the
-- braid's action.
use Rattle.std.specs.Prelude.{◌≡◌, ℕ, ◌^◌, List, ◌∷◌, ◌++◌, codes, map, nat_lt, if◌then◌else◌}
use Rattle.std.specs.List.{flat_map}
use Rattle.std.specs.Fmt.{decimal}
use Rattle.quandle_core.specs.Quandle.{Table}
use Rattle.braid_core.specs.declared.tuples.TheConstants.{MAX_TUPLES}
use Rattle.braid_core.specs.Braid.{Word}
use Rattle.braid_core.specs.FixedPoints.{fixed_points}
use Rattle.braid_closure.specs.Closure.{closure, feet}
use Rattle.text_lines.specs.Spelled.{line_text, lines_text}
use Rattle.knot_text.specs.declared.shapes.CloseText.{CloseText}
use Rattle.quandle_core.specs.Names.{NamedQuandle}
use Rattle.knot_text.specs.Printed.{grid_text, quandle_lines}
use Rattle.reply_text.specs.declared.reply.PlainReply.{PlainReply}
use Rattle.plain_jobs.specs.Lines.{listing_lines, wide_lines}
use Rattle.reply_text.specs.Reply.{done}

-- all fixed points of a braid's action, or its number of strands, where there are too many tuples to try
abbrev pub fixed_lines : Word → Table → List (List (List ℕ))
fixed_lines b t = if nat_lt MAX_TUPLES (t.order ^ b.strands) then wide_lines b.strands else listing_lines (fixed_points t b)

-- a quandle, and all fixed points by it
abbrev pub fixed_text : Word → NamedQuandle → List ℕ
fixed_text b q = lines_text (quandle_lines (codes "quandle") q ++ fixed_lines b q.table)

-- the columns of the feet, position 1 first
abbrev pub feet_line : Word → List ℕ
feet_line b = line_text (codes "feet" ∷ map decimal (feet b))

-- the closure, its feet, and the fixed points by each quandle
abbrev pub close_text : Word → List NamedQuandle → List ℕ
close_text b quandles = grid_text (closure b) ++ (feet_line b ++ flat_map (fixed_text b) quandles)

abbrev pub AnswersClose : CloseText → PlainReply → Type 0
AnswersClose input reply = reply ≡ done (close_text input.braid input.quandles)

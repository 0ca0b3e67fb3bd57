-- The job `braidcheck`: two braids and steps from one to the other are answered by the ruling on the steps.
use Rattle.std.specs.Prelude.{◌≡◌, ℕ, List, [], ◌∷◌, codes}
use Rattle.std.specs.Fmt.{decimal}
use Rattle.braid_moves.specs.declared.step.BraidMoveFault.{BraidMoveFault}
use Rattle.braid_moves.specs.declared.step.BraidMoveFault.TheVariants as fault
use Rattle.braid_moves.specs.declared.ruling.BraidRuling.{BraidRuling}
use Rattle.braid_moves.specs.declared.ruling.BraidRuling.TheVariants.{Accepted, Step, OtherEnd}
use Rattle.braid_moves.specs.Ruling.{ruling}
use Rattle.text_lines.specs.Spelled.{line_text}
use Rattle.knot_text.specs.declared.braid_checks.BraidCheckText.{BraidCheckText}
use Rattle.reply_text.specs.declared.reply.PlainReply.{PlainReply}
use Rattle.reply_text.specs.Reply.{done, rejected}

-- why a step is not legal; want of memory is the fault of no ruling, by law, and has no word
abbrev pub braid_fault_tokens : BraidMoveFault → List (List ℕ)
braid_fault_tokens fault.Range = codes "range" ∷ []
braid_fault_tokens fault.Shape = codes "shape" ∷ []
braid_fault_tokens fault.Full = codes "full" ∷ []
braid_fault_tokens fault.OutOfMemory = []

-- the first step that is not legal, by its place
abbrev pub braid_step_tokens : ℕ → BraidMoveFault → List (List ℕ)
braid_step_tokens place fault = codes "step" ∷ decimal place ∷ braid_fault_tokens fault

abbrev pub ruled_reply : BraidRuling → PlainReply
ruled_reply Accepted = done (line_text (codes "accepted" ∷ []))
ruled_reply (Step place fault) = rejected (braid_step_tokens place fault)
ruled_reply OtherEnd = rejected (codes "otherend" ∷ [])

abbrev pub AnswersBraidcheck : BraidCheckText → PlainReply → Type 0
AnswersBraidcheck input reply = reply ≡ ruled_reply (ruling input.first input.second input.steps)

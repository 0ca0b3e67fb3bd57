-- The job `linking`: two diagrams are answered by the linking numbers of each, and whether these differ.
use Rattle.std.specs.Prelude.{◌≡◌, ℕ, ℤ, Bool, List, ◌∷◌, ◌++◌, codes, map}
use Rattle.std.specs.Ordering.{int_eq}
use Rattle.std.specs.Cmp.Lexicographic.{pointwise}
use Rattle.grid_core.specs.Diagram.{Diagram as Marks}
use Rattle.linking_core.specs.Linking.{linking}
use Rattle.text_lines.specs.Spelled.{line_text}
use Rattle.verdict_core.specs.declared.diagrams.Diagram.{Diagram}
use Rattle.knot_text.specs.Printed.{letter_token}
use Rattle.verdict_core.specs.Diagrams.{grid_of}
use Rattle.reply_text.specs.declared.reply.PlainReply.{PlainReply}
use Rattle.plain_jobs.specs.Comparison.{compared_line}
use Rattle.reply_text.specs.Reply.{done}

-- the linking numbers of all ordered pairs of different components, in ascending order
abbrev pub linking_numbers_line : Marks → List ℕ
linking_numbers_line d = line_text (codes "numbers" ∷ map letter_token (linking d))

-- the two lists are alike: equal, place by place
abbrev pub numbers_are_alike : List ℤ → List ℤ → Bool
numbers_are_alike = pointwise int_eq

-- the numbers of both, and whether they are alike
abbrev pub linking_text : Marks → Marks → List ℕ
linking_text d e = linking_numbers_line d ++ (linking_numbers_line e ++ compared_line (numbers_are_alike (linking d) (linking e)))

abbrev pub AnswersLinking : Diagram × Diagram → PlainReply → Type 0
AnswersLinking input reply = reply ≡ done (linking_text (grid_of input.0) (grid_of input.1))

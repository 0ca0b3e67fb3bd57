use Rattle.std.proofs.Common.{◌≡◌, ◌<◌, ◌∷◌, List, ℕ, length, sym, ◌∙◌, ap, ap₂, subst, rules}
use Rattle.text_lines.specs.Lines.{NumberedLine}
use Rattle.text_lines.specs.Tokens.{tokens_of}
use Rattle.text_lines.specs.Cut.{after_blanks, first_token, behind_token}
use Rattle.text_lines.proofs.FirstToken.{next_cut, no_token}
use Rattle.text_lines.proofs.line.Line.next_token.Goals as goal

pub returns-then-is_empty-clause-none : goal.returns-then-is_empty-clause-none
returns-then-is_empty-clause-none c =
    let none : length c.after_blanks-bytes.result.now ≡ 0 = search rules in
    let empty : length (after_blanks c.self.inside.rest.now) ≡ 0 = subst (λ (xs : List ℕ). length xs ≡ 0) c.after_blanks-bytes.ensures none in
    sym (ap (λ (l : NumberedLine). l.tokens) c.self.view_is) ∙ no_token c.self.inside.rest.now empty

pub returns-clause-token : goal.returns-clause-token
returns-clause-token c =
    let rest = c.self.inside.rest.now in
    let here : 0 < length c.after_blanks-bytes.result.now = search rules in
    let some : 0 < length (after_blanks rest) = subst (λ (xs : List ℕ). 0 < length xs) c.after_blanks-bytes.ensures here in
    let same = sym c.after_blanks-bytes.ensures in
    let token = ap first_token same ∙ sym c.cut_token.ensures.token in
    let behind = ap behind_token same ∙ sym c.cut_token.ensures.rest in
    let cut : tokens_of rest ≡ c.cut_token.result.0.now ∷ tokens_of c.cut_token.result.1.now =
    next_cut rest some ∙ ap₂ (λ (t r : List ℕ). t ∷ tokens_of r) token behind in
    sym c.self.view_is ∙ ap (λ (ts : List (List ℕ)). record { number = c.self.inside.number; tokens = ts }) cut

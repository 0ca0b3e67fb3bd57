use Rattle.std.proofs.Common.{◌≡◌, ◌<◌, length, List, ℕ, sym, ◌∙◌, ap, subst, rules}
use Rattle.std.specs.Str.{bytes_eq}
use Rattle.text_lines.specs.Lines.{NumberedLine, starts}
use Rattle.text_lines.specs.Cut.{after_blanks, first_token}
use Rattle.text_lines.proofs.FirstToken.{starts_cut, starts_none}
use Rattle.text_lines.proofs.line.Line.starts.Goals as goal

pub returns-then-is_empty : goal.returns-then-is_empty
returns-then-is_empty c =
    let none : length c.after_blanks-bytes.result.now ≡ 0 = search rules in
    let empty : length (after_blanks c.self.inside.rest.now) ≡ 0 = subst (λ (xs : List ℕ). length xs ≡ 0) c.after_blanks-bytes.ensures none in
    sym (starts_none c.args.word.now c.self.inside.rest.now empty) ∙ ap (λ (l : NumberedLine). starts c.args.word.now l.tokens) c.self.view_is

pub returns : goal.returns
returns c =
    let here : 0 < length c.after_blanks-bytes.result.now = search rules in
    let some : 0 < length (after_blanks c.self.inside.rest.now) = subst (λ (xs : List ℕ). 0 < length xs) c.after_blanks-bytes.ensures here in
    let word = c.args.word.now in
    let token = c.cut_token.ensures.token ∙ ap first_token c.after_blanks-bytes.ensures in
    c.eq.ensures ∙ ap (λ (t : List ℕ). bytes_eq t word) token ∙ sym (starts_cut word c.self.inside.rest.now some)
    ∙ ap (λ (l : NumberedLine). starts word l.tokens) c.self.view_is

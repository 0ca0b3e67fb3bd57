use Rattle.std.proofs.Common.{◌≡◌, ◌++◌, ◌∙◌, ℕ, List, Result, Ok, Err, OnOk, sym, ap, subst, codes, append-nil}
use Rattle.std.specs.Prelude.{if◌then◌else◌}
use Rattle.std.specs.Result.{is_ok}
use Rattle.std.specs.Fmt.{decimal}
use Rattle.std.specs.List.{flat_map}
use Rattle.text_lines.specs.Spelled.{spaced}
use Rattle.evidence_core.specs.declared.cause.Cause.{Cause}
use Rattle.evidence_core.specs.declared.cause.Cause.TheVariants.{Components, Equal}
use Rattle.reply_text.specs.Lines.{cause_tokens}
use Rattle.reply_text.proofs.lines.push_cause.Goals as goal

-- what is appended where there was memory
appended : {A E : Type 0} (r : Result A E) (new old more : List ℕ) → new ≡ (if is_ok r then old ++ more else old) → OnOk r (new ≡ old ++ more)
appended (Ok x) new old more is = is
appended (Err e) new old more is = tt

pub returns-in-Components : goal.returns-in-Components
returns-in-Components c =
    let of_text : List ℕ → Type 0 = λ t. OnOk c.push_spaced.result (c.push_spaced.new.out.items ≡ c.args.out.now.items ++ t) in
    let which : decimal c.from-in-Components.result ≡ decimal c.in-Components.which = ap decimal c.from-in-Components.ensures in
    let text : codes " components " ++ decimal c.from-in-Components.result ≡ flat_map spaced (cause_tokens (Components c.in-Components.which)) =
    ap (λ (t : List ℕ). codes " components " ++ t) (which ∙ sym (append-nil (decimal c.in-Components.which))) in
    subst (λ (k : Cause). of_text (flat_map spaced (cause_tokens k))) (sym c.in-Components.is) (subst of_text text c.push_spaced.ensures)

pub returns-in-Equal : goal.returns-in-Equal
returns-in-Equal c =
    let of_text : List ℕ → Type 0 = λ t. OnOk c.extend_from_slice.result (c.extend_from_slice.new.self.items ≡ c.args.out.now.items ++ t) in
    subst (λ (k : Cause). of_text (flat_map spaced (cause_tokens k))) (sym c.in-Equal.is)
    (appended c.extend_from_slice.result c.extend_from_slice.new.self.items c.args.out.now.items (flat_map spaced (cause_tokens Equal))
    c.extend_from_slice.ensures.items)

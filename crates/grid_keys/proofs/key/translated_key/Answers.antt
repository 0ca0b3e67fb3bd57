use Rattle.std.proofs.Common.{◌∙◌, ◌<◌, ℕ, All, length, sym, ap, subst}
use Rattle.grid_core.specs.Diagram.{Diagram}
use Rattle.grid_keys.specs.Translation.{translate}
use Rattle.grid_keys.specs.Key.{words_of}
use Rattle.grid_keys.proofs.Translated.{size-translate}
use Rattle.grid_keys.proofs.LeastTranslates.{rows_inside, rings_inside}
use Rattle.grid_keys.proofs.Numbers.{AreDigits}
use Rattle.grid_keys.proofs.Words.{translated_digits}
use Rattle.grid_keys.proofs.Keys.{key_from}
use Rattle.grid_keys.proofs.key.translated_key.Goals as goal

pub translated_rows-crosses-requires-clause-inside : goal.translated_rows-crosses-requires-clause-inside
translated_rows-crosses-requires-clause-inside c = rows_inside (record { x = c.args.x.now; o = c.args.o.now }) c.requires.grid

pub translated_rows-rings-requires-clause-inside : goal.translated_rows-rings-requires-clause-inside
translated_rows-rings-requires-clause-inside c =
    subst (λ (n : ℕ). All (λ r. r < n) c.args.o.now) c.requires.grid.same (rings_inside (record { x = c.args.x.now; o = c.args.o.now }) c.requires.grid)

pub words_of-requires-clause-inside : goal.words_of-requires-clause-inside
words_of-requires-clause-inside c =
    subst AreDigits (sym (c.as_slice.ensures.value ∙ c.translated_rows-crosses.ensures))
    (translated_digits (length c.args.x.now) c.args.columns c.args.by c.args.x.now c.requires.grid.most c.requires.by
    (rows_inside (record { x = c.args.x.now; o = c.args.o.now }) c.requires.grid))

pub words_of-requires-2-clause-inside : goal.words_of-requires-2-clause-inside
words_of-requires-2-clause-inside c =
    subst AreDigits (sym (c.as_slice-2.ensures.value ∙ c.translated_rows-rings.ensures))
    (translated_digits (length c.args.x.now) c.args.columns c.args.by c.args.o.now c.requires.grid.most c.requires.by
    (subst (λ (n : ℕ). All (λ r. r < n) c.args.o.now) c.requires.grid.same (rings_inside (record { x = c.args.x.now; o = c.args.o.now }) c.requires.grid)))

pub returns : goal.returns
returns c =
    let d : Diagram = record { x = c.args.x.now; o = c.args.o.now } in
    sym (key_from (translate d c.args.columns c.args.by) (length c.args.x.now) c.words_of.result c.words_of-2.result
    (sym (size-translate d c.args.columns c.args.by c.requires.columns))
    (c.words_of.ensures ∙ ap words_of (c.as_slice.ensures.value ∙ c.translated_rows-crosses.ensures))
    (c.words_of-2.ensures ∙ ap words_of (c.as_slice-2.ensures.value ∙ c.translated_rows-rings.ensures)))

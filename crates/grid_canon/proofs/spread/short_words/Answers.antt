use Rattle.std.proofs.Common.{◌<◌, ◌^◌, ℕ, arith, subst, sym}
use Rattle.grid_canon.specs.declared.digits.TheConstants.{MAX_SHORT_SIZE, SHORT_BASE}
use Rattle.grid_canon.specs.Digits.{digits}
use Rattle.grid_canon.proofs.NumbersOfDigits.{length-digits}
use Rattle.grid_keys.proofs.Words.{first_word}
use Rattle.grid_canon.proofs.ShortKeys.{full_short, full_word}
use Rattle.grid_canon.proofs.spread.short_words.Goals as goal

pub spread_word-requires : goal.spread_word-requires
spread_word-requires c =
    let full = full_short c.args.value c.args.size c.requires.most c.requires.value in
    subst (λ (z : ℕ). z < SHORT_BASE ^ MAX_SHORT_SIZE) (sym full.0) full.1

pub returns : goal.returns
returns c =
    let full = full_short c.args.value c.args.size c.requires.most c.requires.value in
    first_word (digits c.args.size c.args.value) c.spread_word.result
    (omega (arith, length-digits c.args.size c.args.value, c.requires.most))
    (full_word c.args.value c.args.size _ c.spread_word.result c.requires.most c.requires.value full.0 c.spread_word.ensures)

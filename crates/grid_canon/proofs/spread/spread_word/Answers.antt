use Rattle.std.proofs.Common.{◌≡◌, ◌+◌, ◌-◌, ◌*◌, ◌/◌, ◌%◌, ◌^◌, ◌∙◌, ℕ, arith, sym, ap, ap₂}
use Rattle.grid_canon.specs.declared.digits.TheConstants.{MAX_SHORT_SIZE}
use Rattle.grid_keys.specs.declared.key.TheConstants.{BASE, WORD_COLUMNS}
use Rattle.grid_canon.specs.declared.spread.TheConstants.{HALF, SHORT_HALF, FRONT_PLACE, BACK_PLACE}
use Rattle.grid_canon.specs.Digits.{digits}
use Rattle.grid_keys.specs.Key.{key_number}
use Rattle.grid_canon.proofs.ShortKeys.{cut_in_two}
use Rattle.grid_canon.proofs.spread.spread_word.Goals as goal

pub spread_half-front-requires : goal.spread_half-front-requires
spread_half-front-requires c = (cut_in_two HALF HALF c.args.full c.requires).front_below

pub spread_half-back-requires : goal.spread_half-back-requires
spread_half-back-requires c = (cut_in_two HALF HALF c.args.full c.requires).back_below

pub returns : goal.returns
returns c =
    let both = cut_in_two HALF HALF c.args.full c.requires in
    ap₂ (λ (z w : ℕ). z * FRONT_PLACE + w * BACK_PLACE) (c.from.ensures ∙ c.spread_half-front.ensures) (c.from-2.ensures ∙ c.spread_half-back.ensures)
    ∙ placed (key_number (digits HALF (c.args.full / SHORT_HALF))) (key_number (digits HALF (c.args.full % SHORT_HALF)))
    ∙ sym (ap (λ (z : ℕ). z * BASE ^ (WORD_COLUMNS - MAX_SHORT_SIZE)) both.spread)
  where
    placed : (a b : ℕ) → a * FRONT_PLACE + b * BACK_PLACE ≡ (a * BASE ^ HALF + b) * BASE ^ (WORD_COLUMNS - MAX_SHORT_SIZE)
    placed a b = omega arith

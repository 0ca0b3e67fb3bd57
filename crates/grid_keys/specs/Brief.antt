-- Brief keys: the key of a grid of at most as many columns as a word has, in two numbers.
use Rattle.std.specs.Prelude.{◌-◌, ◌/◌, ◌%◌, ◌==◌, ◌&&◌, ◌∷◌, Bool, replicate}
use Rattle.grid_keys.specs.declared.brief.BriefKey.{BriefKey}
use Rattle.grid_keys.specs.declared.brief.TheConstants.{SIZE_PLACE}
use Rattle.grid_keys.specs.declared.key.Packed.{Packed}
use Rattle.grid_keys.specs.declared.key.TheConstants.{WORDS}

-- the key that a brief key stands for: the size stands above the digits of the Xs, and the words behind the first of each kind are 0
abbrev pub whole_key : BriefKey → Packed
whole_key brief = record {
  size = brief.x / SIZE_PLACE;
  x = brief.x % SIZE_PLACE ∷ replicate (WORDS - 1) 0;
  o = brief.o ∷ replicate (WORDS - 1) 0;
}

-- whether two brief keys are one
abbrev pub same_brief : BriefKey → BriefKey → Bool
same_brief a b = (a.x == b.x) && (a.o == b.o)

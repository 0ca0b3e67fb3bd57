-- What is known of keys, in two maps; only private clauses and proofs cite this file.
use Rattle.std.specs.Prelude.{◌≢◌, ◌++◌, List, map}
use Rattle.std.specs.List.{All}
use Rattle.grid_keys.specs.declared.brief.BriefKey.{BriefKey}
use Rattle.grid_keys.specs.declared.key.Packed.{Packed}
use Rattle.grid_keys.specs.Brief.{whole_key}
use Rattle.search_book.specs.declared.key_map.Known.{Known}

-- a pair with the key that its brief key stands for
abbrev pub whole_pair : BriefKey × Known → Packed × Known
whole_pair p = (whole_key p.0, p.1)

-- the pairs of both maps, by whole keys
abbrev pub pairs : List (BriefKey × Known) → List (Packed × Known) → List (Packed × Known)
pairs brief whole = map whole_pair brief ++ whole

-- no brief key stands for this key
abbrev pub IsWide : Packed → Type 0
IsWide key = (brief : BriefKey) → whole_key brief ≢ key

-- no brief key stands for any of these keys
abbrev pub AreWide : List (Packed × Known) → Type 0
AreWide whole = All (λ (p : Packed × Known). IsWide p.0) whole

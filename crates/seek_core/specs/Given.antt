-- Blocks that are given in texts.
use Rattle.std.specs.Prelude.{ℕ, List, ◌++◌, Result, Ok}
use Rattle.text_items.specs.declared.fault.TextFault.{TextFault}
use Rattle.text_items.specs.Reading.{◌>>=◌}
use Rattle.evidence_core.specs.declared.blocks.Block.{Block}
use Rattle.number_text.specs.Blocks.{blocks_of}

-- blocks with those of a text behind them
abbrev pub more_blocks : List Block → List ℕ → Result (List Block) TextFault
more_blocks blocks bytes = do
  more ← blocks_of bytes
  Ok (blocks ++ more)

-- The pins so far, and those of the rest of the keys.
use Rattle.std.proofs.Common.{◌≡◌, ◌++◌, drop, option_map}
use Rattle.toml.specs.View.{table_view}
use Rattle.dft_library_text.specs.Drafts.{pins_of}
use Rattle.dft_library_text.proofs.draft.pins_of.Given as goal

abbrev pub invariant-loop-key : goal.invariant-loop-key
invariant-loop-key l = pins_of l.keys (table_view l.table) ≡ option_map (λ rest. l.pins ++ rest) (pins_of (drop l.key-index l.keys) (table_view l.table))

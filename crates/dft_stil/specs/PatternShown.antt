-- A pattern so far, as the definitions have it.
use Rattle.std.specs.Prelude.{List, []}
use Rattle.dft_stil.specs.declared.statements.PatternBlock.{PatternBlock}
use Rattle.dft_stil.specs.declared.execution.Burst.{Burst}
use Rattle.dft_patterns.specs.declared.act.Act.{Act}
use Rattle.dft_patterns.specs.Patterns.{Patterns}
use Rattle.dft_stil_text.specs.SignalGroups.{Names}
use Rattle.dft_stil_text.specs.PatternText as text
use Rattle.dft_stil_text.specs.Statements as spec

abbrev pub pattern_as : PatternBlock → spec.PatternBlock
pattern_as p = record { table = p.table; acts = p.acts; vectors = p.vectors.items }

abbrev pub burst_as : Burst → text.Burst
burst_as b = record { name = b.name.now; pattern = b.pattern.now }

-- vectors at the signals of a text
abbrev pub patterns_with : Names → List (List Act) → Patterns
patterns_with names vectors = record { signals = names.signals; vectors = vectors; notes = [] }

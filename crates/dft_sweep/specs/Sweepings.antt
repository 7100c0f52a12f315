-- Marked nets are evaluated in a circuit's order.
use Rattle.std.specs.Prelude.{ℕ, List}
use Rattle.dft_base.specs.declared.tri.Tri.{Tri}
use Rattle.dft_logic.specs.Sweepings.{Sweeping}
use Rattle.dft_sweep.specs.declared.field.Field.{Field}
use Rattle.dft_sweep.specs.declared.marks.Marks.{Marks}
use Rattle.dft_sweep.specs.Fields.{IsGivenIf, meaning_at, sources_of}

-- a sweep of the circuit of a field: each needed net that is not marked has its value
abbrev pub AreSwept : Field → (values : List Tri) → Marks → (j : ℕ) → Type 0
AreSwept f values m j = Sweeping f.circuit.now.ops (IsGivenIf f.needed.now (meaning_at f) (sources_of f.sources) values) f.circuit.now.order m.marked.items j

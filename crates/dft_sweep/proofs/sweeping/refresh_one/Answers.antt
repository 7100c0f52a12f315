-- A net that is not needed is left as it is.
use Rattle.std.proofs.Common.{◌∙◌, sym}
use Rattle.dft_sweep.specs.Fields.{meaning_at, sources_of}
use Rattle.dft_sweep.proofs.Sweeps.{unneeded}
use Rattle.dft_sweep.proofs.sweeping.refresh_one.Goals as goal

pub returns-else-is_needed-clause-given : goal.returns-else-is_needed-clause-given
returns-else-is_needed-clause-given c = λ k down. (let f = c.args.field.now in unneeded f.needed.now (meaning_at f) (sources_of f.sources) c.args.values.now c.args.net.0 k (sym c.is_needed.ensures ∙ c.if-is_needed.false))

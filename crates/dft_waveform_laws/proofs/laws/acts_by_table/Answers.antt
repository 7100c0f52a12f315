use Rattle.dft_waveform_laws.proofs.TableLemmas.{acted}
use Rattle.dft_waveform_laws.proofs.laws.acts_by_table.Goals as goal

pub returns : goal.returns
returns c = acted

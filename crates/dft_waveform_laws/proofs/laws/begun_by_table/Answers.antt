use Rattle.dft_waveform_laws.proofs.TableLemmas.{begun}
use Rattle.dft_waveform_laws.proofs.laws.begun_by_table.Goals as goal

pub returns : goal.returns
returns c = begun

-- A file that is to be saved, as the code has it.
use Rattle.dft_top.specs.declared.saving.Saving.{Saving}
use Rattle.dft_top.specs.Saves as saves

abbrev pub saving_of : Saving → saves.Saving
saving_of s = record { name = s.name.now; bytes = s.bytes.now }

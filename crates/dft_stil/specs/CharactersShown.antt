-- Characters so far, as the definitions have them.
use Rattle.dft_stil.specs.declared.characters.Filling.{Filling}
use Rattle.dft_stil_text.specs.Statements as spec

abbrev pub filling_as : Filling → spec.Filling
filling_as f = record { acts = f.acts; ahead = f.ahead.now; over = f.over }

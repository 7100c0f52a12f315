-- What a `Seeker` shows, and what holds of it.
use Rattle.dft_seek.specs.Rigs.{IsRig}
use Rattle.dft_seek.specs.Seeking.{Seeking}
use Rattle.dft_seek.specs.declared.seeker.Seeker.TheInside.{Inside}

abbrev pub seeking_of : Inside → Seeking
seeking_of s = record { design = s.rig.design.now; config = s.rig.config.now; domain = s.rig.domain }

abbrev pub IsSeeker : Inside → Type 0
IsSeeker s = IsRig s.rig

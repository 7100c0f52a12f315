use Rattle.std.proofs.Common.{drop, map}
use Rattle.dft_top.specs.Named.{saving_of}
use Rattle.dft_top.proofs.SavesInTurn.{AreLeft}
use Rattle.dft_top.proofs.saving.save_all.Given as goal

abbrev pub invariant-loop-saving : goal.invariant-loop-saving
invariant-loop-saving g l =
    AreLeft (map saving_of l.savings) (map saving_of (drop l.saving-index l.savings)) (g.F.Files.held l.fn.files) (g.F.Files.held l.files) (g.F.Files.write_faults l.fn.files) (g.F.Files.write_faults l.files)
    (g.F.Files.short_saves l.fn.files) (g.F.Files.short_saves l.files)

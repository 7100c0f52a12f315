-- The ring is that of the configuration.
use Rattle.std.proofs.Common.{◌≡◌}
use Rattle.dft_cube_reports.proofs.cell_sums.variables_of.Goals as goal

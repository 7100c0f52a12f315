-- Why modules have no flat design, from what each test tells.
use Rattle.std.proofs.Common.{◌≡◌, List, Option, None, Some, refl, ◌∙◌}
use Rattle.dft_cells.specs.declared.cell.Cell.{Cell}
use Rattle.dft_modules.specs.declared.connections.Connection.{Connection}
use Rattle.dft_modules.specs.Modules.{Module}
use Rattle.dft_hier.specs.declared.error.HierError.{HierError}
use Rattle.dft_hier.specs.declared.error.HierError.TheVariants as told
use Rattle.dft_hier.specs.Hierarchy.{all_subs, HaveOwnNames}
use Rattle.dft_hier.specs.Numbers.{children_of, TellsLost}
use Rattle.dft_hier.specs.Fitting.{TellsMisfit}
use Rattle.dft_hier.specs.TopNumbers.{TellsTops}
use Rattle.dft_hier.specs.Refusals.{first_unknown, first_misfit, NoneInItself, TellsFirst, IsHierarchy, CannotFlatten}
use Rattle.dft_hier.proofs.ModuleLemmas.{tops_length}

pub lost_told : (ms : List Module) (library : List Cell) (error : HierError) → TellsLost (first_unknown ms) error → CannotFlatten ms library error
lost_told ms library (told.H2 name) t = t
lost_told ms library (told.Memory error) t = tt
lost_told ms library _ t = absurd t

pub first_told : (ms : List Module) (library : List Cell) (error : HierError) → first_unknown ms ≡ None → TellsFirst ms error → CannotFlatten ms library error
first_told ms library (told.H3 name) known t = (known, t)
first_told ms library (told.Memory error) known t = tt
first_told ms library _ known t = absurd t

pub tops_told : (ms : List Module) (library : List Cell) (error : HierError) → HaveOwnNames ms → first_unknown ms ≡ None → NoneInItself ms ms → TellsTops (children_of ms) error → CannotFlatten ms library error
tops_told ms library (told.H4 count) own known apart t = record { known = known; apart = apart; is = t.0 ∙ tops_length ms own; other = t.1 }
tops_told ms library (told.Memory error) own known apart t = tt
tops_told ms library _ own known apart t = absurd t

pub misfit_told : (ms : List Module) (library : List Cell) (error : HierError) (top : Module) → IsHierarchy ms top → TellsMisfit (first_misfit ms (all_subs ms)) error → CannotFlatten ms library error
misfit_told ms library (told.H5 place name) top h t = by (first_misfit ms (all_subs ms)) refl t
  where
    by : (o : Option Connection) → first_misfit ms (all_subs ms) ≡ o → TellsMisfit o (told.H5 place name) → CannotFlatten ms library (told.H5 place name)
    by None is t = absurd t
    by (Some c) is t = record { top = top; hierarchy = h; connection = c; first = is; at = t.0; named = t.1 }
misfit_told ms library (told.Memory error) top h t = tt
misfit_told ms library _ top h t = absurd t

use Rattle.std.proofs.Common.{◌<◌, ◌≡◌, length, get_or, Some, sym, ap, ◌∙◌, rules}
use Rattle.dft_numbered.specs.Numbers.{look_up}
use Rattle.dft_hier.specs.Refusals.{fits_port}
use Rattle.dft_hier.proofs.FitLemmas.{port_live, fits_some, fits_none}
use Rattle.dft_hier.proofs.fitting.fits_module.Goals as goal

pub bounds-ports-number : goal.bounds-ports-number
bounds-ports-number c =
    let found : look_up c.args.ports.now c.args.connection.now.port ≡ Some c.in-Some.number = sym (rw c.as_slice.ensures.bytes at c.find.ensures) ∙ c.in-Some.is in
    rw c.ports.ensures (port_live c.args.ports.now c.args.owner.now.ports c.args.connection.now.port c.in-Some.number c.requires found)

pub offset_bounds-ports-number : goal.offset_bounds-ports-number
offset_bounds-ports-number c =
    let found : look_up c.args.ports.now c.args.connection.now.port ≡ Some c.in-Some.number = sym (rw c.as_slice.ensures.bytes at c.find.ensures) ∙ c.in-Some.is in
    let live : c.in-Some.number < length c.ports.result.now = rw c.ports.ensures (port_live c.args.ports.now c.args.owner.now.ports c.args.connection.now.port c.in-Some.number c.requires found) in
    search rules

pub returns-in-Some : goal.returns-in-Some
returns-in-Some c =
    let found : look_up c.args.ports.now c.args.connection.now.port ≡ Some c.in-Some.number = sym (rw c.as_slice.ensures.bytes at c.find.ensures) ∙ c.in-Some.is in
    let is : c.index-ports-number.result ≡ get_or c.args.owner.now.ports c.in-Some.number c.index-ports-number.result = rw c.ports.ensures at c.index-ports-number.is in
    c.fits_port.ensures ∙ ap (fits_port (Some c.index-ports-number.result)) c.as_slice-in-Some.ensures ∙ fits_some c.args.ports.now c.args.owner.now.ports c.args.connection.now c.in-Some.number c.index-ports-number.result c.requires found is

pub returns-in-None : goal.returns-in-None
returns-in-None c = sym (fits_none c.args.ports.now c.args.owner.now.ports c.args.connection.now c.requires (sym (rw c.as_slice.ensures.bytes at c.find.ensures) ∙ c.in-None.is))

-- The cells and the ports of the node.
use Rattle.std.proofs.Common.{ℕ, List, None, ◌≡◌, ◌∙◌, sym, ap, drop}
use Rattle.dft_netlist.specs.declared.ids.InstanceId.{InstanceId}
use Rattle.dft_seek.specs.Cones.{cone_of}
use Rattle.dft_seek.specs.Sought.{cells_given, ports_given}
use Rattle.dft_seek.specs.Turns.{paired}
use Rattle.dft_seek.specs.declared.found.Found.TheVariants as found
use Rattle.dft_seek.proofs.CubeLemmas.{cells_are, ports_are}
use Rattle.dft_seek.proofs.rig.Rig.cube.Goals as goal

pub returns : goal.returns
returns c =
    let cone = c.args.cone.now in
    let bits = c.args.bits.now in
    let cells : c.from_vec.result ≡ cells_given (cone_of cone).variables bits =
    c.from_vec.ensures ∙ c.in_ok-cells.ensures ∙ ap (λ (l : List InstanceId). paired l bits) c.deref.ensures.value ∙ sym (cells_are cone.cells.items cone.ports.items bits) in
    let ports : c.from_vec-2.result ≡ ports_given (cone_of cone).variables bits =
    c.from_vec-2.ensures ∙ c.in_ok-ports.ensures ∙ (λ t. paired (c.deref-2.ensures.value t) ((c.rest.ensures ∙ ap (λ (n : ℕ). drop n bits) (c.len.ensures ∙ cone.cells.ok.0)) t)) ∙ sym (ports_are cone.cells.items cone.ports.items bits) in
    λ t. found.Cube (record { name = c.args.name; domains = record { first = c.args.self.now.domain; second = None }; cells = cells t; ports = ports t })

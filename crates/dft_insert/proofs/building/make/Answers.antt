use Rattle.std.proofs.Common.{◌≡◌, length, sym, subst, ap, arith, ◌∙◌}
use Rattle.dft_netlist.specs.Netlist.{Netlist}
use Rattle.dft_scan_frame.specs.Moves.{Gap}
use Rattle.dft_insert.specs.declared.style.Style.{Style}
use Rattle.dft_insert.specs.declared.style.Style.TheVariants.{Plain, Edt}
use Rattle.dft_insert.specs.Bounds.{EdtThere}
use Rattle.dft_insert.specs.Frame.{frame}
use Rattle.dft_insert.specs.Ports.{gap_in, edt_nets}
use Rattle.dft_insert.proofs.Filling.{chains_planned, plain_room, edt_room, before_few, plain_ports_there, edt_ports_there}
use Rattle.dft_insert.proofs.building.make.Goals as goal

pub make_plain-requires-clause-room : goal.make_plain-requires-clause-room
make_plain-requires-clause-room c =
    let gap : c.args.gap.now ≡ gap_in Plain c.args.design.now c.args.config.now = c.requires.gap ∙ ap (λ (s : Style). gap_in s c.args.design.now c.args.config.now) c.in-Plain.is in
    omega (arith, ap (λ (g : Gap). g.width) gap, plain_room c.args.config.now c.soundness-2.ensures)

pub make_plain-requires-clause-ports : goal.make_plain-requires-clause-ports
make_plain-requires-clause-ports c =
    let n = c.args.design.now in
    let config = c.args.config.now in
    let gap : c.args.gap.now ≡ gap_in Plain n config = c.requires.gap ∙ ap (λ (s : Style). gap_in s n config) c.in-Plain.is in
    let netlist : c.args.parts.now.netlist ≡ frame Plain n config = c.requires.frame ∙ ap (λ (s : Style). frame s n config) c.in-Plain.is in
    omega (arith, ap (λ (g : Gap). g.before) gap, ap (λ (w : Netlist). length w.nets) netlist, plain_ports_there n config c.args.chains.now c.soundness.ensures.netlist c.requires.planned)

pub make_edt-requires-clause-count : goal.make_edt-requires-clause-count
make_edt-requires-clause-count c = chains_planned c.args.design.now c.args.config.now c.args.chains.now c.requires.planned

pub make_edt-requires-clause-room : goal.make_edt-requires-clause-room
make_edt-requires-clause-room c =
    let gap : c.args.gap.now ≡ gap_in Edt c.args.design.now c.args.config.now = c.requires.gap ∙ ap (λ (s : Style). gap_in s c.args.design.now c.args.config.now) c.in-Edt.is in
    omega (arith, ap (λ (g : Gap). g.width) gap, edt_room c.args.config.now c.soundness-2.ensures)

pub make_edt-requires-clause-before : goal.make_edt-requires-clause-before
make_edt-requires-clause-before c = omega (arith, ap (λ (g : Gap). g.before) c.requires.gap, before_few c.args.design.now c.args.config.now c.args.style c.soundness.ensures.netlist)

pub make_edt-requires-clause-ports : goal.make_edt-requires-clause-ports
make_edt-requires-clause-ports c =
    let n = c.args.design.now in
    let config = c.args.config.now in
    let gap : c.args.gap.now ≡ gap_in Edt n config = c.requires.gap ∙ ap (λ (s : Style). gap_in s n config) c.in-Edt.is in
    let netlist : c.args.parts.now.netlist ≡ frame Edt n config = c.requires.frame ∙ ap (λ (s : Style). frame s n config) c.in-Edt.is in
    subst (λ (g : Gap). EdtThere c.args.parts.now.netlist config (edt_nets g.before config)) (sym gap)
    (subst (λ (w : Netlist). EdtThere w config (edt_nets (gap_in Edt n config).before config)) (sym netlist) (edt_ports_there n config c.soundness.ensures.netlist))

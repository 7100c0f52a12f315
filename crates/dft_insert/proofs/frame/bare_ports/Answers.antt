use Rattle.std.proofs.Common.{List, ◌∙◌, ap, sym, subst}
use Rattle.dft_netlist.specs.declared.port.Port.{Port}
use Rattle.dft_scan_frame.specs.Growing.{AllFit, port_things, with_things}
use Rattle.dft_scan_frame.proofs.EmptyFrames.{ports_pass}
use Rattle.dft_insert.proofs.Frames.{ports_done}
use Rattle.dft_insert.proofs.frame.bare_ports.Goals as goal

pub carry_ports-requires : goal.carry_ports-requires
carry_ports-requires c =
    subst (λ (ps : List Port). AllFit c.in_ok-builder.builder (port_things ps)) (sym c.ports.ensures.ports) (ports_pass c.args.design.now c.in_ok-builder.builder c.ports.ensures.sound c.in_ok-builder.ensures)

pub returns : goal.returns
returns c =
    ports_done c.args.design.now c.in_ok-builder.builder c.carry_ports.new.builder c.ports.ensures.sound c.in_ok-builder.ensures
    (c.in_ok-carry_ports.ensures ∙ ap (λ (ps : List Port). with_things c.in_ok-builder.builder (port_things ps)) c.ports.ensures.ports)

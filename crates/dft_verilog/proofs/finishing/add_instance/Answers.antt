use Rattle.std.proofs.Common.{◌≡◌, ◌∙◌, ◌++◌, ◌∷◌, [], map, ap}
use Rattle.dft_netlist.specs.declared.instance.Instance.{Instance}
use Rattle.dft_netlist.specs.declared.instance.CellRef.{CellRef}
use Rattle.dft_netlist.specs.Netlist.{Netlist}
use Rattle.dft_netlist_text.specs.Modules.{Draft}
use Rattle.dft_netlist_text.specs.NetlistText.{net_order, final_signal}
use Rattle.dft_verilog.proofs.GrowLemmas.{instance_of, instance-free, add_instance-by}
use Rattle.dft_verilog.proofs.StandingLemmas.{pins-final, instance-stands}
use Rattle.dft_verilog.proofs.finishing.add_instance.Goals as goal

pub add_instance-requires-clause-fits : goal.add_instance-requires-clause-fits
add_instance-requires-clause-fits c =
    let d : Draft = c.args.draft.now in
    let i : Instance = c.args.instance.now in
    let pins : c.in_ok-pins.pins ≡ map (final_signal (net_order d)) i.pins = c.in_ok-pins.ensures ∙ ap (map _) c.pins.ensures ∙ pins-final d c.args.finals.now c.requires.finals i.pins c.requires.fits.live in
    rw (pins, c.in_ok-name.ensures, c.cell-cell.ensures) (instance-stands d c.args.finals.now c.args.builder.now i c.requires.nets c.requires.finals c.requires.fits)

pub returns-clause-grown : goal.returns-clause-grown
returns-clause-grown c =
    let d : Draft = c.args.draft.now in
    let n : Netlist = c.args.builder.now in
    let i : Instance = c.args.instance.now in
    let pins : c.in_ok-pins.pins ≡ map (final_signal (net_order d)) i.pins = c.in_ok-pins.ensures ∙ ap (map _) c.pins.ensures ∙ pins-final d c.args.finals.now c.requires.finals i.pins c.requires.fits.live in
    add_instance-by (net_order d) n c.add_instance.new.self i c.in_ok-name.name c.in_ok-pins.pins c.in_ok-name.ensures pins
    (instance-free (net_order d) n i c.in_ok-name.name c.in_ok-name.ensures c.requires.grown)
    (c.in_ok-add_instance.ensures.ok.grown ∙ ap (λ (cell : CellRef). record n { instances = n.instances ++ instance_of c.in_ok-name.name cell c.in_ok-pins.pins ∷ [] }) c.cell-cell.ensures)

use Rattle.std.proofs.Common.{◌≡◌, ◌<◌, ◌∙◌, Some, sym, arith, length, slice_get, true, false, is_some}
use Rattle.std.proofs.lemmas.List.{get_or_read}
use Rattle.dft_netlist.specs.Drivers.{connections_of, shape_of}
use Rattle.dft_netlist.proofs.NotesLemmas.{item_at}
use Rattle.dft_cells.specs.declared.kind.Role.TheVariants.{Clock, Reset, Preset}
use Rattle.dft_netlist.specs.Connections.{signal_of}
use Rattle.dft_rules.specs.Findings.{are_held_by, clock_at}
use Rattle.dft_rules.specs.Rules.{may_be_scanned, scan_cell_in}
use Rattle.dft_rules.proofs.JudgeLemmas.{same_judged, judged_no, judged_yes}
use Rattle.dft_rules.proofs.judging.judge_instance.Goals as goal

pub returns-then-not-may_be_scanned : goal.returns-then-not-may_be_scanned
returns-then-not-may_be_scanned c = λ config found.
    (let n = c.args.design.now in
    let x = c.index-instances-number.result in
    let at : slice_get n.instances c.args.number ≡ Some x = item_at n.instances c.args.number x c.requires.number (rw c.instances.ensures.instances at c.index-instances-number.is) in
    let no : may_be_scanned (shape_of n.library x.cell).kind ≡ false = rw (c.kind_of.ensures, c.cells-cells.ensures.cells, c.library.ensures.library) at (sym c.may_be_scanned.ensures ∙ c.if-not-may_be_scanned.true) in
    sym (same_judged n config c.args.found.now c.args.number x at c.requires.number found ∙ judged_no n c.args.found.now c.args.number x no))

pub signal_of-pin-requires : goal.signal_of-pin-requires
signal_of-pin-requires c =
    let n = c.args.design.now in
    let x = c.index-instances-number.result in
    let at : slice_get n.instances c.args.number ≡ Some x = item_at n.instances c.args.number x c.requires.number (rw c.instances.ensures.instances at c.index-instances-number.is) in
    rw (c.cells-cells.ensures.cells, c.library.ensures.library) (c.instances.ensures.sound.instances c.args.number x at).width

pub signal_of-reset-requires : goal.signal_of-reset-requires
signal_of-reset-requires c =
    let n = c.args.design.now in
    let x = c.index-instances-number.result in
    let at : slice_get n.instances c.args.number ≡ Some x = item_at n.instances c.args.number x c.requires.number (rw c.instances.ensures.instances at c.index-instances-number.is) in
    rw (c.cells-cells.ensures.cells, c.library.ensures.library) (c.instances.ensures.sound.instances c.args.number x at).width

pub signal_of-preset-requires : goal.signal_of-preset-requires
signal_of-preset-requires c =
    let n = c.args.design.now in
    let x = c.index-instances-number.result in
    let at : slice_get n.instances c.args.number ≡ Some x = item_at n.instances c.args.number x c.requires.number (rw c.instances.ensures.instances at c.index-instances-number.is) in
    rw (c.cells-cells.ensures.cells, c.library.ensures.library) (c.instances.ensures.sound.instances c.args.number x at).width

pub returns : goal.returns
returns c = λ config found.
    (let n = c.args.design.now in
    let f = c.args.found.now in
    let x = c.index-instances-number.result in
    let at : slice_get n.instances c.args.number ≡ Some x = item_at n.instances c.args.number x c.requires.number (rw c.instances.ensures.instances at c.index-instances-number.is) in
    let yes : may_be_scanned (shape_of n.library x.cell).kind ≡ true = rw (c.kind_of.ensures, c.cells-cells.ensures.cells, c.library.ensures.library) at (sym c.may_be_scanned.ensures ∙ c.if-not-may_be_scanned.false) in
    let pins = connections_of n.library x in
    let pin : c.signal_of-pin.result ≡ signal_of Clock pins = rw (c.cells-cells.ensures.cells, c.library.ensures.library) at c.signal_of-pin.ensures in
    let reset : c.signal_of-reset.result ≡ signal_of Reset pins = rw (c.cells-cells.ensures.cells, c.library.ensures.library) at c.signal_of-reset.ensures in
    let preset : c.signal_of-preset.result ≡ signal_of Preset pins = rw (c.cells-cells.ensures.cells, c.library.ensures.library) at c.signal_of-preset.ensures in
    let clock : c.clock_at-clock.result ≡ clock_at f.domains.items f.roots.items (signal_of Clock pins) = rw (c.deref.ensures.value, c.deref-2.ensures.value, pin) at c.clock_at-clock.ensures in
    let held : c.are_held-held.result ≡ are_held_by f.resets.items f.roots.items (signal_of Reset pins) (signal_of Preset pins) = rw (c.deref-3.ensures.value, c.deref-4.ensures.value, reset, preset) at c.are_held-held.ensures in
    let scans : c.has_scan_cell-scans.result ≡ is_some (scan_cell_in n.library x.cell) = rw (c.cells-cells.ensures.cells, c.library.ensures.library) at c.has_scan_cell-scans.ensures in
    let there : c.args.number < length f.kept.items = omega (arith, c.requires.found.kept) in
    let kept = get_or_read f.kept.items c.args.number c.index.result.now there c.index.ensures false in
    sym (same_judged n config f c.args.number x at c.requires.number found ∙ judged_yes n f c.args.number x c.clock_at-clock.result c.are_held-held.result c.has_scan_cell-scans.result c.index.result.now yes clock held scans kept ∙ sym c.judgement.ensures))

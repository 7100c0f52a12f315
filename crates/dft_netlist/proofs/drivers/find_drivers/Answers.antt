use Rattle.std.proofs.Common.{◌≡◌, ◌∙◌, ap, sym, subst, length, None, Some}
use Rattle.dft_netlist.specs.Finding.{AreDrivers}
use Rattle.dft_netlist.specs.Notes.{Notes, ports_drives, instances_drives}
use Rattle.dft_netlist.proofs.LiveLemmas.{found_drivers, clash_first, bit_live, notes_of, notes_are, noted_count}
use Rattle.dft_netlist.proofs.NotesLemmas.{length-all_noted}
use Rattle.dft_netlist.proofs.drivers.find_drivers.Goals as goal

pub note_ports-requires : goal.note_ports-requires
note_ports-requires c = λ place bit port net at joined.
    let n = c.args.builder.now in
    let count = ap (λ (s : Notes). length s.found) c.in_ok-notes.ensures ∙ noted_count c.net_count.result in
    rw (count, c.net_count.ensures.count) (bit_live n c.net_count.ensures.sound place bit port net (rw c.ports.ensures.ports at at) joined)

pub note_instances-requires-clause-sound : goal.note_instances-requires-clause-sound
note_instances-requires-clause-sound c = λ place instance at.
    let n = c.args.builder.now in
    let count = ap (λ (s : Notes). length s.found) c.note_ports.ensures ∙ length-all_noted c.in_ok-notes.notes (ports_drives c.ports.result.now) ∙ ap (λ (s : Notes). length s.found) c.in_ok-notes.ensures ∙ noted_count c.net_count.result in
    rw (count, c.net_count.ensures.count, c.cells.ensures.cells, c.library.ensures) (c.net_count.ensures.sound.instances place instance (rw c.instances.ensures.instances at at))

pub note_joins-requires : goal.note_joins-requires
note_joins-requires c = λ place join at.
    let n = c.args.builder.now in
    let count = ap (λ (s : Notes). length s.found) c.note_instances.ensures ∙ length-all_noted c.note_ports.new.notes (instances_drives c.cells.result.now 0 c.instances.result.now)
    ∙ ap (λ (s : Notes). length s.found) c.note_ports.ensures ∙ length-all_noted c.in_ok-notes.notes (ports_drives c.ports.result.now) ∙ ap (λ (s : Notes). length s.found) c.in_ok-notes.ensures ∙ noted_count c.net_count.result in
    rw (count, c.net_count.ensures.count) ((c.net_count.ensures.sound.joins place join (rw c.joins.ensures.joins at at)).target_live)

pub net_name-requires : goal.net_name-requires
net_name-requires c =
    let n = c.args.builder.now in
    let whole = notes_are n c.in_ok-notes.notes c.note_ports.new.notes c.note_instances.new.notes c.note_joins.new.notes
    (rw c.net_count.ensures.count at c.in_ok-notes.ensures) (rw c.ports.ensures.ports at c.note_ports.ensures)
    (rw (c.cells.ensures.cells, c.library.ensures, c.instances.ensures.instances) at c.note_instances.ensures) (rw c.joins.ensures.joins at c.note_joins.ensures) in
    let clash : (notes_of n).clash ≡ Some c.in-Some.net = ap (λ (s : Notes). s.clash) (sym whole) ∙ sym c.clash.ensures ∙ c.in-Some.is in
    (clash_first n c.net_count.ensures.sound c.in-Some.net clash).0

pub returns-in-Some-clause-refused : goal.returns-in-Some-clause-refused
returns-in-Some-clause-refused c =
    let n = c.args.builder.now in
    let whole = notes_are n c.in_ok-notes.notes c.note_ports.new.notes c.note_instances.new.notes c.note_joins.new.notes
    (rw c.net_count.ensures.count at c.in_ok-notes.ensures) (rw c.ports.ensures.ports at c.note_ports.ensures)
    (rw (c.cells.ensures.cells, c.library.ensures, c.instances.ensures.instances) at c.note_instances.ensures) (rw c.joins.ensures.joins at c.note_joins.ensures) in
    let clash : (notes_of n).clash ≡ Some c.in-Some.net = ap (λ (s : Notes). s.clash) (sym whole) ∙ sym c.clash.ensures ∙ c.in-Some.is in
    record {
      net = c.in-Some.net.0;
      named = c.net_name.ensures ∙ ap Some (sym c.in_ok-net.ensures);
      first = (clash_first n c.net_count.ensures.sound c.in-Some.net clash).1;
    }

pub returns-clause-ok : goal.returns-clause-ok
returns-clause-ok c =
    let n = c.args.builder.now in
    let whole = notes_are n c.in_ok-notes.notes c.note_ports.new.notes c.note_instances.new.notes c.note_joins.new.notes
    (rw c.net_count.ensures.count at c.in_ok-notes.ensures) (rw c.ports.ensures.ports at c.note_ports.ensures)
    (rw (c.cells.ensures.cells, c.library.ensures, c.instances.ensures.instances) at c.note_instances.ensures) (rw c.joins.ensures.joins at c.note_joins.ensures) in
    let none : (notes_of n).clash ≡ None = ap (λ (s : Notes). s.clash) (sym whole) ∙ sym c.clash.ensures ∙ c.in_default.is in
    subst (λ xs. AreDrivers n xs) (ap (λ (s : Notes). s.found) (sym whole) ∙ sym c.into_found.ensures) (found_drivers n c.net_count.ensures.sound none)

use Rattle.std.proofs.Common.{◌≡◌, ◌∙◌, ◌++◌, ap, ap₂, sym, subst, length, List, ℕ, true, false, Ok, rules, slice_set, Some}
use Rattle.dft_base.specs.declared.dir.Dir.{Dir}
use Rattle.dft_netlist_text.specs.declared.text.Shape.{Shape}
use Rattle.dft_netlist_text.specs.Modules.{Draft, HeaderPort, with_declared, next_shape}
use Rattle.dft_verilog_draft.specs.Free.{AreBitsApart, AreFreeBits}
use Rattle.dft_verilog_draft.proofs.ApartLemmas.{AreFreeBits-plain}
use Rattle.dft_verilog_draft.proofs.DeclareLemmas.{new_bits-ok, tests, shape-within, free-at, with_nets-made}
use Rattle.dft_verilog_draft.proofs.module_draft.ModuleDraft.declare_at.Goals as goal

abbrev port_of : List ℕ → Dir → Shape → HeaderPort
port_of name dir shape = record { name = name; declared = Some (record { dir = dir; shape = shape; repeated = false }) }

pub returns-then-not-has_room_for_nets : goal.returns-then-not-has_room_for_nets
returns-then-not-has_room_for_nets c =
    let names : List (List ℕ) = c.in_ok-names.names.items in
    let count : c.len.result ≡ length names = search rules in
    rw c.full.ensures
    (tests c.args.place c.args.word.now c.args.range c.args.self.now names c.len.result c.has_room_for_nets.result true _ c.in_ok-names.ensures.names count c.has_room_for_nets.ensures c.if-not-has_room_for_nets.true)

pub set_port-requires : goal.set_port-requires
set_port-requires c =
    let bits = new_bits-ok c.args.place c.args.word.now c.args.range c.args.self.now c.in_ok-names.names.items c.in_ok-names.ensures.names in
    rw c.new.ensures
    (shape-within c.args.word.now c.args.range c.args.self.now c.add_nets.new.self c.next_shape.result c.in_ok-names.names.items c.next_shape.ensures c.in_ok-add_nets.ensures bits.1)

pub take_bits-requires-clause-free : goal.take_bits-requires-clause-free
take_bits-requires-clause-free c =
    let d : Draft = c.args.self.now in
    let word : List ℕ = c.args.word.now in
    let names : List (List ℕ) = c.in_ok-names.names.items in
    let bits = new_bits-ok c.args.place word c.args.range d names c.in_ok-names.ensures.names in
    let apart = subst (AreBitsApart word c.args.range) bits.1 c.in_ok-names.ensures.apart in
    let free = subst (AreFreeBits c.args.range d.names) (sym bits.1) (AreFreeBits-plain word c.args.range d bits.0 apart) in
    let x : Draft = with_declared c.args.port word (record { dir = c.args.dir; shape = next_shape d c.args.range; repeated = false }) d in
    let grown : c.set_port.new.self ≡ record x { nets = d.nets ++ names } =
    c.set_port.ensures ∙ ap₂ (λ (p : HeaderPort) (e : Draft). record e { ports = slice_set e.ports c.args.port p })
    (c.new.ensures ∙ ap₂ (λ (n : List ℕ) (s : Shape). port_of n c.args.dir s) c.in_ok-name.ensures c.next_shape.ensures) c.in_ok-add_nets.ensures in
    free-at c.args.range x c.set_port.new.self d.nets names c.net_count-first.result grown c.net_count-first.ensures.count free

pub returns : goal.returns
returns c =
    let d : Draft = c.args.self.now in
    let word : List ℕ = c.args.word.now in
    let names : List (List ℕ) = c.in_ok-names.names.items in
    let bits = new_bits-ok c.args.place word c.args.range d names c.in_ok-names.ensures.names in
    let x : Draft = with_declared c.args.port word (record { dir = c.args.dir; shape = next_shape d c.args.range; repeated = false }) d in
    let count : c.len.result ≡ length names = search rules in
    let grown : c.set_port.new.self ≡ record x { nets = d.nets ++ names } =
    c.set_port.ensures ∙ ap₂ (λ (p : HeaderPort) (e : Draft). record e { ports = slice_set e.ports c.args.port p })
    (c.new.ensures ∙ ap₂ (λ (n : List ℕ) (s : Shape). port_of n c.args.dir s) c.in_ok-name.ensures c.next_shape.ensures) c.in_ok-add_nets.ensures in
    let made = with_nets-made word c.args.range x c.set_port.new.self c.take_bits.new.self names c.net_count-first.result grown c.net_count-first.ensures.count bits.1 c.in_ok-take_bits.ensures in
    tests c.args.place word c.args.range d names c.len.result c.has_room_for_nets.result false _ c.in_ok-names.ensures.names count c.has_room_for_nets.ensures c.if-not-has_room_for_nets.false
    ∙ ap Ok (sym made)

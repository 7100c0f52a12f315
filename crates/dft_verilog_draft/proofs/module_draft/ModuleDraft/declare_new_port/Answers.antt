use Rattle.std.proofs.Common.{◌≡◌, ◌∙◌, ◌++◌, ◌∷◌, [], ap, ap₂, sym, subst, length, List, ℕ, true, false, Ok, rules, None, Some}
use Rattle.dft_base.specs.declared.dir.Dir.{Dir}
use Rattle.dft_base.proofs.OptionLemmas.{none_of}
use Rattle.dft_netlist_text.specs.declared.text.Shape.{Shape}
use Rattle.dft_netlist_text.specs.declared.text.Meaning.TheVariants as meaning
use Rattle.dft_netlist_text.specs.Modules.{Draft, HeaderPort, with_name, next_shape, meaning_of}
use Rattle.dft_verilog_draft.specs.Drafts.{IsShapeWithin}
use Rattle.dft_verilog_draft.specs.Free.{AreBitsApart, AreFreeBits}
use Rattle.dft_verilog_draft.proofs.ApartLemmas.{AreFreeBits-named}
use Rattle.dft_verilog_draft.proofs.DeclareLemmas.{new_bits-ok, name_by, port-tests, shape-within, free-at, with_nets-made}
use Rattle.dft_verilog_draft.proofs.module_draft.ModuleDraft.declare_new_port.Goals as goal

abbrev port_of : List ℕ → Dir → Shape → HeaderPort
port_of name dir shape = record { name = name; declared = Some (record { dir = dir; shape = shape; repeated = false }) }

abbrev said : Draft → List ℕ → Dir → Shape → Draft
said d word dir shape = with_name word (meaning.Port (length d.ports)) (record d { ports = d.ports ++ port_of word dir shape ∷ [] })

pub returns-then-not-has_room_for_nets : goal.returns-then-not-has_room_for_nets
returns-then-not-has_room_for_nets c =
    let d : Draft = c.args.self.now in
    let names : List (List ℕ) = c.in_ok-names.names.items in
    let count : c.len.result ≡ length names = search rules in
    let free : meaning_of d c.args.word.now ≡ None = sym c.meaning.ensures.meaning ∙ none_of c.meaning.result (sym c.is_some.ensures ∙ c.if-is_some.false) in
    rw c.full-then-not-has_room_for_nets.ensures
    (name_by (meaning_of d c.args.word.now) _ _ free
    ∙ port-tests c.args.place c.args.word.now c.args.range d names c.len.result c.port_count-port.result c.has_room_for_nets.result true _ _ c.in_ok-names.ensures.names count c.has_room_for_nets.ensures c.if-not-has_room_for_nets.true c.port_count-port.ensures.count c.if-port-ge-MAX_PORTS.false)

pub add_port-requires-clause-within : goal.add_port-requires-clause-within
add_port-requires-clause-within c =
    let d : Draft = c.args.self.now in
    let names : List (List ℕ) = c.in_ok-names.names.items in
    let bits = new_bits-ok c.args.place c.args.word.now c.args.range d names c.in_ok-names.ensures.names in
    let same : length c.take.new.self.nets ≡ length c.add_nets.new.self.nets = ap (λ (e : Draft). length e.nets) c.in_ok-take.ensures in
    rw c.new.ensures
    (subst (λ (n : ℕ). IsShapeWithin n c.next_shape.result) (sym same)
    (shape-within c.args.word.now c.args.range d c.add_nets.new.self c.next_shape.result names c.next_shape.ensures c.in_ok-add_nets.ensures bits.1))

pub take_bits-requires-clause-free : goal.take_bits-requires-clause-free
take_bits-requires-clause-free c =
    let d : Draft = c.args.self.now in
    let word : List ℕ = c.args.word.now in
    let names : List (List ℕ) = c.in_ok-names.names.items in
    let bits = new_bits-ok c.args.place word c.args.range d names c.in_ok-names.ensures.names in
    let apart = subst (AreBitsApart word c.args.range) bits.1 c.in_ok-names.ensures.apart in
    let x : Draft = said d word c.args.dir (next_shape d c.args.range) in
    let free = subst (AreFreeBits c.args.range x.names) (sym bits.1) (AreFreeBits-named word c.args.range d (meaning.Port (length d.ports)) bits.0 apart) in
    let grown : c.add_port.new.self ≡ record x { nets = d.nets ++ names } =
    c.in_ok-add_port.ensures ∙ ap₂ (λ (p : HeaderPort) (e : Draft). record e { ports = e.ports ++ p ∷ [] })
    (c.new.ensures ∙ ap₂ (λ (n : List ℕ) (s : Shape). port_of n c.args.dir s) c.in_ok-name.ensures c.next_shape.ensures)
    (c.in_ok-take.ensures ∙ ap₂ (λ (n : ℕ) (e : Draft). with_name word (meaning.Port n) e) c.port_count-port.ensures.count c.in_ok-add_nets.ensures) in
    free-at c.args.range x c.add_port.new.self d.nets names c.net_count-first.result grown c.net_count-first.ensures.count free

pub returns : goal.returns
returns c =
    let d : Draft = c.args.self.now in
    let word : List ℕ = c.args.word.now in
    let names : List (List ℕ) = c.in_ok-names.names.items in
    let bits = new_bits-ok c.args.place word c.args.range d names c.in_ok-names.ensures.names in
    let x : Draft = said d word c.args.dir (next_shape d c.args.range) in
    let count : c.len.result ≡ length names = search rules in
    let free : meaning_of d c.args.word.now ≡ None = sym c.meaning.ensures.meaning ∙ none_of c.meaning.result (sym c.is_some.ensures ∙ c.if-is_some.false) in
    let grown : c.add_port.new.self ≡ record x { nets = d.nets ++ names } =
    c.in_ok-add_port.ensures ∙ ap₂ (λ (p : HeaderPort) (e : Draft). record e { ports = e.ports ++ p ∷ [] })
    (c.new.ensures ∙ ap₂ (λ (n : List ℕ) (s : Shape). port_of n c.args.dir s) c.in_ok-name.ensures c.next_shape.ensures)
    (c.in_ok-take.ensures ∙ ap₂ (λ (n : ℕ) (e : Draft). with_name word (meaning.Port n) e) c.port_count-port.ensures.count c.in_ok-add_nets.ensures) in
    let made = with_nets-made word c.args.range x c.add_port.new.self c.take_bits.new.self names c.net_count-first.result grown c.net_count-first.ensures.count bits.1 c.in_ok-take_bits.ensures in
    name_by (meaning_of d word) _ _ free
    ∙ port-tests c.args.place word c.args.range d names c.len.result c.port_count-port.result c.has_room_for_nets.result false _ _ c.in_ok-names.ensures.names count c.has_room_for_nets.ensures c.if-not-has_room_for_nets.false c.port_count-port.ensures.count c.if-port-ge-MAX_PORTS.false
    ∙ ap Ok (sym made)

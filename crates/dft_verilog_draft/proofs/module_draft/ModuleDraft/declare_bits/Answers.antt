use Rattle.std.proofs.Common.{◌≡◌, ◌∙◌, ap, ap₂, sym, subst, length, List, ℕ, true, false, Ok, rules}
use Rattle.dft_netlist_text.specs.declared.text.Shape.{Shape}
use Rattle.dft_netlist_text.specs.declared.text.Meaning.TheVariants as meaning
use Rattle.dft_netlist_text.specs.Modules.{Draft, with_name, next_shape, meaning_of}
use Rattle.dft_verilog_draft.specs.Free.{AreBitsApart, AreFreeBits}
use Rattle.dft_verilog_draft.proofs.ApartLemmas.{AreFreeBits-named}
use Rattle.dft_verilog_draft.proofs.DeclareLemmas.{new_bits-ok, name_by, tests, shape-within, free-at, with_nets-made}
use Rattle.dft_verilog_draft.proofs.module_draft.ModuleDraft.declare_bits.Goals as goal

pub returns-then-not-has_room_for_nets : goal.returns-then-not-has_room_for_nets
returns-then-not-has_room_for_nets c =
    let d : Draft = c.args.self.now in
    let names : List (List ℕ) = c.in_ok-names.names.items in
    let count : c.len.result ≡ length names = search rules in
    rw c.full.ensures
    (name_by (meaning_of d c.args.word.now) _ _ c.requires.free
    ∙ tests c.args.place c.args.word.now c.args.range d names c.len.result c.has_room_for_nets.result true _ c.in_ok-names.ensures.names count c.has_room_for_nets.ensures c.if-not-has_room_for_nets.true)

pub take-requires-clause-within : goal.take-requires-clause-within
take-requires-clause-within c =
    let bits = new_bits-ok c.args.place c.args.word.now c.args.range c.args.self.now c.in_ok-names.names.items c.in_ok-names.ensures.names in
    shape-within c.args.word.now c.args.range c.args.self.now c.add_nets.new.self c.next_shape-shape.result c.in_ok-names.names.items c.next_shape-shape.ensures c.in_ok-add_nets.ensures bits.1

pub take_bits-requires-clause-free : goal.take_bits-requires-clause-free
take_bits-requires-clause-free c =
    let d : Draft = c.args.self.now in
    let word : List ℕ = c.args.word.now in
    let names : List (List ℕ) = c.in_ok-names.names.items in
    let bits = new_bits-ok c.args.place word c.args.range d names c.in_ok-names.ensures.names in
    let x : Draft = with_name word (meaning.Nets (next_shape d c.args.range)) d in
    let apart = subst (AreBitsApart word c.args.range) bits.1 c.in_ok-names.ensures.apart in
    let free = subst (AreFreeBits c.args.range x.names) (sym bits.1) (AreFreeBits-named word c.args.range d (meaning.Nets (next_shape d c.args.range)) bits.0 apart) in
    free-at c.args.range x c.take.new.self d.nets names c.net_count-first.result
    (c.in_ok-take.ensures ∙ ap₂ (λ (s : Shape) (e : Draft). with_name word (meaning.Nets s) e) c.next_shape-shape.ensures c.in_ok-add_nets.ensures)
    c.net_count-first.ensures.count free

pub returns : goal.returns
returns c =
    let d : Draft = c.args.self.now in
    let word : List ℕ = c.args.word.now in
    let names : List (List ℕ) = c.in_ok-names.names.items in
    let bits = new_bits-ok c.args.place word c.args.range d names c.in_ok-names.ensures.names in
    let x : Draft = with_name word (meaning.Nets (next_shape d c.args.range)) d in
    let count : c.len.result ≡ length names = search rules in
    let made = with_nets-made word c.args.range x c.take.new.self c.take_bits.new.self names c.net_count-first.result
    (c.in_ok-take.ensures ∙ ap₂ (λ (s : Shape) (e : Draft). with_name word (meaning.Nets s) e) c.next_shape-shape.ensures c.in_ok-add_nets.ensures)
    c.net_count-first.ensures.count bits.1 c.in_ok-take_bits.ensures in
    name_by (meaning_of d word) _ _ c.requires.free
    ∙ tests c.args.place word c.args.range d names c.len.result c.has_room_for_nets.result false _ c.in_ok-names.ensures.names count c.has_room_for_nets.ensures c.if-not-has_room_for_nets.false
    ∙ ap Ok (sym made)

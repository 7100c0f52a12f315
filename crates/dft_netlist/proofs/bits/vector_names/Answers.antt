use Rattle.std.proofs.Common.{◌≡◌, ◌<◌, ◌≤◌, ◌∙◌, ℕ, List, subst, sym, ap, arith, refl, length, map, take, get_or}
use Rattle.std.proofs.lemmas.List.{take_more, take_all}
use Rattle.std.proofs.lemmas.Option.{get_or_from_slice_get}
use Rattle.dft_base.specs.declared.place.Range.{Range}
use Rattle.dft_netlist.specs.Names.{bit_name, indices_of}
use Rattle.dft_netlist.specs.NameTables.{AllDiffer}
use Rattle.dft_base.specs.Lexing.{Text}
use Rattle.dft_netlist.proofs.BitLemmas.{indices_length}
use Rattle.dft_netlist.proofs.PortNames.{bits_differ}
use Rattle.std.proofs.lemmas.List.{map-append}
use Rattle.dft_netlist.proofs.bits.vector_names.Goals as goal

whole : (name : Text) (range : Range) (names : List Text) (place : ℕ) → length (indices_of range) ≤ place → names ≡ map (bit_name name) (take place (indices_of range)) → names ≡ map (bit_name name) (indices_of range)
whole name range names place all is = is ∙ ap (map (bit_name name)) (take_all place (indices_of range) all)

pub index_at-requires : goal.index_at-requires
index_at-requires c = let len = indices_length c.args.range in omega (arith, len, c.abs_diff.ensures)

pub loop-place-preserved : goal.loop-place-preserved
loop-place-preserved c =
    let xs = indices_of c.args.range in
    let k = c.loop-place.place in
    let len = indices_length c.args.range in
    let lt : k < length xs = omega (arith, len, c.abs_diff.ensures) in
    let index : get_or xs k 0 ≡ c.index_at.result = get_or_from_slice_get xs k c.index_at.result 0 c.index_at.ensures in
    rw (c.in_ok-push.ensures.items, c.loop-place.invariant, take_more xs k 0 lt, map-append, index, c.in_ok-bit_name.ensures) refl

pub returns-clause-names : goal.returns-clause-names
returns-clause-names c = whole c.args.name.now c.args.range c.loop-place.names.items c.loop-place.place (let len = indices_length c.args.range in omega (arith, len, c.abs_diff.ensures)) c.loop-place.invariant

pub returns-clause-differ : goal.returns-clause-differ
returns-clause-differ c =
    let same = whole c.args.name.now c.args.range c.loop-place.names.items c.loop-place.place (let len = indices_length c.args.range in omega (arith, len, c.abs_diff.ensures)) c.loop-place.invariant in
    subst AllDiffer (sym same) (bits_differ c.args.name.now c.args.range (omega arith) (omega arith))

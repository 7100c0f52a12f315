-- The rest of the inputs, and an unknown input of a table.
use Rattle.std.proofs.Common.{rules, List, ◌≡◌, ◌∷◌, ◌∙◌, ◌+◌, ◌*◌, ◌-◌, ap, sym, length, take, drop, get_or, arith}
use Rattle.dft_base.specs.declared.tri.Tri.{Tri}
use Rattle.dft_base.specs.declared.tri.Tri.TheVariants.{Zero, Unknown}
use Rattle.dft_cells.specs.Gates.{shared, bit_of_number, number_of}
use Rattle.dft_cells.proofs.Pairs.{table_unknown, narrower, head_rest}
use Rattle.dft_cells.proofs.gates.+tri_of_table.Goals as goal

pub tri_of_table-requires : goal.tri_of_table-requires
tri_of_table-requires t c =
    let h = narrower c.args.inputs.now c.args.place c.args.place c.args.weight (omega arith) (omega arith) c.requires.place in
    (search rules, (h.0, h.1))

pub tri_of_table-requires-in-One : goal.tri_of_table-requires-in-One
tri_of_table-requires-in-One t c =
    let h = narrower c.args.inputs.now c.args.place (c.args.place + c.args.weight) c.args.weight (omega arith) (omega arith) c.requires.place in
    (search rules, (h.0, h.1))

pub tri_of_table-requires-in-Unknown : goal.tri_of_table-requires-in-Unknown
tri_of_table-requires-in-Unknown t c =
    let h = narrower c.args.inputs.now c.args.place c.args.place c.args.weight (omega arith) (omega arith) c.requires.place in
    (search rules, (h.0, h.1))

pub tri_of_table-requires-in-Unknown-2 : goal.tri_of_table-requires-in-Unknown-2
tri_of_table-requires-in-Unknown-2 t c =
    let h = narrower c.args.inputs.now c.args.place (c.args.place + c.args.weight) c.args.weight (omega arith) (omega arith) c.requires.place in
    (search rules, (h.0, h.1))

pub returns-in-Unknown : goal.returns-in-Unknown
returns-in-Unknown t c =
    let rest = take (length c.args.inputs.now - 1) (drop 1 c.args.inputs.now) in
    let first : get_or c.args.inputs.now 0 Zero ≡ Unknown = search rules in
    let e : c.args.inputs.now ≡ Unknown ∷ rest = head_rest c.args.inputs.now Zero Unknown (omega arith) first in
    c.join.ensures ∙ rw (c.tri_of_table-in-Unknown.ensures, c.tri_of_table-in-Unknown-2.ensures) (table_unknown c.args.table c.args.place c.args.weight rest)
    ∙ ap (λ (ts : List Tri). shared (λ bits. bit_of_number c.args.table (c.args.place + c.args.weight * number_of bits)) ts) (sym e)

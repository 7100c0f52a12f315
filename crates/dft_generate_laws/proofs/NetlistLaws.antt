-- A generated netlist stands for the stated design.
use Rattle.std.proofs.Common.{◌<◌, List, refl, arith}
use Rattle.dft_verilog_out.proofs.BuiltLemmas.{draft_built}
use Rattle.dft_generate_laws.specs.Designs.{design, nets_of}
use Rattle.dft_generate_laws.specs.Laws.{NetlistsAreRead}
use Rattle.dft_generate_laws.proofs.Said.{nets_grow, reads}
use Rattle.dft_generate_laws.proofs.Sound.{names-once, design_sound}
use Rattle.dft_generate_laws.proofs.Driven.{is_single, are_orderable}
use Rattle.dft_verilog_out.proofs.PhaseLemmas.{stage, declared_ports}
use Rattle.std.proofs.Common.{ap, ◌∙◌}
use Rattle.std.specs.List.{range_with_len}
use Rattle.dft_base.specs.Lexing.{Text}
use Rattle.dft_netlist_text.specs.NetlistText.{built}
use Rattle.dft_generate_laws.specs.Designs.{design_ports, design_joins, instances_in}

pub netlists_are_read : NetlistsAreRead
netlists_are_read size words is =
    let low = is.low in
    let high = is.high in
    let some : 0 < size = omega (arith, low) in
    let r = reads size words is in
    let g = nets_grow size words in
    record {
      draft = stage (design size words) r.names (declared_ports 0 design_ports) (nets_of size words) (instances_in (nets_of size words) size words (range_with_len 0 size)) (design_joins (nets_of size words));
      said = r.said;
      grown = design size words;
      parts = ap (λ (xs : List Text). built (stage (design size words) r.names (declared_ports 0 design_ports) xs (instances_in (nets_of size words) size words (range_with_len 0 size)) (design_joins (nets_of size words)))) g.is
          ∙ draft_built (design size words) r.names g.more (design_sound size words is) g.is (names-once size words is);
      finished = record { same = refl; single = is_single size words high; orderable = λ net lt. are_orderable size words high some net };
    }

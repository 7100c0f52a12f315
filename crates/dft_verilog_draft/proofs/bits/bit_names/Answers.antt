use Rattle.std.proofs.Common.{◌≡◌, ◌++◌, ◌∷◌, [], map, ap, ap₂, ◌∙◌, arith, List, ℕ, Some, subst, sym}
use Rattle.dft_base.specs.Ranges.{width}
use Rattle.dft_netlist.specs.Names.{bit_name, bit_names}
use Rattle.dft_verilog_draft.specs.Free.{AreBitsApart}
use Rattle.dft_verilog_draft.proofs.ApartLemmas.{bit_names-apart}
use Rattle.dft_verilog_draft.proofs.BitNameLemmas.{first_indices, first_indices-all, names_more}
use Rattle.dft_verilog_draft.proofs.bits.bit_names.Goals as goal

pub loop-place-preserved : goal.loop-place-preserved
loop-place-preserved c =
    c.in_ok-push.ensures.items
    ∙ ap₂ (λ (xs : List (List ℕ)) (x : List ℕ). xs ++ x ∷ []) c.loop-place.invariant (c.in_ok-name.ensures ∙ ap (bit_name c.args.word.now) c.index_at.ensures)
    ∙ names_more c.args.word.now c.args.range c.loop-place.place

pub returns : goal.returns
returns c =
    let all : c.loop-place.place ≡ width c.args.range = omega arith in
    let named : c.loop-place.list.items ≡ bit_names c.args.word.now (Some c.args.range) =
    c.loop-place.invariant ∙ ap (λ n. map (bit_name c.args.word.now) (first_indices c.args.range n)) all
    ∙ ap (map (bit_name c.args.word.now)) (first_indices-all c.args.range) in
    record {
      names = named;
      apart = subst (AreBitsApart c.args.word.now (Some c.args.range)) (sym named) (bit_names-apart c.args.word.now c.args.range (omega arith) (omega arith));
    }

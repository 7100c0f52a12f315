use Rattle.std.proofs.Common.{◌≡◌, ◌∙◌, ap, sym}
use Rattle.std.proofs.lemmas.Result.{err_from_is_err_and}
use Rattle.dft_netlist_text.specs.Modules.{Draft}
use Rattle.dft_netlist_text.specs.NetlistText.{built}
use Rattle.dft_verilog.proofs.GrowLemmas.{IsGrown-same, IsRefusal-same}
use Rattle.dft_verilog.proofs.BuiltLemmas.{built-without_names}
use Rattle.dft_verilog.proofs.finishing.built.Goals as goal

pub add_all-requires-clause-grown : goal.add_all-requires-clause-grown
add_all-requires-clause-grown c =
    let d : Draft = c.args.draft in
    let same : built c.without_names-draft.result ≡ built d = ap built c.without_names-draft.ensures ∙ built-without_names d in
    IsGrown-same (built c.without_names-draft.result) (built d) same c.requires.grown

pub returns-in_err-add_all : goal.returns-in_err-add_all
returns-in_err-add_all c =
    let d : Draft = c.args.draft in
    let same : built c.without_names-draft.result ≡ built d = ap built c.without_names-draft.ensures ∙ built-without_names d in
    let p = err_from_is_err_and c.from_residual-in_err-add_all.result c.from_residual-in_err-add_all.ensures.1 in
    rw (p.1, p.2) (IsRefusal-same (built d) (built c.without_names-draft.result) c.in_err-add_all.field-0.0 (sym same) c.in_err-add_all.ensures)

pub returns : goal.returns
returns c =
    let d : Draft = c.args.draft in
    let same : built c.without_names-draft.result ≡ built d = ap built c.without_names-draft.ensures ∙ built-without_names d in
    sym same ∙ c.in_ok-add_all.ensures

use Rattle.std.proofs.Common.{◌≡◌, ◌∙◌, ◌+◌, ◌<◌, ◌∷◌, List, Option, length, drop, get_or, None, sym, ap, ap₂, arith}
use Rattle.std.proofs.lemmas.List.{drop_more, drop_all}
use Rattle.dft_base.specs.Lexing.{Text}
use Rattle.dft_netlist.specs.declared.ids.NetId.{NetId}
use Rattle.dft_verilog.specs.FinalNets.{without_number}
use Rattle.dft_verilog.specs.SaidParts.{with_nets}
use Rattle.dft_verilog.proofs.SaidPartLemmas.{name_ahead, without_none, with_nets-none}
use Rattle.dft_verilog.proofs.module_nets.add_others.Goals as goal

pub loop-net-preserved : goal.loop-net-preserved
loop-net-preserved c =
    let words : List Text = c.args.names.now in
    let numbers : List (Option NetId) = c.args.numbers.now in
    let net = c.loop-net.net in
    let word : Text = c.index-names-net.result in
    let there : net < length numbers = omega arith in
    let named : net < length words = omega arith in
    let words_ahead : drop net words ≡ word ∷ drop (net + 1) words = drop_more words net word named ∙ ap (λ (w : Text). w ∷ drop (net + 1) words) (sym c.index-names-net.is) in
    let numbers_ahead = drop_more numbers net None there in
    name_ahead (get_or numbers net None) word (drop (net + 1) words) (drop (net + 1) numbers) c.loop-net.made c.add_unnumbered.new.made c.in_ok-add_unnumbered.ensures
    ∙ sym (ap₂ (λ (ws : List Text) (ns : List (Option NetId)). with_nets (without_number ws ns) c.loop-net.made) words_ahead numbers_ahead)
    ∙ c.loop-net.invariant

pub returns : goal.returns
returns c =
    let none : drop c.loop-net.net c.args.numbers.now ≡ _ = drop_all c.loop-net.net c.args.numbers.now (omega arith) in
    let words : List Text = drop c.loop-net.net c.args.names.now in
    sym (with_nets-none c.loop-net.made)
    ∙ sym (ap (λ (ws : List Text). with_nets ws c.loop-net.made) (ap (without_number words) none ∙ without_none words))
    ∙ c.loop-net.invariant

use Rattle.std.proofs.Common.{◌≡◌, ◌∙◌, ◌+◌, ◌<◌, ◌++◌, ◌∷◌, [], List, Option, length, drop, get_or, None, sym, ap, arith, subst, cond, is_ok}
use Rattle.std.proofs.lemmas.List.{drop_more}
use Rattle.dft_base.specs.Lexing.{Text}
use Rattle.dft_netlist.specs.declared.ids.NetId.{NetId}
use Rattle.dft_verilog.proofs.GrowLemmas.{NumbersOthers, NumbersOthers-here, NumbersOthers-more}
use Rattle.dft_verilog.proofs.finishing.add_others.Goals as goal

pub number_or_add-requires : goal.number_or_add-requires
number_or_add-requires c =
    let words : List Text = c.args.names.now in
    let numbers : List (Option NetId) = c.args.numbers.now in
    let net = c.loop-net.net in
    let word : Text = c.index-names-net.result in
    let there : net < length numbers = omega arith in
    let named : net < length words = omega arith in
    let words_ahead : drop net words ≡ word ∷ drop (net + 1) words = drop_more words net word named ∙ ap (λ (w : Text). w ∷ drop (net + 1) words) (sym c.index-names-net.is) in
    NumbersOthers-here words numbers word (drop (net + 1) words) (get_or numbers net None) (drop (net + 1) numbers) c.args.builder.now c.loop-net.builder c.loop-net.finals.items c.requires.grown
    (subst (λ (ws : List Text). NumbersOthers words numbers ws (get_or numbers net None ∷ drop (net + 1) numbers) c.args.builder.now c.loop-net.builder c.loop-net.finals.items) words_ahead
    (subst (λ (ns : List (Option NetId)). NumbersOthers words numbers (drop net words) ns c.args.builder.now c.loop-net.builder c.loop-net.finals.items) (drop_more numbers net None there) c.loop-net.invariant))

pub loop-net-preserved : goal.loop-net-preserved
loop-net-preserved c =
    let words : List Text = c.args.names.now in
    let numbers : List (Option NetId) = c.args.numbers.now in
    let net = c.loop-net.net in
    let word : Text = c.index-names-net.result in
    let there : net < length numbers = omega arith in
    let named : net < length words = omega arith in
    let words_ahead : drop net words ≡ word ∷ drop (net + 1) words = drop_more words net word named ∙ ap (λ (w : Text). w ∷ drop (net + 1) words) (sym c.index-names-net.is) in
    let pushed : c.push.new.self.items ≡ c.loop-net.finals.items ++ c.in_ok-number.number ∷ [] =
    c.push.ensures.items ∙ ap (λ b. cond b (c.loop-net.finals.items ++ c.in_ok-number.number ∷ []) c.loop-net.finals.items) (sym c.map_err.ensures.variant ∙ ap is_ok c.in_ok-map_err.was) in
    NumbersOthers-more words numbers word (drop (net + 1) words) (get_or numbers net None) (drop (net + 1) numbers) c.args.builder.now c.loop-net.builder c.number_or_add.new.builder c.loop-net.finals.items c.push.new.self.items c.in_ok-number.number
    c.in_ok-number.ensures.grown c.in_ok-number.ensures.number pushed
    (subst (λ (ws : List Text). NumbersOthers words numbers ws (get_or numbers net None ∷ drop (net + 1) numbers) c.args.builder.now c.loop-net.builder c.loop-net.finals.items) words_ahead
    (subst (λ (ns : List (Option NetId)). NumbersOthers words numbers (drop net words) ns c.args.builder.now c.loop-net.builder c.loop-net.finals.items) (drop_more numbers net None there) c.loop-net.invariant))

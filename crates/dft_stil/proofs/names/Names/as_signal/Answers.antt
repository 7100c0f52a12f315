use Rattle.std.proofs.Common.{◌≡◌, ◌<◌, ◌+◌, ◌-◌, ℕ, List, length, take, drop, Some, false, option_map, ap, ◌∙◌, arith}
use Rattle.std.proofs.lemmas.List.{length-map}
use Rattle.dft_patterns.specs.declared.signal.StilSignal.{StilSignal}
use Rattle.dft_stil_text.specs.SignalGroups as spec
use Rattle.dft_stil.proofs.NamesLemmas.{one_alone, below_one}
use Rattle.dft_stil.proofs.names.Names.as_signal.Goals as goal

pub returns-clause-value : goal.returns-clause-value
returns-clause-value c =
    let n : ℕ = c.in_ok-number.number in
    let v = c.self.invariant.numbered in
    let word = c.args.word.now in
    let named = length-map c.self.inside.signals.items (λ (s : StilSignal). s.name) in
    let less : n < length c.self.inside.numbers.items = omega (arith, c.in_ok-number.ensures.within, ap length v.known, named, v.count) in
    let found : Some n ≡ spec.number_of (spec.names_of_signals c.args.self.now.signals) word =
    c.in_ok-number.ensures.value ∙ ap (λ ns. spec.number_of ns word) v.known ∙ ap (λ (m : spec.Names). spec.number_of (spec.names_of_signals m.signals) word) c.self.view_is in
    ap (λ (ns : List ℕ). Some (record { signals = ns; repeated = false })) (ap (λ ns. take (n + 1 - n) (drop n ns)) c.deref.ensures.value ∙ one_alone _ _ _ n v less) ∙ ap (option_map spec.one_signal) found

pub returns-clause-inside : goal.returns-clause-inside
returns-clause-inside c =
    let n : ℕ = c.in_ok-number.number in
    let v = c.self.invariant.numbered in
    let named = length-map c.self.inside.signals.items (λ (s : StilSignal). s.name) in
    let less : n < length c.self.inside.numbers.items = omega (arith, c.in_ok-number.ensures.within, ap length v.known, named, v.count) in
    below_one (length c.args.self.now.signals) n _ (ap (λ ns. take (n + 1 - n) (drop n ns)) c.deref.ensures.value ∙ one_alone _ _ _ n v less)
    (omega (arith, less, v.count, ap (λ (m : spec.Names). length m.signals) c.self.view_is))

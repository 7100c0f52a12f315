use Rattle.std.proofs.Common.{◌≡◌, ◌∙◌, ◌+◌, ◌<◌, ◌++◌, ◌∷◌, [], List, ℕ, drop, length, sym, ap, arith, subst}
use Rattle.std.proofs.lemmas.List.{drop_more}
use Rattle.dft_verilog_draft.specs.Drafts.{AreNamesWithin}
use Rattle.dft_verilog_draft.specs.Free.{taken_bit}
use Rattle.dft_verilog_draft.proofs.FreeLemmas.{TakesBits, TakesBits-more}
use Rattle.dft_verilog_draft.proofs.taken_names.TakenNames.take_bits.Goals as goal

pub returns-in_err-take-clause-within : goal.returns-in_err-take-clause-within
returns-in_err-take-clause-within c count within = subst (AreNamesWithin count) (sym c.in_err-take.ensures.err) (c.loop-bit.invariant.within count within)

pub loop-bit-preserved : goal.loop-bit-preserved
loop-bit-preserved c =
    let bits : List (List ℕ) = c.args.bits.now in
    let index = c.loop-bit.bit-index in
    let bit : List ℕ = c.bit-item.result in
    let lt : index < length bits = omega arith in
    let ahead : drop index bits ≡ bit ∷ drop (index + 1) bits = drop_more bits index bit lt ∙ ap (λ (x : List ℕ). x ∷ drop (index + 1) bits) (sym c.bit-item.is) in
    TakesBits-more c.args.self.now c.loop-bit.self c.take.new.self bit (drop (index + 1) bits) bits
    (c.in_ok-take.ensures.ok ∙ ap (λ (w : List ℕ). c.loop-bit.self ++ taken_bit w ∷ []) (c.made-word.ensures ∙ c.in_ok-from_slice.ensures.items ∙ c.as_slice.ensures.bytes))
    (subst (λ (rest : List (List ℕ)). TakesBits c.args.self.now c.loop-bit.self rest bits) ahead c.loop-bit.invariant)

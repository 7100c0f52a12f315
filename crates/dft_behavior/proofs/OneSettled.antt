-- Exactly one settled assignment, by the rank of a net.
use Rattle.std.proofs.Common.{ℕ, Bool, false, List, [], ◌∷◌, ◌≡◌, ◌<◌, zero, suc, refl, sym, ap, arith, map, ◌∙◌}
use Rattle.std.specs.Prelude.{if◌then◌else◌}
use Rattle.dft_cells.specs.Gates.{bit_of}
use Rattle.dft_netlist.specs.Drivers.{Source, Net, Tied, Loose, nets_of, AreBelow}
use Rattle.dft_behavior.specs.Logic.{Logic, Meaning, Input, Clock, Gate, Joined, Flop, Lockup, Free, reads, IsRanked}
use Rattle.dft_behavior.specs.Settled.{Sources, bit_from, bit_given, IsSettled, is_wire}
use Rattle.dft_behavior.specs.Laws.{SettledIsOne}

bit_same : (rank : ℕ → ℕ) (r : ℕ) (s : Sources) (v w : ℕ → Bool) (source : Source) → AreBelow rank r (nets_of (source ∷ [])) → ((net : ℕ) → rank net < r → v net ≡ w net) → bit_from s v source ≡ bit_from s w source
bit_same rank r s v w (Net net) below same = same net below.0
bit_same rank r s v w (Tied bit) below same = refl
bit_same rank r s v w (Loose i pin) below same = refl

bits_same : (rank : ℕ → ℕ) (r : ℕ) (s : Sources) (v w : ℕ → Bool) (inputs : List Source) → AreBelow rank r (nets_of inputs) → ((net : ℕ) → rank net < r → v net ≡ w net) → map (bit_from s v) inputs ≡ map (bit_from s w) inputs
bits_same rank r s v w [] below same = refl
bits_same rank r s v w (Net net ∷ inputs) below same = λ t. same net below.0 t ∷ bits_same rank r s v w inputs below.1 same t
bits_same rank r s v w (Tied bit ∷ inputs) below same = ap (λ (bs : List Bool). bit ∷ bs) (bits_same rank r s v w inputs below same)
bits_same rank r s v w (Loose i pin ∷ inputs) below same = ap (λ (bs : List Bool). s.loose i pin ∷ bs) (bits_same rank r s v w inputs below same)

given_same : (rank : ℕ → ℕ) (s : Sources) (v w : ℕ → Bool) (net : ℕ) (m : Meaning) → AreBelow rank (rank net) (reads m) → ((k : ℕ) → rank k < rank net → v k ≡ w k) → bit_given s v net m ≡ bit_given s w net m
given_same rank s v w net Input below same = refl
given_same rank s v w net Clock below same = refl
given_same rank s v w net (Gate kind inputs) below same = ap (bit_of kind) (bits_same rank (rank net) s v w inputs below same)
given_same rank s v w net (Joined source) below same = bit_same rank (rank net) s v w source below same
given_same rank s v w net (Flop c inverted) below same = refl
given_same rank s v w net (Lockup c domain high source) below same = ap (λ (b : Bool). if is_wire high (s.high domain) then b else s.flops c) (bit_same rank (rank net) s v w source below same)
given_same rank s v w net Free below same = refl

-- the bit of a net from so many levels of drivers
bit_by : Logic → Sources → ℕ → ℕ → Bool
bit_by l s zero net = false
bit_by l s (suc levels) net = bit_given s (bit_by l s levels) net (l.net net)

stable : (l : Logic) (rank : ℕ → ℕ) (s : Sources) → IsRanked l rank → (f g net : ℕ) → rank net < f → rank net < g → bit_by l s f net ≡ bit_by l s g net
unfolding bit_by
stable l rank s ranked zero g net hf hg = absurd (omega arith)
stable l rank s ranked (suc f) zero net hf hg = absurd (omega arith)
stable l rank s ranked (suc f) (suc g) net hf hg =
    given_same rank s (bit_by l s f) (bit_by l s g) net (l.net net) (ranked.order net) (λ k less. stable l rank s ranked f g k (omega arith) (omega arith))

same_within : (l : Logic) (rank : ℕ → ℕ) (s : Sources) (v w : ℕ → Bool) → IsRanked l rank → IsSettled l s v → IsSettled l s w → (fuel net : ℕ) → rank net < fuel → v net ≡ w net
same_within l rank s v w ranked sv sw zero net less = absurd (omega arith)
same_within l rank s v w ranked sv sw (suc fuel) net less =
    sv net ∙ given_same rank s v w net (l.net net) (ranked.order net) (λ k below. same_within l rank s v w ranked sv sw fuel k (omega arith)) ∙ sym (sw net)

levels_settled : (l : Logic) (rank : ℕ → ℕ) (s : Sources) → IsRanked l rank → IsSettled l s (λ net. bit_by l s (suc (rank net)) net)
unfolding bit_by
levels_settled l rank s ranked net =
    given_same rank s (bit_by l s (rank net)) (λ k. bit_by l s (suc (rank k)) k) net (l.net net) (ranked.order net)
    (λ k less. stable l rank s ranked (rank net) (suc (rank k)) k less (omega arith))

pub settled_one : SettledIsOne
settled_one l rank s ranked =
    let bits : ℕ → Bool = λ net. bit_by l s (suc (rank net)) net in
    (bits, (levels_settled l rank s ranked, λ others settled net. same_within l rank s others bits ranked settled (levels_settled l rank s ranked) (suc (rank net)) net (omega arith)))

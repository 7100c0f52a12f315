-- One net more that may show a flip-flop.
use Rattle.std.proofs.Common.{ℕ, zero, suc, ◌+◌, ◌≡◌, ◌<◌, ◌≤◌, Bool, ◌||◌, List, [], ◌∷◌, length, take, Option, sym, ap, arith, ◌∙◌}
use Rattle.std.specs.Prelude.{◌&&◌}
use Rattle.std.proofs.lemmas.List.{take_all}
use Rattle.dft_base.proofs.BitLemmas.{or_false, or_assoc}
use Rattle.dft_netlist.specs.declared.ids.InstanceId.{InstanceId}
use Rattle.dft_logic.specs.Circuit.{flag_at}
use Rattle.dft_seek.specs.Cones.{shown_in}
use Rattle.dft_seek.specs.Rigs.{shows_in}
use Rattle.dft_seek.specs.Steps.{shown_at}

shown_suc : (shows : List (Option InstanceId)) (marked : List Bool) (k c : ℕ) → k < length shows → k < length marked → shown_in (take (suc k) shows) (take (suc k) marked) c ≡ (shown_in (take k shows) (take k marked) c || (flag_at marked k && shows_in (shown_at shows k) c))
shown_suc [] marked k c less within = absurd (omega (arith, less))
shown_suc (o ∷ shows) [] k c less within = absurd (omega (arith, within))
shown_suc (o ∷ shows) (flag ∷ marked) zero c less within = or_false (flag && shows_in o c)
shown_suc (o ∷ shows) (flag ∷ marked) (suc k) c less within =
    ap (λ (b : Bool). (flag && shows_in o c) || b) (shown_suc shows marked k c (omega (arith, less)) (omega (arith, within)))
    ∙ sym (or_assoc (flag && shows_in o c) (shown_in (take k shows) (take k marked) c) (flag_at marked k && shows_in (shown_at shows k) c))

pub shown_more : (shows : List (Option InstanceId)) (marked : List Bool) (k c : ℕ) → k < length shows → k < length marked → shown_in (take (k + 1) shows) (take (k + 1) marked) c ≡ (shown_in (take k shows) (take k marked) c || (flag_at marked k && shows_in (shown_at shows k) c))
shown_more shows marked k c less within = ap (λ (j : ℕ). shown_in (take j shows) (take j marked) c) (let e : k + 1 ≡ suc k = omega arith in e) ∙ shown_suc shows marked k c less within

pub shown_all : (shows : List (Option InstanceId)) (marked : List Bool) (k c : ℕ) → length shows ≤ k → length marked ≤ k → shown_in (take k shows) (take k marked) c ≡ shown_in shows marked c
shown_all shows marked k c past out = λ t. shown_in (take_all k shows past t) (take_all k marked out t) c

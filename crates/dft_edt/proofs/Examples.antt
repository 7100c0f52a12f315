-- The small design has the hardware.
use Rattle.std.proofs.Common.{ℕ, zero, suc, ◌≡◌, ◌<◌, Some, inl, inr, [], ◌∷◌, refl, subst, arith, sym, ap, ◌∙◌, Bool, false}
use Rattle.std.proofs.lemmas.Option.{none-some, same_Some}
use Rattle.dft_netlist.specs.declared.ids.InstanceId.{InstanceId}
use Rattle.std.specs.Prelude.{◌&&◌, not, IsTrue, List}
use Rattle.std.specs.List.{All, list_any}
use Rattle.dft_base.specs.Words.{is_simple_name, is_later_reserved, reserved_words, later_reserved_words}
use Rattle.dft_config.specs.declared.config.Injector.{Injector}
use Rattle.dft_config.specs.Range.{has, same_number, names_of, IsSet, IsInRange}
use Rattle.dft_cells.specs.FlipFlops.{no_forces}
use Rattle.dft_cells.proofs.TakesLemmas.{taken_on}
use Rattle.dft_behavior.specs.Logic.{Ports, Cell, IsRanked, Meaning, Lockup, lockup_cell, reads}
use Rattle.dft_netlist.specs.Drivers.{Source, Net, AreBelow}
use Rattle.dft_stitch.specs.Plans.{cell_at}
use Rattle.dft_chains.specs.Hardware.{ActByPorts, IsScanCell, Leads, ByLockup}
use Rattle.dft_edt.specs.Hardware.{HasStage, HasPhase, HasRing, HasEnd, HasOutput, HasCompactor, before_in}
use Rattle.dft_config.specs.Segments.{segment_length}
use Rattle.dft_parts.specs.SumTrees.{Term, Joined}
use Rattle.dft_parts.specs.Standing.{IsFlop}
use Rattle.dft_edt.specs.Examples.{small, small_ports, small_config, small_chains, small_scan, small_edt, SmallHas}

one : (P : ℕ → Type 0) → P 0 → (i : ℕ) → i < 1 → P i
one P a zero h = a
one P a (suc i) h = absurd (omega arith)

two : (P : ℕ → Type 0) → P 0 → P 1 → (i : ℕ) → i < 2 → P i
two P a b zero h = a
two P a b (suc zero) h = b
two P a b (suc (suc i)) h = absurd (omega arith)

-- each net reads nets before it
order : (net : ℕ) → AreBelow (λ k. k) net (reads (small.net net))
order zero = tt
order (suc zero) = tt
order (suc (suc zero)) = tt
order (suc (suc (suc zero))) = tt
order (suc (suc (suc (suc zero)))) = tt
order (suc (suc (suc (suc (suc zero))))) = tt
order (suc (suc (suc (suc (suc (suc zero)))))) = tt
order (suc (suc (suc (suc (suc (suc (suc zero))))))) = (omega arith, tt)
order (suc (suc (suc (suc (suc (suc (suc (suc zero)))))))) = tt
order (suc (suc (suc (suc (suc (suc (suc (suc (suc zero))))))))) = tt
order (suc (suc (suc (suc (suc (suc (suc (suc (suc (suc zero)))))))))) = (omega arith, (omega arith, tt))
order (suc (suc (suc (suc (suc (suc (suc (suc (suc (suc (suc zero))))))))))) = (omega arith, (omega arith, tt))
order (suc (suc (suc (suc (suc (suc (suc (suc (suc (suc (suc (suc zero)))))))))))) = (omega arith, (omega arith, tt))
order (suc (suc (suc (suc (suc (suc (suc (suc (suc (suc (suc (suc (suc zero))))))))))))) = (omega arith, (omega arith, tt))
order (suc (suc (suc (suc (suc (suc (suc (suc (suc (suc (suc (suc (suc (suc zero)))))))))))))) = (omega arith, tt)
order (suc (suc (suc (suc (suc (suc (suc (suc (suc (suc (suc (suc (suc (suc (suc zero))))))))))))))) = tt
order (suc (suc (suc (suc (suc (suc (suc (suc (suc (suc (suc (suc (suc (suc (suc (suc zero)))))))))))))))) = (omega arith, tt)
order (suc (suc (suc (suc (suc (suc (suc (suc (suc (suc (suc (suc (suc (suc (suc (suc (suc zero))))))))))))))))) = tt
order (suc (suc (suc (suc (suc (suc (suc (suc (suc (suc (suc (suc (suc (suc (suc (suc (suc (suc zero)))))))))))))))))) = tt
order (suc (suc (suc (suc (suc (suc (suc (suc (suc (suc (suc (suc (suc (suc (suc (suc (suc (suc (suc zero))))))))))))))))))) = tt
order (suc (suc (suc (suc (suc (suc (suc (suc (suc (suc (suc (suc (suc (suc (suc (suc (suc (suc (suc (suc zero)))))))))))))))))))) = (omega arith, (omega arith, tt))
order (suc (suc (suc (suc (suc (suc (suc (suc (suc (suc (suc (suc (suc (suc (suc (suc (suc (suc (suc (suc (suc zero))))))))))))))))))))) = (omega arith, (omega arith, tt))
order (suc (suc (suc (suc (suc (suc (suc (suc (suc (suc (suc (suc (suc (suc (suc (suc (suc (suc (suc (suc (suc (suc zero)))))))))))))))))))))) = (omega arith, (omega arith, tt))
order (suc (suc (suc (suc (suc (suc (suc (suc (suc (suc (suc (suc (suc (suc (suc (suc (suc (suc (suc (suc (suc (suc (suc zero))))))))))))))))))))))) = (omega arith, tt)
order (suc (suc (suc (suc (suc (suc (suc (suc (suc (suc (suc (suc (suc (suc (suc (suc (suc (suc (suc (suc (suc (suc (suc (suc zero)))))))))))))))))))))))) = (omega arith, (omega arith, tt))
order (suc (suc (suc (suc (suc (suc (suc (suc (suc (suc (suc (suc (suc (suc (suc (suc (suc (suc (suc (suc (suc (suc (suc (suc (suc zero))))))))))))))))))))))))) = (omega arith, tt)
order (suc (suc (suc (suc (suc (suc (suc (suc (suc (suc (suc (suc (suc (suc (suc (suc (suc (suc (suc (suc (suc (suc (suc (suc (suc (suc k)))))))))))))))))))))))))) = tt

-- what a net that is a lock-up shows is the cell of its instance
abbrev IsStored : Meaning → Type 0
IsStored m = (c e : ℕ) (high : Bool) (source : Source) → m ≡ Lockup c e high source → small.cell c ≡ lockup_cell e high source

locked_in : (i d : ℕ) (up : Bool) (from : Source) → small.cell i ≡ lockup_cell d up from → IsStored (Lockup i d up from)
locked_in i d up from is c e high source h =
    (let p : i ≡ c = cc in let q : d ≡ e = cc in let u : up ≡ high = cc in let r : from ≡ source = cc in sym (ap small.cell p) ∙ is ∙ (λ t. lockup_cell (q t) (u t) (r t)))

stored_at : (net : ℕ) → IsStored (small.net net)
stored_at zero c e high source is = absurd cc
stored_at (suc zero) c e high source is = absurd cc
stored_at (suc (suc zero)) c e high source is = absurd cc
stored_at (suc (suc (suc zero))) c e high source is = absurd cc
stored_at (suc (suc (suc (suc zero)))) c e high source is = absurd cc
stored_at (suc (suc (suc (suc (suc zero))))) c e high source is = absurd cc
stored_at (suc (suc (suc (suc (suc (suc zero)))))) c e high source is = absurd cc
stored_at (suc (suc (suc (suc (suc (suc (suc zero))))))) c e high source is = absurd cc
stored_at (suc (suc (suc (suc (suc (suc (suc (suc zero)))))))) c e high source is = absurd cc
stored_at (suc (suc (suc (suc (suc (suc (suc (suc (suc zero))))))))) c e high source is = absurd cc
stored_at (suc (suc (suc (suc (suc (suc (suc (suc (suc (suc zero)))))))))) c e high source is = absurd cc
stored_at (suc (suc (suc (suc (suc (suc (suc (suc (suc (suc (suc zero))))))))))) c e high source is = absurd cc
stored_at (suc (suc (suc (suc (suc (suc (suc (suc (suc (suc (suc (suc zero)))))))))))) c e high source is = absurd cc
stored_at (suc (suc (suc (suc (suc (suc (suc (suc (suc (suc (suc (suc (suc zero))))))))))))) c e high source is = absurd cc
stored_at (suc (suc (suc (suc (suc (suc (suc (suc (suc (suc (suc (suc (suc (suc zero)))))))))))))) c e high source is = locked_in 2 3 false (Net 13) refl c e high source is
stored_at (suc (suc (suc (suc (suc (suc (suc (suc (suc (suc (suc (suc (suc (suc (suc zero))))))))))))))) c e high source is = absurd cc
stored_at (suc (suc (suc (suc (suc (suc (suc (suc (suc (suc (suc (suc (suc (suc (suc (suc zero)))))))))))))))) c e high source is = locked_in 4 4 false (Net 15) refl c e high source is
stored_at (suc (suc (suc (suc (suc (suc (suc (suc (suc (suc (suc (suc (suc (suc (suc (suc (suc zero))))))))))))))))) c e high source is = absurd cc
stored_at (suc (suc (suc (suc (suc (suc (suc (suc (suc (suc (suc (suc (suc (suc (suc (suc (suc (suc zero)))))))))))))))))) c e high source is = absurd cc
stored_at (suc (suc (suc (suc (suc (suc (suc (suc (suc (suc (suc (suc (suc (suc (suc (suc (suc (suc (suc zero))))))))))))))))))) c e high source is = absurd cc
stored_at (suc (suc (suc (suc (suc (suc (suc (suc (suc (suc (suc (suc (suc (suc (suc (suc (suc (suc (suc (suc zero)))))))))))))))))))) c e high source is = absurd cc
stored_at (suc (suc (suc (suc (suc (suc (suc (suc (suc (suc (suc (suc (suc (suc (suc (suc (suc (suc (suc (suc (suc zero))))))))))))))))))))) c e high source is = absurd cc
stored_at (suc (suc (suc (suc (suc (suc (suc (suc (suc (suc (suc (suc (suc (suc (suc (suc (suc (suc (suc (suc (suc (suc zero)))))))))))))))))))))) c e high source is = absurd cc
stored_at (suc (suc (suc (suc (suc (suc (suc (suc (suc (suc (suc (suc (suc (suc (suc (suc (suc (suc (suc (suc (suc (suc (suc zero))))))))))))))))))))))) c e high source is = absurd cc
stored_at (suc (suc (suc (suc (suc (suc (suc (suc (suc (suc (suc (suc (suc (suc (suc (suc (suc (suc (suc (suc (suc (suc (suc (suc zero)))))))))))))))))))))))) c e high source is = absurd cc
stored_at (suc (suc (suc (suc (suc (suc (suc (suc (suc (suc (suc (suc (suc (suc (suc (suc (suc (suc (suc (suc (suc (suc (suc (suc (suc zero))))))))))))))))))))))))) c e high source is = absurd cc
stored_at (suc (suc (suc (suc (suc (suc (suc (suc (suc (suc (suc (suc (suc (suc (suc (suc (suc (suc (suc (suc (suc (suc (suc (suc (suc (suc k)))))))))))))))))))))))))) c e high source is = absurd cc

ranked : IsRanked small (λ net. net)
ranked = record { order = order; lockups = stored_at }

unforced : (ports : Ports) → ActByPorts ports no_forces
unforced ports port (inl is) = absurd cc
unforced ports port (inr is) = absurd cc

first_cell : IsScanCell small small_ports 0 (Net 14) 3
first_cell = record {
  takes = λ own values on. taken_on (small.cell 3).takes (record { enable = Net 0; input = Net 14 }) own values refl on;
  modelled = λ none. (let off : 4 ≡ 0 = ap (λ (c : Cell). c.domain) none in absurd cc);
  domain = refl;
  forces = unforced small_ports;
}

second_cell : IsScanCell small small_ports 0 (Net 16) 5
second_cell = record {
  takes = λ own values on. taken_on (small.cell 5).takes (record { enable = Net 0; input = Net 16 }) own values refl on;
  modelled = λ none. (let off : 5 ≡ 0 = ap (λ (c : Cell). c.domain) none in absurd cc);
  domain = refl;
  forces = unforced small_ports;
}

scan_cell : (chain place : ℕ) (cell : InstanceId) → cell_at small_chains chain place ≡ Some cell → IsScanCell small small_ports 0 (small_scan.into chain place) cell.0
scan_cell zero zero cell is = subst (λ (c : InstanceId). IsScanCell small small_ports 0 (small_scan.into 0 0) c.0) (same_Some (record { 0 = 3 }) cell is) first_cell
scan_cell zero (suc zero) cell is = subst (λ (c : InstanceId). IsScanCell small small_ports 0 (small_scan.into 0 1) c.0) (same_Some (record { 0 = 5 }) cell is) second_cell
scan_cell zero (suc (suc place)) cell is = absurd (none-some cell is)
scan_cell (suc chain) place cell is = absurd (none-some cell is)

link : (chain place : ℕ) (cell next : InstanceId) → cell_at small_chains chain place ≡ Some cell → cell_at small_chains chain (suc place) ≡ Some next → Leads small cell.0 next.0 (small_scan.into chain (suc place))
link zero zero cell next is follows =
    subst (λ (c : InstanceId). Leads small c.0 next.0 (small_scan.into 0 1)) (same_Some (record { 0 = 3 }) cell is)
    (subst (λ (c : InstanceId). Leads small 3 c.0 (small_scan.into 0 1)) (same_Some (record { 0 = 5 }) next follows) (ByLockup {net = 16} {lockup = 4} {output = 15} {high = false} refl refl refl refl))
link zero (suc place) cell next is follows = absurd (none-some next follows)
link (suc chain) place cell next is follows = absurd (none-some next follows)

phase : (chain : ℕ) (cell : InstanceId) → cell_at small_chains chain zero ≡ Some cell → HasPhase small small_config.ring small_edt (small_scan.into chain zero) (small.cell cell.0).falling chain
phase zero cell is =
    subst (λ (c : InstanceId). HasPhase small small_config.ring small_edt (small_scan.into 0 0) (small.cell c.0).falling 0) (same_Some (record { 0 = 3 }) cell is)
    (record { sum = 13; sums = Joined {left = 8 ∷ []} refl Term Term; entered = record { lockup = 2; entry = 14; latch = refl; leads = refl } })
phase (suc chain) cell is = absurd (none-some cell is)

ring : HasRing small small_ports small_config small_chains small_scan small_edt
ring = record {
  count = refl;
  chained = record { enable = refl; cells = scan_cell; links = link };
  update = refl;
  channels = λ j less. refl;
  run = refl;
  stages = two (HasStage small small_config.ring small_edt)
      (record { sum = 9; kept = 10; sums = Term; gate = refl; flop = record { cell = refl; net = refl } })
      (record { sum = 11; kept = 12; sums = Joined {left = 8 ∷ []} refl Term Term; gate = refl; flop = record { cell = refl; net = refl } });
  phases = phase;
}

mask : (m k : ℕ) → m < 1 → k < segment_length small_config m → IsFlop small 3 6 18 (before_in small_config small_edt.mask_port small_edt.mask_net m k)
mask zero zero m_less k_less = record { cell = refl; net = refl }
mask zero (suc k) m_less k_less = absurd (let short : segment_length small_config 0 ≡ 1 = refl in omega (arith, k_less, short))
mask (suc m) k m_less k_less = absurd (omega (arith, m_less))

compactor : HasCompactor small small_config small_chains small_edt
compactor = record {
  ports = λ m less. refl;
  masks = mask;
  holds = λ chain less. record { taken = 20; kept = 21; next = 22; take = refl; keep = refl; either = refl; flop = record { cell = refl; net = refl } };
  ends = one (HasEnd small small_chains small_edt) (record { place = 1; cell = record { 0 = 5 }; here = refl; last = refl; shown = 23; end = refl; show = refl; gate = refl });
  outputs = one (HasOutput small small_config small_edt) (record { sum = 24; sums = Term; buffer = refl });
}

-- its configuration is in range
injector : All (λ (i : Injector). (i.channel < 1) × (i.stage < 2)) small_config.ring.injectors
injector zero d less = (omega arith, omega arith)
injector (suc k) d less = absurd (omega (arith, less))

below_two : All (λ (n : ℕ). n < 2) (0 ∷ 1 ∷ [])
below_two zero d less = omega arith
below_two (suc zero) d less = omega arith
below_two (suc (suc k)) d less = absurd (omega (arith, less))

below_one : All (λ (n : ℕ). n < 1) (0 ∷ [])
below_one zero d less = omega arith
below_one (suc k) d less = absurd (omega (arith, less))

phase_set : All (IsSet 2) small_config.ring.phase
phase_set zero d less = record { some = omega arith; below = below_two; differ = refl }
phase_set (suc k) d less = absurd (omega (arith, less))

group_set : All (IsSet 1) small_config.compactor.groups
group_set zero d less = record { some = omega arith; below = below_one; differ = refl }
group_set (suc k) d less = absurd (omega (arith, less))

simple : All (λ (name : List ℕ). IsTrue (is_simple_name name && not (is_later_reserved name))) (names_of small_config.names)
unfolding reserved_words later_reserved_words
simple zero d less = refl
simple (suc zero) d less = refl
simple (suc (suc zero)) d less = refl
simple (suc (suc (suc zero))) d less = refl
simple (suc (suc (suc (suc zero)))) d less = refl
simple (suc (suc (suc (suc (suc zero))))) d less = refl
simple (suc (suc (suc (suc (suc (suc zero)))))) d less = refl
simple (suc (suc (suc (suc (suc (suc (suc zero))))))) d less = refl
simple (suc (suc (suc (suc (suc (suc (suc (suc k)))))))) d less = absurd (omega (arith, less))

in_range : IsInRange small_config
in_range = record {
  domains = (omega arith, omega arith);
  domains_differ = refl;
  resets = omega arith;
  resets_differ = refl;
  apart = λ k d less. absurd (omega (arith, less));
  keep_differ = refl;
  chains = (omega arith, omega arith);
  warm = omega arith;
  window = (omega arith, omega arith);
  seed = tt;
  always_masked = λ k d less. absurd (omega (arith, less));
  always_masked_differ = refl;
  ring = record {
    stages = (omega arith, omega arith);
    channels = (omega arith, omega arith);
    taps = λ k d less. absurd (omega (arith, less));
    taps_differ = refl;
    injectors = injector;
    injectors_differ = refl;
    phases = refl;
    phase = phase_set;
  };
  compactor = record {
    outputs = (omega arith, omega arith);
    groups = group_set;
    reached = one (λ chain. IsTrue (list_any (λ group. has same_number group chain) small_config.compactor.groups)) refl;
    mask_inputs = (omega arith, omega arith, omega arith);
  };
  names = simple;
  names_differ = refl;
}

pub small_has : SmallHas
small_has = (record { ring = ring; compactor = compactor }, in_range, ranked)

-- Each flip-flop of a design is kept in its scanned netlist.
use Rattle.std.proofs.Common.{ℕ, zero, suc, ◌+◌, ◌≡◌, inl, inr, Bool, true, false, List, [], ◌∷◌, length, map, Option, None, Some, slice_get, refl, sym, subst, ap, arith, ◌∙◌}
use Rattle.std.proofs.lemmas.Option.{none-some}
use Rattle.dft_base.proofs.BitLemmas.{true_false}
use Rattle.dft_cells.specs.declared.kind.Kind.{Kind}
use Rattle.dft_cells.specs.declared.kind.Role.{Role}
use Rattle.dft_cells.specs.declared.kind.Role.TheVariants.{Input, Clock, Din, Reset, Preset, ScanIn, ScanEnable, Output, Inverted}
use Rattle.dft_netlist.specs.declared.instance.Signal.{Signal}
use Rattle.dft_netlist.specs.Drivers.{Source, Connection, connections_from, source_of}
use Rattle.dft_netlist.specs.Connections.{same_role, pin_of}
use Rattle.dft_behavior.specs.Logic.{scan_of}
use Rattle.dft_chains.specs.ScanOff.{moved_source, IsEnabledBy}
use Rattle.dft_scan_frame.specs.Moves.{Gap, moved, moved_signal, at_net}
use Rattle.dft_scan_frame.specs.Pins.{number_of}
use Rattle.dft_scan_frame.proofs.Contained.{SamePins}
use Rattle.dft_scan_frame.proofs.Mergings.{moved_source_of}
use Rattle.dft_scan_frame.proofs.ScanPairs.{ScanPair, Plain, PlainBoth, Resets, ResetsBoth, Sets, SetsBoth, ListOf3, ListOf4, ListOf5, three, four, five}
use Rattle.dft_insert.specs.Frame.{framed_pins}
use Rattle.dft_insert.proofs.Keeping.{at_by, past}
use Rattle.dft_insert.proofs.Merging.{ListOf6, ListOf7, six, seven, pin_at}

-- ---- pins that no part joins

-- a pin that is neither an output nor a scan input
abbrev pub is_fixed : Role → Bool
is_fixed Input = true
is_fixed Clock = true
is_fixed Din = true
is_fixed Reset = true
is_fixed Preset = true
is_fixed ScanEnable = true
is_fixed ScanIn = false
is_fixed Output = false
is_fixed Inverted = false

abbrev is_fixed_role : Option Role → Bool
is_fixed_role None = false
is_fixed_role (Some role) = is_fixed role

abbrev pub is_fixed_at : List Role → (place : ℕ) → Bool
is_fixed_at roles place = is_fixed_role (slice_get roles place)

-- where no role of this sort is fixed, the first pin of the sort is not fixed
pub not_fixed : (r : Role) (k p j : ℕ) (roles : List Role) → ((x : Role) → same_role r x ≡ true → is_fixed x ≡ false) → p ≡ k + j → number_of (same_role r) k roles ≡ Some p → is_fixed_at roles j ≡ true → ⊥
not_fixed r k p j [] off is e fixed = none-some p e
not_fixed r k p zero (x ∷ roles) off is e fixed = elim (at_by r k p x (same_role r x) (number_of (same_role r) (suc k) roles) (λ z. Unit {0}) refl e) [
  | inl it ↦ true_false (is_fixed x) fixed (off x it.1)
  | inr more ↦ absurd (omega (arith, is, past r (suc k) p roles more))
]
not_fixed r k p (suc j) (x ∷ roles) off is e fixed = elim (at_by r k p x (same_role r x) (number_of (same_role r) (suc k) roles) (λ z. Unit {0}) refl e) [
  | inl it ↦ absurd (omega (arith, it.0, is))
  | inr more ↦ not_fixed r (suc k) p j roles off (omega (arith, is)) more fixed
]

pub output_off : (x : Role) → same_role Output x ≡ true → is_fixed x ≡ false
output_off Output e = refl
output_off Input e = absurd cc
output_off Clock e = absurd cc
output_off Din e = absurd cc
output_off Reset e = absurd cc
output_off Preset e = absurd cc
output_off ScanIn e = absurd cc
output_off ScanEnable e = absurd cc
output_off Inverted e = absurd cc

pub input_off : (x : Role) → same_role ScanIn x ≡ true → is_fixed x ≡ false
input_off ScanIn e = refl
input_off Input e = absurd cc
input_off Clock e = absurd cc
input_off Din e = absurd cc
input_off Reset e = absurd cc
input_off Preset e = absurd cc
input_off Output e = absurd cc
input_off ScanEnable e = absurd cc
input_off Inverted e = absurd cc

-- ---- the pins of a scan cell

-- its pins take their bits from where the flip-flop's took them, moved, and the port scan_enable enables its scan input
pub record KeepsPins (gap : Gap) (i : ℕ) (old new : List Connection) : Type 0 where
  pub same : SamePins (moved gap) i old new
  pub no_scan : pin_of ScanEnable i old ≡ None
  pub enabled : IsEnabledBy gap.before (scan_of (pin_of ScanEnable i new) (pin_of ScanIn i new))

abbrev KeepsOf : Gap → (i : ℕ) → (r s : List Role) → (pins now : List Signal) → Type 0
KeepsOf gap i r s pins now = KeepsPins gap i (connections_from 0 r pins) (connections_from 0 s now)

-- pins that no part joins are as they were in the frame
abbrev pub AreFixed : Gap → (s : List Role) → (pins now : List Signal) → Type 0
AreFixed gap s pins now = (p : ℕ) → is_fixed_at s p ≡ true → pin_at now p ≡ pin_at (framed_pins (at_net gap.before) s (map (moved_signal gap) pins)) p

pin_is : (gap : Gap) (i k : ℕ) (s t : Signal) → t ≡ moved_signal gap s → ◌≡◌ {A = Option Source} (Some (source_of i k t)) (Some (moved_source (moved gap) (source_of i k s)))
pin_is gap i k s t e = ap (λ z. Some (source_of i k z)) e ∙ ap Some (moved_source_of gap i k s)

enabled_by : (gap : Gap) (i k j : ℕ) (e s : Signal) → e ≡ at_net gap.before → IsEnabledBy gap.before (scan_of (Some (source_of i k e)) (Some (source_of i j s)))
enabled_by gap i k j e s is = ap (source_of i k) is

plain_keeps : (gap : Gap) (i : ℕ) (a b c : Signal) (v0 v1 v2 v3 v4 : Signal) → AreFixed gap (Clock ∷ Din ∷ ScanIn ∷ ScanEnable ∷ Output ∷ []) (a ∷ b ∷ c ∷ []) (v0 ∷ v1 ∷ v2 ∷ v3 ∷ v4 ∷ []) → KeepsOf gap i (Clock ∷ Din ∷ Output ∷ []) (Clock ∷ Din ∷ ScanIn ∷ ScanEnable ∷ Output ∷ []) (a ∷ b ∷ c ∷ []) (v0 ∷ v1 ∷ v2 ∷ v3 ∷ v4 ∷ [])
plain_keeps gap i a b c v0 v1 v2 v3 v4 h = record {
  same = record { clock = pin_is gap i 0 a v0 (h 0 refl); data_in = pin_is gap i 1 b v1 (h 1 refl); reset = refl; preset = refl };
  no_scan = refl;
  enabled = enabled_by gap i 3 2 v3 v2 (h 3 refl);
}

plain_both_keeps : (gap : Gap) (i : ℕ) (a b c d : Signal) (v0 v1 v2 v3 v4 v5 : Signal) → AreFixed gap (Clock ∷ Din ∷ ScanIn ∷ ScanEnable ∷ Output ∷ Inverted ∷ []) (a ∷ b ∷ c ∷ d ∷ []) (v0 ∷ v1 ∷ v2 ∷ v3 ∷ v4 ∷ v5 ∷ []) → KeepsOf gap i (Clock ∷ Din ∷ Output ∷ Inverted ∷ []) (Clock ∷ Din ∷ ScanIn ∷ ScanEnable ∷ Output ∷ Inverted ∷ []) (a ∷ b ∷ c ∷ d ∷ []) (v0 ∷ v1 ∷ v2 ∷ v3 ∷ v4 ∷ v5 ∷ [])
plain_both_keeps gap i a b c d v0 v1 v2 v3 v4 v5 h = record {
  same = record { clock = pin_is gap i 0 a v0 (h 0 refl); data_in = pin_is gap i 1 b v1 (h 1 refl); reset = refl; preset = refl };
  no_scan = refl;
  enabled = enabled_by gap i 3 2 v3 v2 (h 3 refl);
}

resets_keep : (gap : Gap) (i : ℕ) (a b c d : Signal) (v0 v1 v2 v3 v4 v5 : Signal) → AreFixed gap (Clock ∷ Din ∷ Reset ∷ ScanIn ∷ ScanEnable ∷ Output ∷ []) (a ∷ b ∷ c ∷ d ∷ []) (v0 ∷ v1 ∷ v2 ∷ v3 ∷ v4 ∷ v5 ∷ []) → KeepsOf gap i (Clock ∷ Din ∷ Reset ∷ Output ∷ []) (Clock ∷ Din ∷ Reset ∷ ScanIn ∷ ScanEnable ∷ Output ∷ []) (a ∷ b ∷ c ∷ d ∷ []) (v0 ∷ v1 ∷ v2 ∷ v3 ∷ v4 ∷ v5 ∷ [])
resets_keep gap i a b c d v0 v1 v2 v3 v4 v5 h = record {
  same = record { clock = pin_is gap i 0 a v0 (h 0 refl); data_in = pin_is gap i 1 b v1 (h 1 refl); reset = pin_is gap i 2 c v2 (h 2 refl); preset = refl };
  no_scan = refl;
  enabled = enabled_by gap i 4 3 v4 v3 (h 4 refl);
}

resets_both_keep : (gap : Gap) (i : ℕ) (a b c d f : Signal) (v0 v1 v2 v3 v4 v5 v6 : Signal) → AreFixed gap (Clock ∷ Din ∷ Reset ∷ ScanIn ∷ ScanEnable ∷ Output ∷ Inverted ∷ []) (a ∷ b ∷ c ∷ d ∷ f ∷ []) (v0 ∷ v1 ∷ v2 ∷ v3 ∷ v4 ∷ v5 ∷ v6 ∷ []) → KeepsOf gap i (Clock ∷ Din ∷ Reset ∷ Output ∷ Inverted ∷ []) (Clock ∷ Din ∷ Reset ∷ ScanIn ∷ ScanEnable ∷ Output ∷ Inverted ∷ []) (a ∷ b ∷ c ∷ d ∷ f ∷ []) (v0 ∷ v1 ∷ v2 ∷ v3 ∷ v4 ∷ v5 ∷ v6 ∷ [])
resets_both_keep gap i a b c d f v0 v1 v2 v3 v4 v5 v6 h = record {
  same = record { clock = pin_is gap i 0 a v0 (h 0 refl); data_in = pin_is gap i 1 b v1 (h 1 refl); reset = pin_is gap i 2 c v2 (h 2 refl); preset = refl };
  no_scan = refl;
  enabled = enabled_by gap i 4 3 v4 v3 (h 4 refl);
}

sets_keep : (gap : Gap) (i : ℕ) (a b c d : Signal) (v0 v1 v2 v3 v4 v5 : Signal) → AreFixed gap (Clock ∷ Din ∷ Preset ∷ ScanIn ∷ ScanEnable ∷ Output ∷ []) (a ∷ b ∷ c ∷ d ∷ []) (v0 ∷ v1 ∷ v2 ∷ v3 ∷ v4 ∷ v5 ∷ []) → KeepsOf gap i (Clock ∷ Din ∷ Preset ∷ Output ∷ []) (Clock ∷ Din ∷ Preset ∷ ScanIn ∷ ScanEnable ∷ Output ∷ []) (a ∷ b ∷ c ∷ d ∷ []) (v0 ∷ v1 ∷ v2 ∷ v3 ∷ v4 ∷ v5 ∷ [])
sets_keep gap i a b c d v0 v1 v2 v3 v4 v5 h = record {
  same = record { clock = pin_is gap i 0 a v0 (h 0 refl); data_in = pin_is gap i 1 b v1 (h 1 refl); reset = refl; preset = pin_is gap i 2 c v2 (h 2 refl) };
  no_scan = refl;
  enabled = enabled_by gap i 4 3 v4 v3 (h 4 refl);
}

sets_both_keep : (gap : Gap) (i : ℕ) (a b c d f : Signal) (v0 v1 v2 v3 v4 v5 v6 : Signal) → AreFixed gap (Clock ∷ Din ∷ Preset ∷ ScanIn ∷ ScanEnable ∷ Output ∷ Inverted ∷ []) (a ∷ b ∷ c ∷ d ∷ f ∷ []) (v0 ∷ v1 ∷ v2 ∷ v3 ∷ v4 ∷ v5 ∷ v6 ∷ []) → KeepsOf gap i (Clock ∷ Din ∷ Preset ∷ Output ∷ Inverted ∷ []) (Clock ∷ Din ∷ Preset ∷ ScanIn ∷ ScanEnable ∷ Output ∷ Inverted ∷ []) (a ∷ b ∷ c ∷ d ∷ f ∷ []) (v0 ∷ v1 ∷ v2 ∷ v3 ∷ v4 ∷ v5 ∷ v6 ∷ [])
sets_both_keep gap i a b c d f v0 v1 v2 v3 v4 v5 v6 h = record {
  same = record { clock = pin_is gap i 0 a v0 (h 0 refl); data_in = pin_is gap i 1 b v1 (h 1 refl); reset = refl; preset = pin_is gap i 2 c v2 (h 2 refl) };
  no_scan = refl;
  enabled = enabled_by gap i 4 3 v4 v3 (h 4 refl);
}

pub scan_keeps : (gap : Gap) (i : ℕ) (a : Kind) (r : List Role) (b : Kind) (s : List Role) (pins now : List Signal) → ScanPair a r b s → length pins ≡ length r → length now ≡ length s → AreFixed gap s pins now → KeepsOf gap i r s pins now
scan_keeps gap i _ _ _ _ pins now Plain h g =
    let l : ListOf3 pins = three pins h in
    let m : ListOf5 now = five now g in
    subst (λ (qs : List Signal). AreFixed gap (Clock ∷ Din ∷ ScanIn ∷ ScanEnable ∷ Output ∷ []) qs now → KeepsOf gap i (Clock ∷ Din ∷ Output ∷ []) (Clock ∷ Din ∷ ScanIn ∷ ScanEnable ∷ Output ∷ []) qs now) (sym l.3)
    (subst (λ (ps : List Signal). AreFixed gap (Clock ∷ Din ∷ ScanIn ∷ ScanEnable ∷ Output ∷ []) (l.0 ∷ l.1 ∷ l.2 ∷ []) ps → KeepsOf gap i (Clock ∷ Din ∷ Output ∷ []) (Clock ∷ Din ∷ ScanIn ∷ ScanEnable ∷ Output ∷ []) (l.0 ∷ l.1 ∷ l.2 ∷ []) ps) (sym m.5) (plain_keeps gap i l.0 l.1 l.2 m.0 m.1 m.2 m.3 m.4))
scan_keeps gap i _ _ _ _ pins now PlainBoth h g =
    let l : ListOf4 pins = four pins h in
    let m : ListOf6 now = six now g in
    subst (λ (qs : List Signal). AreFixed gap (Clock ∷ Din ∷ ScanIn ∷ ScanEnable ∷ Output ∷ Inverted ∷ []) qs now → KeepsOf gap i (Clock ∷ Din ∷ Output ∷ Inverted ∷ []) (Clock ∷ Din ∷ ScanIn ∷ ScanEnable ∷ Output ∷ Inverted ∷ []) qs now) (sym l.4)
    (subst (λ (ps : List Signal). AreFixed gap (Clock ∷ Din ∷ ScanIn ∷ ScanEnable ∷ Output ∷ Inverted ∷ []) (l.0 ∷ l.1 ∷ l.2 ∷ l.3 ∷ []) ps → KeepsOf gap i (Clock ∷ Din ∷ Output ∷ Inverted ∷ []) (Clock ∷ Din ∷ ScanIn ∷ ScanEnable ∷ Output ∷ Inverted ∷ []) (l.0 ∷ l.1 ∷ l.2 ∷ l.3 ∷ []) ps) (sym m.is) (plain_both_keeps gap i l.0 l.1 l.2 l.3 m.a m.b m.c m.d m.e m.f))
scan_keeps gap i _ _ _ _ pins now Resets h g =
    let l : ListOf4 pins = four pins h in
    let m : ListOf6 now = six now g in
    subst (λ (qs : List Signal). AreFixed gap (Clock ∷ Din ∷ Reset ∷ ScanIn ∷ ScanEnable ∷ Output ∷ []) qs now → KeepsOf gap i (Clock ∷ Din ∷ Reset ∷ Output ∷ []) (Clock ∷ Din ∷ Reset ∷ ScanIn ∷ ScanEnable ∷ Output ∷ []) qs now) (sym l.4)
    (subst (λ (ps : List Signal). AreFixed gap (Clock ∷ Din ∷ Reset ∷ ScanIn ∷ ScanEnable ∷ Output ∷ []) (l.0 ∷ l.1 ∷ l.2 ∷ l.3 ∷ []) ps → KeepsOf gap i (Clock ∷ Din ∷ Reset ∷ Output ∷ []) (Clock ∷ Din ∷ Reset ∷ ScanIn ∷ ScanEnable ∷ Output ∷ []) (l.0 ∷ l.1 ∷ l.2 ∷ l.3 ∷ []) ps) (sym m.is) (resets_keep gap i l.0 l.1 l.2 l.3 m.a m.b m.c m.d m.e m.f))
scan_keeps gap i _ _ _ _ pins now ResetsBoth h g =
    let l : ListOf5 pins = five pins h in
    let m : ListOf7 now = seven now g in
    subst (λ (qs : List Signal). AreFixed gap (Clock ∷ Din ∷ Reset ∷ ScanIn ∷ ScanEnable ∷ Output ∷ Inverted ∷ []) qs now → KeepsOf gap i (Clock ∷ Din ∷ Reset ∷ Output ∷ Inverted ∷ []) (Clock ∷ Din ∷ Reset ∷ ScanIn ∷ ScanEnable ∷ Output ∷ Inverted ∷ []) qs now) (sym l.5)
    (subst (λ (ps : List Signal). AreFixed gap (Clock ∷ Din ∷ Reset ∷ ScanIn ∷ ScanEnable ∷ Output ∷ Inverted ∷ []) (l.0 ∷ l.1 ∷ l.2 ∷ l.3 ∷ l.4 ∷ []) ps → KeepsOf gap i (Clock ∷ Din ∷ Reset ∷ Output ∷ Inverted ∷ []) (Clock ∷ Din ∷ Reset ∷ ScanIn ∷ ScanEnable ∷ Output ∷ Inverted ∷ []) (l.0 ∷ l.1 ∷ l.2 ∷ l.3 ∷ l.4 ∷ []) ps) (sym m.is) (resets_both_keep gap i l.0 l.1 l.2 l.3 l.4 m.a m.b m.c m.d m.e m.f m.g))
scan_keeps gap i _ _ _ _ pins now Sets h g =
    let l : ListOf4 pins = four pins h in
    let m : ListOf6 now = six now g in
    subst (λ (qs : List Signal). AreFixed gap (Clock ∷ Din ∷ Preset ∷ ScanIn ∷ ScanEnable ∷ Output ∷ []) qs now → KeepsOf gap i (Clock ∷ Din ∷ Preset ∷ Output ∷ []) (Clock ∷ Din ∷ Preset ∷ ScanIn ∷ ScanEnable ∷ Output ∷ []) qs now) (sym l.4)
    (subst (λ (ps : List Signal). AreFixed gap (Clock ∷ Din ∷ Preset ∷ ScanIn ∷ ScanEnable ∷ Output ∷ []) (l.0 ∷ l.1 ∷ l.2 ∷ l.3 ∷ []) ps → KeepsOf gap i (Clock ∷ Din ∷ Preset ∷ Output ∷ []) (Clock ∷ Din ∷ Preset ∷ ScanIn ∷ ScanEnable ∷ Output ∷ []) (l.0 ∷ l.1 ∷ l.2 ∷ l.3 ∷ []) ps) (sym m.is) (sets_keep gap i l.0 l.1 l.2 l.3 m.a m.b m.c m.d m.e m.f))
scan_keeps gap i _ _ _ _ pins now SetsBoth h g =
    let l : ListOf5 pins = five pins h in
    let m : ListOf7 now = seven now g in
    subst (λ (qs : List Signal). AreFixed gap (Clock ∷ Din ∷ Preset ∷ ScanIn ∷ ScanEnable ∷ Output ∷ Inverted ∷ []) qs now → KeepsOf gap i (Clock ∷ Din ∷ Preset ∷ Output ∷ Inverted ∷ []) (Clock ∷ Din ∷ Preset ∷ ScanIn ∷ ScanEnable ∷ Output ∷ Inverted ∷ []) qs now) (sym l.5)
    (subst (λ (ps : List Signal). AreFixed gap (Clock ∷ Din ∷ Preset ∷ ScanIn ∷ ScanEnable ∷ Output ∷ Inverted ∷ []) (l.0 ∷ l.1 ∷ l.2 ∷ l.3 ∷ l.4 ∷ []) ps → KeepsOf gap i (Clock ∷ Din ∷ Preset ∷ Output ∷ Inverted ∷ []) (Clock ∷ Din ∷ Preset ∷ ScanIn ∷ ScanEnable ∷ Output ∷ Inverted ∷ []) (l.0 ∷ l.1 ∷ l.2 ∷ l.3 ∷ l.4 ∷ []) ps) (sym m.is) (sets_both_keep gap i l.0 l.1 l.2 l.3 l.4 m.a m.b m.c m.d m.e m.f m.g))

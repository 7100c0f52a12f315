-- Tables that have a place for each signal.
use Rattle.std.proofs.Common.{◌≡◌, ℕ, zero, suc, [], ◌∷◌, All, sym, subst, arith}
use Rattle.std.proofs.lemmas.List.Elements.{All-append}
use Rattle.dft_base.specs.Lexing.{Text}
use Rattle.dft_stil_text.specs.WaveformTables as spec
use Rattle.dft_stil.specs.WaveformsShown.{IsWide}
use Rattle.dft_stil.specs.WaveformTablesShown.{AreWide}

all_one : (count : ℕ) (s : spec.Waveforms) → IsWide count s → All (λ (s : spec.Waveforms). IsWide count s) (s ∷ [])
all_one count s w zero d h = w
all_one count s w (suc k) d h = absurd (omega arith)

pub wide_more : (count : ℕ) (tables more : spec.WaveformTables) (word : Text) (s : spec.Waveforms) → more ≡ spec.with_table tables word s → AreWide count tables → IsWide count s → AreWide count more
wide_more count tables more word s e a w = subst (λ (t : spec.WaveformTables). AreWide count t) (sym e) (All-append (λ (s : spec.Waveforms). IsWide count s) tables.waveforms (s ∷ []) a (all_one count s w))

pub none_wide : (count : ℕ) → AreWide count spec.no_tables
none_wide count k d h = absurd (omega arith)

pub ruleset wide_tables = (wide_more, none_wide)

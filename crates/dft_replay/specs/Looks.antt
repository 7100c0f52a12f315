-- What a vector compares, as it is looked up: by place in a list.
use Rattle.std.specs.Prelude.{ℕ, ◌≡◌, ◌<◌, ◌≤◌, List, [], ◌∷◌, length, All, Option, None}
use Rattle.std.specs.Vec.{vec_capacity}
use Rattle.dft_base.specs.declared.tri.Tri.{Tri}
use Rattle.dft_netlist.specs.Netlist.{Netlist}
use Rattle.dft_netlist.specs.Drivers.{IsOrdered}
use Rattle.dft_replay.specs.declared.comparing.Asked.{Asked}
use Rattle.dft_replay.specs.declared.playing.Room.{Room}
use Rattle.dft_replay.specs.declared.verdict.Unknowns.{Unknowns}
use Rattle.dft_replay.specs.declared.verdict.Verdict.{Verdict}
use Rattle.dft_replay.specs.Rows.{Compared}
use Rattle.dft_replay.specs.Verdicts.{bit_decides}

-- what is asked of a compared bit, once its net is known
abbrev pub asked_of : Compared → Asked
asked_of c = record { signal = c.signal; printed = c.bit }

-- what these values decide, each beside what is asked of it
abbrev pub decided_seen : Unknowns → (vector : ℕ) → List Asked → (seen : List Tri) → Option Verdict
decided_seen u v [] seen = None
decided_seen u v (bit ∷ asked) [] = None
decided_seen u v (bit ∷ asked) (value ∷ seen) = bit_decides u v bit.signal value bit.printed (decided_seen u v asked seen)

-- what is asked is of one of so many signals
abbrev pub AreBefore : (signals : ℕ) → List Asked → Type 0
AreBefore signals asked = All (λ bit. bit.signal < signals) asked

-- there is an entry for each clock, and room for as many compared bits as signals
pub record HasRoom (clocks signals : ℕ) (room : Room) : Type 0 where
  pub pulsed : length room.pulsed.items ≡ clocks
  pub wanted : signals ≤ vec_capacity room.wanted
  pub asked : signals ≤ vec_capacity room.asked
  pub seen : length room.seen.items ≡ signals

-- some ranks of its nets fit the nets that drivers read
abbrev pub HasRanks : Netlist → Type 0
HasRanks n = (rank : ℕ → ℕ) × IsOrdered n rank

-- Small designs by hand: what their flip-flops need, and what moves.
use Rattle.std.proofs.Common.{ℕ, Bool, true, false, List, [], ◌∷◌, ◌≡◌, ◌==◌, ap, refl, None, Some}
use Rattle.std.specs.Prelude.{slice_index_or, ◌&&◌, if◌then◌else◌}
use Rattle.dft_base.specs.declared.tri.Tri.{Tri}
use Rattle.dft_base.specs.declared.tri.Tri.TheVariants.{Zero, One, Unknown}
use Rattle.dft_cells.specs.FlipFlops.{no_forces}
use Rattle.dft_netlist.specs.Drivers.{Source, Net}
use Rattle.dft_behavior.specs.Logic.{Logic, Cell, plain as plain_of, Meaning, Input, Clock, Flop, Lockup, Free, reads}
use Rattle.dft_abstract.specs.Cycle.{Pulse, next_value}
use Rattle.dft_takings.specs.Needs.{read_in, next_reads}
use Rattle.dft_takings.specs.Moves.{moves, is_other_clock}
use Rattle.dft_takings.specs.Shows.{Shown, Nothing, Domain, Several, is_still, with_shown, lockup_shown, shown_given}

-- ---- parts

-- a flip-flop of a domain that takes the bit of a net
abbrev plain : (domain data_in : ℕ) → Cell
plain e net = record { domain = e; falling = false; takes = plain_of (Net net); forces = no_forces }

abbrev cell_in : List Cell → ℕ → Cell
cell_in cells c = slice_index_or cells c (plain 0 0)

abbrev net_in : List Meaning → ℕ → Meaning
net_in nets k = slice_index_or nets k Free

-- whether a domain is this one
abbrev only : ℕ → ℕ → Bool
only d e = e == d

abbrev both : ℕ → Bool
both e = true

-- a phase of a pulse of these domains, where all ports are 1 and all cells 0
abbrev phase : (rising : Bool) → (pulsed : ℕ → Bool) → Pulse
phase rising pulsed = record { rising = rising; ports = λ k. One; pulsed = pulsed; old = λ c. Zero }

abbrev rises : (pulsed : ℕ → Bool) → Pulse
rises = phase true

abbrev falls : (pulsed : ℕ → Bool) → Pulse
falls = phase false

-- ---- a lock-up of a clock that does not pulse, between two flip-flops of one that does

-- nets ca, cb, d, n, p, q: `DFF 0 (.CK(ca), .D(d), .Q(n)); LOCKUP 2 (.CK(cb), .D(n), .Q(p)); DFF 1 (.CK(ca), .D(p), .Q(q));`
abbrev quiet : Logic
quiet = record {
  net = net_in (Clock ∷ Clock ∷ Input ∷ Flop 0 false ∷ Lockup 2 1 false (Net 3) ∷ Flop 1 false ∷ []);
  cell = cell_in (plain 0 2 ∷ plain 0 4 ∷ []);
}

-- the second flip-flop needs p in the view of ca, and so n in the view of cb
quiet_next : (ports : ℕ → Tri) (at : Source → Tri) → next_reads (quiet.cell 1) ports at ≡ Net 4 ∷ []
quiet_next ports at = refl

quiet_reads : reads (quiet.net 4) ≡ 3 ∷ []
quiet_reads = refl

quiet_view : read_in (rises (only 0)) 0 (quiet.net 4) ≡ 1
quiet_view = refl

-- where ca pulses, n moves in the view of cb, though it shows a flip-flop of ca that a flip-flop of ca reads
quiet_moves : moves quiet (rises (only 0)) 1 (quiet.net 3) ≡ true
quiet_moves = refl

-- in the view of ca it does not, nor in any view where ca does not pulse
quiet_still : moves quiet (rises (only 0)) 0 (quiet.net 3) ≡ false
quiet_still = refl

quiet_at_rest : (d : ℕ) → moves quiet (rises (only 1)) d (quiet.net 3) ≡ false
quiet_at_rest d = refl

-- where ca pulses, what p shows may move in every view
quiet_shows : (shown : ℕ → Shown) → shown 3 ≡ Domain 0 → shown_given quiet (rises (only 0)) shown 4 (quiet.net 4) ≡ Several
quiet_shows shown is = ap (λ (t : Shown). lockup_shown true false false 1 (with_shown t Nothing)) is

-- at the falls no flip-flop takes a value, and the lock-up is a wire, since cb rests
quiet_fall : (d : ℕ) → moves quiet (falls (only 0)) d (quiet.net 3) ≡ false
quiet_fall d = refl

quiet_wire : (shown : ℕ → Shown) → shown 3 ≡ Nothing → shown_given quiet (falls (only 0)) shown 4 (quiet.net 4) ≡ Nothing
quiet_wire shown is = ap (λ (t : Shown). lockup_shown false false false 1 (with_shown t Nothing)) is

-- an assignment of the needed values alone, and any others: the second flip-flop takes what the first may have
abbrev needed : (others : Tri) → ℕ → ℕ → Tri
needed others d k = if (d == 0) && (k == 4) then Unknown else (if (d == 1) && (k == 3) then Unknown else others)

quiet_takes : (others : Tri) → next_value quiet (rises (only 0)) (needed others) 1 ≡ Unknown
quiet_takes others = refl

-- ---- a scan cell with a reset

-- nets ck, se, si, d, rn, q
abbrev scan_cell : Cell
scan_cell = record { domain = 0; falling = false; takes = record { input = Net 3; scan = Some (record { enable = Net 1; input = Net 2 }) }; forces = record { clear = Some 4; preset = None } }

shifts : next_reads scan_cell (λ k. One) (λ s. One) ≡ Net 1 ∷ Net 2 ∷ []
shifts = refl

captures : next_reads scan_cell (λ k. One) (λ s. Zero) ≡ Net 1 ∷ Net 3 ∷ []
captures = refl

may_do_either : next_reads scan_cell (λ k. Unknown) (λ s. Unknown) ≡ Net 1 ∷ Net 2 ∷ Net 3 ∷ []
may_do_either = refl

is_reset : (at : Source → Tri) → next_reads scan_cell (λ k. Zero) at ≡ []
is_reset at = refl

-- ---- a clock read as data by the other domain

sees_clock : is_other_clock (rises both) 1 0 Clock ≡ true
sees_clock = refl

sees_its_own : is_other_clock (rises both) 0 0 Clock ≡ false
sees_its_own = refl

sees_none : is_other_clock (rises (only 1)) 1 0 Clock ≡ false
sees_none = refl

-- ---- two domains that meet in a capture alone

-- nets ca, cb, se, si, d, q, r: `SDFF 0 (.CK(ca), .SE(se), .SI(si), .D(r), .Q(q)); DFF 1 (.CK(cb), .D(d), .Q(r));`
abbrev meeting : Logic
meeting = record {
  net = net_in (Clock ∷ Clock ∷ Input ∷ Input ∷ Input ∷ Flop 0 false ∷ Flop 1 false ∷ []);
  cell = cell_in (record { domain = 0; falling = false; takes = record { input = Net 6; scan = Some (record { enable = Net 2; input = Net 3 }) }; forces = no_forces } ∷ plain 1 4 ∷ []);
}

-- it needs nothing that moves while it shifts
meeting_shifts : next_reads (meeting.cell 0) (λ k. Zero) (λ s. One) ≡ Net 2 ∷ Net 3 ∷ []
meeting_shifts = refl

meeting_still : (d : ℕ) → moves meeting (rises both) d (meeting.net 3) ≡ false
meeting_still d = refl

-- and what moves where it captures
meeting_captures : next_reads (meeting.cell 0) (λ k. Zero) (λ s. Zero) ≡ Net 2 ∷ Net 6 ∷ []
meeting_captures = refl

meeting_moves : moves meeting (rises both) 0 (meeting.net 6) ≡ true
meeting_moves = refl

-- ---- lock-ups of a third clock between its flip-flops and the chains of two domains

-- nets ca, cb, ck, d, r, s, a, b: `DFF 0 (.CK(ck), .D(d), .Q(r)); LOCKUP 1 (.CK(ck), .D(r), .Q(s)); DFF 2 (.CK(ca), .D(s), .Q(a)); DFF 3 (.CK(cb), .D(s), .Q(b));`
abbrev chains : Logic
chains = record {
  net = net_in (Clock ∷ Clock ∷ Clock ∷ Input ∷ Flop 0 false ∷ Lockup 1 2 false (Net 4) ∷ Flop 2 false ∷ Flop 3 false ∷ []);
  cell = cell_in (plain 2 3 ∷ plain 2 3 ∷ plain 0 5 ∷ plain 1 5 ∷ []);
}

abbrev all_three : ℕ → Bool
all_three e = true

-- where all three pulse, the lock-up holds, and shows nothing that moves
chains_flop : (shown : ℕ → Shown) → shown_given chains (rises all_three) shown 4 (chains.net 4) ≡ Domain 2
chains_flop shown = refl

chains_hold : (shown : ℕ → Shown) → shown 4 ≡ Domain 2 → shown_given chains (rises all_three) shown 5 (chains.net 5) ≡ Nothing
chains_hold shown is = ap (λ (t : Shown). lockup_shown true true false 2 (with_shown t Nothing)) is

-- where they fall, the lock-up opens, and shows its clock
chains_open : (shown : ℕ → Shown) → shown_given chains (falls all_three) shown 5 (chains.net 5) ≡ Domain 2
chains_open shown = refl

-- without it the first cell of a chain would read what moves
chains_race : is_still 0 (Domain 2) ≡ false
chains_race = refl

-- Bits of constants, and what a draft keeps from one rule to the next.
use Rattle.std.proofs.Common.{◌≡◌, ℕ, zero, suc, ◌<◌, ◌≤◌, Bool, true, false, List, [], ◌∷◌, ◌++◌, length, map, get_or, arith, refl, subst, ◌∙◌}
use Rattle.std.proofs.lemmas.List.Elements.{All-append, All-map}
use Rattle.dft_netlist.specs.declared.ids.NetId.{NetId}
use Rattle.dft_netlist.specs.declared.instance.Signal.{Signal}
use Rattle.dft_netlist.specs.declared.instance.Signal.TheVariants as signal
use Rattle.dft_netlist_text.specs.Modules.{Draft}
use Rattle.dft_netlist.specs.Sound.{IsLive, IsConnected}
use Rattle.dft_verilog_draft.specs.Drafts.{JoinFits, nets_alone}
use Rattle.dft_verilog_draft.specs.Operands.{Grows, IsBit, AreBits}

pub grows_not : (d : Draft) → Grows d d
grows_not d = record { library = refl; instances = refl; nets = omega arith }

pub grows_on : (a b c : Draft) → Grows a b → Grows b c → Grows a c
grows_on a b c h k = record { library = k.library ∙ h.library; instances = k.instances ∙ h.instances; nets = omega (arith, h.nets, k.nets) }

pub ruleset growing = (grows_not, grows_on)

-- bits, and constants that are not driven
pub and_constants : (count : ℕ) (drives : Bool) (bits : List Signal) (values : List Bool) → drives ≡ false → AreBits count drives bits →
    AreBits count drives (bits ++ map signal.Constant values)
and_constants count true bits values off h = absurd (cc)
and_constants count false bits values off h =
    All-append (λ (s : Signal). IsBit count false s) bits (map signal.Constant values) h
    (All-map (λ (s : Signal). IsBit count false s) signal.Constant values (λ k d below. tt))

pub ruleset constants = (and_constants)

-- ---- bits

pub bit_more : (a b : ℕ) (drives : Bool) (s : Signal) → a ≤ b → IsBit a drives s → IsBit b drives s
bit_more a b drives (signal.Net net) le h = omega arith
bit_more a b true (signal.Constant bit) le h = h
bit_more a b false (signal.Constant bit) le h = h
bit_more a b drives signal.Unconnected le h = h

-- bits stay where there are more nets
pub bits_more : (a b : ℕ) (drives : Bool) (bits : List Signal) → a ≤ b → AreBits a drives bits → AreBits b drives bits
bits_more a b drives bits le h = λ k d below. bit_more a b drives _ le (h k d below)

pub no_bits : (count : ℕ) (drives : Bool) → AreBits count drives []
no_bits count drives = λ k d below. absurd (omega arith)

pub ruleset bits = (bits_more, no_bits)

pub live_bit : (count : ℕ) (drives : Bool) (s : Signal) → IsBit count drives s → IsLive count s
live_bit count drives (signal.Net net) h = h
live_bit count true (signal.Constant bit) h = absurd h
live_bit count false (signal.Constant bit) h = tt
live_bit count drives signal.Unconnected h = absurd h

connected_bit : (count : ℕ) (drives : Bool) (s : Signal) → IsBit count drives s → IsConnected s
connected_bit count drives (signal.Net net) h = tt
connected_bit count true (signal.Constant bit) h = absurd h
connected_bit count false (signal.Constant bit) h = tt
connected_bit count drives signal.Unconnected h = absurd h

-- a net can be joined to a bit
pub join_fits : (d : Draft) (target : NetId) (source : Signal) → target.0 < length d.nets → IsBit (length d.nets) false source → JoinFits (nets_alone d) (record { target = target; source = source })
join_fits d target source below h = record { target_live = below; source_live = live_bit (length d.nets) false source h; connected = connected_bit (length d.nets) false source h }

pub ruleset joins = (join_fits)

-- the one bit of an expression
pub first_bit : (count : ℕ) (drives : Bool) (bit : Signal) (bits : List Signal) → bits ≡ bit ∷ [] → AreBits count drives bits → IsBit count drives bit
first_bit count drives bit [] one h = absurd (cc)
first_bit count drives bit (b ∷ bits) one h = let e : b ≡ bit = cc in subst (λ (x : Signal). IsBit count drives x) e (h 0 b (omega arith))

pub ruleset one = (first_bit)

-- one bit more
pub bits_and : (count : ℕ) (drives : Bool) (bits : List Signal) (bit : Signal) → IsBit count drives bit → AreBits count drives bits → AreBits count drives (bits ++ bit ∷ [])
bits_and count drives bits bit here h =
    All-append (λ (s : Signal). IsBit count drives s) bits (bit ∷ []) h (λ k d below. last count drives bit here k d below)
  where
    last : (count : ℕ) (drives : Bool) (bit : Signal) → IsBit count drives bit → (k : ℕ) (d : Signal) → k < length (bit ∷ []) → IsBit count drives (get_or (bit ∷ []) k d)
    last count drives bit here zero d below = here
    last count drives bit here (suc k) d below = absurd (omega arith)

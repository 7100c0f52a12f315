-- Lists that are built place by place.
use Rattle.std.proofs.Common.{Bool, true, false, refl, ℕ, List, [], ◌∷◌, ◌++◌, ◌≡◌, ◌<◌, ◌+◌, Option, None, length, map, sym, ap, ◌∙◌, subst, get_or, below_more, length-append, arith}
use Rattle.std.proofs.Math.ListN.{get_or-append}
use Rattle.std.proofs.Math.Seq.{get_or-append_seam}
use Rattle.dft_netlist.specs.Netlist.{Netlist}
use Rattle.dft_behavior.specs.Logic.{Ports, Cell, is_lockup, cell_or_none}
use Rattle.std.specs.Prelude.{if◌then◌else◌}
use Rattle.std.specs.Option.{option_or}
use Rattle.dft_cells.specs.declared.kind.Kind.{Kind}
use Rattle.dft_cells.specs.FlipFlops.{is_flip_flop}
use Rattle.dft_netlist.specs.Drivers.{kind_at, pins_of}
use Rattle.dft_logic.specs.declared.circuit.Op.{Op}
use Rattle.dft_logic.specs.declared.circuit.Operand.TheVariants.{Net}
use Rattle.dft_logic.specs.declared.circuit.FlipFlop.{FlipFlop}
use Rattle.dft_logic.specs.declared.circuit.Latch.{Latch}
use Rattle.dft_cells.specs.WellFormed.{IsWellFormed}
use Rattle.dft_netlist.specs.Sound.{IsNetlist}
use Rattle.dft_logic.proofs.OpLemmas.{modelled_same, lockup_in_same, has_one_force}
use Rattle.dft_logic.specs.declared.circuit.Op.TheVariants.{Free}
use Rattle.dft_logic.specs.Circuit.{op_at, cell_of, latch_of}
use Rattle.dft_logic.specs.Compiling.{Wired, wired_by, stored_in, latch_in, latch_kept, IsOpOf, IsFlopOf, IsLatchOf, AreFlops, AreLatches}

-- each place of a list has what it should, and one more
pub pushed : {X : Type 0} (P : ℕ → X → Type 0) (xs new : List X) (x d : X) (count : ℕ) → length xs ≡ count → new ≡ xs ++ x ∷ [] → ((k : ℕ) → k < count → P k (get_or xs k d)) → P count x →
    (length new ≡ count + 1) × ((k : ℕ) → k < count + 1 → P k (get_or new k d))
pushed P xs new x d count size grown each here = (
  ap length grown ∙ length-append xs (x ∷ []) ∙ ap (λ (n : ℕ). n + 1) size,
  below_more _ count
      (λ k less. (let inside : k < length xs = omega arith in let R = P k in subst R (sym (ap (λ (l : List _). get_or l k d) grown ∙ get_or-append xs (x ∷ []) d k inside)) (each k less)))
      (let R = P count in subst R (sym (ap (λ (l : List _). get_or l count d) grown ∙ sym (ap (λ (k : ℕ). get_or (xs ++ x ∷ []) k d) size) ∙ get_or-append_seam xs x [] d)) here),
)

pub op_pushed : (n : Netlist) (ports : Ports) (ops new : List Op) (o : Op) (net : ℕ) → length ops ≡ net → new ≡ ops ++ o ∷ [] → ((k : ℕ) → k < net → IsOpOf n ports k (op_at ops k)) → IsOpOf n ports net o →
    record { count : length new ≡ net + 1; each : (k : ℕ) → k < net + 1 → IsOpOf n ports k (op_at new k) }
op_pushed n ports ops new o net size grown each here = (let both = pushed (IsOpOf n ports) ops new o Free net size grown each here in record { count = both.0; each = both.1 })

pub flop_pushed : (n : Netlist) (ports : Ports) (flops new : List FlipFlop) (f : FlipFlop) (count : ℕ) → new ≡ flops ++ f ∷ [] → AreFlops n ports count flops → IsFlopOf n ports count f → AreFlops n ports (count + 1) new
flop_pushed n ports flops new f count grown before here = (let both = pushed (IsFlopOf n ports) flops new f (record { domain = record { 0 = 0 }; falling = false; input = Net (record { 0 = 0 }); scan = None; force = None }) count before.size grown before.each here in
    record { size = both.0; each = both.1 })

pub latch_pushed : (n : Netlist) (ports : Ports) (latches new : List (Option Latch)) (x : Option Latch) (count : ℕ) → new ≡ latches ++ x ∷ [] → AreLatches n ports count latches → IsLatchOf n ports count x → AreLatches n ports (count + 1) new
latch_pushed n ports latches new x count grown before here = (let both = pushed (IsLatchOf n ports) latches new x None count before.size grown before.each here in record { size = both.0; each = both.1 })

where_flop : (clocked : Bool) (a b : Option Cell) → (clocked ≡ true → a ≡ b) → (if clocked then a else None) ≡ (if clocked then b else None)
where_flop true a b same = same refl
where_flop false a b same = refl

-- the cell of an instance, from its pins
pub flop_is : (n : Netlist) (ports : Ports) (i : ℕ) (k : Kind) (ws : List Wired) (f : FlipFlop) → cell_of f ≡ cell_or_none i (stored_in n ports i k ws) → IsNetlist n → IsWellFormed n.library → k ≡ kind_at n i → ws ≡ map (wired_by i) (pins_of n i) → IsFlopOf n ports i f
flop_is n ports i k ws f is sound well ke we =
    let C : Option Cell → Cell = cell_or_none i in
    is ∙ (λ t. C (stored_in n ports i (ke t) (we t)))
    ∙ (λ t. C (option_or (where_flop (is_flip_flop (kind_at n i)) _ _ (λ clocked. modelled_same n ports i (pins_of n i) (has_one_force n i sound well clocked)) t)
    (if is_lockup (kind_at n i) then lockup_in_same n ports i (pins_of n i) t else None)))

pub latch_is_kept : (n : Netlist) (ports : Ports) (i : ℕ) (k : Kind) (ws : List Wired) (x : Option Latch) → latch_of x ≡ latch_kept k (latch_in n ports i ws) → k ≡ kind_at n i → ws ≡ map (wired_by i) (pins_of n i) → IsLatchOf n ports i x
latch_is_kept n ports i k ws x is ke we = is ∙ (λ t. latch_kept (ke t) (latch_in n ports i (we t)))

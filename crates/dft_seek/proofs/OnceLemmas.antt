-- No scanned cell and no port is a variable twice.
use Rattle.std.proofs.Common.{ℕ, zero, suc, ◌≡◌, ◌≤◌, inl, inr, Bool, true, false, List, [], ◌∷◌, ◌++◌, length, map, slice_get, Some, refl, sym, subst, ap, arith}
use Rattle.std.specs.Prelude.{if◌then◌else◌, filter}
use Rattle.std.specs.List.{AllByRecursion}
use Rattle.dft_netlist.specs.declared.ids.NetId.{NetId}
use Rattle.dft_netlist.specs.declared.ids.InstanceId.{InstanceId}
use Rattle.dft_base.specs.declared.dir.Dir.{Dir}
use Rattle.dft_base.specs.declared.dir.Dir.TheVariants as dir
use Rattle.dft_netlist.specs.declared.port.Port.{Port}
use Rattle.dft_netlist.specs.NetNumbers.{nets_from}
use Rattle.dft_netlist.specs.Orders.{AreOnce, Has, numbers_of}
use Rattle.dft_netlist.specs.Sound.{IsNetlist, bits_of}
use Rattle.dft_seek.specs.Searches.{Search, bits_in, drivable_ports, input_bits, is_drivable}

-- ---- parts of lists

has_filter : {X : Type 0} (number : X → ℕ) (test : X → Bool) (xs : List X) (k : ℕ) → Has (map number (filter test xs)) k → Has (map number xs) k
has_filter number test [] k has = has
has_filter {X} number test (x ∷ xs) k has = by (has_filter number test xs k) (test x) has
  where
    by : (Has (map number (filter test xs)) k → Has (map number xs) k) → (b : Bool) → Has (map number (if b then x ∷ filter test xs else filter test xs)) k → Has (map number (x ∷ xs)) k
    by rest false h = inr (rest h)
    by rest true (inl e) = inl e
    by rest true (inr h) = inr (rest h)

pub once_filter : {X : Type 0} (number : X → ℕ) (test : X → Bool) (xs : List X) → AreOnce (map number xs) → AreOnce (map number (filter test xs))
once_filter number test [] once = tt
once_filter {X} number test (x ∷ xs) once = by (once_filter number test xs once.1) (test x)
  where
    by : AreOnce (map number (filter test xs)) → (b : Bool) → AreOnce (map number (if b then x ∷ filter test xs else filter test xs))
    by rest false = rest
    by rest true = ((λ h. once.0 (has_filter number test xs (number x) h)), rest)

pub all_filter : {X : Type 0} (P : X → Type 0) (test : X → Bool) (xs : List X) → AllByRecursion P xs → AllByRecursion P (filter test xs)
all_filter P test [] all = tt
all_filter {X} P test (x ∷ xs) all = by (all_filter P test xs all.1) (test x)
  where
    by : AllByRecursion P (filter test xs) → (b : Bool) → AllByRecursion P (if b then x ∷ filter test xs else filter test xs)
    by rest false = rest
    by rest true = (all.0, rest)

-- ---- cells

place_of : (cells : List InstanceId) (k : ℕ) → Has (map (λ cell. cell.0) cells) k → (place : ℕ) × (slice_get cells place ≡ Some (record { 0 = k }))
place_of [] k has = absurd has
place_of (x ∷ cells) k (inl e) = (0, ap (λ (j : ℕ). Some (record { 0 = j })) (sym e))
place_of (x ∷ cells) k (inr h) = let p = place_of cells k h in (suc p.0, p.1)

pub once_cells : (cells : List InstanceId) → ((a b : ℕ) (x : InstanceId) → slice_get cells a ≡ Some x → slice_get cells b ≡ Some x → a ≡ b) → AreOnce (map (λ cell. cell.0) cells)
once_cells [] one = tt
once_cells (x ∷ cells) one = (
  (λ h. (let p = place_of cells x.0 h in let e : 0 ≡ suc p.0 = one 0 (suc p.0) x refl p.1 in let f : ⊥ = omega arith in f)),
  once_cells cells (λ a b y p q. (let e = one (suc a) (suc b) y p q in omega (arith, e))),
)

-- ---- ports

-- numbers that rise
abbrev AreRising : (low : ℕ) → List ℕ → Type 0
AreRising low [] = Unit {0}
AreRising low (x ∷ xs) = (low ≤ x) × AreRising (suc x) xs

lower : (low below : ℕ) (xs : List ℕ) → below ≤ low → AreRising low xs → AreRising below xs
lower low below [] less is = tt
lower low below (x ∷ xs) less is = ((let l = is.0 in omega (arith, l, less)), is.1)

above : (low : ℕ) (xs : List ℕ) (k : ℕ) → AreRising low xs → Has xs k → low ≤ k
above low [] k is has = absurd has
above low (x ∷ xs) k is (inl e) = let l = is.0 in omega (arith, l, e)
above low (x ∷ xs) k is (inr h) = let l = is.0 in let m = above (suc x) xs k is.1 h in omega (arith, l, m)

rising_once : (low : ℕ) (xs : List ℕ) → AreRising low xs → AreOnce xs
rising_once low [] is = tt
rising_once low (x ∷ xs) is = ((λ h. (let m = above (suc x) xs x is.1 h in let f : ⊥ = omega (arith, m) in f)), rising_once (suc x) xs is.1)

-- a part behind others, and another one in its place
back : (low : ℕ) (bits : List NetId) (ys : List ℕ) → AreRising low (numbers_of bits ++ ys) → AreRising low ys
back low [] ys is = is
back low (x ∷ bits) ys is = lower (suc x.0) low ys (let l = is.0 in omega (arith, l)) (back (suc x.0) bits ys is.1)

swap : (low : ℕ) (bits : List NetId) (ys zs : List ℕ) → ((l : ℕ) → AreRising l ys → AreRising l zs) → AreRising low (numbers_of bits ++ ys) → AreRising low (numbers_of bits ++ zs)
swap low [] ys zs onward is = onward low is
swap low (x ∷ bits) ys zs onward is = (is.0, swap (suc x.0) bits ys zs onward is.1)

numbers_append : (a b : List NetId) → numbers_of (a ++ b) ≡ numbers_of a ++ numbers_of b
numbers_append [] b = refl
numbers_append (x ∷ a) b = ap (λ (l : List ℕ). x.0 ∷ l) (numbers_append a b)

inputs_rise : (low : ℕ) (ports : List Port) → AreRising low (numbers_of (bits_of ports)) → AreRising low (numbers_of (input_bits ports))
inputs_rise low [] is = is
inputs_rise low (p ∷ ports) is = by (λ l. inputs_rise l ports) p.dir
  where
    split : AreRising low (numbers_of p.bits ++ numbers_of (bits_of ports))
    split = subst (AreRising low) (numbers_append p.bits (bits_of ports)) is

    by : ((l : ℕ) → AreRising l (numbers_of (bits_of ports)) → AreRising l (numbers_of (input_bits ports))) → (d : Dir) → AreRising low (numbers_of (bits_in d p.bits ++ input_bits ports))
    by onward dir.Input = subst (AreRising low) (sym (numbers_append p.bits (input_bits ports))) (swap low p.bits (numbers_of (bits_of ports)) (numbers_of (input_bits ports)) onward split)
    by onward dir.Output = onward low (back low p.bits (numbers_of (bits_of ports)) split)

up : (from count : ℕ) → AreRising from (numbers_of (nets_from from count))
up from zero = tt
up from (suc count) = (omega arith, up (suc from) count)

pub once_ports : (s : Search) → IsNetlist s.design → AreOnce (numbers_of (drivable_ports s))
once_ports s is =
    let bits : List NetId = bits_of s.design.ports in
    once_filter (λ (net : NetId). net.0) (λ net. is_drivable s net.0) (input_bits s.design.ports)
    (rising_once 0 (numbers_of (input_bits s.design.ports)) (inputs_rise 0 s.design.ports (subst (λ (l : List NetId). AreRising 0 (numbers_of l)) (sym is.numbered) (up 0 (length bits)))))

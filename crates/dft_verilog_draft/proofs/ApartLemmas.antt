-- Names that differ, and names that are free.
use Rattle.std.proofs.Common.{◌≡◌, ◌≢◌, ℕ, zero, suc, ◌+◌, ◌-◌, ◌<◌, ◌≤◌, ◌^◌, Bool, true, false, cond, leb, nat_le, List, [], ◌∷◌, ◌++◌, length, map, find, is_some, Option, Some, None, option_map, refl, ap, arith, length-append, decimal}
use Rattle.std.specs.Str.{bytes_eq}
use Rattle.std.proofs.lemmas.Bool.Decides.{nat_tests}
use Rattle.dft_base.specs.declared.place.Range.{Range}
use Rattle.dft_base.proofs.OptionLemmas.{none_of, none_by as find_free}
use Rattle.dft_base.proofs.TextLemmas.{differ}
use Rattle.dft_netlist.specs.Names.{bit_name, bit_names, going_up, going_down}
use Rattle.dft_netlist.proofs.PortNames.{bit_name_injective}
use Rattle.dft_netlist_text.specs.declared.text.Meaning.{Meaning}
use Rattle.dft_netlist_text.specs.Modules.{Draft, TakenName, first_taken, names_of_bits}
use Rattle.dft_verilog_draft.specs.Free.{AreFree, AreFreeBits, taken_bit, IsApart, AreApart, AreBitsApart}
use Rattle.dft_verilog_draft.specs.TakenNames.{meaning_in}

-- ---- the names of bits differ

bits_differ : (word : List ℕ) (i j : ℕ) → i < 2 ^ 64 → j < 2 ^ 64 → i ≢ j → bytes_eq (bit_name word i) (bit_name word j) ≡ false
bits_differ word i j hi hj ne = differ _ _ (λ e. ne (bit_name_injective word i j hi hj e))

bit_differs : (word : List ℕ) (i : ℕ) → bytes_eq word (bit_name word i) ≡ false
bit_differs word i = differ word (bit_name word i) (λ (e : word ≡ bit_name word i). omega (arith, ap length e, length-append (word ++ (91 ∷ decimal i)) (93 ∷ []), length-append word (91 ∷ decimal i)))

own_apart : (word : List ℕ) (is : List ℕ) → IsApart word (map (bit_name word) is)
own_apart word [] = tt
own_apart word (i ∷ is) = (bit_differs word i, own_apart word is)

up_apart : (word : List ℕ) (i from n : ℕ) → i < from → from + n ≤ 2 ^ 64 → IsApart (bit_name word i) (map (bit_name word) (going_up from n))
up_apart word i from zero lt le = tt
up_apart word i from (suc n) lt le = (bits_differ word i from (omega arith) (omega arith) (λ e. omega arith), up_apart word i (suc from) n (omega arith) (omega arith))

up_all : (word : List ℕ) (from n : ℕ) → from + n ≤ 2 ^ 64 → AreApart (map (bit_name word) (going_up from n))
up_all word from zero le = tt
up_all word from (suc n) le = (up_apart word from (suc from) n (omega arith) (omega arith), up_all word (suc from) n (omega arith))

down_apart : (word : List ℕ) (i from n : ℕ) → from < i → i < 2 ^ 64 → n ≤ from + 1 → IsApart (bit_name word i) (map (bit_name word) (going_down from n))
down_apart word i from zero lt small le = tt
down_apart word i from (suc n) lt small le = (bits_differ word i from (omega arith) (omega arith) (λ e. omega arith), down_apart word i (from - 1) n (omega arith) small (omega arith))

down_all : (word : List ℕ) (from n : ℕ) → from < 2 ^ 64 → n ≤ from + 1 → AreApart (map (bit_name word) (going_down from n))
down_all word from zero small le = tt
down_all word from (suc zero) small le = (tt, tt)
down_all word from (suc (suc n)) small le = (down_apart word from (from - 1) (suc n) (omega arith) small (omega arith), down_all word (from - 1) (suc n) (omega arith) (omega arith))

all_by : (rises : Bool) (word : List ℕ) (a b : ℕ) → leb a b ≡ rises → a < 2 ^ 16 → b < 2 ^ 16
    → AreApart (map (bit_name word) (cond rises (going_up a (suc (b - a))) (going_down a (suc (a - b)))))
all_by true word a b h small less = up_all word a (suc (b - a)) (grind (arith, nat_tests))
all_by false word a b h small less = down_all word a (suc (a - b)) (omega arith) (omega arith)

pub bit_names-apart : (word : List ℕ) (r : Range) → r.left < 2 ^ 16 → r.right < 2 ^ 16 → AreBitsApart word (Some r) (bit_names word (Some r))
bit_names-apart word r left right = (own_apart word _, all_by (nat_le r.left r.right) word r.left r.right refl left right)

-- ---- names that are free

pub find_by : (b : Bool) (w : List ℕ) (rest : Option (List ℕ)) → cond b (Some w) rest ≡ None → (b ≡ false) × (rest ≡ None)
find_by true w rest h = absurd (cc)
find_by false w rest h = (refl, h)

abbrev shown : Option TakenName → Option Meaning
shown o = option_map (λ (e : TakenName). e.meaning) o

push_by : (b : Bool) (x : TakenName) (old new : Option TakenName) → (shown old ≡ None → shown new ≡ None) → shown (cond b (Some x) old) ≡ None → shown (cond b (Some x) new) ≡ None
push_by true x old new f h = h
push_by false x old new f h = f h

none_by : (b : Bool) (e : TakenName) → b ≡ false → shown (cond b (Some e) None) ≡ None
none_by true e h = absurd (cc)
none_by false e h = refl

pub meaning_in-push : (names : List TakenName) (e : TakenName) (w : List ℕ) → meaning_in names w ≡ None → bytes_eq e.name w ≡ false → meaning_in (names ++ e ∷ []) w ≡ None
meaning_in-push [] e w free ne = none_by (bytes_eq e.name w) e ne
meaning_in-push (x ∷ xs) e w free ne = push_by (bytes_eq x.name w) x _ _ (λ h. meaning_in-push xs e w h ne) free

abbrev taken_in : List TakenName → List ℕ → Bool
taken_in names w = is_some (meaning_in names w)

find_push : (names : List TakenName) (e : TakenName) (ws : List (List ℕ)) → find (λ w. taken_in names w) ws ≡ None → IsApart e.name ws → find (λ w. taken_in (names ++ e ∷ []) w) ws ≡ None
find_push names e [] none apart = refl
find_push names e (w ∷ ws) none apart =
    let h : (taken_in names w ≡ false) × (find (λ w. taken_in names w) ws ≡ None) = find_by (taken_in names w) w _ none in
    find_free (taken_in (names ++ e ∷ []) w) w _ (ap is_some (meaning_in-push names e w (none_of (meaning_in names w) h.0) apart.0)) (find_push names e ws h.1 apart.1)

AreFree-from : (names : List TakenName) (ws : List (List ℕ)) → find (λ w. taken_in names w) ws ≡ None → AreApart ws → AreFree names ws
AreFree-from names [] none apart = tt
AreFree-from names (w ∷ ws) none apart =
    let h : (taken_in names w ≡ false) × (find (λ w. taken_in names w) ws ≡ None) = find_by (taken_in names w) w _ none in
    (none_of (meaning_in names w) h.0, AreFree-from (names ++ taken_bit w ∷ []) ws (find_push names (taken_bit w) ws h.1 apart.0) apart.1)

-- the bits are free in the draft
pub AreFreeBits-plain : (word : List ℕ) (range : Option Range) (d : Draft) → first_taken d (names_of_bits word range) ≡ None → AreBitsApart word range (bit_names word range) → AreFreeBits range d.names (bit_names word range)
AreFreeBits-plain word None d none apart = tt
AreFreeBits-plain word (Some r) d none apart = AreFree-from d.names _ none apart.1

-- and also when the name itself is taken
pub AreFreeBits-named : (word : List ℕ) (range : Option Range) (d : Draft) (m : Meaning) → first_taken d (names_of_bits word range) ≡ None → AreBitsApart word range (bit_names word range) → AreFreeBits range (d.names ++ record { name = word; meaning = m } ∷ []) (bit_names word range)
AreFreeBits-named word None d m none apart = tt
AreFreeBits-named word (Some r) d m none apart = AreFree-from _ _ (find_push d.names (record { name = word; meaning = m }) _ none apart.0) apart.1

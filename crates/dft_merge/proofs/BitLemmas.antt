-- Bits that are given by lists, and by tables.
use Rattle.std.proofs.Common.{ℕ, Bool, true, false, cond, List, [], ◌∷◌, ◌++◌, ◌≡◌, ◌<◌, ◌≤◌, ◌+◌, ◌||◌, ◌==◌, length, get_or, take, drop, refl, sym, ap, subst, arith, ◌∙◌, Option, Some, None, is_none, Vec}
use Rattle.std.specs.Vec.{with_items}
use Rattle.std.specs.declared.alloc.Global.{Global}
use Rattle.std.proofs.lemmas.Bool.{eqb-true, or_parts}
use Rattle.std.proofs.lemmas.Option.{same_Some}
use Rattle.std.proofs.lemmas.List.{drop_all, drop_more, with_items_is}
use Rattle.std.proofs.lemmas.List.Elements.{All-more, All-weaker, filter_agree}
use Rattle.std.specs.List.{AllByRecursion}
use Rattle.dft_base.specs.Solutions.{xor}
use Rattle.dft_base.proofs.BitLemmas.{xor_same}
use Rattle.dft_merge.specs.Rows.{or_else}
use Rattle.dft_merge.specs.Placement.{bit_in, has_opposite, is_opposite, missing}
use Rattle.dft_merge.specs.Tables.{AreBelow, IsNoted, IsTable, SameBits, bit_of, missing_by, opposes_by}

-- ---- what holds of a list's bits

-- what is said of numbers and bits holds of one that a list gives
abbrev pub Has : {T : Type 0} → (T → ℕ) → (ℕ → Bool → Type 0) → T × Bool → Type 0
Has number P given = P (number given.0) given.1

held_case : {T : Type 0} (number : T → ℕ) (P : ℕ → Bool → Type 0) (g : T × Bool) (o : Option Bool) (k : ℕ) (b : Bool) (t : Bool) → (number g.0 == k) ≡ t → P (number g.0) g.1 → (o ≡ Some b → P k b) → cond t (Some g.1) o ≡ Some b → P k b
held_case number P g o k b true same here later is =
    let at : number g.0 ≡ k = eqb-true (number g.0) k same in
    let bit : g.1 ≡ b = same_Some g.1 b is in
    subst (λ (m : ℕ). P m b) at (subst (P (number g.0)) bit here)
held_case number P g o k b false other here later is = later is

pub bit_held : {T : Type 0} (number : T → ℕ) (P : ℕ → Bool → Type 0) (given : List (T × Bool)) (k : ℕ) (b : Bool) → AllByRecursion (Has number P) given → bit_in number given k ≡ Some b → P k b
bit_held number P [] k b each is = absurd cc
bit_held number P (g ∷ more) k b each is = held_case number P g (bit_in number more k) k b (number g.0 == k) refl each.0 (bit_held number P more k b each.1) is

covered_case : {T : Type 0} (number : T → ℕ) (P : ℕ → Bool → Type 0) (pattern : List (T × Bool)) (g : T × Bool) (more : List (T × Bool)) (new : List (T × Bool)) (o : Option Bool) → bit_in number pattern (number g.0) ≡ o →
    (is_opposite o g.1 || has_opposite number pattern more) ≡ false → AllByRecursion (Has number P) pattern → AllByRecursion (Has number P) (cond (is_none o) (g ∷ new) new) →
    (has_opposite number pattern more ≡ false → AllByRecursion (Has number P) new → AllByRecursion (Has number P) more) → P (number g.0) g.1 × AllByRecursion (Has number P) more
covered_case number P pattern g more new None is none held each rest = (each.0, rest none each.1)
covered_case number P pattern g more new (Some a) is none held each rest =
    let parts = or_parts (xor a g.1) (has_opposite number pattern more) none in
    (subst (P (number g.0)) (xor_same a g.1 parts.0) (bit_held number P pattern (number g.0) a held is), rest parts.1 each)

-- what holds of a pattern's bits, and of those that a cube without opposite bits adds, holds of the cube's bits
pub covered : {T : Type 0} (number : T → ℕ) (P : ℕ → Bool → Type 0) (pattern cube : List (T × Bool)) → has_opposite number pattern cube ≡ false → AllByRecursion (Has number P) pattern → AllByRecursion (Has number P) (missing number pattern cube) → AllByRecursion (Has number P) cube
covered number P pattern [] none held each = tt
covered number P pattern (g ∷ more) none held each =
    covered_case number P pattern g more (missing number pattern more) (bit_in number pattern (number g.0)) refl none held each (λ other new. covered number P pattern more other held new)

kept_case : {T : Type 0} (Q : T × Bool → Type 0) (g : T × Bool) (new : List (T × Bool)) (t : Bool) → Q g → AllByRecursion Q new → AllByRecursion Q (cond t (g ∷ new) new)
kept_case Q g new true here each = (here, each)
kept_case Q g new false here each = each

pub each_missing : {T : Type 0} (number : T → ℕ) (Q : T × Bool → Type 0) (pattern cube : List (T × Bool)) → AllByRecursion Q cube → AllByRecursion Q (missing number pattern cube)
each_missing number Q pattern [] each = tt
each_missing number Q pattern (g ∷ more) each = kept_case Q g (missing number pattern more) (is_none (bit_in number pattern (number g.0))) each.0 (each_missing number Q pattern more each.1)

-- ---- the bits of two lists

append_case : (t : Bool) (b : Bool) (o p : Option Bool) → cond t (Some b) (or_else o p) ≡ or_else (cond t (Some b) o) p
append_case true b o p = refl
append_case false b o p = refl

pub bit_in-append : {T : Type 0} (number : T → ℕ) (xs ys : List (T × Bool)) (k : ℕ) → bit_in number (xs ++ ys) k ≡ or_else (bit_in number xs k) (bit_in number ys k)
bit_in-append number [] ys k = refl
bit_in-append number (x ∷ xs) ys k =
    ap (λ (o : Option Bool). cond (number x.0 == k) (Some x.1) o) (bit_in-append number xs ys k) ∙ append_case (number x.0 == k) x.1 (bit_in number xs k) (bit_in number ys k)

missing_here : {T : Type 0} (number : T → ℕ) (g : T × Bool) (new : List (T × Bool)) (k : ℕ) (o p : Option Bool) → (number g.0 == k) ≡ true → o ≡ None → bit_in number (cond (is_none o) (g ∷ new) new) k ≡ cond (number g.0 == k) (Some g.1) p
missing_here number g new k o p same none = rw (none, same) refl

missing_other : {T : Type 0} (number : T → ℕ) (g : T × Bool) (new : List (T × Bool)) (k : ℕ) (t : Bool) (p : Option Bool) → (number g.0 == k) ≡ false → bit_in number new k ≡ p → bit_in number (cond t (g ∷ new) new) k ≡ cond (number g.0 == k) (Some g.1) p
missing_other number g new k true p other same = rw other same
missing_other number g new k false p other same = rw other same

missing_case : {T : Type 0} (number : T → ℕ) (xs : List (T × Bool)) (g : T × Bool) (new : List (T × Bool)) (k : ℕ) (p : Option Bool) (t : Bool) → (number g.0 == k) ≡ t → bit_in number xs k ≡ None → bit_in number new k ≡ p →
    bit_in number (cond (is_none (bit_in number xs (number g.0))) (g ∷ new) new) k ≡ cond (number g.0 == k) (Some g.1) p
missing_case number xs g new k p true same none rest = missing_here number g new k (bit_in number xs (number g.0)) p same (ap (bit_in number xs) (eqb-true (number g.0) k same) ∙ none)
missing_case number xs g new k p false other none rest = missing_other number g new k (is_none (bit_in number xs (number g.0))) p other rest

missing_bit : {T : Type 0} (number : T → ℕ) (xs ys : List (T × Bool)) (k : ℕ) → bit_in number xs k ≡ None → bit_in number (missing number xs ys) k ≡ bit_in number ys k
missing_bit number xs [] k none = refl
missing_bit number xs (g ∷ ys) k none = missing_case number xs g (missing number xs ys) k (bit_in number ys k) (number g.0 == k) refl none (missing_bit number xs ys k none)

-- ---- tables

noted_case : {T : Type 0} (number : T → ℕ) (xs ys : List (T × Bool)) (k : ℕ) (o : Option Bool) → bit_in number xs k ≡ o → or_else o (bit_in number ys k) ≡ or_else o (bit_in number (missing number xs ys) k)
noted_case number xs ys k None is = sym (missing_bit number xs ys k is)
noted_case number xs ys k (Some a) is = refl

pub table_joined : {T : Type 0} (number : T → ℕ) (xs ys : List (T × Bool)) (old new : List (Option Bool)) → IsTable number xs old → IsNoted number old ys new → IsTable number (xs ++ missing number xs ys) new
table_joined number xs ys old new table noted k =
    noted k ∙ ap (λ (o : Option Bool). or_else o (bit_in number ys k)) (table k) ∙ noted_case number xs ys k (bit_in number xs k) refl ∙ sym (bit_in-append number xs (missing number xs ys) k)

pub missing_same : {T : Type 0} (number : T → ℕ) (xs ys : List (T × Bool)) (table : List (Option Bool)) → IsTable number xs table → missing_by number table ys ≡ missing number xs ys
missing_same number xs ys table is = filter_agree (λ g. is_none (bit_of table (number g.0))) (λ g. is_none (bit_in number xs (number g.0))) (λ g. ap is_none (is (number g.0))) ys

pub opposes_same : {T : Type 0} (number : T → ℕ) (xs ys : List (T × Bool)) (table : List (Option Bool)) → IsTable number xs table → opposes_by number table ys ≡ has_opposite number xs ys
opposes_same number xs [] table is = refl
opposes_same number xs (g ∷ ys) table is = λ i. is_opposite (is (number g.0) i) g.1 || opposes_same number xs ys table is i

-- ---- loops over lists of bits

-- the list is below a number that is as great as before, and above one number more
pub below_more : {T : Type 0} (number : T → ℕ) (end more : ℕ) (xs : List (T × Bool)) (i : ℕ) (x : T × Bool) → i < length xs → x ≡ get_or xs i x → AreBelow number end (take i xs) → end ≤ more → number x.0 < more → AreBelow number more (take (i + 1) xs)
below_more number end more xs i x less is below far above =
    All-more (λ g. number g.0 < more) xs i x less (All-weaker (λ g. number g.0 < end) (λ g. number g.0 < more) (λ g under. omega arith) (take i xs) below) (subst (λ g. number g.0 < more) is above)

noted_step : (o : Option Bool) (t : Bool) (b : Bool) (rest : Option Bool) → or_else (or_else o (cond t (Some b) None)) rest ≡ or_else o (cond t (Some b) rest)
noted_step None true b rest = refl
noted_step None false b rest = refl
noted_step (Some a) t b rest = refl

-- with the bits that are left to note, a table has what all of them give it
pub record IsNoting {T : Type 0} (number : T → ℕ) (old : List (Option Bool)) (given : List (T × Bool)) (now : List (Option Bool)) (i : ℕ) : Type 0 where
  pub size : length now ≡ length old
  pub bits : (k : ℕ) → or_else (bit_of now k) (bit_in number (drop i given) k) ≡ or_else (bit_of old k) (bit_in number given k)

pub noting_more : {T : Type 0} (number : T → ℕ) (old : List (Option Bool)) (given : List (T × Bool)) (now next : List (Option Bool)) (i : ℕ) (x : T × Bool) → i < length given → x ≡ get_or given i x → IsNoting number old given now i →
    length next ≡ length now → ((k : ℕ) → bit_of next k ≡ or_else (bit_of now k) (cond (number x.0 == k) (Some x.1) None)) → IsNoting number old given next (i + 1)
noting_more number old given now next i x less is noting size noted = record {
  size = size ∙ noting.size;
  bits = λ k.
      ap (λ (o : Option Bool). or_else o (bit_in number (drop (i + 1) given) k)) (noted k)
      ∙ noted_step (bit_of now k) (number x.0 == k) x.1 (bit_in number (drop (i + 1) given) k)
      ∙ ap (λ xs. or_else (bit_of now k) (bit_in number xs k)) (sym (drop_more given i x less ∙ ap (λ y. y ∷ drop (i + 1) given) (sym is)))
      ∙ noting.bits k;
}

or_else-none : (o : Option Bool) → or_else o None ≡ o
or_else-none None = refl
or_else-none (Some b) = refl

pub noting_all : {T : Type 0} (number : T → ℕ) (old : List (Option Bool)) (given : List (T × Bool)) (now : List (Option Bool)) (i : ℕ) → length given ≤ i → IsNoting number old given now i → IsNoted number old given now
noting_all number old given now i past noting k =
    sym (or_else-none (bit_of now k)) ∙ ap (λ xs. or_else (bit_of now k) (bit_in number xs k)) (sym (drop_all i given past)) ∙ noting.bits k

-- ---- the table of a pattern with a cube

-- the items of a vector that was lent and filled anew
pub filled : {X : Type 0} (v : Vec X Global) (ws rs : List X) → length ws ≡ length rs → rs ≡ v.items → (with_items v ws).items ≡ ws
filled v ws rs size from = with_items_is v ws (size ∙ ap length from ∙ sym v.ok.0)

-- a table that grew, and in which a cube's bits were noted, is that of the pattern with what the cube adds
pub given_table : {T : Type 0} (number : T → ℕ) (pattern cube now lent : List (T × Bool)) (old : List (Option Bool)) (grown : Vec (Option Bool) Global) (rest new : List (Option Bool)) → IsTable number pattern old → SameBits old grown.items →
    now ≡ pattern ++ missing_by number grown.items cube → lent ≡ cube → rest ≡ grown.items → length new ≡ length rest → IsNoted number rest lent new → IsTable number now (with_items grown new).items
given_table number pattern cube now lent old grown rest new table same added is from size noted =
    let wide : IsTable number pattern grown.items = λ k. same k ∙ table k in
    let here : IsNoted number grown.items cube new = subst (λ t. IsNoted number t cube new) from (subst (λ xs. IsNoted number rest xs new) is noted) in
    let joined : IsTable number (pattern ++ missing number pattern cube) new = table_joined number pattern cube grown.items new wide here in
    let split : now ≡ pattern ++ missing number pattern cube = added ∙ ap (λ xs. pattern ++ xs) (missing_same number pattern cube grown.items wide) in
    subst (λ xs. IsTable number xs (with_items grown new).items) (sym split) (subst (IsTable number (pattern ++ missing number pattern cube)) (sym (filled grown new rest size from)) joined)

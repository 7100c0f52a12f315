-- The least number of `_` with which a name is free.
use Rattle.std.proofs.Common.{◌≡◌, ℕ, ◌+◌, ◌-◌, ◌<◌, ◌≤◌, Bool, true, false, ◌∷◌, [], ◌++◌, find, Option, sym, ◌∙◌, ap, append_assoc, append-nil, arith}
use Rattle.std.specs.Prelude.{replicate, unwrap_or}
use Rattle.std.specs.List.{range_with_len}
use Rattle.std.proofs.lemmas.List.{length-append, replicate-append-replicate}
use Rattle.std.proofs.lemmas.List.Elements.{All-append, All-from_recursion}
use Rattle.dft_base.specs.Lexing.{Text}
use Rattle.dft_base.specs.Name.{IsName}
use Rattle.dft_netlist.specs.Netlist.{Netlist}
use Rattle.dft_rules.proofs.FindLemmas.{range_here, range_on, range_over}
use Rattle.dft_configuring.specs.Names.{are_free, barred, free_name, most_bars}

pub found_here : (p : ℕ → Bool) (k n d : ℕ) → k < n → p k ≡ true → find p (range_with_len k (n - k)) ≡ find p (range_with_len 0 n) → k ≡ unwrap_or (find p (range_with_len 0 n)) d
found_here p k n d less is rest = ap (λ (o : Option ℕ). unwrap_or o d) (sym (range_here p k n less is) ∙ rest)

pub found_over : (p : ℕ → Bool) (k n d : ℕ) → n ≤ k → find p (range_with_len k (n - k)) ≡ find p (range_with_len 0 n) → d ≡ unwrap_or (find p (range_with_len 0 n)) d
found_over p k n d past rest = ap (λ (o : Option ℕ). unwrap_or o d) (sym (range_over p k n past) ∙ rest)

pub bars_none : (name : Text) → barred name 0 ≡ name
bars_none name = append-nil name

pub bars_more : (name : Text) (bars : ℕ) → barred name bars ++ 95 ∷ [] ≡ barred name (bars + 1)
bars_more name bars = append_assoc name (replicate bars 95) (95 ∷ []) ∙ ap (λ (l : Text). name ++ l) (replicate-append-replicate bars 1 95)

pub name_more : (name : Text) → IsName name → IsName (name ++ 95 ∷ [])
name_more name named =
    let count = length-append name (95 ∷ []) in
    record {
      some = omega (arith, count);
      each = All-append (λ (b : ℕ). (33 ≤ b) × (b ≤ 126)) name (95 ∷ []) named.each (All-from_recursion (λ (b : ℕ). (33 ≤ b) × (b ≤ 126)) (95 ∷ []) ((omega arith, omega arith), tt));
    }

-- ---- the search

-- the name with so many `_` is free
abbrev pub is_free_with : Netlist → (count : Option ℕ) → (name : Text) → (bars : ℕ) → Bool
is_free_with n count name bars = are_free n count (barred name bars)

-- the numbers from here on give what all of them give
abbrev pub LeadsFrom : Netlist → (count : Option ℕ) → (name : Text) → (bars : ℕ) → Type 0
LeadsFrom n count name bars =
    find (is_free_with n count name) (range_with_len bars (most_bars n - bars)) ≡ find (is_free_with n count name) (range_with_len 0 (most_bars n))

pub free_start : (n : Netlist) (count : Option ℕ) (name : Text) → LeadsFrom n count name 0
free_start n count name =
    let all : most_bars n - 0 ≡ most_bars n = omega arith in
    ap (λ (m : ℕ). find (is_free_with n count name) (range_with_len 0 m)) all

pub free_found : (n : Netlist) (count : Option ℕ) (name : Text) (bars : ℕ) (bytes : Text) → bars < most_bars n → bytes ≡ barred name bars → are_free n count bytes ≡ true → LeadsFrom n count name bars → bytes ≡ free_name n count name
free_found n count name bars bytes less same free leads =
    same ∙ ap (barred name) (found_here (is_free_with n count name) bars (most_bars n) (most_bars n) less (ap (are_free n count) (sym same) ∙ free) leads)

pub free_on : (n : Netlist) (count : Option ℕ) (name : Text) (bars : ℕ) (bytes : Text) → bars < most_bars n → bytes ≡ barred name bars → are_free n count bytes ≡ false → LeadsFrom n count name bars → LeadsFrom n count name (bars + 1)
free_on n count name bars bytes less same taken leads = sym (range_on (is_free_with n count name) bars (most_bars n) less (ap (are_free n count) (sym same) ∙ taken)) ∙ leads

pub free_over : (n : Netlist) (count : Option ℕ) (name : Text) (bars : ℕ) (bytes : Text) → most_bars n ≤ bars → bars ≤ most_bars n → bytes ≡ barred name bars → LeadsFrom n count name bars → bytes ≡ free_name n count name
free_over n count name bars bytes past within same leads =
    let last : bars ≡ most_bars n = omega (arith, past, within) in
    same ∙ ap (barred name) (last ∙ found_over (is_free_with n count name) bars (most_bars n) (most_bars n) past leads)

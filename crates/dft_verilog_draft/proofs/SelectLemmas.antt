-- Nets with numbers one after the other.
use Rattle.std.proofs.Common.{◌≡◌, ℕ, zero, suc, ◌+◌, List, [], ◌∷◌, ◌++◌, refl, sym, ap, ◌∙◌, arith, add-zero, add-one, append_assoc, Bool, true, ◌&&◌, Option, None, ap₂}
use Rattle.dft_netlist.specs.declared.instance.Signal.{Signal}
use Rattle.dft_netlist.specs.declared.instance.Signal.TheVariants as signal
use Rattle.dft_netlist_text.specs.Expressions.{nets_of_shape, SelectedName, implies, is_whole, bits_of_name, bits_of_meaning, implied_net}
use Rattle.dft_netlist_text.specs.declared.text.Site.{Site}
use Rattle.dft_netlist_text.specs.declared.text.Meaning.{Meaning}
use Rattle.dft_netlist_text.specs.Modules.{Draft, meaning_of, declare_nets}

-- the signal of a net
abbrev pub net_signal : ℕ → Signal
net_signal net = signal.Net (record { 0 = net })

nets_next : (first n : ℕ) → nets_of_shape first (suc n) ≡ nets_of_shape first n ++ net_signal (first + n) ∷ []
nets_next first zero = rw add-zero refl
nets_next first (suc n) =
    let e : suc first + n ≡ first + suc n = omega arith in
    ap (λ t. net_signal first ∷ t) (nets_next (suc first) n) ∙ ap (λ m. (net_signal first ∷ nets_of_shape (suc first) n) ++ net_signal m ∷ []) e

-- one net more behind those before
pub nets_more : (before : List Signal) (first n : ℕ) → (before ++ nets_of_shape first n) ++ net_signal (first + n) ∷ [] ≡ before ++ nets_of_shape first (n + 1)
nets_more before first n =
    append_assoc before (nets_of_shape first n) (net_signal (first + n) ∷ [])
    ∙ ap (λ t. before ++ t) (sym (ap (nets_of_shape first) (add-one n) ∙ nets_next first n))

-- a name that was not declared is implied
pub name-implied : (at : Site) (depth : ℕ) (named : SelectedName) (d : Draft) → (implies at depth && is_whole named.what) ≡ true → meaning_of d named.word ≡ None → bits_of_name at depth named d ≡ implied_net named d (declare_nets named.place named.word None d)
name-implied at depth named d implied free = ap₂ (λ (b : Bool) (m : Option Meaning). bits_of_meaning b named d m) implied free

-- Runs of bytes of which names are made.
use Rattle.std.proofs.Common.{◌≡◌, ℕ, ◌+◌, ◌<◌, ◌≤◌, take, Bool, true, false, cond, length-take, sym, subst, arith}
use Rattle.std.specs.List.{All, prefix_len}
use Rattle.std.proofs.lemmas.List.{get_or-take}
use Rattle.std.proofs.lemmas.List.Sums.{prefix_len_passes}
use Rattle.dft_base.specs.Lexing.{Text}
use Rattle.dft_base.proofs.TextLemmas.{IsPrinted}

-- each byte of such a run passes
pub run_each : (p : ℕ → Bool) → ((b : ℕ) → p b ≡ true → IsPrinted b) → (text : Text) (n : ℕ) → n ≤ prefix_len p text → All (λ b. (33 ≤ b) × (b ≤ 126)) (take n text)
run_each p passes text n within = λ k d below.
    let inside : k < n = omega (arith, length-take n text) in
    subst (λ (b : ℕ). IsPrinted b) (sym (get_or-take n text k d inside)) (passes _ (prefix_len_passes p text k d (omega arith)))

-- where a run begins, it has a byte at least
pub runs_on : (t : Bool) (n : ℕ) → t ≡ true → 0 < cond t (1 + n) 0
runs_on true n e = omega arith
runs_on false n e = absurd (cc)

-- A text that is kept up to a limit, with bytes more.
use Rattle.std.proofs.Common.{ℕ, ◌+◌, ◌≡◌, ◌∙◌, Bool, leb, [], ◌++◌, length, sym, ap, subst, arith, append-nil, length-append}
use Rattle.std.specs.Prelude.{if◌then◌else◌}
use Rattle.std.proofs.lemmas.Bool.{le-leb}
use Rattle.dft_base.specs.Lexing.{Text}
use Rattle.dft_seeking.specs.declared.kept.Kept.{Kept}
use Rattle.dft_seeking.specs.Gathers.{IsKept}

-- bytes are added where the whole is no longer than the limit
pub kept_more : (limit : ℕ) (text more : Text) (old new : Kept) → IsKept limit text old → new.bytes ≡ old.bytes + length more → new.text.items ≡ (if leb new.bytes limit then old.text.items ++ more else old.text.items) → IsKept limit (text ++ more) new
kept_more limit text more old new kept count is =
    let before = kept.bytes in
    let all : length (text ++ more) ≡ length text + length more = length-append text more in
    let bytes : new.bytes ≡ length (text ++ more) = omega (arith, before, count, all) in
    record {
      bytes = bytes;
      is = λ short.
          is ∙ ap (λ (b : Bool). if b then old.text.items ++ more else old.text.items) (le-leb new.bytes limit (omega (arith, bytes, short)))
          ∙ ap (λ (t : Text). t ++ more) (kept.is (omega (arith, short, all)));
    }

pub kept_same : (limit : ℕ) (text : Text) (kept : Kept) → IsKept limit text kept → IsKept limit (text ++ []) kept
kept_same limit text kept is = subst (λ (t : Text). IsKept limit t kept) (sym (append-nil text)) is

-- Parts of texts.
use Rattle.std.proofs.Common.{◌≡◌, ℕ, ◌+◌, ◌-◌, ◌≤◌, take, drop, sym, ap, ◌∙◌, arith}
use Rattle.std.proofs.lemmas.List.{drop-take}
use Rattle.dft_base.specs.Lexing.{Text}

-- a part of a text, from both sides
pub part : (text : Text) (from to : ℕ) → from ≤ to → take (to - from) (drop from text) ≡ drop from (take to text)
part text from to within =
    let whole : from + (to - from) ≡ to = omega arith in sym (drop-take from (to - from) text) ∙ ap (λ n. drop from (take n text)) whole

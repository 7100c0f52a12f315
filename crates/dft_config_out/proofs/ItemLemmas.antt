-- Texts that are written one after the other.
use Rattle.std.proofs.Common.{◌≡◌, ◌++◌, ◌∙◌, ap, append_assoc}
use Rattle.dft_base.specs.Lexing.{Text}

pub two_added : (before mid after a b : Text) → mid ≡ before ++ a → after ≡ mid ++ b → after ≡ before ++ (a ++ b)
two_added before mid after a b first second = second ∙ ap (λ (t : Text). t ++ b) first ∙ append_assoc before a b

pub three_added : (before mid far after a b c : Text) → mid ≡ before ++ a → far ≡ mid ++ b → after ≡ far ++ c → after ≡ before ++ (a ++ (b ++ c))
three_added before mid far after a b c first second third = two_added before mid after a (b ++ c) first (two_added mid far after b c second third)

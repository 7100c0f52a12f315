-- Names in order of adding: look-ups by bytes, and one name more.
use Rattle.std.proofs.Common.{◌≡◌, ℕ, List, [], ◌∷◌, map, refl, sym, true≢false, Result, Ok, Err}
use Rattle.std.specs.Str.{bytes_eq}
use Rattle.std.specs.Map.{lookup}
use Rattle.std.specs.Result.{IsOk, OnOk}
use Rattle.dft_netlist.specs.declared.named.Named.{Named}
use Rattle.dft_netlist.specs.NameTables.{look_up}

-- a look-up among keys that show their bytes
pub look_up-map : {K : Type 0} (shown : K → List ℕ) (name : List ℕ) (es : List (K × Named)) → lookup (λ k. bytes_eq name (shown k)) es ≡ look_up (map (λ e. (shown e.0, e.1)) es) name
look_up-map shown name [] = refl
look_up-map shown name (e ∷ es) = rw (look_up-map shown name es) refl

-- what holds on Ok, where the answer is Ok
pub on_ok : {T E : Type 0} (r : Result T E) (P : Type 0) → IsOk r → OnOk r P → P
on_ok (Ok x) P is h = h
on_ok (Err e) P is h = absurd (true≢false (sym is))

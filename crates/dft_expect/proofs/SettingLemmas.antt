-- The settings of nets: cells by their places, and ports by their names.
use Rattle.std.proofs.Common.{ℕ, ◌+◌, ◌<◌, ◌≤◌, ◌≡◌, ◌≢◌, ◌⊎◌, inl, inr, Bool, true, false, ◌||◌, List, drop, length, get_or, set, slice_get, Option, None, Some, refl, sym, subst, ap, arith, ◌∙◌}
use Rattle.std.specs.Prelude.{◌==◌}
use Rattle.std.specs.List.{list_any}
use Rattle.std.proofs.lemmas.Bool.{cases_eq}
use Rattle.std.proofs.lemmas.Bool.Decides.{nat_tests}
use Rattle.std.proofs.lemmas.List.{drop_all, length-set, get_or-set_same, get_or-set_other}
use Rattle.dft_base.specs.Lexing.{Text}
use Rattle.dft_base.specs.Solutions.{bit_at}
use Rattle.dft_base.proofs.BitLemmas.{or_false}
use Rattle.dft_base.proofs.ListLemmas.{drop_at}
use Rattle.dft_netlist.specs.declared.ids.NetId.{NetId}
use Rattle.dft_netlist.specs.declared.ids.InstanceId.{InstanceId}
use Rattle.dft_netlist.specs.Netlist.{Netlist}
use Rattle.dft_netlist.specs.Connections.{input_net}
use Rattle.dft_rules.specs.Rules.{is_net}
use Rattle.dft_stitch.specs.Plans.{cell_at}
use Rattle.dft_stitch.proofs.CellPlaces.{chain_within}
use Rattle.dft_expect.specs.Loaded.{all_cells}
use Rattle.dft_expect.specs.Unloads.{AreStarts}
use Rattle.dft_expect.proofs.CellNumbers.{number_of}
use Rattle.dft_expect.proofs.UnloadLemmas.{before}

-- ---- a cell by its place

-- a cell stands at the number that the start of its chain and its place give
pub numbered : (chains : List (List InstanceId)) (starts : List ℕ) (chain place number : ℕ) (cell : InstanceId) → AreStarts chains starts → cell_at chains chain place ≡ Some cell → number ≡ get_or starts chain 0 + place → slice_get (all_cells chains) number ≡ Some cell
numbered chains starts chain place number cell are stands is =
    let far : before chains chain + place ≡ number = omega (arith, is, are.each chain (chain_within chains chain place cell stands)) in
    subst (λ (k : ℕ). slice_get (all_cells chains) k ≡ Some cell) far (number_of chains chain place cell stands)

-- ---- ports by their names

-- the flags of the first so many names, with the names that are left
pub record AreFlagging (n : Netlist) (names : List Text) (done : ℕ) (flags : List Bool) : Type 0 where
  pub nets : length flags ≡ length n.nets
  pub each : (net : ℕ) → (bit_at flags net || list_any (λ name. is_net net (input_net n name)) (drop done names)) ≡ list_any (λ name. is_net net (input_net n name)) names

pub flag_none : (n : Netlist) (names : List Text) (done : ℕ) (flags : List Bool) (name : Text) → AreFlagging n names done flags → slice_get names done ≡ Some name → input_net n name ≡ None → AreFlagging n names (done + 1) flags
flag_none n names done flags name before at none = record {
  nets = before.nets;
  each = λ net. (
      let f : Text → Bool = λ name. is_net net (input_net n name) in
      sym (ap (λ (l : List Text). bit_at flags net || list_any f l) (drop_at names done name at) ∙ ap (λ (o : Option NetId). bit_at flags net || (is_net net o || list_any f (drop (done + 1) names))) none) ∙ before.each net);
}

-- one more flag
up_by : (a b c rest : Bool) → a ≡ true → (a || rest) ≡ (b || (true || rest))
up_by true true c rest is = refl
up_by true false c rest is = refl
up_by false b c rest is = absurd cc

pub flag_some : (n : Netlist) (names : List Text) (done : ℕ) (flags : List Bool) (name : Text) (port : NetId) → AreFlagging n names done flags → slice_get names done ≡ Some name → input_net n name ≡ Some port → port.0 < length n.nets → AreFlagging n names (done + 1) (set flags port.0 true)
flag_some n names done flags name port before at some live = record {
  nets = length-set flags port.0 true ∙ before.nets;
  each = λ net. by net (cases_eq net port.0) ∙ before.each net;
}
  where
    rest : ℕ → Bool
    rest net = list_any (λ name. is_net net (input_net n name)) (drop (done + 1) names)

    whole : (net : ℕ) → (bit_at flags net || ((port.0 == net) || rest net)) ≡ (bit_at flags net || list_any (λ name. is_net net (input_net n name)) (drop done names))
    whole net = sym (
        ap (λ (l : List Text). bit_at flags net || list_any (λ name. is_net net (input_net n name)) l) (drop_at names done name at)
        ∙ ap (λ (o : Option NetId). bit_at flags net || (is_net net o || rest net)) some)

    by : (net : ℕ) → (net ≡ port.0) ⊎ (net ≢ port.0) → (bit_at (set flags port.0 true) net || rest net) ≡ (bit_at flags net || list_any (λ name. is_net net (input_net n name)) (drop done names))
    by net (inl e) =
        let yes : (port.0 == net) ≡ true = grind (arith, nat_tests) in
        up_by (bit_at (set flags port.0 true) net) (bit_at flags net) true (rest net) (ap (bit_at (set flags port.0 true)) e ∙ get_or-set_same flags port.0 true false (omega (arith, live, before.nets)))
        ∙ ap (λ (b : Bool). bit_at flags net || (b || rest net)) (sym yes) ∙ whole net
    by net (inr ne) =
        let no : (port.0 == net) ≡ false = grind (arith, nat_tests) in
        ap (λ (b : Bool). b || rest net) (get_or-set_other flags port.0 net true false ne) ∙ ap (λ (b : Bool). bit_at flags net || (b || rest net)) (sym no) ∙ whole net

pub flags_end : (n : Netlist) (names : List Text) (done : ℕ) (flags : List Bool) → AreFlagging n names done flags → length names ≤ done → (net : ℕ) → bit_at flags net ≡ list_any (λ name. is_net net (input_net n name)) names
flags_end n names done flags before past net =
    sym (or_false (bit_at flags net)) ∙ ap (λ (l : List Text). bit_at flags net || list_any (λ name. is_net net (input_net n name)) l) (sym (drop_all done names past)) ∙ before.each net

-- What the names of a configuration stand for.
use Rattle.std.proofs.Common.{◌≡◌, ℕ, ◌+◌, ◌<◌, ◌≤◌, Bool, true, false, List, [], ◌∷◌, ◌++◌, length, get_or, drop, map, find, Option, None, Some, is_none, option_map, option_and_then, slice_get, refl, sym, ◌∙◌, ap, append_assoc}
use Rattle.std.specs.Prelude.{if◌then◌else◌}
use Rattle.std.proofs.lemmas.List.{at_drop_more, at_drop_all, append-nil, map-append}
use Rattle.dft_base.specs.Lexing.{Text}
use Rattle.dft_base.proofs.ListLemmas.{find_over}
use Rattle.dft_netlist.specs.declared.ids.NetId.{NetId}
use Rattle.dft_netlist.specs.declared.ids.InstanceId.{InstanceId}
use Rattle.dft_netlist.specs.declared.instance.Instance.{Instance}
use Rattle.dft_netlist.specs.Netlist.{Netlist}
use Rattle.dft_netlist.specs.Drivers.{kind_at, shape_of}
use Rattle.dft_netlist.specs.Names.{find_instance}
use Rattle.dft_netlist.proofs.LookUpLemmas.{instance_there}
use Rattle.dft_rules.specs.declared.error.RuleError.{RuleError}
use Rattle.dft_rules.specs.declared.error.RuleError.TheVariants.{UnknownName}
use Rattle.dft_rules.specs.Rules.{flip_flop_named, may_be_scanned}
use Rattle.dft_rules.proofs.FindLemmas.{find_here, find_on}

-- ---- flip-flops

pub found_flip_flop : (n : Netlist) (name : Text) (k : InstanceId) (x : Instance) (t : Bool) → find_instance n name ≡ Some k → slice_get n.instances k.0 ≡ Some x → may_be_scanned (shape_of n.library x.cell).kind ≡ t →
    flip_flop_named n name ≡ (if t then Some k else None)
found_flip_flop n name k x t found at is = rw (found, at, is) refl

pub if_there : (t : Bool) (id k : InstanceId) → (if t then Some id else None) ≡ Some k → id ≡ k
if_there true id k h = cc
if_there false id k h = absurd (let f : ⊥ = cc in f)

named_there : (n : Netlist) (name : Text) (k : InstanceId) (o : Option InstanceId) → find_instance n name ≡ o → option_and_then (λ (instance : InstanceId). if may_be_scanned (kind_at n instance.0) then Some instance else None) o ≡ Some k → find_instance n name ≡ Some k
named_there n name k None is h = absurd (let f : ⊥ = cc in f)
named_there n name k (Some id) is h = is ∙ ap Some (if_there (may_be_scanned (kind_at n id.0)) id k h)

pub flip_flop_there : (n : Netlist) (name : Text) (k : InstanceId) → flip_flop_named n name ≡ Some k → k.0 < length n.instances
flip_flop_there n name k h = instance_there n name k (named_there n name k (find_instance n name) refl h)

-- ---- names, one after another

-- what a look-up does not find is refused
abbrev pub first_missed : {A : Type 0} → (Text → Option A) → List Text → Option RuleError
first_missed look names = option_map UnknownName (find (λ name. is_none (look name)) names)

pub looked_here : {A : Type 0} (look : Text → Option A) (names : List Text) (k : ℕ) (name : Text) → k < length names → name ≡ get_or names k name → look name ≡ None → first_missed look (drop k names) ≡ Some (UnknownName name)
looked_here look names k name less is none =
    let test : is_none (look (get_or names k name)) ≡ true = ap (λ (x : Text). is_none (look x)) (sym is) ∙ ap is_none none in
    ap (λ (o : Option Text). option_map UnknownName o) (find_here (λ (x : Text). is_none (look x)) names k name less test) ∙ ap (λ (x : Text). Some (UnknownName x)) (sym is)

pub looked_on : {A : Type 0} (look : Text → Option A) (names : List Text) (k : ℕ) (name : Text) (x : A) → k < length names → name ≡ get_or names k name → look name ≡ Some x → first_missed look (drop k names) ≡ first_missed look (drop (k + 1) names)
looked_on look names k name x less is some =
    let test : is_none (look (get_or names k name)) ≡ false = ap (λ (y : Text). is_none (look y)) (sym is) ∙ ap is_none some in
    ap (λ (o : Option Text). option_map UnknownName o) (find_on (λ (y : Text). is_none (look y)) names k name less test)

pub looked_over : {A : Type 0} (look : Text → Option A) (names : List Text) (k : ℕ) → length names ≤ k → first_missed look (drop k names) ≡ None
looked_over look names k past = ap (λ (o : Option Text). option_map UnknownName o) (find_over (λ (y : Text). is_none (look y)) names k past)

-- the nets so far and the rest
pub nets_on : (look : Text → Option NetId) (names : List Text) (k : ℕ) (name : Text) (net : NetId) (old new : List NetId) → k < length names → name ≡ get_or names k name → look name ≡ Some net → new ≡ old ++ net ∷ [] →
    map Some old ++ map look (drop k names) ≡ map Some new ++ map look (drop (k + 1) names)
nets_on look names k name net old new less is some e =
    let here : look (get_or names k name) ≡ Some net = ap look (sym is) ∙ some in
    let rest = map look (drop (k + 1) names) in
    ap (λ (xs : List (Option NetId)). map Some old ++ xs) (at_drop_more (map look) names k name less ∙ ap (λ (o : Option NetId). o ∷ rest) here)
    ∙ sym (ap (λ (xs : List NetId). map Some xs ++ rest) e ∙ ap (λ (xs : List (Option NetId)). xs ++ rest) (map-append Some old (net ∷ [])) ∙ append_assoc (map Some old) (Some net ∷ []) rest)

pub nets_over : (look : Text → Option NetId) (names : List Text) (k : ℕ) (nets : List NetId) → length names ≤ k → map Some nets ++ map look (drop k names) ≡ map Some nets
nets_over look names k nets past = ap (λ (xs : List (Option NetId)). map Some nets ++ xs) (at_drop_all (map look) names k past) ∙ append-nil (map Some nets)

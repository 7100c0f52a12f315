-- What a draft keeps when it says more.
use Rattle.std.proofs.Common.{◌≡◌, ℕ, ◌+◌, ◌<◌, ◌≤◌, Bool, true, false, cond, List, [], ◌∷◌, ◌++◌, length, Option, Some, None, ap, arith, length-append, IfSome, option_map}
use Rattle.std.specs.Str.{bytes_eq}
use Rattle.dft_verilog_draft.specs.TakenNames.{meaning_in}
use Rattle.std.proofs.lemmas.List.Elements.{All-weaker, All-head, All-tail, All-append, All-cons, All-nil}
use Rattle.dft_base.specs.Lexing.{Text}
use Rattle.dft_cells.specs.declared.cell.Cell.{Cell}
use Rattle.dft_netlist_text.specs.declared.text.Meaning.{Meaning}
use Rattle.dft_netlist_text.specs.declared.text.Meaning.TheVariants as meaning
use Rattle.dft_netlist_text.specs.declared.text.Declared.{Declared}
use Rattle.dft_netlist.specs.declared.instance.Instance.{Instance}
use Rattle.dft_netlist.specs.declared.instance.Join.{Join}
use Rattle.dft_netlist.specs.declared.limits.TheConstants.{MAX_NETS}
use Rattle.dft_netlist.proofs.SoundLemmas.{live_more}
use Rattle.dft_netlist_text.specs.Modules.{Draft, HeaderPort, TakenName, next_shape}
use Rattle.dft_verilog_draft.specs.Drafts.{IsDraft, IsMeaningWithin, AreNamesWithin, IsDeclaredWithin, InstanceFits, JoinFits, netlist_of_nets, nets_alone}

-- ---- more nets

pub meaning_more : (a b : ℕ) → a ≤ b → (m : Meaning) → IsMeaningWithin a m → IsMeaningWithin b m
meaning_more a b le (meaning.Nets shape) h = omega arith
meaning_more a b le (meaning.Port place) h = tt
meaning_more a b le meaning.Bit h = tt
meaning_more a b le meaning.Instance h = tt

declared_more : (a b : ℕ) → a ≤ b → (d : Option Declared) → IsDeclaredWithin a d → IsDeclaredWithin b d
declared_more a b le None h = tt
declared_more a b le (Some declared) h = omega arith

instance_more : (name : Text) (library : List Cell) (xs ys : List Text) → length xs ≤ length ys → (i : Instance) → InstanceFits (netlist_of_nets name library xs) i → InstanceFits (netlist_of_nets name library ys) i
instance_more name library xs ys le i h = record {
  fits = h.fits;
  width = h.width;
  live = λ place s at. live_more (length xs) (length ys) le s (h.live place s at);
  outputs = h.outputs;
}

join_more : (name : Text) (library : List Cell) (xs ys : List Text) → length xs ≤ length ys → (j : Join) → JoinFits (netlist_of_nets name library xs) j → JoinFits (netlist_of_nets name library ys) j
join_more name library xs ys le j h = record {
  target_live = omega (arith, h.target_live);
  source_live = live_more (length xs) (length ys) le j.source h.source_live;
  connected = h.connected;
}

-- a draft with more nets keeps all
pub IsDraft-nets : (d : Draft) (nets : List Text) → length d.nets ≤ length nets → length nets ≤ MAX_NETS → IsDraft d → IsDraft (record d { nets = nets })
IsDraft-nets d nets more few h = record {
  few_ports = h.few_ports;
  few_nets = few;
  few_instances = h.few_instances;
  names = All-weaker (λ (e : TakenName). IsMeaningWithin (length d.nets) e.meaning) (λ (e : TakenName). IsMeaningWithin (length nets) e.meaning) (λ e w. meaning_more (length d.nets) (length nets) more e.meaning w) d.names h.names;
  ports = All-weaker (λ (p : HeaderPort). IsDeclaredWithin (length d.nets) p.declared) (λ (p : HeaderPort). IsDeclaredWithin (length nets) p.declared) (λ p w. declared_more (length d.nets) (length nets) more p.declared w) d.ports h.ports;
  instances = All-weaker (InstanceFits (nets_alone d)) (InstanceFits (netlist_of_nets d.name d.library nets)) (λ i w. instance_more d.name d.library d.nets nets more i w) d.instances h.instances;
  joins = All-weaker (JoinFits (nets_alone d)) (JoinFits (netlist_of_nets d.name d.library nets)) (λ j w. join_more d.name d.library d.nets nets more j w) d.joins h.joins;
}

-- ---- more of the other parts

pub IsDraft-names : (d : Draft) (names : List TakenName) → AreNamesWithin (length d.nets) names → IsDraft d → IsDraft (record d { names = names })
IsDraft-names d names within h = record { few_ports = h.few_ports; few_nets = h.few_nets; few_instances = h.few_instances; names = within; ports = h.ports; instances = h.instances; joins = h.joins }

-- names put behind others, or not
pub length-appended : {A : Type 0} (ok : Bool) (xs ys zs : List A) → zs ≡ cond ok (xs ++ ys) xs → (length xs ≤ length zs) × (length zs ≤ length xs + length ys)
length-appended true xs ys zs e = (omega (arith, ap length e, length-append xs ys), omega (arith, ap length e, length-append xs ys))
length-appended false xs ys zs e = (omega (arith, ap length e), omega (arith, ap length e))

within_by : (n : ℕ) (b : Bool) (e : TakenName) (rest : Option TakenName) → IsMeaningWithin n e.meaning → IfSome (option_map (λ (x : TakenName). x.meaning) rest) (IsMeaningWithin n) → IfSome (option_map (λ (x : TakenName). x.meaning) (cond b (Some e) rest)) (IsMeaningWithin n)
within_by n true e rest here there = here
within_by n false e rest here there = there

-- what a name stands for is there
pub meaning-within : (n : ℕ) (names : List TakenName) (word : Text) → AreNamesWithin n names → IfSome (meaning_in names word) (IsMeaningWithin n)
meaning-within n [] word all = tt
meaning-within n (e ∷ es) word all =
    within_by n (bytes_eq e.name word) e _ (All-head (λ (x : TakenName). IsMeaningWithin n x.meaning) e es all) (meaning-within n es word (All-tail (λ (x : TakenName). IsMeaningWithin n x.meaning) e es all))

-- a name that stands for the next net, which is there too
pub IsDraft-net : (d : Draft) (word : Text) → length d.nets < MAX_NETS → IsDraft d →
    IsDraft (record d { names = d.names ++ record { name = word; meaning = meaning.Nets (next_shape d None) } ∷ []; nets = d.nets ++ word ∷ [] })
IsDraft-net d word room h =
    let more = length-append d.nets (word ∷ []) in
    let e : Draft = record d { nets = d.nets ++ word ∷ [] } in
    let grown : IsDraft e = IsDraft-nets d (d.nets ++ word ∷ []) (omega (arith, more)) (omega (arith, more)) h in
    let name : TakenName = record { name = word; meaning = meaning.Nets (next_shape d None) } in
    IsDraft-names e (d.names ++ name ∷ [])
    (All-append (λ (x : TakenName). IsMeaningWithin (length e.nets) x.meaning) d.names (name ∷ []) grown.names (All-cons (λ (x : TakenName). IsMeaningWithin (length e.nets) x.meaning) name [] (omega (arith, more)) (All-nil (λ (x : TakenName). IsMeaningWithin (length e.nets) x.meaning))))
    grown

-- The netlist of a draft, put together from its steps.
use Rattle.std.proofs.Common.{◌≡◌, List, [], length, get_or, Option, Result, Ok, Err, OnOk, refl, sym, ap, ◌∙◌, subst, arith, length-append}
use Rattle.std.proofs.lemmas.List.{length-map}
use Rattle.dft_netlist.specs.declared.ids.NetId.{NetId}
use Rattle.dft_netlist.specs.declared.error.NetlistError.{NetlistError}
use Rattle.dft_netlist.specs.Netlist.{Netlist}
use Rattle.dft_netlist.specs.Building.{empty_netlist}
use Rattle.dft_netlist_text.specs.Modules.{Draft}
use Rattle.dft_netlist_text.specs.NetlistText.{Grown, and_grown, nets_of_ports, other_nets, net_order, names_of_others, add_ports, add_nets, add_instances, add_joins, built}
use Rattle.dft_verilog.specs.FinalNets.{numbers_among, without_number, all_numbered, AreFinal}
use Rattle.dft_verilog.specs.Built.{Grows, IsGrown, HasNetsOf}
use Rattle.dft_verilog.proofs.GrowLemmas.{and_grown-assoc, IsGrown-first, IsGrown-same, add_ports-Ok, add_nets-Ok}
use Rattle.dft_verilog.proofs.FinalLemmas.{without_number-others, AreFinal-numbered}

-- ---- all nets

-- the ports' nets and the others, from nothing
abbrev pub all_nets : Draft → Netlist → Grown
all_nets d start = and_grown (add_ports d.ports start) (add_nets (names_of_others d))

-- the names of the others, put behind the ports
pub all_nets-by : (d : Draft) (start mid : Netlist) (numbers : List (Option NetId)) → add_ports d.ports start ≡ Ok mid → numbers ≡ numbers_among (nets_of_ports d.ports) (length d.nets)
    → all_nets d start ≡ add_nets (without_number d.nets numbers) mid
all_nets-by d start mid numbers ports is =
    ap (λ g. and_grown g (add_nets (names_of_others d))) ports
    ∙ ap (λ words. add_nets words mid) (sym (ap (without_number d.nets) is ∙ without_number-others d))

-- the ports' bits are the first nets
pub ports-count : (d : Draft) (start mid : Netlist) → start ≡ empty_netlist d.name d.library → add_ports d.ports start ≡ Ok mid → length mid.nets ≡ length (nets_of_ports d.ports)
ports-count d start mid none ports =
    let kept = add_ports-Ok d.ports start mid ports in
    let zero_nets : length start.nets ≡ 0 = ap (λ (n : Netlist). length n.nets) none in
    omega (arith, kept.nets)

-- the numbers that are given then are final
pub finals-by : (d : Draft) (start mid : Netlist) (numbers : List (Option NetId)) (finals : List NetId) → start ≡ empty_netlist d.name d.library → add_ports d.ports start ≡ Ok mid
    → numbers ≡ numbers_among (nets_of_ports d.ports) (length d.nets) → finals ≡ all_numbered (length mid.nets) numbers → AreFinal d finals
finals-by d start mid numbers finals none ports is all =
    subst (AreFinal d) (sym (all ∙ ap (all_numbered (length mid.nets)) is)) (AreFinal-numbered d (length mid.nets) (ports-count d start mid none ports))

-- the netlist then has the draft's nets
pub HasNetsOf-all : (d : Draft) (start mid new : Netlist) → start ≡ empty_netlist d.name d.library → add_ports d.ports start ≡ Ok mid → add_nets (names_of_others d) mid ≡ Ok new → HasNetsOf d new
HasNetsOf-all d start mid new none ports others =
    let kept = add_ports-Ok d.ports start mid ports in
    let grown = add_nets-Ok (names_of_others d) mid new others in
    record {
      library = ap (λ (n : Netlist). n.library) grown ∙ kept.library ∙ ap (λ (n : Netlist). n.library) none;
      nets = ap (λ (n : Netlist). length n.nets) grown
          ∙ omega (arith, ports-count d start mid none ports, length-append mid.nets (names_of_others d), length-append (nets_of_ports d.ports) (other_nets d), length-map (other_nets d) (λ net. get_or d.nets net []));
    }

pub OnOk-grown : {X : Type 0} (outcome : Grown) (r : Result X NetlistError) (new : Netlist) (P : Type 0) → Grows outcome r new → (outcome ≡ Ok new → P) → OnOk r P
OnOk-grown outcome (Ok x) new P h then = then h
OnOk-grown outcome (Err why) new P h then = tt

-- ---- the whole

-- the draft is built from its nets, its joins and its instances
pub built-by : (d : Draft) (start mid joined : Netlist) → start ≡ empty_netlist d.name d.library → all_nets d start ≡ Ok mid → joined ≡ add_joins (net_order d) d.joins mid
    → built d ≡ add_instances (net_order d) d.instances joined
unfolding built
built-by d start mid joined none nets joins =
    and_grown-assoc (add_ports d.ports (empty_netlist d.name d.library)) _ (add_nets (names_of_others d)) (λ n. add_instances (net_order d) d.instances (add_joins (net_order d) d.joins n)) (λ n. refl)
    ∙ ap (λ g. and_grown g (λ n. add_instances (net_order d) d.instances (add_joins (net_order d) d.joins n))) (ap (all_nets d) (sym none) ∙ nets)
    ∙ ap (add_instances (net_order d) d.instances) (sym joins)

-- nets that are refused refuse the draft
pub built-refused : (d : Draft) (start : Netlist) → start ≡ empty_netlist d.name d.library
    → built d ≡ and_grown (all_nets d start) (λ n. add_instances (net_order d) d.instances (add_joins (net_order d) d.joins n))
unfolding built
built-refused d start none =
    and_grown-assoc (add_ports d.ports (empty_netlist d.name d.library)) _ (add_nets (names_of_others d)) (λ n. add_instances (net_order d) d.instances (add_joins (net_order d) d.joins n)) (λ n. refl)
    ∙ ap (λ g. and_grown g (λ n. add_instances (net_order d) d.instances (add_joins (net_order d) d.joins n))) (ap (all_nets d) (sym none))

-- the nets of a draft of which no part is refused are not
pub IsGrown-nets : (d : Draft) (start : Netlist) → start ≡ empty_netlist d.name d.library → IsGrown (built d) → IsGrown (all_nets d start)
IsGrown-nets d start none g = IsGrown-first (built d) (all_nets d start) _ (built-refused d start none) g

-- nor are its instances
pub IsGrown-instances : (d : Draft) (start mid joined : Netlist) → start ≡ empty_netlist d.name d.library → all_nets d start ≡ Ok mid → joined ≡ add_joins (net_order d) d.joins mid
    → IsGrown (built d) → IsGrown (add_instances (net_order d) d.instances joined)
IsGrown-instances d start mid joined none nets joins g = IsGrown-same (add_instances (net_order d) d.instances joined) (built d) (sym (built-by d start mid joined none nets joins)) g

-- what is built of a draft does not depend on the names that are taken
pub built-without_names : (d : Draft) → built (record d { names = [] }) ≡ built d
unfolding built
built-without_names d = refl

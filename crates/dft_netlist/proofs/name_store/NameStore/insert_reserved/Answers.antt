-- One name more.
use Rattle.std.proofs.Common.{◌<◌, ◌-◌, ◌∙◌, [], ◌∷◌, length, ap, refl, arith}
use Rattle.std.proofs.lemmas.List.{map-append}
use Rattle.std.proofs.Math.Nat.{min-le_left}
use Rattle.std.specs.Str.{bytes_eq}
use Rattle.indexmap.specs.IndexMap.{spare}
use Rattle.indexmap.proofs.CallerLemmas.{insert_entry-new}
use Rattle.dft_netlist.specs.declared.key.Key.{Key}
use Rattle.dft_netlist.specs.declared.name_store.TheConstants.{MAX_NAMES}
use Rattle.dft_netlist.specs.NameTables.{Store, look_up}
use Rattle.dft_netlist.specs.NameStoreShown.{entry_of, store_of}
use Rattle.dft_netlist.proofs.StoreLemmas.{look_up-map, on_ok}
use Rattle.dft_netlist.proofs.name_store.NameStore.insert_reserved.Goals as goal

pub returns-clause-added : goal.returns-clause-added
returns-clause-added c =
    let m = c.self.inside.names in
    let key : Key = record { name = c.args.name } in
    let view = ap (λ (s : Store). s.entries) c.self.view_is in
    let room : 0 < (store_of c.self.inside).room = rw (← c.self.view_is) at c.requires.room in
    let a = min-le_left (spare m) (MAX_NAMES - length m.entries) in
    let left : 0 < spare m = omega (arith, a, room) in
    let none = look_up-map (λ k. k.name) c.args.name m.entries ∙ ap (λ (s : Store). look_up s.entries c.args.name) c.self.view_is ∙ c.requires.fresh in
    let added = insert_entry-new (λ x y. bytes_eq x.name y.name) m key c.args.named none in
    let ok = on_ok c.insert.result _ (c.insert.ensures.succeeds left) c.insert.ensures.entries in
    rw (ok, added, map-append entry_of m.entries ((key, c.args.named) ∷ []), view) refl

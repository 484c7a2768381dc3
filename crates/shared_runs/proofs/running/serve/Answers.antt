use Rattle.bpf_model.proofs.Prelude.{rules, ◌≡◌, [], ◌∷◌, sym, subst, ℕ, SFits, to_z-of_z, byte_count, RunView}
use Rattle.model_laws.proofs.Prelude.{Lookup}
use Rattle.std.proofs.Common.{w16}
use Rattle.machine.specs.declared.request.Request.TheVariants.{Call}
use Rattle.shared_runs.specs.Serving.{Serves, asking}
use Rattle.shared_runs.specs.Words.{part_of}
use Rattle.shared_runs.specs.SharedRuns.{closing, opening}
use Rattle.shared_runs.proofs.Serving.{load-there, serves-enter, serves-leave, serves-load, serves-lookup, serves-store, store-there}
use Rattle.shared_runs.proofs.running.serve.Goals as goal

pub load-word-requires-clause-held : goal.load-word-requires-clause-held
load-word-requires-clause-held g c =
    let f : SFits w16 c.in-Load.offset = search rules in
    let where_it = simp to_z-of_z at c.value_word-at.ensures in
    (load-there c.is_table.ensures.table c.requires.small c.requires.can.1 where_it c.in-Load.is).0

pub load-word-requires-clause-element : goal.load-word-requires-clause-element
load-word-requires-clause-element g c =
    let f : SFits w16 c.in-Load.offset = search rules in
    let where_it = simp to_z-of_z at c.value_word-at.ensures in
    (load-there c.is_table.ensures.table c.requires.small c.requires.can.1 where_it c.in-Load.is).1

pub load-word-requires-clause-place : goal.load-word-requires-clause-place
load-word-requires-clause-place g c =
    let f : SFits w16 c.in-Load.offset = search rules in
    let where_it = simp to_z-of_z at c.value_word-at.ensures in
    (load-there c.is_table.ensures.table c.requires.small c.requires.can.1 where_it c.in-Load.is).2

pub part_of_word-requires : goal.part_of_word-requires
part_of_word-requires g c =
    let f : SFits w16 c.in-Load.offset = search rules in
    let where_it = simp to_z-of_z at c.value_word-at.ensures in
    record { whole = (load-there c.is_table.ensures.table c.requires.small c.requires.can.1 where_it c.in-Load.is).3 }

pub store-requires-clause-held : goal.store-requires-clause-held
store-requires-clause-held g c =
    let f : SFits w16 c.in-Store.offset = search rules in
    let where_it = simp to_z-of_z at c.value_word-at-in-Store.ensures in
    (store-there c.is_table.ensures.table c.requires.small c.requires.can.1 where_it c.in-Store.number c.in-Store.is).0

pub store-requires-clause-element : goal.store-requires-clause-element
store-requires-clause-element g c =
    let f : SFits w16 c.in-Store.offset = search rules in
    let where_it = simp to_z-of_z at c.value_word-at-in-Store.ensures in
    (store-there c.is_table.ensures.table c.requires.small c.requires.can.1 where_it c.in-Store.number c.in-Store.is).1

pub store-requires-clause-place : goal.store-requires-clause-place
store-requires-clause-place g c =
    let f : SFits w16 c.in-Store.offset = search rules in
    let where_it = simp to_z-of_z at c.value_word-at-in-Store.ensures in
    (store-there c.is_table.ensures.table c.requires.small c.requires.can.1 where_it c.in-Store.number c.in-Store.is).2

pub returns-in-Load : goal.returns-in-Load
returns-in-Load g c =
    let f : SFits w16 c.in-Load.offset = search rules in
    let where_it = simp to_z-of_z at c.value_word-at.ensures in
    let t = g.T.ServesRuns in
    let w = c.args.words.now in
    let at = c.value_word-at.result in
    let ns = (t.table w).finds at.element at.place c.load-word.result ∷ [] in
    let served : (v : RunView) → Serves (t.table w) (asking c.args.workspace.now c.args.depth v) c.args.request ns (part_of c.load-word.result at.low
    (byte_count c.in-Load.width)) =
    λ v. serves-load (t.table w) c.is_table.ensures.table (asking c.args.workspace.now c.args.depth v) c.args.request c.in-Load.address
    c.in-Load.offset
    c.in-Load.width at.element at.place at.low c.load-word.result c.in-Load.is c.requires.small where_it c.load-word.type_inv in (
      ns,
      c.load-word.ensures,
      subst (λ (x : ℕ). (v : RunView) → Serves (t.table w) (asking c.args.workspace.now c.args.depth v) c.args.request ns x)
          (sym c.part_of_word.ensures) served,
    )

pub returns-in-Store : goal.returns-in-Store
returns-in-Store g c =
    let f : SFits w16 c.in-Store.offset = search rules in
    let where_it = simp to_z-of_z at c.value_word-at-in-Store.ensures in
    let t = g.T.ServesRuns in
    let w = c.args.words.now in
    let at = c.value_word-at-in-Store.result in
    let ns = (t.table w).writes at.element at.place c.in-Store.number ∷ [] in (
      ns,
      c.store.ensures,
      λ v. serves-store (t.table w) c.is_table.ensures.table (asking c.args.workspace.now c.args.depth v) c.args.request
          c.in-Store.address c.in-Store.offset c.in-Store.width c.in-Store.number at.element at.place at.low c.in-Store.is c.requires.small where_it,
    )

pub returns-in-Call-Lookup : goal.returns-in-Call-Lookup
returns-in-Call-Lookup g c =
    let k = g.T.ServesRuns.table c.args.words.now in
    let l = c.look_up.ensures in
    let asked : c.args.request ≡ Call Lookup = search (rules, c.in-Call-Lookup.is, c.in-Call-Lookup.helper-is) in (
      l.0,
      l.2,
      λ v. serves-lookup k c.is_table.ensures.table (asking c.args.workspace.now c.args.depth v) c.args.request l.0 l.1 c.look_up.result
          asked c.requires.small l.3 l.4,
    )

pub returns-in-Enter : goal.returns-in-Enter
returns-in-Enter g c =
    let k = g.T.ServesRuns.table c.args.words.now in (
      opening k c.args.depth,
      c.enter.ensures,
      λ v. serves-enter k c.is_table.ensures.table (asking c.args.workspace.now c.args.depth v)
          c.args.request c.in-Enter.is,
    )

pub returns-in-Leave : goal.returns-in-Leave
returns-in-Leave g c =
    let k = g.T.ServesRuns.table c.args.words.now in (
      closing k c.args.depth,
      c.leave.ensures,
      λ v. serves-leave k c.is_table.ensures.table (asking c.args.workspace.now c.args.depth v)
          c.args.request c.in-Leave.is,
    )

use Rattle.bpf_model.proofs.Prelude.{rules, ◌≢◌, ◌%◌, ◌++◌, [], ◌∷◌, true, false, IsTrue, arith, length-append}
use Rattle.read_table.specs.declared.view.Move.TheVariants.{Learn}
use Rattle.read_table.proofs.Going.{goes_then}
use Rattle.read_table.proofs.Lookups.{only_append, has_matched, not_linked}
use Rattle.read_table.proofs.table.ReadTable.has.Goals as goal

pub returns-else-learn : goal.returns-else-learn
returns-else-learn c =
    let h = c.if-learn.ensures.step in
    let not_odd : h.0 % 2 ≢ 1 = λ e. let t : IsTrue false = h.2.1 e in search rules in
    let unlinked = not_linked c.args.self.now.shape c.args.key.now c.args.slot h.0 c.learn.result _ c.if-learn.false (omega arith) in
    (Learn c.args.slot h.0 ∷ [], h.1, tt, unlinked, omega arith)

pub returns-then-learn : goal.returns-then-learn
returns-then-learn c =
    let h = c.if-learn.ensures.step in
    let k = c.has_key.ensures in
    let few = k.4 in
    let t : IsTrue true = search rules in (
      k.0 ++ Learn c.args.slot h.0 ∷ [],
      goes_then c.args.seat.now c.learn.new.seat c.has_key.new.seat (Learn c.args.slot h.0 ∷ []) k.0 h.1 k.1,
      only_append c.args.self.now.shape k.0 (Learn c.args.slot h.0 ∷ []) k.2 tt,
      has_matched c.args.self.now.shape c.args.key.now c.args.slot h.0 k.0 c.has_key.result c.requires.slot (h.2.0 t) k.2 k.3,
      omega (arith, few, length-append k.0 (Learn c.args.slot h.0 ∷ [])),
    )

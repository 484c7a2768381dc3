use Rattle.bpf_model.proofs.Prelude.{◌≡◌, sym, ap, subst}
use Rattle.host_tables.specs.Copies.{IsThere}
use Rattle.host_tables.specs.Tables.{OpenTable, Sets}
use Rattle.host_tables.proofs.Kept.{ok_then, same_seats, set_kept, sets_kept, writer_knows}
use Rattle.host_tables.proofs.table.HostTable.set.Goals as goal

pub returns-clause-linked : goal.returns-clause-linked
returns-clause-linked c =
    let k = c.args.self.now.table.shape in
    let v = c.self.inside.writer in
    let w = c.set_asked.new.writer in
    let knows = writer_knows _ v _ c.self.view_is c.self.invariant.0 c.is_writers.ensures.me c.is_writers.ensures.shape c.is_writers.ensures.known in
    ok_then c.set_asked.result (Sets c.args.key.now c.args.value.now c.args.how v w) (IsThere k c.args.key.now w)
    (λ s. (sets_kept k c.args.key.now c.args.value.now c.args.how v w knows s).1) c.set_asked.ensures.set

pub returns-clause-stay : goal.returns-clause-stay
returns-clause-stay c =
    let k = c.args.self.now.table.shape in
    let v = c.self.inside.writer in
    let w = c.set_asked.new.writer in
    let knows = writer_knows _ v _ c.self.view_is c.self.invariant.0 c.is_writers.ensures.me c.is_writers.ensures.shape c.is_writers.ensures.known in
    let old : v ≡ c.args.self.now.writer = ap (λ (t : OpenTable). t.writer) c.self.view_is in
    λ key x. (set_kept k c.args.key.now c.args.value.now c.args.how v w c.set_asked.result knows c.set_asked.ensures.set c.set_asked.ensures.fault).stays
    key (subst (IsThere k key) (sym old) x)

pub returns-clause-seats : goal.returns-clause-seats
returns-clause-seats c =
    let k = c.args.self.now.table.shape in
    let v = c.self.inside.writer in
    let w = c.set_asked.new.writer in
    let knows = writer_knows _ v _ c.self.view_is c.self.invariant.0 c.is_writers.ensures.me c.is_writers.ensures.shape c.is_writers.ensures.known in
    same_seats _ v w _ c.self.view_is
    (set_kept k c.args.key.now c.args.value.now c.args.how v w c.set_asked.result knows c.set_asked.ensures.set c.set_asked.ensures.fault).next

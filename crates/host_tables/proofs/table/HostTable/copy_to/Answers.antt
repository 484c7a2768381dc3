use Rattle.bpf_model.proofs.Prelude.{◌≡◌, ◌<◌, ◌∙◌, sym, ap, subst}
use Rattle.map_table.proofs.Prelude.{TableView, ways_of}
use Rattle.host_tables.specs.Copies.{AreAllThere, Copies, IsThere}
use Rattle.host_tables.specs.Tables.{OpenTable}
use Rattle.host_tables.proofs.Kept.{both_kept, copied, ok_then, same_seats, writer_knows}
use Rattle.host_tables.proofs.table.HostTable.copy_to.Goals as goal

pub returns-clause-linked : goal.returns-clause-linked
returns-clause-linked c =
    let k = c.args.self.now.table.shape in
    let l = c.args.other.now.table.shape in
    let n = ways_of c.deref.result.now.shape in
    let v = c.self.inside.writer in
    let a = c.other.inside.writer in
    let w = c.copy_all.new.writer in
    let b = c.copy_all.new.other_writer in
    let same : n ≡ ways_of k = ap (λ (t : TableView). ways_of t.shape) c.deref.ensures ∙ ap (λ (t : OpenTable). ways_of t.table.shape) c.self.view_is in
    let one = writer_knows _ v _ c.self.view_is c.self.invariant.0 c.is_writers.ensures.me c.is_writers.ensures.shape c.is_writers.ensures.known in
    let two = writer_knows _ a _ c.other.view_is c.other.invariant.0 c.is_writers-2.ensures.me c.is_writers-2.ensures.shape
    c.is_writers-2.ensures.known in
    ok_then c.copy_all.result (Copies n v a w b)
    (AreAllThere k l w b)
    (λ cp key way low x. (copied k l n v a w b one two cp).linked key way (subst (λ z. way < z) (sym same) low) x) c.copy_all.ensures.copies

pub returns-clause-stay : goal.returns-clause-stay
returns-clause-stay c =
    let k = c.args.self.now.table.shape in
    let l = c.args.other.now.table.shape in
    let s = c.deref.result.now.shape in
    let v = c.self.inside.writer in
    let a = c.other.inside.writer in
    let w = c.copy_all.new.writer in
    let b = c.copy_all.new.other_writer in
    let one = writer_knows _ v _ c.self.view_is c.self.invariant.0 c.is_writers.ensures.me c.is_writers.ensures.shape c.is_writers.ensures.known in
    let two = writer_knows _ a _ c.other.view_is c.other.invariant.0 c.is_writers-2.ensures.me c.is_writers-2.ensures.shape
    c.is_writers-2.ensures.known in
    let both = both_kept k l s (ways_of s) v a w b c.copy_all.result one two c.copy_all.ensures.copies c.copy_all.ensures.fault in
    let old : v ≡ c.args.self.now.writer = ap (λ (t : OpenTable). t.writer) c.self.view_is in
    λ key x. both.0.stays key (subst (IsThere k key) (sym old) x)

pub returns-clause-kept : goal.returns-clause-kept
returns-clause-kept c =
    let k = c.args.self.now.table.shape in
    let l = c.args.other.now.table.shape in
    let s = c.deref.result.now.shape in
    let v = c.self.inside.writer in
    let a = c.other.inside.writer in
    let w = c.copy_all.new.writer in
    let b = c.copy_all.new.other_writer in
    let one = writer_knows _ v _ c.self.view_is c.self.invariant.0 c.is_writers.ensures.me c.is_writers.ensures.shape c.is_writers.ensures.known in
    let two = writer_knows _ a _ c.other.view_is c.other.invariant.0 c.is_writers-2.ensures.me c.is_writers-2.ensures.shape
    c.is_writers-2.ensures.known in
    let both = both_kept k l s (ways_of s) v a w b c.copy_all.result one two c.copy_all.ensures.copies c.copy_all.ensures.fault in
    let old : a ≡ c.args.other.now.writer = ap (λ (t : OpenTable). t.writer) c.other.view_is in
    λ key x. both.1.stays key (subst (IsThere l key) (sym old) x)

pub returns-clause-seats : goal.returns-clause-seats
returns-clause-seats c =
    let k = c.args.self.now.table.shape in
    let l = c.args.other.now.table.shape in
    let s = c.deref.result.now.shape in
    let v = c.self.inside.writer in
    let a = c.other.inside.writer in
    let w = c.copy_all.new.writer in
    let b = c.copy_all.new.other_writer in
    let one = writer_knows _ v _ c.self.view_is c.self.invariant.0 c.is_writers.ensures.me c.is_writers.ensures.shape c.is_writers.ensures.known in
    let two = writer_knows _ a _ c.other.view_is c.other.invariant.0 c.is_writers-2.ensures.me c.is_writers-2.ensures.shape
    c.is_writers-2.ensures.known in
    let both = both_kept k l s (ways_of s) v a w b c.copy_all.result one two c.copy_all.ensures.copies c.copy_all.ensures.fault in
    same_seats _ v w _ c.self.view_is both.0.next

pub returns-clause-other_seats : goal.returns-clause-other_seats
returns-clause-other_seats c =
    let k = c.args.self.now.table.shape in
    let l = c.args.other.now.table.shape in
    let s = c.deref.result.now.shape in
    let v = c.self.inside.writer in
    let a = c.other.inside.writer in
    let w = c.copy_all.new.writer in
    let b = c.copy_all.new.other_writer in
    let one = writer_knows _ v _ c.self.view_is c.self.invariant.0 c.is_writers.ensures.me c.is_writers.ensures.shape c.is_writers.ensures.known in
    let two = writer_knows _ a _ c.other.view_is c.other.invariant.0 c.is_writers-2.ensures.me c.is_writers-2.ensures.shape
    c.is_writers-2.ensures.known in
    let both = both_kept k l s (ways_of s) v a w b c.copy_all.result one two c.copy_all.ensures.copies c.copy_all.ensures.fault in
    same_seats _ a b _ c.other.view_is both.1.next

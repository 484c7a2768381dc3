use mir.Syntax.{w32}
use mir.Val.{to_z, of_z}
use Rattle.std.proofs.Common.{rules, ◌≡◌, ◌≢◌, ◌∙◌, Some, IfSome, Option, ap, sym, subst}
use Rattle.std.specs.Prelude.{ℤ, pos, neg_ℤ}
use Rattle.host_tables.specs.declared.fault.SetFault.{SetFault}
use Rattle.host_handle.specs.Values.{table_in}
use Rattle.host_handle.specs.declared.held.Held.{Held}
use Rattle.bpfrt_c.specs.Tables.{CanSet, IsNotSetAs, WritesIn, how_in_c, set_error}
use Rattle.bpfrt_c.proofs.tables.bpfrt0_table_update_elem.Goals as goal

pub returns-clause-fault : goal.returns-clause-fault
returns-clause-fault c =
    let r = c.set_held-number.result in
    let written_back : to_z w32 (of_z w32 r) ≡ r = search rules in
    let key = c.args.key.now in
    let how = how_in_c c.args.flags in
    let old : Some c.as_mut.result.now ≡ c.args.host.now.handle.held =
    ap (λ (h : Held). Some h) c.as_mut.ensures.value ∙ c.in-Some.ensures.value in
    let new : Some c.set_held-number.new.held ≡ c.put.new.self.handle.held = sym c.put.ensures in
    let F : Option Held → Option Held → ℤ → Type 0 = λ old new z. IfSome (table_in old) (λ t. CanSet t key c.args.value.now how → z ≢ pos 0 →
    (fault : SetFault) × (z ≡ neg_ℤ (pos (set_error fault))) × WritesIn (IsNotSetAs key how fault) (table_in old) (table_in new)) in
    subst (λ (z : ℤ). F c.args.host.now.handle.held c.put.new.self.handle.held z) (sym written_back)
    (subst (λ (h : Option Held). F h c.put.new.self.handle.held r) old
    (subst (λ (h : Option Held). F (Some c.as_mut.result.now) h r) new c.set_held-number.ensures.fault))

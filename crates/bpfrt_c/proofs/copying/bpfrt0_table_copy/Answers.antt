use mir.Syntax.{w32}
use mir.Val.{to_z, of_z}
use Rattle.std.proofs.Common.{rules, ◌≡◌, ◌≢◌, ◌∙◌, Some, IfSome, Option, ap, sym, subst}
use Rattle.std.proofs.lemmas.Option.{IfSome_then}
use Rattle.std.specs.Prelude.{ℤ, pos, neg_ℤ}
use Rattle.host_tables.specs.Copies.{AreAlike}
use Rattle.host_tables.specs.declared.fault.SetFault.{SetFault}
use Rattle.host_handle.specs.Values.{table_in}
use Rattle.host_handle.specs.declared.held.Held.{Held}
use Rattle.bpfrt_c.specs.Copying.{StopsIn}
use Rattle.bpfrt_c.specs.Tables.{set_error}
use Rattle.bpfrt_c.proofs.copying.bpfrt0_table_copy.Goals as goal

pub returns-clause-other : goal.returns-clause-other
returns-clause-other c =
    let n = c.copy_held-number in
    let r = n.result in
    let written_back : to_z w32 (of_z w32 r) ≡ r = search rules in
    let some : Held → Option Held = λ h. Some h in
    let one : Some c.as_mut.result.now ≡ c.args.host.now.handle.held = ap some c.as_mut.ensures.value ∙ c.in-Some.ensures.value in
    let two : Some c.as_mut-2.result.now ≡ c.args.larger.now.handle.held = ap some c.as_mut-2.ensures.value ∙ c.in-Some-take.ensures.value in
    let F : Option Held → Option Held → Option Held → Option Held → ℤ → Type 0 = λ a b x y z.
    IfSome (table_in a) (λ t. IfSome (table_in b) (λ l. (AreAlike t.table.shape l.table.shape → ⊥) → (z ≡ neg_ℤ (pos 22)) × (x ≡ a) × (y ≡ b))) in
    let told : F (Some c.as_mut.result.now) (Some c.as_mut-2.result.now) (Some n.new.held) (Some n.new.larger) r =
    IfSome_then (table_in (Some c.as_mut.result.now)) n.ensures.other (λ t p.
    IfSome_then (table_in (Some c.as_mut-2.result.now)) p (λ l q not. let h = q not in (h.0, ap some h.1, ap some h.2))) in
    let after = subst (λ (z : Option Held × Option Held). F (Some c.as_mut.result.now) (Some c.as_mut-2.result.now) z.0 z.1 r)
    (λ i. (sym c.put-2.ensures i, sym c.put-3.ensures i)) told in
    let before = subst (λ (z : Option Held × Option Held). F z.0 z.1 c.put-2.new.self.handle.held c.put-3.new.self.handle.held r)
    (λ i. (one i, two i)) after in
    subst (λ (z : ℤ). F c.args.host.now.handle.held c.args.larger.now.handle.held c.put-2.new.self.handle.held c.put-3.new.self.handle.held z)
    (sym written_back) before

pub returns-clause-fault : goal.returns-clause-fault
returns-clause-fault c =
    let n = c.copy_held-number in
    let r = n.result in
    let written_back : to_z w32 (of_z w32 r) ≡ r = search rules in
    let some : Held → Option Held = λ h. Some h in
    let one : Some c.as_mut.result.now ≡ c.args.host.now.handle.held = ap some c.as_mut.ensures.value ∙ c.in-Some.ensures.value in
    let two : Some c.as_mut-2.result.now ≡ c.args.larger.now.handle.held = ap some c.as_mut-2.ensures.value ∙ c.in-Some-take.ensures.value in
    let F : Option Held → Option Held → Option Held → Option Held → ℤ → Type 0 = λ a b x y z.
    IfSome (table_in a) (λ t. IfSome (table_in b) (λ l. AreAlike t.table.shape l.table.shape → z ≢ pos 0 →
    (fault : SetFault) × (z ≡ neg_ℤ (pos (set_error fault))) × StopsIn fault (table_in a) (table_in b) (table_in x) (table_in y))) in
    let after = subst (λ (z : Option Held × Option Held). F (Some c.as_mut.result.now) (Some c.as_mut-2.result.now) z.0 z.1 r)
    (λ i. (sym c.put-2.ensures i, sym c.put-3.ensures i)) n.ensures.fault in
    let before = subst (λ (z : Option Held × Option Held). F z.0 z.1 c.put-2.new.self.handle.held c.put-3.new.self.handle.held r)
    (λ i. (one i, two i)) after in
    subst (λ (z : ℤ). F c.args.host.now.handle.held c.args.larger.now.handle.held c.put-2.new.self.handle.held c.put-3.new.self.handle.held z)
    (sym written_back) before

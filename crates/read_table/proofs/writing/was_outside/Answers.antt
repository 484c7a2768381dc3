use Rattle.bpf_model.proofs.Prelude.{rules, ◌≡◌, ◌≢◌, ◌+◌, ◌<◌, ◌∷◌, [], refl, sym, ◌∙◌, subst, inl, ⊎_elim, arith}
use Rattle.read_table.proofs.Prelude.{Went}
use Rattle.read_table.specs.declared.view.TableShape.{TableShape}
use Rattle.read_table.specs.declared.view.Move.TheVariants.{Scan}
use Rattle.read_table.proofs.Going.{went_none}
use Rattle.read_table.proofs.Seen.{note_read, true-false}
use Rattle.read_table.proofs.writing.was_outside.Goals as goal

pub returns-then-index-clause-steps : goal.returns-then-index-clause-steps
returns-then-index-clause-steps c =
    let r = c.requires.seen in
    let shape = c.requires.table.1 in
    let low : c.args.slot < c.args.seat.now.me.0.shape.slots = subst (λ (k : TableShape). c.args.slot < k.slots) (sym shape) c.requires.slot in
    let in_readers : c.args.reader < c.args.seat.now.me.0.shape.readers =
    subst (λ (k : TableShape). c.args.reader < k.readers) (sym shape) c.requires.reader in
    let few = r.few in
    let few-slots = r.slots in
    let is = note_read c.args.seen.now.items c.args.slot c.args.reader c.index.result.now c.index.ensures
    (omega (arith, low, few-slots)) (omega (arith, in_readers, few)) r.room in
    ([], went_none c.args.seat.now.me.0 c.requires.known, tt, (r.right c.args.slot c.args.reader low in_readers).0 (sym is ∙ c.if-index.true))

pub returns-then-scan-ne0-clause-steps : goal.returns-then-scan-ne0-clause-steps
returns-then-scan-ne0-clause-steps c =
    let r = c.requires.seen in
    let shape = c.requires.table.1 in
    let low : c.args.slot < c.args.seat.now.me.0.shape.slots = subst (λ (k : TableShape). c.args.slot < k.slots) (sym shape) c.requires.slot in
    let in_readers : c.args.reader < c.args.seat.now.me.0.shape.readers =
    subst (λ (k : TableShape). c.args.reader < k.readers) (sym shape) c.requires.reader in
    let few = r.few in
    let few-slots = r.slots in
    let is = note_read c.args.seen.now.items c.args.slot c.args.reader c.index.result.now c.index.ensures
    (omega (arith, low, few-slots)) (omega (arith, in_readers, few)) r.room in
    let ne : c.scan.result ≢ 0 = search rules in (
      Scan (c.args.reader + 1) c.scan.result ∷ [],
      c.scan.ensures.step,
      (omega arith, omega arith, tt),
      (
        inl (refl, ne),
        λ cleared. ⊎_elim (λ (z : (c.args.reader + 1 ≡ c.args.reader + 1) × (c.scan.result ≡ 0)). absurd (ne z.1))
            (λ z. absurd (true-false c.index.result.now (is ∙ (r.right c.args.slot c.args.reader low in_readers).1 z) c.if-index.false)) cleared,
      ),
    )

pub returns-clause-steps : goal.returns-clause-steps
returns-clause-steps c =
    let none : c.scan.result ≡ 0 = search rules in (
      Scan (c.args.reader + 1) 0 ∷ [],
      subst (λ z. Went c.args.seat.now.me.0 (Scan (c.args.reader + 1) z ∷ c.args.seat.now.me.0.mine) c.scan.new.seat.me.0) none c.scan.ensures.step,
      (omega arith, omega arith, tt),
      inl (refl, refl),
    )

-- Each step keeps the counters' rule.
use Rattle.bpf_model.proofs.Prelude.{◌≡◌, ◌≢◌, ℕ, zero, suc, ◌≤◌, List, [], ◌∷◌, true, false, true≢false, set, refl, sym, ◌∙◌, subst, ⊎_elim, slice_index}
use Rattle.bpf_model.proofs.Prelude.{some, some-injective, some-ne-none}
use Rattle.std.proofs.Common.{le_refl, le_trans}
use lib.ListN.{get_elem?}
use Rattle.crossbeam_utils.specs.Register.{Turns, Forks}
use Rattle.atomic_table.proofs.Lists.{at_set, at_snoc, set_again}
use Rattle.shared.specs.declared.meter.MeterView.{MeterView}
use Rattle.shared_books.specs.declared.tally.Totals.{Totals}
use Rattle.shared_books.specs.Books.{TotalsRise}
use Rattle.shared.specs.Meter.{IsKnownOf, FitsMeter, IsMetered, meter_writer, writer_at, meter_reader, HasWrittenMeter, HasReadMeter}

pub begins : IsMetered (0 ∷ 0 ∷ 0 ∷ []) (meter_writer 0 0 0 ∷ [])
begins = record { writer = 0; each = one }
  where
    one : (by : ℕ) (v : MeterView) → get_elem? (meter_writer 0 0 0 ∷ []) by ≡ some v → FitsMeter 0 (0 ∷ 0 ∷ 0 ∷ []) by v
    one zero v e = subst (FitsMeter 0 (0 ∷ 0 ∷ 0 ∷ []) 0) (some-injective _ _ e)
        record {
          known = record { steps = le_refl 0; unlinked = le_refl 0; reclaimed = le_refl 0 };
          own = λ _. refl;
          same = λ _. refl;
        }
    one (suc by) v e = absurd (some-ne-none v (sym e))

-- the writer writes words that are no less
pub writes : (by a b c x y z : ℕ) → a ≤ x → b ≤ y → c ≤ z → Turns IsMetered by (meter_writer a b c) (λ _. x ∷ y ∷ z ∷ []) HasWrittenMeter
writes by a b c x y z p q r words views h at =
    let mine = h.each by (meter_writer a b c) at in
    let new : List ℕ = x ∷ y ∷ z ∷ [] in
    let same : words ≡ a ∷ b ∷ c ∷ [] = mine.same refl in (
      meter_writer x y z,
      record {
        writer = h.writer;
        each = λ j u e. ⊎_elim
            (λ (t : (j ≡ by) × (meter_writer x y z ≡ u)).
            subst (λ (k : ℕ × MeterView). FitsMeter h.writer new k.0 k.1) (λ i. (sym t.0 i, t.1 i))
            record {
              known = record { steps = le_refl x; unlinked = le_refl y; reclaimed = le_refl z };
              own = λ _.
                  mine.own refl;
              same = λ _. refl;
            })
            (λ (t : (j ≢ by) × (get_elem? views j ≡ some u)). let f = h.each j u t.1 in let g = subst (IsKnownOf u) same f.known in record {
              known = record { steps = le_trans g.steps p; unlinked = le_trans g.unlinked q; reclaimed = le_trans g.reclaimed r };
              own = f.own;
              same = λ k. absurd (t.0 (f.own k ∙ sym (mine.own refl)));
            })
            (at_set views by j (meter_writer x y z) u e);
      },
      refl,
    )

-- a reader reads
pub reads : (by : ℕ) (v : MeterView) → v.writes ≡ false → Turns IsMetered by v (λ x. x) HasReadMeter
reads by v not words views h at =
    let mine = h.each by v at in
    let w : MeterView = record { writes = v.writes; steps = slice_index words 0; unlinked = slice_index words 1; reclaimed = slice_index words 2 } in
    let off : v.writes ≡ true → ⊥ = λ k. true≢false (sym k ∙ not) in (
      w,
      record {
        writer = h.writer;
        each = λ j u e. ⊎_elim
            (λ (t : (j ≡ by) × (w ≡ u)). subst (λ (k : ℕ × MeterView). FitsMeter h.writer words k.0 k.1)
            (λ i. (sym t.0 i, t.1 i)) record {
              known =
                  record { steps = le_refl _; unlinked = le_refl _; reclaimed = le_refl _ };
              own = λ k. absurd (off k);
              same = λ k. absurd (off k);
            })
            (λ (t : (j ≢ by) × (get_elem? views j ≡ some u)). h.each j u t.1)
            (at_set views by j w u e);
      },
      (refl, mine.known),
    )

-- the writer makes a reader
pub forks : (by : ℕ) (v : MeterView) → Forks IsMetered by v v (meter_reader v)
forks by v words views h at =
    let mine = h.each by v at in record {
      writer = h.writer;
      each = λ j u e. ⊎_elim
          (λ was. h.each j u (subst (λ l. get_elem? l j ≡ some u) (set_again views by v at) was))
          (λ (same : meter_reader v ≡ u). subst (FitsMeter h.writer words j) same
          record {
            known = record {
              steps = mine.known.steps;
              unlinked = mine.known.unlinked;
              reclaimed =
                  mine.known.reclaimed;
            };
            own = λ k. absurd (true≢false (sym k));
            same = λ k.
                absurd (true≢false (sym k));
          })
          (at_snoc (set views by v) (meter_reader v) u j e);
    }

-- a writer whose view is known by an equation may write totals that are no less
pub writes_totals : (by : ℕ) (v : MeterView) (old new : Totals) → v ≡ writer_at old → TotalsRise old new →
    Turns IsMetered by v (λ _. new.steps ∷ new.unlinked ∷ new.reclaimed ∷ []) HasWrittenMeter
writes_totals by v old new is rise =
    subst (λ (k : MeterView). Turns IsMetered by k (λ _. new.steps ∷ new.unlinked ∷ new.reclaimed ∷ [])
    HasWrittenMeter) (sym is) (writes by old.steps old.unlinked old.reclaimed new.steps new.unlinked new.reclaimed
    rise.steps rise.unlinked rise.reclaimed)

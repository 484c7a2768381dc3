-- A plan that is kept instruction by instruction is closed.
use Rattle.bpf_model.proofs.Prelude.{◌≡◌, ℕ, suc, ◌+◌, ◌^◌, List, Option, Some, None, ℤ, inl, inr, refl, sym, ap, subst, ◌∙◌, arith, if◌then◌else◌, ◌==◌}
use Rattle.bpf_model.proofs.Prelude.{slice_get, pos, ◌+ℤ◌, unwrap_or, same_Some, ints, slot_count, distance, StartsAt, LeadsTo, starts-next, start-entry}
use Rattle.bpf_model.proofs.Prelude.{start-insn, State, entry, put, insn_at, Section, Store, Run, InsnStep, both, and_self, AllBytes}
use Rattle.model_laws.proofs.Prelude.{FRAME_BYTES, Insn, MapShape, Answer, Nothing, Pointer, Ctx, Frame, Unwritten}
use Rattle.plan_laws.proofs.Prelude.{Blank, CtxAt, FrameAt, AbsState, Scene, scene_of, HasOffset, IsContextAt, IsOf, IsOfCell, AreNear, Describes, Plan}
use Rattle.plan_laws.proofs.Prelude.{Surrounds, JumpsToSlot, Leads, Transfers, IsPlanned, IsPlannedAfter, IsClosed, origin, number_zero, Wider, AreAlike}
use Rattle.plan_laws.proofs.Prelude.{Joins, entry_state, Covers, IsCovered, IsPlanKept}
use Rattle.scalar_domain.proofs.Prelude.{Holds, le_self}
use Rattle.plan_laws.proofs.Sets.{choice-of, near-set, widened}

pub join_left : (pair : ℕ → ℕ × ℕ) (a b c : AbsState) → Joins pair a b c → Wider a c
join_left pair a b c j s m d = widened (λ id. (pair id).0) a c s m j.left d

pub join_right : (pair : ℕ → ℕ × ℕ) (a b c : AbsState) → Joins pair a b c → Wider b c
join_right pair a b c j s m d = widened (λ id. (pair id).1) b c s m j.right d

pub alike_wider : (a b : AbsState) → AreAlike a b → Wider a b
alike_wider a b e c m d = record {
  naming = d.naming;
  stored = d.stored;
  depth = d.depth ∙ sym e.depth;
  near = d.near;
  regs = λ r. subst (λ k. IsOf c d.naming k (m.regs r)) (sym (e.regs r)) (d.regs r);
  cells = λ k. subst (λ x. IsOfCell c d.naming d.stored k x (m.frame k)) (sym (e.cells k)) (d.cells k);
}

led-wider : (i : Insn) (new other : AbsState) (taken also : Option AbsState) (place : ℕ) (s : Store) (run : Run) →
    Wider new other → Wider (unwrap_or taken new) (unwrap_or also other) → Leads i new taken place s run →
    Leads i other also place s run
led-wider i new other taken also place s run w v l going = elim (l going) [
  | inl x ↦ inl (x.0, x.1, w (scene_of s run) run.state x.2)
  | inr x ↦ inr (x.0, v (scene_of s run) run.state x.1)
]

-- a wider state before asks more, a wider one after promises less
pub transfers_wider : (i : Insn) (shapes : List MapShape) (ctx_len : ℕ) (old before new other : AbsState)
    (taken also : Option AbsState) → Wider old before → Wider new other →
    Wider (unwrap_or taken new) (unwrap_or also other) →
    Transfers i shapes ctx_len before new taken → Transfers i shapes ctx_len old other also
transfers_wider i shapes ctx_len old before new other taken also u w v t = record {
  goes = λ s opened run x target d. t.goes s opened run x target (u (scene_of s run) run.state d);
  leads = λ s opened run answer new_store new_run x target d h.
      let l = t.leads s opened run answer new_store new_run x target (u (scene_of s run) run.state d) h in
      (l.0, led-wider i new other taken also run.state.place new_store new_run w v l.1);
}

-- what is known after it, said by an alike state
pub to_alike : (i : Insn) (shapes : List MapShape) (ctx_len : ℕ) (a b c : AbsState) → AreAlike b c →
    Transfers i shapes ctx_len a b None → Transfers i shapes ctx_len a c None
to_alike i shapes ctx_len a b c e t = transfers_wider i shapes ctx_len a a b c None None (λ s m d. d) (alike_wider b c e) (alike_wider b c e) t

entry-near : AreNear entry.regs entry.frame
entry-near = near-set 1 (Pointer (Ctx (pos 0))) (put 10 (Pointer (Frame (pos FRAME_BYTES))) (λ r. Nothing)) (λ k. Unwritten) (omega arith)
    (near-set 10 (Pointer (Frame (pos FRAME_BYTES))) (λ r. Nothing) (λ k. Unwritten) (omega arith) (record { regs_near = λ r. tt; cells_near = λ k. tt }))

-- the offset 0 is the one of the scalar
pub origin_has : HasOffset origin (pos 0)
origin_has = record {
  raised = 2 ^ 29;
  is = refl;
  limit = omega arith;
  holds =
      record {
        least = le_self (2 ^ 29);
        greatest = le_self (2 ^ 29);
        zeros = and_self (2 ^ 29);
        ones =
            and_self (2 ^ 29);
      };
}

-- the number 0 is the one of the scalar
pub zero_holds : Holds number_zero 0
zero_holds = record { least = le_self 0; greatest = le_self 0; zeros = and_self 0; ones = and_self 0 }

context-start : IsContextAt origin (Pointer (Ctx (pos 0)))
context-start = record { offset = pos 0; is = refl; there = origin_has }

pub entry_described : (c : Scene) → c.depth ≡ 0 → Describes entry_state c entry
entry_described c out = record {
  naming = λ id. None;
  stored = λ k. Nothing;
  depth = out;
  near = entry-near;
  regs = λ r. choice-of c (λ id. None) (r == 1) (CtxAt origin) (if r == 10 then FrameAt (pos FRAME_BYTES) else Blank)
      (Pointer (Ctx (pos 0))) (if r == 10 then Pointer (Frame (pos FRAME_BYTES)) else Nothing) context-start
      (choice-of c (λ id. None) (r == 10) (FrameAt (pos FRAME_BYTES)) Blank (Pointer (Frame (pos FRAME_BYTES))) Nothing refl tt);
  cells = λ k. tt;
}

planned-at : (code : List Insn) (plan : Plan) (k : ℕ) (a : AbsState) (c : Scene) (m : State) → StartsAt code k m.place
    → Covers plan k a → Describes a c m → IsPlanned code plan k c m
planned-at code plan k a c m at v d = record { at = at; known = v.0; planned = v.1; describes = v.2 c m d }

module _ (code : List Insn) (shapes : List MapShape) (ctx_len : ℕ) (plan : Plan) (kept : IsPlanKept code shapes ctx_len plan) where
  -- where control falls through, and where it jumps
  fallen : (k place : ℕ) (i : Insn) (new : AbsState) → slice_get code k ≡ Some i → StartsAt code k place →
      Covers plan (suc k) new → StartsAt code (suc k) (place + slot_count i)
  fallen k place i new there at v = starts-next 0 code k place i there at (kept.inside (suc k) v.0 v.1)

  -- the target of a jump is as far as its distance says
  jump-sum : (k place t : ℕ) (i : Insn) (by : ℤ) → StartsAt code k place → distance i ≡ Some by → (l : LeadsTo code k i t) → pos l.to ≡ pos (place + 1) +ℤ by
  jump-sum k place t i by at far l =
      let e : place ≡ l.from = both _ place l.from at l.from_is in
      let d : by ≡ l.by = same_Some by l.by (sym far ∙ l.by_is) in
      l.sum ∙ (ap (λ p. pos (p + 1) +ℤ l.by) (sym e) ∙ ap (λ d. pos (place + 1) +ℤ d) (sym d))

  jumped : (k place target t : ℕ) (i : Insn) (by : ℤ) → StartsAt code k place → distance i ≡ Some by →
      pos target ≡ pos (place + 1) +ℤ by → LeadsTo code k i t → StartsAt code t target
  jumped k place target t i by at far sum l =
      let f : pos l.to ≡ pos target = jump-sum k place t i by at far l ∙ sym sum in
      let g : l.to ≡ target = omega (arith, ints) in
      subst (StartsAt code t) g l.to_is

  -- where a covered instruction jumps, its target is not before slot 0
  has-target : (k place : ℕ) (a : AbsState) (v : IsCovered code shapes ctx_len plan k a) → StartsAt code k place → JumpsToSlot v.insn place
  has-target k place a v at by far = let t = v.jumps_on by far in (t.1.to, jump-sum k place t.0 v.insn by at far t.1)

  led : (k place : ℕ) (a : AbsState) (v : IsCovered code shapes ctx_len plan k a) (s : Store) (run : Run) →
      StartsAt code k place → Leads v.insn v.new v.taken place s run → run.exit ≡ None →
      IsPlannedAfter code plan k (scene_of s run) run.state
  led k place a v s run at l going = elim (l going) [
    | inl x ↦
        let c = v.falls_on x.0 in record {
          index = suc k;
          further = omega arith;
          planned = planned-at code plan (suc k) v.new (scene_of s run) run.state
              (subst (StartsAt code (suc k)) (sym x.1) (fallen k place v.insn v.new v.there at c)) c x.2;
        }
    | inr x ↦
        let t = v.jumps_on x.0.0 x.0.1 in record {
          index = t.0;
          further = t.1.further;
          planned = planned-at code plan t.0 (unwrap_or v.taken v.new) (scene_of s run) run.state
              (jumped k place run.state.place t.0 v.insn x.0.0 at x.0.1 x.0.2 t.1) t.2 x.1;
        }
  ]

  leads : (k : ℕ) (i : Insn) (s : Store) (opened : List Section) (run : Run) (answer : Answer) (new_store : Store)
      (new_run : Run) → Surrounds shapes ctx_len s opened run →
      IsPlanned code plan k (scene_of s run) run.state → insn_at code run.state.place ≡ Some i → InsnStep i s opened run answer new_store new_run →
      AllBytes new_store.elements × (new_run.exit ≡ None → IsPlannedAfter code plan k (scene_of new_store new_run) new_run.state)
  leads k i s opened run answer new_store new_run w p at h =
      let v = kept.each k p.known p.planned in
      let same : i ≡ v.insn = same_Some i v.insn (sym at ∙ start-insn code k run.state.place v.insn v.there p.at) in
      let x = v.transfers.leads s opened run answer new_store new_run w (has-target k run.state.place p.known v p.at)
      p.describes (subst (λ j. InsnStep j s opened run answer new_store new_run) same h) in
      (x.0, λ going. led k run.state.place p.known v new_store new_run p.at x.1 going)

  pub kept_is_closed : IsClosed code shapes ctx_len plan
  kept_is_closed = record {
    start = λ c out. planned-at code plan 0 entry_state c entry (start-entry code (kept.inside 0 kept.start.0 kept.start.1)) kept.start (entry_described c out);
    goes = λ k s opened run w p.
        let v = kept.each k p.known p.planned in (
          v.insn,
          start-insn code k run.state.place v.insn v.there p.at,
          v.transfers.goes s opened run w (has-target k run.state.place p.known v p.at) p.describes,
        );
    leads = leads;
  }

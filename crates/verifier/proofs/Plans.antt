-- The second pass keeps a plan that each step keeps.
use Rattle.bpf_model.proofs.Prelude.{◌≡◌, ◌≢◌, ℕ, zero, suc, ◌+◌, ◌<◌, ◌≤◌, refl, sym, ◌∙◌, ap, subst, arith, inl, inr, true, false, cond, List, [], ◌∷◌}
use Rattle.bpf_model.proofs.Prelude.{◌++◌, length, slice_get, Option, Some, None, ltb, unwrap_or, option_map, IsSome, ℤ, ◌⊎◌, cases_lt, cases_eq, le-ltb}
use Rattle.bpf_model.proofs.Prelude.{lt-ltb, get_or_past, slice_get_within, same_Some, falls, distance, EndsWithExit, starts_apart, start_of-insn, start-insn}
use Rattle.bpf_model.proofs.Prelude.{start-entry, LeadsTo, StartsAt, get-append_cases, get-below}
use Rattle.effects.proofs.Prelude.{AbsState, MayLookUp}
use Rattle.model_laws.proofs.Prelude.{Insn, Exit, MapShape}
use Rattle.plan_laws.proofs.Prelude.{Describes, Plan, Covers, entry_state}
use Rattle.register_kinds.proofs.Prelude.{state_of}
use Rattle.verifier.proofs.Prelude.{HasGoodGraph, Follows, HasTargets, IsTarget, Awaited, Table, size_of, awaited, state_in, planned, Leads, Fell, Jumped}
use Rattle.verifier.proofs.Prelude.{Advances, Notes, Passed, IsPassed, DiffersAhead, HasWaiting, StartsFrom}
use Rattle.verifier.proofs.Marking.{edge_into, reached_by, target_within}
use Rattle.plan_laws.specs.Kinds as model
use Rattle.plan_laws.specs.Planned as plans
use Rattle.plan_laws.proofs.Planning.{alike_wider}
use Rattle.effects.specs.declared.region.Region.{Region}
use Rattle.verifier.specs.declared.waiting.Waiting.{Waiting}
use Rattle.verifier.specs.declared.waiting.Waiting.TheVariants.{Nothing, Differing}
use Rattle.verifier.specs.SecondPass.{Spreads}
use Rattle.verifier.proofs.Merging.{Later, same_later, Stays, AllStay, same_stay, merged_there, merged_later, merged_or}

-- an instruction that falls through isn't the last
exit_last : (program front : List Insn) (k : ℕ) (i : Insn) → program ≡ front ++ Exit ∷ [] →
    slice_get program k ≡ Some i → falls i ≡ true → suc k < length program
exit_last program front k i e f g = subst (λ p. suc k < length p) (sym e) (at front k (ap (λ p. slice_get p k) (sym e) ∙ f))
  where
    at : (front : List Insn) (k : ℕ) → slice_get (front ++ Exit ∷ []) k ≡ Some i → suc k < length (front ++ Exit ∷ [])
    at [] zero h = absurd (let same : Exit ≡ i = same_Some _ _ h in let t : false ≡ true = ap falls same ∙ g in cc)
    at [] (suc k) h = absurd (cc)
    at (j ∷ front) zero h = some front
      where
        some : (front : List Insn) → 1 < length (j ∷ front ++ Exit ∷ [])
        some [] = omega arith
        some (m ∷ front) = omega arith
    at (j ∷ front) (suc k) h = let r = at front k h in omega arith

pub falls_inside : (program : List Insn) (k : ℕ) (i : Insn) → EndsWithExit program → slice_get program k ≡ Some i → falls i ≡ true → suc k < length program
falls_inside program k i last e f = exit_last program last.0 k i last.1 e f

-- a jump leads further on
pub jumps_further : (program : List Insn) (targets : List (Option ℕ)) (long : length targets ≡ length program)
    (all : HasTargets program targets) (k : ℕ) (target : Option ℕ) → slice_get targets k ≡ Some target → (t : ℕ) →
    target ≡ Some t → k < t
jumps_further program targets long all k target e t f =
    let i = get-below program k (let h = slice_get_within targets k target e in omega (arith, h, long)) in
    let l : LeadsTo program k i.0 t = subst (IsTarget program k i.0) f (all.each k i.0 target i.1 e) in
    l.further

some_unwrapped : {A : Type 0} (o : Option A) (d : A) → IsSome o → o ≡ Some (unwrap_or o d)
some_unwrapped None d h = absurd (let e : false ≡ true = h in cc)
some_unwrapped (Some x) d h = refl

unwrapped_state : (o : Option AbsState) (d : AbsState) → state_of (unwrap_or o d) ≡ unwrap_or (option_map state_of o) (state_of d)
unwrapped_state None d = refl
unwrapped_state (Some x) d = refl

-- the state behind a plan's
planned_state : (w : Waiting) (b : model.AbsState) → option_map state_of (state_in w) ≡ Some b → (a : AbsState) × (state_in w ≡ Some a) × (state_of a ≡ b)
planned_state w b e = go (state_in w) refl
  where
    go : (o : Option AbsState) → state_in w ≡ o → (a : AbsState) × (state_in w ≡ Some a) × (state_of a ≡ b)
    go None f = absurd (let g : None ≡ Some b = sym (ap (option_map state_of) f) ∙ e in cc)
    go (Some a) f = (a, f, same_Some _ _ (sym (ap (option_map state_of) f) ∙ e))

-- What falls through: something waits behind, and all waits on.
module _ (next : AbsState) (i : Insn) (k : ℕ) (mid new : Awaited) where
  fell_later : Fell i k next mid new → Later mid new
  fell_later (inl f) = merged_later (suc k) next mid new f.1
  fell_later (inr f) = same_later mid new f.1

  fell_there : Fell i k next mid new → falls i ≡ true → new (suc k) ≢ Nothing
  fell_there (inl f) t = merged_there (suc k) next mid new f.1
  fell_there (inr f) t = absurd (let e : false ≡ true = sym f.0 ∙ t in cc)

  fell_or : Fell i k next mid new → ((falls i ≡ true) × (new (suc k) ≡ Differing)) ⊎ (AllStay mid new × (falls i ≡ true → Stays new (suc k) next))
  fell_or (inl f) = elim (merged_or (suc k) next mid new f.1) [ inl h ↦ inl (f.0, h) | inr h ↦ inr (h.0, λ t. h.1) ]
  fell_or (inr f) = inr (same_stay mid new f.1, λ t. absurd (let e : false ≡ true = sym f.0 ∙ t in cc))

jumping_is : (i : Insn) (next : AbsState) (taken jumping : Option AbsState) → Leads i next taken jumping → (falls i ≡ true → IsSome taken)
    → jumping ≡ Some (unwrap_or taken next)
jumping_is i next taken jumping (inl f) both = f.1 ∙ some_unwrapped taken next (both f.0)
jumping_is i next taken jumping (inr f) both = f.1

module _ (target : Option ℕ) (jumping : Option AbsState) (old mid : Awaited) where
  jumped_later : Jumped target jumping old mid → Later old mid
  jumped_later (inl f) = merged_later f.0 f.1 old mid f.4
  jumped_later (inr f) = same_later old mid f.1

  jumped_there : Jumped target jumping old mid → (t : ℕ) (s : AbsState) → target ≡ Some t → jumping ≡ Some s → mid t ≢ Nothing
  jumped_there (inl f) t s e g = λ h. merged_there f.0 f.1 old mid f.4 (ap mid (same_Some _ _ (sym f.2 ∙ e)) ∙ h)
  jumped_there (inr (inl f, h)) t s e g = absurd (let x : None ≡ Some t = sym f ∙ e in cc)
  jumped_there (inr (inr f, h)) t s e g = absurd (let x : None ≡ Some s = sym f ∙ g in cc)

  jumped_or : Jumped target jumping old mid → ((t : ℕ) × (target ≡ Some t) × (mid t ≡ Differing))
      ⊎ (AllStay old mid × ((t : ℕ) (s : AbsState) → target ≡ Some t → jumping ≡ Some s → Stays mid t s))
  jumped_or (inl f) = elim (merged_or f.0 f.1 old mid f.4) [
    | inl h ↦ inl (f.0, f.2, h)
    | inr h ↦ inr (h.0, λ t s e g. subst (λ t. Stays mid t s) (same_Some _ _ (sym f.2 ∙ e)) (subst (Stays mid f.0) (same_Some _ _ (sym f.3 ∙ g)) h.1))
  ]
  jumped_or (inr (inl f, h)) = inr (same_stay old mid h, λ t s e g. absurd (let x : None ≡ Some t = sym f ∙ e in cc))
  jumped_or (inr (inr f, h)) = inr (same_stay old mid h, λ t s e g. absurd (let x : None ≡ Some s = sym f ∙ g in cc))

module _ (program : List Insn) (targets : List (Option ℕ)) (all : HasTargets program targets) (last : EndsWithExit program)
    (k : ℕ) (shapes : List MapShape) (ctx_len : ℕ) (region : Region) (old new : Awaited) (done : Advances program targets k shapes ctx_len region old new) where
  abbrev pub spread : Spreads done.insn done.target k shapes ctx_len done.state region done.rest new
  spread = done.spreads

  is_target : IsTarget program k done.insn done.target
  is_target = all.each k done.insn done.target done.insn_is done.target_is

  leads_to : (t : ℕ) → done.target ≡ Some t → LeadsTo program k done.insn t
  leads_to t e = subst (IsTarget program k done.insn) e is_target

  -- an instruction with a target is a jump
  has_distance : (t : ℕ) → done.target ≡ Some t → distance done.insn ≢ None
  has_distance t e f = (let g : Some (leads_to t e).by ≡ None = sym (leads_to t e).by_is ∙ f in cc)

  -- a jump has a target
  has_target : (d : ℤ) → distance done.insn ≡ Some d → (t : ℕ) × (done.target ≡ Some t)
  has_target d e = go done.target refl
    where
      go : (o : Option ℕ) → done.target ≡ o → (t : ℕ) × (done.target ≡ Some t)
      go None f =
          let none : distance done.insn ≡ None = subst (IsTarget program k done.insn) f is_target in
          absurd (let g : None ≡ Some d = sym none ∙ e in cc)
      go (Some t) f = (t, f)

  jumping_state : (t : ℕ) → done.target ≡ Some t → spread.jumping ≡ Some (unwrap_or spread.taken spread.next)
  jumping_state t e = jumping_is done.insn spread.next spread.taken spread.jumping spread.leads
      (λ f. spread.transfer.branches (f, has_distance t e))

  later : Later done.rest new
  later =
      let a = jumped_later done.target spread.jumping done.rest spread.mid spread.jumped in
      let b = fell_later spread.next done.insn k spread.mid new spread.fell in
      record { waits = λ m n. b.waits m (a.waits m n); differs = λ m e. b.differs m (a.differs m e) }

  -- All states wait on, also the two that come.
  pub record Steps : Type 0 where
    pub stays : (m : ℕ) (a : AbsState) → k < m → state_in (old m) ≡ Some a → Stays new m a
    pub falls_on : falls done.insn ≡ true → Stays new (suc k) spread.next
    pub jumps_on : (t : ℕ) → done.target ≡ Some t → Stays new t (unwrap_or spread.taken spread.next)

  along : (m : ℕ) (a : AbsState) → Stays spread.mid m a → AllStay spread.mid new → Stays new m a
  along m a s stay = let r = stay m s.0 s.1 in (r.0, r.1, λ c x d. r.2 c x (s.2 c x d))

  -- the sections of two states differ, or all is well
  pub steps_or : DiffersAhead (length program) (k + 1) new ⊎ Steps
  steps_or = elim (jumped_or done.target spread.jumping done.rest spread.mid spread.jumped) [
    | inl j ↦ inl (record {
      index = j.0;
      ahead = (let h : k < j.0 = (leads_to j.0 j.1).further in omega (arith, h));
      inside = target_within program k done.insn j.0 (leads_to j.0 j.1);
      differs = (fell_later spread.next done.insn k spread.mid new spread.fell).differs j.0 j.2;
    })
    | inr j ↦ elim (fell_or spread.next done.insn k spread.mid new spread.fell) [
      | inl f ↦ inl (record {
        index = suc k;
        ahead = omega arith;
        inside = falls_inside program k done.insn last done.insn_is f.0;
        differs = f.1;
      })
      | inr f ↦ inr (record {
        stays = λ m a h e. (let r = j.0 m a (ap state_in (done.others m (let n : m ≢ k = omega arith in n)) ∙ e) in along m a r f.0);
        falls_on = f.1;
        jumps_on = λ t e. along t (unwrap_or spread.taken spread.next) (j.1 t (unwrap_or spread.taken spread.next) e (jumping_state t e)) f.0;
      })
    ]
  ]

  -- states that differ go on to differ
  pub differs_on : DiffersAhead (length program) k old → DiffersAhead (length program) (k + 1) new
  differs_on d =
      let other : d.index ≢ k = (λ e. (let g : None ≡ Some done.state = sym (ap state_in (ap old (sym e) ∙ d.differs)) ∙ done.waited in cc)) in
      record {
        index = d.index;
        ahead = (let h = d.ahead in omega arith);
        inside = d.inside;
        differs =
            later.differs d.index (done.others d.index other ∙ d.differs);
      }

  -- the plan so far up to the instruction, and what waits behind it
  abbrev spliced : Plan → Plan
  spliced plan m = cond (ltb k m) (planned new m) (plan m)

  spliced_upto : (plan : Plan) (m : ℕ) → m ≤ k → spliced plan m ≡ plan m
  spliced_upto plan m h = ap (λ t. cond t (planned new m) (plan m)) (le-ltb k m h)

  spliced_after : (plan : Plan) (m : ℕ) → k < m → spliced plan m ≡ planned new m
  spliced_after plan m h = ap (λ t. cond t (planned new m) (plan m)) (lt-ltb k m h)

  module _ (regions : List Region) (plan : Plan) (before : Passed program regions shapes ctx_len k plan old) (count : length regions ≡ k) (steps : Steps) where
    covers_waiting : (m : ℕ) (a : AbsState) → k < m → Stays new m a → Covers (spliced plan) m (state_of a)
    covers_waiting m a h s = (state_of s.0, spliced_after plan m h ∙ ap (option_map state_of) s.1, s.2)

    covers_keep : (m : ℕ) (a : model.AbsState) → Covers plan m a → Covers (spliced plan) m a
    covers_keep m a c = elim (cases_lt k m) [
      | inl h ↦
          let w = planned_state (old m) c.0 (sym (before.rest m (omega arith)) ∙ c.1) in
          let s = covers_waiting m w.0 h (steps.stays m w.0 h w.1) in
          (s.0, s.1, λ x y d. s.2 x y (subst (λ b. Describes b x y) (sym w.2) (c.2 x y d)))
      | inr h ↦ (c.0, spliced_upto plan m h ∙ c.1, c.2)
    ]

    covered_keep : (j : ℕ) (a : model.AbsState) → plans.IsCovered program shapes ctx_len plan j a → plans.IsCovered program shapes ctx_len (spliced plan) j a
    covered_keep j a c = record {
      insn = c.insn;
      there = c.there;
      new = c.new;
      taken = c.taken;
      transfers = c.transfers;
      falls_on = λ f. covers_keep (suc j) c.new (c.falls_on f);
      jumps_on = λ by e. (let l = c.jumps_on by e in (l.0, l.1, covers_keep l.0 (unwrap_or c.taken c.new) l.2));
    }

    back : (j : ℕ) (a : model.AbsState) → j ≤ k → spliced plan j ≡ Some a → plan j ≡ Some a
    back j a h e = sym (spliced_upto plan j h) ∙ e

    notes_keep : (j : ℕ) (i : Insn) (r : Region) → j < k → Notes program shapes ctx_len plan j i r → Notes program shapes ctx_len (spliced plan) j i r
    notes_keep j i r h n = record {
      covered = λ a e. covered_keep j a (n.covered a (back j a (omega arith) e));
      reaches = λ a b c m e. n.reaches a b c m (back j a (omega arith) e);
      compares = λ a q c m e. n.compares a q c m (back j a (omega arith) e);
      looks_up = λ a e. n.looks_up a (back j a (omega arith) e);
    }

    known_here : (a : model.AbsState) → spliced plan k ≡ Some a → state_of done.state ≡ a
    known_here a e = same_Some _ _ (sym (ap (option_map state_of) done.waited) ∙ sym (before.rest k (omega arith)) ∙ back k a (omega arith) e)

    jumps_here : (by : ℤ) → distance done.insn ≡ Some by → (t : ℕ) × LeadsTo program k done.insn t ×
        Covers (spliced plan) t (unwrap_or (option_map state_of spread.taken) (state_of spread.next))
    jumps_here by e =
        let t = has_target by e in
        let l = leads_to t.0 t.1 in (
          t.0,
          l,
          subst (Covers (spliced plan) t.0) (unwrapped_state spread.taken spread.next)
              (covers_waiting t.0 (unwrap_or spread.taken spread.next) l.further (steps.jumps_on t.0 t.1)),
        )

    covered_here : plans.IsCovered program shapes ctx_len (spliced plan) k (state_of done.state)
    covered_here = record {
      insn = done.insn;
      there = done.insn_is;
      new = state_of spread.next;
      taken = option_map state_of spread.taken;
      transfers = spread.transfer.sound;
      falls_on = λ f. covers_waiting (suc k) spread.next (omega arith) (steps.falls_on f);
      jumps_on = jumps_here;
    }

    notes_here : Notes program shapes ctx_len (spliced plan) k done.insn region
    notes_here = record {
      covered = λ a e. subst (plans.IsCovered program shapes ctx_len (spliced plan) k) (known_here a e) covered_here;
      reaches = λ a b c m e f d. spread.transfer.reaches b c m f (subst (λ a. Describes a c m) (sym (known_here a e)) d);
      compares = λ a q c m e f d. spread.transfer.compares q c m f (subst (λ a. Describes a c m) (sym (known_here a e)) d);
      looks_up = λ a e f. subst (MayLookUp shapes) (known_here a e) (spread.transfer.looks_up f);
    }

    -- the instruction of this index, where it is the one at hand
    notes_at : (j : ℕ) (i : Insn) (r : Region) → j ≡ k → slice_get program j ≡ Some i → region ≡ r → Notes program shapes ctx_len (spliced plan) j i r
    notes_at j i r e f g =
        let same : done.insn ≡ i = same_Some _ _ (sym done.insn_is ∙ ap (slice_get program) (sym e) ∙ f) in
        subst (λ j. Notes program shapes ctx_len (spliced plan) j i r) (sym e)
        (subst (λ i. Notes program shapes ctx_len (spliced plan) k i r) same (subst (Notes program shapes ctx_len (spliced plan) k done.insn) g notes_here))

    passed_here : Passed program (regions ++ region ∷ []) shapes ctx_len (k + 1) (spliced plan) new
    passed_here = record {
      start = covers_keep 0 entry_state before.start;
      rest = λ m h. spliced_after plan m (omega arith);
      each = λ j i r e f. elim (get-append_cases regions region j r f) [
        | inl h ↦ notes_keep j i r (omega (arith, slice_get_within regions j r h)) (before.each j i r e h)
        | inr h ↦ notes_at j i r (h.0 ∙ count) e h.1
      ];
    }

  -- one more instruction is done
  pub passed_more : (regions : List Region) → length regions ≡ k
      → DiffersAhead (length program) k old ⊎ ((plan : Plan) × Passed program regions shapes ctx_len k plan old)
      → DiffersAhead (length program) (k + 1) new ⊎ ((plan : Plan) × Passed program (regions ++ region ∷ []) shapes ctx_len (k + 1) plan new)
  passed_more regions count (inl d) = inl (differs_on d)
  passed_more regions count (inr p) = elim steps_or [ inl d ↦ inl d | inr s ↦ inr (spliced p.0, passed_here regions p.0 p.1 count s) ]

  -- what waits after the instruction
  pub awaits_more : HasWaiting program targets k old → HasWaiting program targets (k + 1) new
  awaits_more w = record {
    first = λ e. absurd (omega arith);
    ahead = λ j m i t h l e f follows inside. elim (cases_eq j k) [
      | inl g ↦
          let same_i : i ≡ done.insn = same_Some _ _ (sym e ∙ ap (slice_get program) g ∙ done.insn_is) in
          let same_t : t ≡ done.target = same_Some _ _ (sym f ∙ ap (slice_get targets) g ∙ done.target_is) in
          here m (subst (λ j. Follows done.insn done.target j m) g (subst (λ t. Follows done.insn t j m) same_t (subst (λ i. Follows i t j m) same_i follows)))
      | inr n ↦ later.waits m (λ x. w.ahead j m i t (omega arith) (omega arith) e f follows inside (sym (done.others m (let o : m ≢ k = omega arith in o)) ∙ x))
    ];
  }
    where
      here : (m : ℕ) → Follows done.insn done.target k m → new m ≢ Nothing
      here m (inl g) x = fell_there spread.next done.insn k spread.mid new spread.fell g.0 (ap new (sym g.1) ∙ x)
      here m (inr g) x = (fell_later spread.next done.insn k spread.mid new spread.fell).waits m
          (jumped_there done.target spread.jumping done.rest spread.mid spread.jumped m (unwrap_or spread.taken spread.next) g (jumping_state m g)) x

-- before the first instruction
pub passed_none : (program : List Insn) (shapes : List MapShape) (ctx_len : ℕ) (at : Awaited) → StartsFrom at →
    Passed program [] shapes ctx_len 0 (planned at) at
passed_none program shapes ctx_len at s = record {
  start = (state_of s.state, ap (option_map state_of) s.waits, alike_wider entry_state (state_of s.state) s.alike);
  rest = λ m h. refl;
  each = λ j i r e f. absurd (cc);
}

pub awaits_none : (program : List Insn) (targets : List (Option ℕ)) (at : Awaited) → StartsFrom at → HasWaiting program targets 0 at
awaits_none program targets at s = record {
  first = λ e f. (let g : None ≡ Some s.state = sym (ap state_in f) ∙ s.waits in cc);
  ahead = λ j m i t h. absurd (omega arith);
}

-- something waits for each instruction of a good graph
pub waits_here : (program : List Insn) (targets : List (Option ℕ)) (long : length targets ≡ length program)
    (all : HasTargets program targets) (k : ℕ) (at : Awaited)
    → HasGoodGraph program → HasWaiting program targets k at → k < length program → at k ≢ Nothing
waits_here program targets long all k at graph w h = elim (reached_by (graph.reached s.0 i.0 (start-insn program k s.0 i.0 i.1 s.1))) [
  | inl e ↦
      let k0 : k ≡ 0 = starts_apart 0 program k 0 0 (s.1 ∙ ap Some e) (start-entry program (omega arith)) in
      subst (λ m. at m ≢ Nothing) (sym k0) (w.first k0)
  | inr e ↦
      let edge = edge_into program targets long all k e.0 s.0 e.1 e.3 e.4 s.1 in
      w.ahead edge.0 k e.1 edge.1.target edge.1.before (omega arith) edge.1.insn edge.1.target_is edge.1.follows h
]
  where
    i : (i : Insn) × (slice_get program k ≡ Some i)
    i = get-below program k h

    s : (p : ℕ) × StartsAt program k p
    s = start_of-insn 0 program k i.0 i.1

-- all instructions are done
pub passed_all : (program : List Insn) (regions : List Region) (shapes : List MapShape) (ctx_len k : ℕ) (t : Table) →
    k ≡ length program → size_of t ≡ length program
    → DiffersAhead (length program) k (awaited t) ⊎ ((plan : Plan) × Passed program regions shapes ctx_len k plan (awaited t))
    → (plan : Plan) × IsPassed program regions shapes ctx_len plan
passed_all program regions shapes ctx_len k t e f (inl d) = absurd (let h = d.ahead in let l = d.inside in omega arith)
passed_all program regions shapes ctx_len k t e f (inr p) = (p.0, record { start = p.1.start; inside = inside; each = p.1.each })
  where
    inside : (m : ℕ) (a : model.AbsState) → p.0 m ≡ Some a → m < length program
    inside m a h = elim (cases_lt m (length program)) [
      | inl l ↦ l
      | inr l ↦
          let none : planned (awaited t) m ≡ None = ap (λ w. option_map state_of (state_in w)) (get_or_past t.by_index m Nothing (omega arith)) in
          absurd (let b : None ≡ Some a = sym none ∙ sym (p.1.rest m (omega arith)) ∙ h in cc)
    ]

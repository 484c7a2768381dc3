-- What a join keeps in the states that wait.
use Rattle.bpf_model.proofs.Prelude.{◌≡◌, ◌≢◌, ℕ, refl, sym, ◌∙◌, ap, subst, inl, inr, ◌⊎◌, Option, Some, None, IsSome, IfSome, option_map, cases_eq}
use Rattle.bpf_model.proofs.Prelude.{same_Some}
use Rattle.effects.proofs.Prelude.{taken_from, AbsState}
use Rattle.model_laws.proofs.Prelude.{GuardedLookup, LookupPart}
use Rattle.plan_laws.proofs.Prelude.{Wider}
use Rattle.register_kinds.proofs.Prelude.{state_of, AreBelow}
use Rattle.verifier.proofs.Prelude.{Awaited, state_in, AllBelow, AreSame, JoinsTo, Joined, Merged}
use Rattle.effects.specs.declared.forks.Taken.{Taken}
use Rattle.state_steps.specs.Facts.{Fact, FactHolds}
use Rattle.state_steps.specs.Lookups.{Expects}
use Rattle.verifier.specs.declared.waiting.Waiting.{Waiting}
use Rattle.verifier.specs.declared.waiting.Waiting.TheVariants.{Nothing, Differing}

-- the state that waits and the one that comes are both joined into the new one
pub joined_from : (w new : Waiting) (a b c : AbsState) → w ≢ Differing → state_in w ≡ Some a → state_in new ≡ Some c →
    Wider (state_of a) (state_of c) → Wider (state_of b) (state_of c)
    → ((fact : Fact) → FactHolds fact (state_of a) → FactHolds fact (state_of b) → FactHolds fact (state_of c)) →
    ((l : GuardedLookup) (p : LookupPart) → Expects l p (state_of a) → Expects l p (state_of b) →
    Expects l p (state_of c)) → Joined w b new
joined_from w new a b c n e f wide wide' facts expects = inr (
  c,
  f,
  record {
    paired = n;
    state_stays = wide';
    waiting_stays = λ d g. subst (λ d. Wider (state_of d) (state_of c)) (same_Some _ _ (sym e ∙ g)) wide;
    facts = λ fact p q. facts fact (q a e) p;
    expects = λ l p x y. expects l p (y a e) x;
  },
)

-- all that waits is below, but for one index: there too
pub merged_below : (top index : ℕ) (old new : Awaited) → AllBelow top old → ((k : ℕ) → k ≢ index → new k ≡ old k) →
    IfSome (state_in (new index)) (AreBelow top) → AllBelow top new
merged_below top index old new b others here k a e = elim (cases_eq k index) [
  | inl g ↦ at_some (state_in (new index)) (ap (λ k. state_in (new k)) (sym g) ∙ e) here
  | inr n ↦ b k a (ap state_in (sym (others k n)) ∙ e)
]
  where
    at_some : (o : Option AbsState) → o ≡ Some a → IfSome o (AreBelow top) → AreBelow top a
    at_some None f h = absurd (cc)
    at_some (Some c) f h = subst (AreBelow top) (same_Some _ _ f) h

pub one_below : (top : ℕ) (at : Awaited) (k : ℕ) → AllBelow top at → IfSome (state_in (at k)) (AreBelow top)
one_below top at k b = go (state_in (at k)) refl
  where
    go : (o : Option AbsState) → state_in (at k) ≡ o → IfSome o (AreBelow top)
    go None e = tt
    go (Some a) e = b k a e

-- where a jump is taken there is a state
pub some_state : (next : AbsState) (o : Option Taken) → IsSome o → IsSome (option_map (taken_from next) o)
some_state next None h = h
some_state next (Some b) h = refl

-- What is kept of what waits: that something does, and that sections differ.
pub record Later (old new : Awaited) : Type 0 where
  pub waits : (k : ℕ) → old k ≢ Nothing → new k ≢ Nothing
  pub differs : (k : ℕ) → old k ≡ Differing → new k ≡ Differing

pub same_later : (old new : Awaited) → AreSame old new → Later old new
same_later old new e = record { waits = λ k n f. n (sym (e k) ∙ f); differs = λ k f. e k ∙ f }

-- the state waits at the index, or a wider one does
abbrev pub Stays : Awaited → ℕ → AbsState → Type 0
Stays at k a = (b : AbsState) × (state_in (at k) ≡ Some b) × Wider (state_of a) (state_of b)

-- all states wait on
abbrev pub AllStay : Awaited → Awaited → Type 0
AllStay old new = (k : ℕ) (a : AbsState) → state_in (old k) ≡ Some a → Stays new k a

pub same_stay : (old new : Awaited) → AreSame old new → AllStay old new
same_stay old new e k a f = (a, ap state_in (e k) ∙ f, λ c m d. d)

some_waits : (w : Waiting) (a : AbsState) → state_in w ≡ Some a → w ≢ Nothing
some_waits w a e f = (let g : None ≡ Some a = sym (ap state_in f) ∙ e in cc)

module _ (index : ℕ) (state : AbsState) (old new : Awaited) (m : Merged index state old new) where
  pub merged_there : new index ≢ Nothing
  merged_there f = elim m.here [
    | inl h ↦ (let g : Nothing ≡ Differing = sym f ∙ h.0 in cc)
    | inr h ↦ some_waits (new index) h.0 h.1 f
  ]

  pub merged_later : Later old new
  merged_later = record {
    waits = λ k n f. elim (cases_eq k index) [ inl g ↦ merged_there (ap new (sym g) ∙ f) | inr o ↦ n (sym (m.others k o) ∙ f) ];
    differs = λ k f. elim (cases_eq k index) [
      | inl g ↦ elim m.here [ inl h ↦ ap new g ∙ h.0 | inr h ↦ absurd (h.2.paired (ap old (sym g) ∙ f)) ]
      | inr o ↦ m.others k o ∙ f
    ];
  }

  -- the sections differ, or all states wait on, and this one does
  pub merged_or : (new index ≡ Differing) ⊎ (AllStay old new × Stays new index state)
  merged_or = elim m.here [ inl h ↦ inl h.0 | inr h ↦ inr (stay h.0 h.1 h.2, (h.0, h.1, h.2.state_stays)) ]
    where
      stay : (joined : AbsState) → state_in (new index) ≡ Some joined → JoinsTo (old index) state joined → AllStay old new
      stay joined e j k a f = elim (cases_eq k index) [
        | inl g ↦ (joined, ap (λ k. state_in (new k)) g ∙ e, j.waiting_stays a (ap (λ k. state_in (old k)) (sym g) ∙ f))
        | inr n ↦ (a, ap state_in (m.others k n) ∙ f, λ c m d. d)
      ]

-- what is below without what was taken out
pub taken_below : (top index : ℕ) (old new : Awaited) → AllBelow top old → ((k : ℕ) → k ≢ index → new k ≡ old k) → new index ≡ Nothing → AllBelow top new
taken_below top index old new b others gone = merged_below top index old new b others (subst (λ w. IfSome (state_in w) (AreBelow top)) (sym gone) tt)

-- what waits after what waited at one index was taken out
pub taken_others : (index : ℕ) (old rest : Awaited) → rest index ≡ Nothing → ((k : ℕ) → k ≢ index → rest k ≡ old k) →
    (k : ℕ) (a : AbsState) → state_in (rest k) ≡ Some a → (k ≢ index) × (state_in (old k) ≡ Some a)
taken_others index old rest gone others k a e = elim (cases_eq k index) [
  | inl g ↦ absurd (let f : None ≡ Some a = sym (ap state_in (ap rest g ∙ gone)) ∙ e in cc)
  | inr n ↦ (n, ap state_in (sym (others k n)) ∙ e)
]

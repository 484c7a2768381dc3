-- A plain program is plain with maps too.
use Rattle.bpf_model.proofs.Prelude.{◌≡◌, ℕ, ◌+◌, List, Some, Bool, true, false, ◌⊎◌, inl, inr, refl, sym, subst, false≢true, insn_at}
use Rattle.model_laws.proofs.Prelude.{MapShape, Insn, IsSimple, without_entry, without_next, lookup_call, lock_call, unlock_call, LookupCall, IsGuardedLookup}
use Rattle.model_laws.proofs.Prelude.{IsLookupPart, InSection, section_entry, section_lock, section_unlock, section_next, LacksRegister, lacks_entry}
use Rattle.model_laws.proofs.Prelude.{lacks_call, lacks_next, IsPlainWithMaps}
use Rattle.model_laws.specs.PlainAlone.{IsPlain, WithoutRegister}

module _ (program : List Insn) (shapes : List MapShape) (p : IsPlain program) where
  no_guard : (start : ℕ) → IsGuardedLookup program shapes start → ⊥
  no_guard start l = p.simple (start + 4) lookup_call (l.parts LookupCall)

  no_part : (place : ℕ) → IsLookupPart program shapes place → ⊥
  no_part place part = no_guard part.0 part.1

  outside : (open_now : Bool) (place : ℕ) → InSection program open_now place → open_now ≡ false
  outside _ _ section_entry = refl
  outside _ _ (section_lock before place target path h g) = absurd (p.simple place lock_call h)
  outside _ _ (section_unlock before place target path h g) = refl
  outside _ _ (section_next before place target i path h k g) = outside before place path

  no_section : (place : ℕ) → InSection program true place → ⊥
  no_section place path = false≢true (sym (outside true place path))

  no_call : (place : ℕ) (i : Insn) → insn_at program place ≡ Some i → (i ≡ lock_call) ⊎ ((i ≡ unlock_call) ⊎ (i ≡ lookup_call)) → ⊥
  no_call place i h (inl e) = subst IsSimple e (p.simple place i h)
  no_call place i h (inr (inl e)) = subst IsSimple e (p.simple place i h)
  no_call place i h (inr (inr e)) = subst IsSimple e (p.simple place i h)

  lacks : (r place : ℕ) → LacksRegister program shapes r place → WithoutRegister program r place
  lacks r _ lacks_entry = without_entry
  lacks r _ (lacks_call place target i path h call small g) = absurd (no_call place i h call)
  lacks r _ (lacks_next place target i path h w g) = without_next place target i (lacks r place path) h (λ writes. no_part place (w writes)) g

  pub plain_with_maps : IsPlainWithMaps program shapes
  plain_with_maps = record {
    graph = p.graph;
    forms = λ place i h. inr (inr (inr (p.simple place i h)));
    settled = λ place inside out. no_section place inside;
    lock_outside = λ place h inside. no_section place inside;
    unlock_inside = λ place h out. p.simple place unlock_call h;
    exit_outside = λ place h inside. no_section place inside;
    lookup_inside = λ place part out. no_part place part;
    frame_pointer = λ place i h away. p.frame_pointer place i h;
    registers = λ place i r h away reads path. p.registers place i r h reads (lacks r place path);
    bytes = λ place i k h away reads path. p.bytes place i k h reads path;
    keys = λ start k l low high path. no_guard start l;
  }

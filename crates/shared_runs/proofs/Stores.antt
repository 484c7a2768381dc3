-- What stores other widths than words accesses such.
use Rattle.bpf_model.proofs.Prelude.{⊎_elim, inl, inr}
use Rattle.model_laws.proofs.Prelude.{Insn, Store}
use Rattle.verifier.proofs.Prelude.{Checked}
use Rattle.shared_runs.specs.Words.{IsOtherWidth, StoresSubWords, UsesSubWords, access_width, stored_width}

stores-accesses : (i : Insn) → IsOtherWidth (stored_width i) → IsOtherWidth (access_width i)
stores-accesses (Store width dst offset src) h = h
stores-accesses i h = absurd h

pub stores-uses : (c : Checked) → StoresSubWords c → UsesSubWords c
stores-uses c s = record {
  index = s.index;
  insn = s.insn;
  there = s.there;
  uses =
      ⊎_elim
      (λ a. inl (record { other = stores-accesses s.insn a.other; region = a.region; noted = a.noted; element = a.element }))
      (λ m. inr m) s.uses;
}

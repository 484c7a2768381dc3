use Rattle.bpf_model.proofs.Prelude.{◌≡◌, drop, find}
use Rattle.std.specs.Str.{bytes_eq}
use Rattle.disasm.specs.Text.{mnemonic_text}
use Rattle.disasm.proofs.names.first_named.Given as goal

abbrev pub invariant-loop-mnemonic : goal.invariant-loop-mnemonic
invariant-loop-mnemonic l = find (λ m. bytes_eq (mnemonic_text m) l.name) (drop l.mnemonic-index l.mnemonics) ≡ find
    (λ m. bytes_eq (mnemonic_text m) l.name) l.mnemonics

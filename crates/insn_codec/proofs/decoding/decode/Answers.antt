use Rattle.bpf_model.proofs.Prelude.{◌≡◌, ℕ, ◌*◌, List, length, ap, ◌∙◌, arith, text, slot_total}
use Rattle.bpf_model.specs.declared.insn.Insn.{Insn}
use Rattle.insn_codec.proofs.DecodeLoop.{length_text, none_from, some_from}
use Rattle.insn_codec.proofs.decoding.decode.Goals as goal

program_length : (bytes : List ℕ) (p : List Insn) → bytes ≡ text p → length bytes ≡ 8 * slot_total p
program_length bytes p e = ap (λ (x : List ℕ). length x) e ∙ length_text p

pub returns-then-bytes-ne0-clause-only : goal.returns-then-bytes-ne0-clause-only
returns-then-bytes-ne0-clause-only c = λ p is e. let l = program_length c.args.bytes.now p e in absurd (omega (arith, is.limit))

pub returns-then-is_empty-clause-only : goal.returns-then-is_empty-clause-only
returns-then-is_empty-clause-only c = λ p is e. let l =
    program_length c.args.bytes.now p e in absurd (omega (arith, is.some, none_from _ c.if-is_empty.ensures))

pub returns-then-bytes-clause-only : goal.returns-then-bytes-clause-only
returns-then-bytes-clause-only c = λ p is e. let l = program_length c.args.bytes.now p e in absurd (omega (arith, is.limit))

pub from_parts-requires-clause-program : goal.from_parts-requires-clause-program
from_parts-requires-clause-program c =
    let l = program_length c.args.bytes.now c.in_ok-instructions.instructions.items c.in_ok-instructions.ensures.found in
    let s = some_from _ c.if-is_empty.ensures in
    record { fits = c.in_ok-instructions.ensures.fits; some = omega arith; limit = omega arith }

pub from_parts-requires-clause-slots : goal.from_parts-requires-clause-slots
from_parts-requires-clause-slots c = let l = program_length c.args.bytes.now c.in_ok-instructions.instructions.items
    c.in_ok-instructions.ensures.found in omega arith

-- Bytes that do not begin as a text.
use Rattle.bpf_model.proofs.Prelude.{◌≡◌, ℕ, ◌+◌, ◌*◌, ◌%◌, ◌<◌, ◌≤◌, ◌==◌, ◌≢◌, true, false, List, ◌++◌, length, take, drop, refl, sym, ap, subst, ◌∙◌}
use Rattle.bpf_model.proofs.Prelude.{arith, inr, length-append, Some, nat_lt, Vec, nat_tests, take-append-le}
use Rattle.model_laws.proofs.Prelude.{MAX_SLOTS}
use Rattle.std.proofs.Common.{take-append-drop}
use Rattle.insn_codec.specs.declared.fault.DecodeFault.{DecodeFault}
use Rattle.insn_codec.specs.declared.fault.DecodeFault.TheVariants as faults
use Rattle.insn_codec.specs.Faults.{IsDecodeFault, length_fault}
use Rattle.program_files.specs.ProgramFile.{heading, IsRawFile, raw_content}
use Rattle.program_files.specs.declared.program_file.FileBytes.{FileBytes}
use Rattle.program_files.specs.declared.program_file.FileBytes.TheVariants.{TooLong}
use Rattle.program_files.specs.Files.{HoldsBytes}
use Rattle.program_files.specs.Checks.{IsCodeFault}

prefix_is : (bytes more text : List ℕ) → 8 ≤ length bytes → bytes ++ more ≡ heading ++ text → bytes ≡ heading ++ drop 8 bytes
prefix_is bytes more text long e =
    let front : take 8 bytes ≡ heading = sym (take-append-le 8 bytes more long) ∙ ap (take 8) e in
    sym (take-append-drop 8 bytes) ∙ ap (λ f. f ++ drop 8 bytes) front

pub raw_more : (bytes more : List ℕ) → 8 ≤ length bytes → IsRawFile bytes → IsRawFile (bytes ++ more)
raw_more bytes more long raw text e = raw (drop 8 bytes) (prefix_is bytes more text long e)

remainders : (r a b n : ℕ) → r ≡ a % 8 → n ≡ a + b → (r % 8 + b % 8) % 8 ≡ n % 8
remainders r a b n e f = omega arith

-- what is told of a file of which only the length is kept

pub more_long : (file : FileBytes) (r : ℕ) (b : Vec ℕ) (bytes more : List ℕ) → file ≡ TooLong r b → HoldsBytes file bytes →
    HoldsBytes (TooLong ((r % 8 + length more % 8) % 8) b) (bytes ++ more)
more_long file r b bytes more e h =
    let k = subst (λ (f : FileBytes). HoldsBytes f bytes) e h in
    let long : 8 * MAX_SLOTS < length bytes = k.0 in
    let same : r ≡ length bytes % 8 = k.1 in
    let l : length (bytes ++ more) ≡ length bytes + length more = length-append bytes more in
    (omega arith, remainders r (length bytes) (length more) (length (bytes ++ more)) same l, raw_more bytes more (omega arith) k.2)

long_told : (file : FileBytes) (r : ℕ) (b : Vec ℕ) (bytes : List ℕ) (f : DecodeFault) → file ≡ TooLong r b →
    HoldsBytes file bytes → IsDecodeFault bytes f → IsCodeFault bytes f
long_told file r b bytes f e h fault =
    let k = subst (λ (g : FileBytes). HoldsBytes g bytes) e h in
    record { content = raw_content bytes; says = inr (k.2, refl); is = fault }

length_long : (bytes : List ℕ) → length bytes % 8 ≡ 0 → 8 * MAX_SLOTS < length bytes → length_fault bytes ≡ Some faults.TooLong
length_long bytes e long =
    let a : (length bytes % 8 == 0) ≡ true = grind (arith, nat_tests) in
    let b : (length bytes == 0) ≡ false = grind (arith, nat_tests) in
    let c : nat_lt (8 * MAX_SLOTS) (length bytes) ≡ true = grind (arith, nat_tests) in
    rw (a, b, c) refl

length_odd : (bytes : List ℕ) → length bytes % 8 ≢ 0 → length_fault bytes ≡ Some faults.Length
length_odd bytes e =
    let a : (length bytes % 8 == 0) ≡ false = grind (arith, nat_tests) in
    rw a refl

pub even_told : (file : FileBytes) (r : ℕ) (b : Vec ℕ) (bytes : List ℕ) → file ≡ TooLong r b → r ≡ 0 →
    HoldsBytes file bytes → IsCodeFault bytes faults.TooLong
even_told file r b bytes e z h =
    let k = subst (λ (g : FileBytes). HoldsBytes g bytes) e h in
    long_told file r b bytes faults.TooLong e h (length_long bytes (sym k.1 ∙ z) k.0)

pub odd_told : (file : FileBytes) (r : ℕ) (b : Vec ℕ) (bytes : List ℕ) → file ≡ TooLong r b → r ≢ 0 →
    HoldsBytes file bytes → IsCodeFault bytes faults.Length
odd_told file r b bytes e z h =
    let k = subst (λ (g : FileBytes). HoldsBytes g bytes) e h in
    long_told file r b bytes faults.Length e h (length_odd bytes (λ m. z (k.1 ∙ m)))

use Rattle.bpf_model.proofs.Prelude.{◌≡◌, ℕ, ◌+◌, Bool, length, ap, sym, ◌∙◌, length-append}
use Rattle.classic.proofs.Prelude.{Data, Packet, ClassicReg, Datum, LoadSize, fetch, check, load_block, keeps, register_of}
use Rattle.classic_program.proofs.Prelude.{size_of}
use Rattle.classic_program.specs.declared.insn.Datum.TheVariants.{Bytes, Indexed}
use Rattle.classic.specs.declared.notes.Note.{Note}
use Rattle.classic.specs.Layout.{load_indexed}
use Rattle.classic.proofs.slots.load_slots.Goals as goal

of-packet : (n : Note) (into : ClassicReg) (size : LoadSize) (at k f : ℕ) → length (check 0 n 0 (at + size_of size)) ≡ k
    → length (fetch (keeps Packet n into (Bytes size at)) (register_of into) 1 (8 + at) size) ≡ f
    → length (load_block Packet 0 n into (Bytes size at) 0) ≡ k + f
of-packet n into size at k f a b =
    length-append (check 0 n 0 (at + size_of size)) (fetch (keeps Packet n into (Bytes size at)) (register_of into) 1 (8 + at) size)
    ∙ (ap (λ (x : ℕ). x + length (fetch (keeps Packet n into (Bytes size at)) (register_of into) 1 (8 + at) size)) a
    ∙ ap (λ (x : ℕ). k + x) b)

pub returns-in-Packet-clause-value : goal.returns-in-Packet-clause-value
returns-in-Packet-clause-value c =
    let n = c.args.note.now in
    let into = c.args.into in
    let size = c.in-Bytes.size in
    let at = c.in-Bytes.at in
    let keep : c.keeps.result ≡ keeps Packet n into (Bytes size at) =
    c.keeps.ensures ∙ (ap (λ (d : Data). keeps d n into c.args.datum.now) c.in-Packet.is
    ∙ ap (λ (x : Datum). keeps Packet n into x) c.in-Bytes.is) in
    ap (λ (d : Data). length (load_block d 0 n into c.args.datum.now 0)) c.in-Packet.is
    ∙ (ap (λ (x : Datum). length (load_block Packet 0 n into x 0)) c.in-Bytes.is
    ∙ of-packet n into size at c.check_slots.result c.fetch_slots.result
    (ap (λ (x : ℕ). length (check 0 n 0 (at + x))) (sym c.bytes_of.ensures.value) ∙ c.check_slots.ensures.value 0 0)
    (ap (λ (k : Bool). length (fetch k (register_of into) 1 (8 + at) size)) (sym keep) ∙ c.fetch_slots.ensures.value (register_of into) 1))

pub returns-in-Indexed-clause-value : goal.returns-in-Indexed-clause-value
returns-in-Indexed-clause-value c =
    let n = c.args.note.now in
    let into = c.args.into in
    let size = c.in-Indexed.size in
    let at = c.in-Indexed.at in
    let keep : c.keeps-in-Indexed.result ≡ keeps c.args.kind n into (Indexed size at) =
    c.keeps-in-Indexed.ensures ∙ ap (λ (x : Datum). keeps c.args.kind n into x) c.in-Indexed.is in
    ap (λ (x : Datum). length (load_block c.args.kind 0 n into x 0)) c.in-Indexed.is
    ∙ (ap (λ (k : Bool). length (load_indexed 0 n k 0 into size at)) (sym keep) ∙ c.indexed_slots.ensures.value 0 0 into)

pub returns-in-HeaderLength-clause-value : goal.returns-in-HeaderLength-clause-value
returns-in-HeaderLength-clause-value c =
    let n = c.args.note.now in
    let at = c.in-HeaderLength.at in
    ap (λ (x : Datum). length (load_block c.args.kind 0 n c.args.into x 0)) c.in-HeaderLength.is
    ∙ (length-append (check 0 n 0 (at + 1)) _ ∙ ap (λ (x : ℕ). x + 3) (c.check_slots-in-HeaderLength.ensures.value 0 0))

use Rattle.bpf_model.proofs.Prelude.{◌+◌, sym, ◌∙◌, ap, arith, ◌-◌, bytes_at}
use Rattle.reference_interpreter.specs.Plain.{plain_state_of}
use Rattle.reference_model.proofs.Bytes.{bytes-next, bytes-stuck, bytes-end, bytes-begin, with_front}
use Rattle.reference_model.proofs.call.bytes_at.Goals as goal

pub loop-k-init : goal.loop-k-init
loop-k-init g c =
    bytes-begin (plain_state_of c.args.run.now).frame c.args.at c.args.len
    ∙ ap (λ xs. with_front xs (bytes_at (plain_state_of c.args.run.now).frame (c.args.at + 0) (c.args.len - 0))) (sym c.new-bytes.ensures)

pub loop-k-preserved : goal.loop-k-preserved
loop-k-preserved g c =
    let frame = (plain_state_of c.args.run.now).frame in
    c.loop-k.invariant ∙ bytes-next frame c.args.at c.loop-k.k c.args.len c.loop-k.bytes.items c.in-Some.byte
    c.loop-k-test.true (sym c.byte_in.ensures ∙ c.in-Some.is)
    ∙ ap (λ xs. with_front xs (bytes_at frame (c.args.at + (c.loop-k.k + 1)) (c.args.len - (c.loop-k.k + 1)))) (sym c.in-Ok.ensures.ok)

pub returns-in_default : goal.returns-in_default
returns-in_default g c = c.loop-k.invariant ∙ bytes-stuck (plain_state_of c.args.run.now).frame c.args.at c.loop-k.k
    c.args.len c.loop-k.bytes.items c.loop-k-test.true (sym c.byte_in.ensures ∙ c.in_default.is)

pub returns : goal.returns
returns g c = c.loop-k.invariant ∙ bytes-end (plain_state_of c.args.run.now).frame c.args.at c.loop-k.k c.args.len
    c.loop-k.bytes.items (omega (arith, c.loop-k-test.false))

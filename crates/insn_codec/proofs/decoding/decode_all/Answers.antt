use Rattle.bpf_model.proofs.Prelude.{◌≡◌, Result, Ok, Err, IfOk, IsOk}
use Rattle.insn_codec.proofs.DecodeLoop.{goes_on, stops, ends, none_from, some_from}
use Rattle.insn_codec.proofs.decoding.decode_all.Goals as goal
use Rattle.std.proofs.lemmas.Result.{IfOk-at_ok}

is_err : {A E : Type 0} (P : A → Type 0) (r : Result A E) (d : E) → r ≡ Err d → IfOk r P × IsOk r → ⊥
is_err P (Ok x) d e h = cc
is_err P (Err d) f e h = absurd (let k = h.1 in cc)

pub returns-in-Err-clause-only : goal.returns-in-Err-clause-only
returns-in-Err-clause-only c = λ is fits e.
    absurd (stops is c.loop-rest.instructions.items c.loop-rest.rest.now (some_from _ c.loop-rest-test.ensures)
    (λ j r f p. is_err (λ x. (x.0 ≡ j) × (x.1.now ≡ r)) c.decode_first.result c.in-Err.flaw c.in-Err.is
    (c.decode_first.ensures.only j r f p)) (c.loop-rest.invariant.only is fits e))

pub loop-rest-preserved : goal.loop-rest-preserved
loop-rest-preserved c =
    let r = goes_on c.args.bytes.now c.loop-rest.instructions.items c.loop-rest.starts.items c.loop-rest.slot
    c.loop-rest.rest.now c.in-Ok.first.1.now c.in-Ok.first.0 c.loop-rest.invariant
    (some_from _ c.loop-rest-test.ensures) c.in-Ok.ensures.fits c.in-Ok.ensures.found
    (λ j r f p. IfOk-at_ok (λ x. (x.0 ≡ j) × (x.1.now ≡ r)) c.in-Ok.is (c.decode_first.ensures.only j r f p).0) in
    rw (c.in_ok-push.ensures.items, c.in_ok-push-2.ensures.items, c.slot_count-slot.ensures.value) r

pub returns-clause-only : goal.returns-clause-only
returns-clause-only c = λ is fits e. ends is c.loop-rest.instructions.items c.loop-rest.rest.now
    (none_from _ c.loop-rest-test.ensures) (c.loop-rest.invariant.only is fits e)

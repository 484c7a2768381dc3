use Rattle.std.proofs.Common.{◌-◌, ◌++◌, length, take, drop, ap, sym, ◌∙◌, append_assoc, take-append-drop}
use Rattle.std.proofs.lemmas.List.{take_rest}
use Rattle.std.proofs.KnownBytes.{Appends-trans, Appends-kept}
use Rattle.script_stream.proofs.output.write_text.Goals.{in-Ok, in-Err}
use Rattle.script_stream.proofs.output.write_text.Goals as goal

pub loop-preserved : goal.loop-preserved
loop-preserved g c =
    let at = c.loop.invariant in
    let rest = c.loop.rest.now in
    elim c.match-write.branch [
      | in-Ok w ↦
          let n = w.in-Ok.count in
          rw w.rest-is (
            at.0 ++ take n rest,
            at.1 ∙ ap (λ r. at.0 ++ r) (sym (ap (λ r. take n rest ++ r) (take_rest rest n) ∙ take-append-drop n rest))
                ∙ sym (append_assoc at.0 (take n rest) (take (length rest - n) (drop n rest))),
            Appends-trans _ _ _ at.0 (take n rest) at.2 w.in-Ok.ensures.bytes,
          )
      | in-Err w ↦ rw w.rest-is (at.0, at.1, Appends-kept _ _ _ at.0 at.2 w.in-Err.ensures.bytes)
    ]

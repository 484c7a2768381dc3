use Rattle.bpf_model.proofs.Prelude.{ℕ, List, Result, Ok, Err, OnOk, ◌∙◌, subst, Appends}
use Rattle.commands.proofs.json.write_refusal.Goals as goal

tells : {T E P Q : Type 0} (r : Result T E) → (P → Q) → OnOk r P → OnOk r Q
tells (Ok x) f h = f h
tells (Err e) f h = tt

pub returns : goal.returns
returns g c =
    let contents = g.W.Write.contents in
    let same = c.deref.ensures.value ∙ c.in_ok-text.ensures in
    tells c.write_text.result
    (λ h. (
      c.as_bytes.result.now,
      c.as_bytes-2.result.now,
      subst (λ (t : List ℕ). Appends (contents c.args.out.now) (contents c.write_text.new.out) t) same h,
    ))
    c.write_text.ensures

use Rattle.bpf_model.proofs.Prelude.{rules, refl, pos, inl, inr, none-some}
use Rattle.effects.proofs.Prelude.{taken_from}
use Rattle.model_laws.proofs.Prelude.{FRAME_BYTES, JumpIf}
use Rattle.register_kinds.proofs.Prelude.{state_of}
use Rattle.state_steps.proofs.Serving.{branch_serves, branch_ready}
use Rattle.state_steps.proofs.Keeping.{narrow_keeps, operand_number}
use Rattle.state_steps.proofs.control.branch_step.Goals as goal

pub returns : goal.returns
returns c = λ offset shapes ctx_len top below.
    let a = state_of c.args.state.now in
    let b = state_of c.branch-state.new.state in
    let i = JumpIf c.args.condition c.args.size c.args.dst c.args.src.now offset in
    let t = c.in_ok-taken.ensures in record {
      done = record {
        transfer = record {
          sound = t.sound shapes ctx_len offset;
          branches = λ x. refl;
          reaches = λ r scene m x d. absurd (none-some r x);
          compares = t.compares offset;
          looks_up = λ h. absurd h;
          keeps = λ ready. narrow_keeps i c.args.dst c.args.src.now (pos FRAME_BYTES) a b (λ r x. x) (λ k x. x)
              ready.registers ready.frame (t.narrowed (ready.registers c.args.dst (inl refl)));
          keeps_taken = λ ready. narrow_keeps i c.args.dst c.args.src.now (pos FRAME_BYTES) a
              (state_of (taken_from c.branch-state.new.state c.in_ok-taken.taken)) (λ r x. x) (λ k x. x) ready.registers ready.frame
              (t.taken_narrowed (ready.registers c.args.dst (inl refl)));
          floor = (t.floor, t.taken_floor);
          others = t.others offset;
          others_taken = t.others_taken offset;
          serves = branch_serves c.args.condition c.args.size c.args.dst c.args.src.now offset shapes c.args.state.now
              c.branch-state.new.state (taken_from c.branch-state.new.state c.in_ok-taken.taken) t.splits;
        };
        taken_below = t.taken_below top below;
      };
      accepts = λ ready. tt;
      accepts_maps = λ ready. tt;
      below = c.branch-state.ensures.below top below;
      unchanged = tt;
    }

pub returns-in_err-taken : goal.returns-in_err-taken
returns-in_err-taken c = λ offset shapes ctx_len top below. record {
  done = search rules;
  below = c.branch-state.ensures.below top below;
  unchanged = search rules;
  accepts = λ ready.
      let memory = c.in_err-taken.ensures.accepts (ready.registers c.args.dst (inl refl))
      (operand_number c.args.src.now (state_of c.args.state.now) (λ r n. ready.registers r (inr n))) in
      search (rules, memory);
  accepts_maps = λ ready.
      let r = branch_ready c.args.condition c.args.size c.args.dst c.args.src.now offset shapes c.args.state.now ready in
      let memory = c.in_err-taken.ensures.accepts_null r.0 r.1 r.2 in
      search (rules, memory);
}

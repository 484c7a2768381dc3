use Rattle.bpf_model.proofs.Prelude.{rules, ◌≡◌, sym, ◌∙◌, pos, SFits, to_z-of_z}
use Rattle.std.proofs.Common.{w32}
use Rattle.effects.proofs.Numbers.{same_frame}
use Rattle.effects.proofs.Combining.{context_moves, value_moves}
use Rattle.effects.proofs.kinds.moved_kind.Goals as goal

pub returns-in_ok-moved-in-Ctx-clause-sound : goal.returns-in_ok-moved-in-Ctx-clause-sound
returns-in_ok-moved-in-Ctx-clause-sound c = λ size op is.
    context_moves c.args.way c.args.x c.in-Ctx.offset c.args.by c.in_ok-moved-in-Ctx.field-0 c.in-Ctx.is
    c.in_ok-moved-in-Ctx.ensures.sound size op is

pub returns-in_ok-moved-in-Value-clause-sound : goal.returns-in_ok-moved-in-Value-clause-sound
returns-in_ok-moved-in-Value-clause-sound c = λ size op is.
    value_moves c.args.way c.args.x c.in-Value.map c.in-Value.offset c.args.by c.in_ok-moved-in-Value.field-0
    c.in-Value.is c.in_ok-moved-in-Value.ensures.sound size op is

pub returns-in_err-moved_in_frame-in-Frame-clause-frame : goal.returns-in_err-moved_in_frame-in-Frame-clause-frame
returns-in_err-moved_in_frame-in-Frame-clause-frame c = λ m n at e l b step w h.
    let f : SFits w32 c.in-Frame.offset = search rules in
    let o : c.in-Frame.offset ≡ pos m = same_frame c.in-Frame.offset (pos m) (sym c.in-Frame.is ∙ e) in
    let inside = simp to_z-of_z at c.in_err-moved_in_frame-in-Frame.ensures.inside in
    let no = inside m n at o l b step w h in
    absurd cc

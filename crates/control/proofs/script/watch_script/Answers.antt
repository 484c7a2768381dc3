use Rattle.bpf_model.proofs.Prelude.{ℕ, List, [], refl, subst, on_ok_weaker}
use Rattle.std.proofs.lemmas.Result.{IfErr-weaker}
use Rattle.control.specs.Setups.{no_maps_or_programs}
use Rattle.script_stream.specs.Answered.{Answered, FailsWith}
use Rattle.script_stream.specs.Lines.{lines_of}
use Rattle.script_stream.proofs.Inputs.{so_of_input}
use Rattle.control.specs.Histories.{Continues, new_history}
use Rattle.control.specs.Sessions.{IsNoCommand, new_session}
use Rattle.control.specs.declared.session.Session.{Session}
use Rattle.control.proofs.OneRun.{IsAnswered, history, histories, fails_at}
use Rattle.control.proofs.script.watch_script.Goals as goal

pub returns-clause-text : goal.returns-clause-text
returns-clause-text g c =
    on_ok_weaker c.serve.result
    (λ e.
    let end = c.serve.new.responder in
    let there = subst (λ (s : Session). Answered IsAnswered s (lines_of e.0) e.1 end) c.new-session.ensures e.5 in
    let h = histories new_session no_maps_or_programs [] (lines_of e.0) e.1 end (refl, refl) there in
    (e.0, e.1, history end h.0 h.1, e.2, e.3, e.4, h.2))
    c.serve.ensures.text

pub returns-clause-failed : goal.returns-clause-failed
returns-clause-failed g c =
    IfErr-weaker c.serve.result _ _
    (λ fault e.
    let more : (input : List ℕ) → FailsWith IsAnswered IsNoCommand c.new-session.result input
    e.1 fault → FailsWith Continues IsNoCommand new_history input e.1 fault = λ input f.
    let there = subst (λ (s : Session). FailsWith IsAnswered IsNoCommand s input e.1 fault) c.new-session.ensures f in
    fails_at IsNoCommand new_session no_maps_or_programs [] input e.1 fault (refl, refl) there
    in
    (e.0, e.1, e.2, e.3, so_of_input (g.R.Read.remaining c.serve.new.reader) e.0 _ _ more e.4))
    c.serve.ensures.failed

-- What a run of a translation gives is what the classic program returns.
use Rattle.bpf_model.proofs.Prelude.{◌≡◌, ℕ, List, [], length, Option, Some, None, refl, sym, subst, ExitsWith, Loaded, AreBytes}
use Rattle.classic_program.proofs.Prelude.{Filters}
use Rattle.verifier.proofs.Prelude.{Checked}
use Rattle.classic_program.specs.WellFormed.{Checked as Classic}
use Rattle.shared_runs.specs.Lone.{loaded_alone}
use Rattle.host_programs.specs.Opened.{IsTranslationOf}
use Rattle.host_programs.specs.Runs.{ReturnsOn}
use Rattle.host_programs.proofs.OneExit.{one_value}

abbrev pub with_length : Checked → ℕ → Loaded
with_length v n = record { code = v.program; maps = []; context_len = n }

pub returns_on : (v : Checked) (c : Option Classic) (context : List ℕ) (steps n : ℕ) → IsTranslationOf v c
    → length context ≡ v.ctx_len → AreBytes context → ExitsWith (loaded_alone v) context steps n → ReturnsOn c context n
returns_on v None context steps n t long bytes x = tt
returns_on v (Some c) context steps n t long bytes x = λ p is.
    let r = t.translation p context is in
    let y : ExitsWith (loaded_alone v) context r.2 r.0 =
    subst (λ (k : ℕ). ExitsWith (with_length v k) context r.2 r.0) (sym t.context) r.3 in
    let same : r.0 ≡ n = one_value (loaded_alone v) context r.2 steps r.0 n refl long bytes y x in
    subst (Filters c.kind c.instructions p) same r.1

-- What a classic filter returns of a packet is what runs of its translation exit with, in time.
use Rattle.bpf_model.proofs.Prelude.{◌≡◌, ℕ, ◌^◌, ◌<◌, List, [], refl, sym, ◌∙◌, subst, same_Some, ExitsWith, AreBytes}
use Rattle.classic.proofs.Prelude.{Packet, ClassicInsn}
use Rattle.classic_program.proofs.Prelude.{Filters, checked}
use Rattle.model_laws.proofs.Prelude.{MapShape}
use Rattle.plan_laws.proofs.Prelude.{IsVerified}
use Rattle.verifier.proofs.Prelude.{Checked}
use Rattle.shared_runs.specs.Lone.{loaded_alone}
use Rattle.host_programs.specs.Opened.{IsSafe, Translates}
use Rattle.host_programs.specs.Packets.{seen}
use Rattle.host_programs.specs.Runs.{ExitsOnPacket}
use Rattle.host_programs.proofs.Having.{has_context}
use Rattle.host_programs.proofs.InTime.{exits_in_time}
use Rattle.host_programs.proofs.Returning.{with_length}

pub exits_as_filter : (v : Checked) (instructions : List ClassicInsn) (packet : List ℕ) (wire n : ℕ)
    → Translates v (checked Packet instructions) → IsSafe v → AreBytes packet → wire < 2 ^ 32
    → Filters Packet instructions (seen packet wire) n → ExitsOnPacket v (seen packet wire) n
exits_as_filter v instructions packet wire n t safe bytes w filters =
    let there = has_context packet wire bytes w in
    let context = there.context in
    let r = t.translation (seen packet wire) context there.is in
    let same : r.0 ≡ n = same_Some r.0 n (sym r.1 ∙ filters) in
    let program = loaded_alone v in
    let x : ExitsWith program context r.2 r.0 = subst (λ (k : ℕ). ExitsWith (with_length v k) context r.2 r.0) (sym t.context) r.3 in
    let exits : ExitsWith program context r.2 n = subst (λ (k : ℕ). ExitsWith program context r.2 k) same x in
    let alone : IsVerified v.program [] v.ctx_len = subst (λ (shapes : List MapShape). IsVerified v.program shapes v.ctx_len) t.shapes safe in
    record {
      context = context;
      is = there.is;
      exits = record {
        steps = r.2;
        exits = exits;
        bounded = exits_in_time program context r.2 n alone refl (there.is.size ∙ sym t.context) there.bytes exits;
      };
    }

use Rattle.bpf_model.proofs.Prelude.{◌≡◌, ◌≤◌, length, take, vec_len, vec_capacity}
use Rattle.world_laws.proofs.Prelude.{full_reactions}
use Rattle.world.proofs.world.World.run_all.Given as goal

-- the answers so far, and the world after them, are those of the reactions; there is room for the other answers
abbrev pub invariant-loop-event : goal.invariant-loop-event
invariant-loop-event l = record {
  answers : l.answers.items ≡ (full_reactions l.fn.self (take l.event-index l.events)).0;
  view : l.self ≡ (full_reactions l.fn.self (take l.event-index l.events)).1;
  count : vec_len l.answers ≡ l.event-index;
  room : length l.events ≤ vec_capacity l.answers;
}

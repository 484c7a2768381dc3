-- A journal whose entries replay: from a base without runs, the runtime reacts to the events one
-- after another with the answers that stand there, and the present world is the one that it comes
-- to.
use Rattle.std.specs.Prelude.{◌≡◌, List}
use Rattle.bpf_model.specs.declared.entry.Entry.{Entry}
use Rattle.bpf_model.specs.Real.{AreReal}
use Rattle.bpf_model.specs.Replay.{AreFree}
use Rattle.bpf_model.specs.Replay.{answers_of, events_of}
use Rattle.bpf_model.specs.View.{WorldView}
use Rattle.world_laws.specs.Reacting.{full_reactions}
use Rattle.world_laws.specs.Invariant.{IsWorld}

-- no run slot of the world is occupied
abbrev pub HasNoRuns : WorldView → Type 0
HasNoRuns w = AreFree w.runs

-- From the base, a world without runs, the reactions to the entries' events are the entries'
-- answers, and lead to this world.
pub record Replays (base world : WorldView) (entries : List Entry) : Type 0 where
  pub quiet : HasNoRuns base
  pub base_is : IsWorld base
  pub real : AreReal (events_of entries)
  pub answers : answers_of entries ≡ (full_reactions base (events_of entries)).0
  pub world_is : world ≡ (full_reactions base (events_of entries)).1

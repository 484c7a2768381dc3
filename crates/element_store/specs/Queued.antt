-- The slots of a map's unlinked elements, in three lists.
use Rattle.std.specs.Prelude.{ℕ, ◌+◌, [], ◌∷◌, ◌++◌, drop}
use Rattle.bpf_model.specs.Schedule.{Queues}
use Rattle.element_store.specs.State.{times_in}

-- how often a slot stands in any of the three
abbrev pub queued : Queues → ℕ → ℕ
queued q j = times_in j q.next + times_in j q.waiting + times_in j q.ready

-- a slot that is unlinked goes to the end of next
abbrev pub retired_lists : Queues → ℕ → Queues
retired_lists q i = record q { next = q.next ++ i ∷ [] }

-- the first ready slot leaves its list
abbrev pub reaped_lists : Queues → Queues
reaped_lists q = record q { ready = drop 1 q.ready }

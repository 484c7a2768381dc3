-- The parts of a map, and where its slots stand.
use Rattle.std.specs.Prelude.{◌≡◌, ℕ, ◌+◌, ◌<◌, ◌≤◌, List, Option, Some, None, length, refl}
use Rattle.std.specs.Coded.{Coded, code_by, coded×}
use Rattle.std.specs.FinMap.{remove}
use Rattle.model_laws.specs.Codes.{key_map_code, queues_code}
use Rattle.bpf_model.specs.Schedule.{Queues}
use Rattle.bpf_model.specs.View.{KeyMap, SlotView}
use Rattle.element_store.specs.Codes.{arena_code}
use Rattle.element_store.specs.State.{ArenaState, IsTaken, times_in, indexed, key_at, worn_at}
use Rattle.element_store.specs.Queued.{queued, retired_lists}
use Rattle.hash_index.specs.Replies.{IsKeyed}

-- what the index has, the three lists, and the arena over which both are read
pub record PartsView : Type 0 where
  pub index : KeyMap
  pub lists : Queues
  pub arena : ArenaState

abbrev pub parts_code : Coded PartsView
parts_code = code_by (KeyMap × (Queues × ArenaState))
    (coded× key_map_code (coded× queues_code arena_code))
    (λ p. (p.index, (p.lists, p.arena)))
    (λ p. record { index = p.0; lists = p.1.0; arena = p.1.1 })
    (λ _. refl)

-- How often a slot stands somewhere: free, linked, in the three lists, worn.
abbrev pub standings : PartsView → ℕ → ℕ
standings p i = times_in i p.arena.free + indexed p.index p.arena.slots i
    + queued p.lists i + worn_at p.arena.worn i

-- A slot stands once at most, and none but the arena's slots do. A key's slot has that key.
pub record IsParted (p : PartsView) : Type 0 where
  pub once : (i : ℕ) → standings p i ≤ 1
  pub inside : (i : ℕ) → 0 < standings p i → i < length p.arena.slots
  pub keyed : IsKeyed (key_at p.arena.slots) p.index
  pub flags : length p.arena.worn ≡ length p.arena.slots

-- A slot in hand, between two calls: it is taken, and stands nowhere.
pub record IsInHand (p : PartsView) (i : ℕ) : Type 0 where
  pub taken : IsTaken p.arena i
  pub unlinked : indexed p.index p.arena.slots i ≡ 0
  pub unlisted : queued p.lists i ≡ 0

-- a slot that is linked or in one of the three lists
abbrev pub IsInUse : KeyMap → List SlotView → Queues → ℕ → Type 0
IsInUse index slots lists i = 0 < indexed index slots i + queued lists i

-- the key's slot, if there is one, leaves the index and goes to the end of next
abbrev pub without_key : PartsView → List ℕ → Option ℕ → PartsView
without_key p key None = p
without_key p key (Some i) =
    record { index = remove p.index key; lists = retired_lists p.lists i; arena = p.arena }

-- What a run over the table leaves, and what is so between its steps.
use Rattle.std.specs.Prelude.{◌≡◌, ℕ, List, ◌∷◌, ◌++◌}
use Rattle.verifier.specs.Checked.{Checked}
use Rattle.shared_runs.specs.Running.{RunsOver}
use Rattle.read_table.specs.declared.view.Move.{Move}
use Rattle.read_table.specs.declared.view.Move.TheVariants.{Load, Store}
use Rattle.read_table.specs.declared.view.TableShape.{TableShape}
use Rattle.read_table.specs.declared.view.View.{View}
use Rattle.read_table.specs.History.{Knows, generation, header_in, moves_of}
use Rattle.read_table.specs.Held.{Goes, Holder}
use Rattle.read_table.specs.Table.{table_of}

-- The seat's list gained the moves of a shared run of the program on the context, which exits with the value, within as
-- many steps as the program has instructions.
abbrev pub RunsShared : TableShape → Checked → List ℕ → Holder → Holder → ℕ → Type 0
RunsShared k c context old new value = RunsOver (table_of k) Goes c context old new value

-- By this history the holder knows the slot, which still has the generation with which it was learnt.
abbrev pub HoldsSlot : ℕ → ℕ → List (ℕ × Move) → Type 0
HoldsSlot who slot es =
    (h : ℕ) × Knows slot h (moves_of who es)
    × (generation (header_in slot (moves_of 0 es)) ≡ generation h)

-- a reader's move loads or stores a word of the slot
abbrev pub Touches : ℕ → Move → Type 0
Touches slot (Load s place x) = s ≡ slot
Touches slot (Store s place x) = s ≡ slot
Touches slot m = ⊥

-- Whenever the holder loaded or stored a word, it held its slot by all that had been done before.
abbrev pub HasHeld : View → Type 0
HasHeld v = (after before : List (ℕ × Move)) (m : Move) (slot : ℕ) →
    v.seen ≡ after ++ (v.me, m) ∷ before → Touches slot m → HoldsSlot v.me slot before

-- What whoever serves a shared run may take for granted of each request, and what he leaves.
use Rattle.std.specs.Prelude.{◌≡◌, ℕ, ◌+◌, ◌*◌, ◌^◌, ◌<◌, ◌≤◌, List, ◌∷◌, ◌++◌, Option, Some, length, ℤ, pos, ◌+ℤ◌}
use Rattle.std.specs.Prelude.{◌-◌}
use Rattle.bpf_model.specs.declared.call.Helper.TheVariants.{Delete, Lookup, Update}
use Rattle.bpf_model.specs.declared.insn.Insn.{Insn}
use Rattle.bpf_model.specs.declared.limits.MapShape.{MapShape}
use Rattle.bpf_model.specs.declared.limits.TheConstants.{FRAME_BYTES}
use Rattle.bpf_model.specs.Access.{byte_count}
use Rattle.bpf_model.specs.declared.opcode.Width.{Width}
use Rattle.bpf_model.specs.Step.{insn_at}
use Rattle.bpf_model.specs.View.{RunView}
use Rattle.bpf_model.specs.Word.{map_base, slot_base}
use Rattle.world_laws.specs.Calling.{bytes_in, found_word}
use Rattle.world_laws.specs.Moving.{word_in}
use Rattle.world_laws.specs.Reaching.{IsInFrame}
use Rattle.verifier.specs.Checked.{Checked}
use Rattle.machine.specs.declared.request.Request.{Request}
use Rattle.machine.specs.declared.request.Request.TheVariants as requests
use Rattle.machine.specs.declared.workspace.Workspace.{Workspace}
use Rattle.machine.specs.Requests.{resumed_view}
use Rattle.machine.specs.Standing.{MayGive}
use Rattle.shared_runs.specs.Tables.{Table}
use Rattle.shared_runs.specs.SharedRuns.{closing, opening}
use Rattle.shared_runs.specs.Sharing.{GoesFurther}
use Rattle.shared_runs.specs.Words.{part_of}

-- a run that has these registers, this frame, and so many open locks; the rest is as in another view
abbrev pub asking : Workspace → ℕ → RunView → RunView
asking w depth v = record v { registers = w.registers; frame = w.frame; depth = depth }

-- Some instruction stands at the run's place, and resumed with this word, after these moves of its seat, the run has
-- come one step further over the table.
abbrev pub GoesOnWith : (k : Table) → Checked → List ℕ → List k.Move → RunView → ℕ → Type 0
GoesOnWith k c context ms v word =
    (insn : Insn) × (insn_at c.program v.place ≡ Some insn)
    × GoesFurther k c context ms v (resumed_view insn word v)

-- The address leads into one word of the value of an element that is held: to so many bytes, from its byte `low` on.
pub record LeadsToWord (k : Table) (ms : List k.Move) (address : ℕ) (offset : ℤ) (width : Width)
    : Type 0 where
  pub element : ℕ
  pub place : ℕ
  pub low : ℕ
  pub whole : low + byte_count width ≤ 8
  pub at : pos address +ℤ offset ≡ pos (slot_base 0 element + (8 * place + low))
  pub in_table : element < k.elements
  pub in_value : place < k.value_words
  pub held : k.Holds element ms

pub record LoadsWord (k : Table) (c : Checked) (context : List ℕ) (ms : List k.Move)
    (v : RunView) (address : ℕ) (offset : ℤ) (width : Width) : Type 0 where
  pub leads : LeadsToWord k ms address offset width
  pub goes_on : (x : ℕ) → x < 2 ^ 64 →
      GoesOnWith k c context (k.finds leads.element leads.place x ∷ ms) v
      (part_of x leads.low (byte_count width))

pub record StoresWord (k : Table) (c : Checked) (context : List ℕ) (ms : List k.Move)
    (v : RunView) (address : ℕ) (offset : ℤ) (width : Width) (number : ℕ) : Type 0 where
  pub wide : byte_count width ≡ 8
  pub leads : LeadsToWord k ms address offset width
  pub goes_on : (word : ℕ) →
      GoesOnWith k c context (k.writes leads.element leads.place number ∷ ms) v word

-- the map that r1 names
abbrev pub map_named : RunView → ℕ
map_named v = word_in v 1 - map_base

pub record LooksUpKey (k : Table) (c : Checked) (context : List ℕ) (ms : List k.Move)
    (v : RunView) : Type 0 where
  pub inside : 0 < v.depth
  pub frame : length v.frame ≡ FRAME_BYTES
  pub shape : MapShape
  pub kept : k.Keeps (map_named v) shape
  pub key : IsInFrame (word_in v 2) (8 * k.key_words (map_named v))
  pub goes_on : (ns : List k.Move) (found : Option ℕ) →
      k.LooksUp (map_named v) (bytes_in v 2 (8 * k.key_words (map_named v))) ns found →
      GoesOnWith k c context (ns ++ ms) v (found_word 0 found)

pub record EntersSection (k : Table) (c : Checked) (context : List ℕ) (ms : List k.Move)
    (v : RunView) : Type 0 where
  pub goes_on : (word : ℕ) → GoesOnWith k c context (opening k v.depth ++ ms) v word

pub record LeavesSection (k : Table) (c : Checked) (context : List ℕ) (ms : List k.Move)
    (v : RunView) : Type 0 where
  pub inside : 0 < v.depth
  pub goes_on : (word : ℕ) → GoesOnWith k c context (closing k v.depth ++ ms) v word

-- what is so of a request of a shared run
abbrev pub CanAnswer : (k : Table) → Checked → List ℕ → List k.Move → RunView → Request → Type 0
CanAnswer k c context ms v (requests.Load address offset width) =
    LoadsWord k c context ms v address offset width
CanAnswer k c context ms v (requests.Store address offset width number) =
    StoresWord k c context ms v address offset width number
CanAnswer k c context ms v (requests.Call Lookup) = LooksUpKey k c context ms v
CanAnswer k c context ms v (requests.Call Update) = ⊥
CanAnswer k c context ms v (requests.Call Delete) = ⊥
CanAnswer k c context ms v requests.Enter = EntersSection k c context ms v
CanAnswer k c context ms v requests.Leave = LeavesSection k c context ms v

-- The seat's list ends with the moves of a shared run that can be served what it asks.
pub record IsServable (k : Table) (mine : List k.Move) (v : RunView) (request : Request) : Type 0
  where
    pub checked : Checked
    pub context : List ℕ
    pub moves : List k.Move
    pub before : List k.Move
    pub list : mine ≡ moves ++ before
    pub can : CanAnswer k checked context moves v request

-- What was done serves it: with this word each such run goes on.
abbrev pub Serves : (k : Table) → RunView → Request → List k.Move → ℕ → Type 0
Serves k v request ns word = (c : Checked) (context : List ℕ) (ms : List k.Move) →
    CanAnswer k c context ms v request →
    GoesOnWith k c context (ns ++ ms) v word × MayGive c v request word

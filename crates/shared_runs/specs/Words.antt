-- Which programs a table of words can serve.
use Rattle.std.specs.Prelude.{◌≡◌, ◌≢◌, ◌⊎◌, ℕ, ◌*◌, ◌/◌, ◌%◌, ◌^◌, List, length, Option, Some, None, slice_get}
use Rattle.std.specs.List.{range_with_len}
use Rattle.bpf_model.specs.declared.call.Helper.TheVariants.{Update, Delete}
use Rattle.bpf_model.specs.declared.insn.CallKind.TheVariants as kinds
use Rattle.bpf_model.specs.declared.insn.Insn.{Insn}
use Rattle.bpf_model.specs.declared.insn.Insn.TheVariants.{Call, Load, LoadSigned, Store}
use Rattle.bpf_model.specs.declared.limits.MapKind.TheVariants.{Hash}
use Rattle.bpf_model.specs.declared.limits.MapShape.{MapShape}
use Rattle.bpf_model.specs.Access.{byte_count, unsigned_width}
use Rattle.bpf_model.specs.Call.{helper_of}
use Rattle.bpf_model.specs.Machine.{Loaded}
use Rattle.effects.specs.declared.region.Region.{Region}
use Rattle.effects.specs.declared.region.Region.TheVariants as regions
use Rattle.verifier.specs.Checked.{Checked}
use Rattle.shared_runs.specs.declared.sub_words.Accesses.{Accesses}
use Rattle.shared_runs.specs.declared.sub_words.Accesses.TheVariants.{All, Stores}
use Rattle.shared_runs.specs.Tables.{Table}

-- the program as the machine loads it, with a map for each of its shapes, in order
abbrev pub loaded_of : Checked → Loaded
loaded_of c = record {
  code = c.program;
  maps = range_with_len 0 (length c.shapes);
  context_len = c.ctx_len;
}

-- so many bytes of a word, from this one on, as a number: a word has its lowest byte first
abbrev pub part_of : ℕ → ℕ → ℕ → ℕ
part_of word low width = word / 2 ^ (8 * low) % 256 ^ width

-- so many bytes the instruction stores
abbrev pub stored_width : Insn → Option ℕ
stored_width (Store width dst offset src) = Some (byte_count width)
stored_width i = None

-- so many bytes the instruction loads or stores
abbrev pub access_width : Insn → Option ℕ
access_width (Load width dst src offset) = Some (byte_count width)
access_width (LoadSigned width dst src offset) = Some (byte_count (unsigned_width width))
access_width i = stored_width i

-- so many bytes the instruction accesses, if it is one of these accesses
abbrev pub width_among : Accesses → Insn → Option ℕ
width_among All i = access_width i
width_among Stores i = stored_width i

-- the region is the value of an element
abbrev pub IsElementRegion : Region → Type 0
IsElementRegion (regions.Value map) = Unit {0}
IsElementRegion region = ⊥

-- a number of bytes, which isn't that of a word
abbrev pub IsOtherWidth : Option ℕ → Type 0
IsOtherWidth None = ⊥
IsOtherWidth (Some width) = width ≢ 8

-- The instruction makes one of these accesses of an element, by another width than that of a word.
pub record IsSubWordAccess (among : Accesses) (c : Checked) (index : ℕ) (i : Insn) : Type 0 where
  pub other : IsOtherWidth (width_among among i)
  pub region : Region
  pub noted : slice_get c.regions index ≡ Some region
  pub element : IsElementRegion region

-- the instruction calls the helper that updates a map, or the one that deletes from it
abbrev pub ChangesMap : Insn → Type 0
ChangesMap (Call kinds.Helper imm) = (helper_of imm ≡ Some Update) ⊎ (helper_of imm ≡ Some Delete)
ChangesMap i = ⊥

-- Some instruction of the program makes one of these accesses of an element by another width than 8 bytes, or calls a helper
-- that changes a map.
pub record UsesSubWordsAmong (among : Accesses) (c : Checked) : Type 0 where
  pub index : ℕ
  pub insn : Insn
  pub there : slice_get c.program index ≡ Some insn
  pub uses : IsSubWordAccess among c index insn ⊎ ChangesMap insn

-- Some instruction of the program accesses an element by another width than 8 bytes, or calls a helper that changes a map.
abbrev pub UsesSubWords : Checked → Type 0
UsesSubWords c = UsesSubWordsAmong All c

-- Some instruction of the program stores to an element by another width than 8 bytes, or calls a helper that changes a map.
abbrev pub StoresSubWords : Checked → Type 0
StoresSubWords c = UsesSubWordsAmong Stores c

-- a map of this shape has keys and values of so many words
abbrev pub HasLengths : ℕ → ℕ → MapShape → Type 0
HasLengths key_words value_words shape =
    (shape.key_len ≡ 8 * key_words) × (shape.value_len ≡ 8 * value_words)

-- each of the maps is a hash map, with keys and values of so many words
abbrev pub HaveLengths : ℕ → ℕ → List MapShape → Type 0
HaveLengths key_words value_words shapes = (i : ℕ) (shape : MapShape) →
    slice_get shapes i ≡ Some shape → HasLengths key_words value_words shape × (shape.kind ≡ Hash)

-- each map of the program is a hash map that the table keeps
abbrev pub FitsTable : Table → List MapShape → Type 0
FitsTable k shapes = (i : ℕ) (shape : MapShape) →
    slice_get shapes i ≡ Some shape → k.Keeps i shape × (shape.kind ≡ Hash)

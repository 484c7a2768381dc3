-- What a program file says.
use Rattle.std.specs.Prelude.{◌≡◌, ℕ, ◌+◌, ◌≤◌, ◌⊎◌, List, [], ◌∷◌, ◌++◌, length, flat_map, codes}
use Rattle.std.specs.Prelude.{Option, Some, None}
use Rattle.bpf_model.specs.declared.limits.MapKind.TheVariants.{Hash, Array}
use Rattle.bpf_model.specs.declared.limits.MapShape.{MapShape}
use Rattle.bpf_model.specs.declared.limits.TheConstants.{CTX_BYTES}
use Rattle.bpf_model.specs.Shapes.{IsArrayShape}
use Rattle.bpf_model.specs.View.{new_map_view}
use Rattle.maps.specs.Registry.{RegistryView, no_maps, creation_fault}
use Rattle.program_files.specs.Lines.{file_words, code_slots}
use Rattle.script_stream.specs.Lines.{lines_of}
use Rattle.script_lines.specs.Words.{number_in}
use Rattle.program_files.specs.declared.loader.fault.LoadFault.{LoadFault}
use Rattle.program_files.specs.declared.loader.fault.LoadFault.TheVariants.{BadFile, Memory}

-- the context's length in bytes, the maps, and the bytes of the program
pub record FileContent : Type 0 where
  pub ctx_len : ℕ
  pub registry : RegistryView
  pub code : List ℕ

-- `ctx N`, with at most CTX_BYTES
pub record IsContextLine (line : List ℕ) (n : ℕ) : Type 0 where
  pub word : List ℕ
  pub words : file_words line ≡ codes "ctx" ∷ word ∷ []
  pub number : number_in word ≡ Some n
  pub limit : n ≤ CTX_BYTES

-- `KEY VALUE ENTRIES SPARE REUSE`: the words are the numbers of a hash map's shape.
pub record AreHashWords (words : List (List ℕ)) (shape : MapShape) : Type 0 where
  pub key : List ℕ
  pub value : List ℕ
  pub entries : List ℕ
  pub spare : List ℕ
  pub reuse : List ℕ
  pub words_are : words ≡ key ∷ value ∷ entries ∷ spare ∷ reuse ∷ []
  pub kind : shape.kind ≡ Hash
  pub key_len : number_in key ≡ Some shape.key_len
  pub value_len : number_in value ≡ Some shape.value_len
  pub entries_is : number_in entries ≡ Some shape.entries
  pub spare_is : number_in spare ≡ Some shape.spare
  pub reuse_limit : number_in reuse ≡ Some shape.reuse_limit

-- `array VALUE ENTRIES`: the words are of an array, whose keys are indices.
pub record AreArrayWords (words : List (List ℕ)) (shape : MapShape) : Type 0 where
  pub value : List ℕ
  pub entries : List ℕ
  pub words_are : words ≡ codes "array" ∷ value ∷ entries ∷ []
  pub kind : shape.kind ≡ Array
  pub array : IsArrayShape shape
  pub value_len : number_in value ≡ Some shape.value_len
  pub entries_is : number_in entries ≡ Some shape.entries

abbrev pub AreShapeWords : List (List ℕ) → MapShape → Type 0
AreShapeWords words shape = AreHashWords words shape ⊎ AreArrayWords words shape

-- `map NAME KEY VALUE ENTRIES SPARE REUSE`, `map NAME array VALUE ENTRIES`
pub record IsMapLine (line name : List ℕ) (shape : MapShape) : Type 0 where
  pub numbers : List (List ℕ)
  pub words : file_words line ≡ codes "map" ∷ name ∷ numbers
  pub shape_is : AreShapeWords numbers shape

-- The line is of a map that the registry takes, and that is its last then.
pub record AddsMap (old : RegistryView) (line : List ℕ) (new : RegistryView) : Type 0 where
  pub name : List ℕ
  pub shape : MapShape
  pub is : IsMapLine line name shape
  pub taken : creation_fault old name shape ≡ None
  pub names : new.names ≡ old.names ++ name ∷ []
  pub maps : new.maps ≡ old.maps ++ new_map_view shape ∷ []

-- Each of the lines is of a map that the registry takes, one after another.
abbrev pub AddMaps : RegistryView → List (List ℕ) → RegistryView → Type 0
AddMaps old [] new = new ≡ old
AddMaps old (line ∷ lines) new =
    (next : RegistryView) × AddsMap old line next × AddMaps next lines new

-- The lines behind the heading: a context, maps, `code`, and slots.
pub record IsProgramFile (lines : List (List ℕ)) (content : FileContent) : Type 0 where
  pub first : List ℕ
  pub map_lines : List (List ℕ)
  pub code_lines : List (List ℕ)
  pub parts : lines ≡ first ∷ (map_lines ++ codes "code" ∷ code_lines)
  pub context : IsContextLine first content.ctx_len
  pub maps : AddMaps no_maps map_lines content.registry
  pub code : code_slots (flat_map file_words code_lines) ≡ Some content.code

-- a program file has these lines first
abbrev pub IsFileBeginning : List (List ℕ) → Type 0
IsFileBeginning lines =
    (rest : List (List ℕ)) × (content : FileContent) × IsProgramFile (lines ++ rest) content

-- what is wrong behind the beginning of a program file: the next line, or that there is none and
-- the file is not finished
abbrev pub IsWrongAfter : List (List ℕ) → List (List ℕ) → Type 0
IsWrongAfter front [] = (content : FileContent) → ¬ (IsProgramFile front content)
IsWrongAfter front (line ∷ rest) = ¬ (IsFileBeginning (front ++ line ∷ []))

-- Line n, counted from 1 with the heading, is the first that is wrong.
pub record IsFirstWrongLine (lines : List (List ℕ)) (n : ℕ) : Type 0 where
  pub front : List (List ℕ)
  pub rest : List (List ℕ)
  pub parts : lines ≡ front ++ rest
  pub number : n ≡ length front + 2
  pub begins : IsFileBeginning front
  pub wrong : IsWrongAfter front rest

-- `bpfrt 1` and a line feed
abbrev pub heading : List ℕ
heading = codes "bpfrt 1\n"

-- the bytes do not begin with the heading
abbrev pub IsRawFile : List ℕ → Type 0
IsRawFile bytes = (text : List ℕ) → ¬ (bytes ≡ heading ++ text)

-- What a raw file says: its bytes are the program, with no context and no maps.
abbrev pub raw_content : List ℕ → FileContent
raw_content bytes = record { ctx_len = 0; registry = no_maps; code = bytes }

-- What a file of these bytes says.
abbrev pub FileSays : List ℕ → FileContent → Type 0
FileSays bytes content =
    ((text : List ℕ) × (bytes ≡ heading ++ text) × IsProgramFile (lines_of text) content)
    ⊎ (IsRawFile bytes × (content ≡ raw_content bytes))

-- The file says nothing: this line is wrong.
abbrev pub IsWrongFile : List ℕ → ℕ → Type 0
IsWrongFile bytes n =
    (text : List ℕ) × (bytes ≡ heading ++ text) × IsFirstWrongLine (lines_of text) n

-- Why a file says nothing; that memory ran out may be said of any.
abbrev pub IsLoadFault : List ℕ → LoadFault → Type 0
IsLoadFault bytes (BadFile line) = IsWrongFile bytes line
IsLoadFault bytes Memory = Unit {0}

abbrev pub load_fault_number : LoadFault → ℕ
load_fault_number (BadFile line) = 94
load_fault_number Memory = 13

abbrev pub load_fault_line : LoadFault → Option ℕ
load_fault_line (BadFile line) = Some line
load_fault_line Memory = None

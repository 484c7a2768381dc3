-- The contexts of many runs, as a file says them.
use Rattle.std.specs.Prelude.{◌≡◌, ◌≢◌, ◌⊎◌, ◌<◌, ℕ, ◌+◌, ◌%◌, List, [], ◌∷◌, ◌++◌, length, map, flat_map, All, Option, Some, None, ⊤}
use Rattle.std.specs.Result.{result_ok}
use Rattle.hex.specs.Hex.{decode_sized}
use Rattle.script_stream.specs.Lines.{lines_of}
use Rattle.program_files.specs.declared.contexts.ContextsFault.{ContextsFault}
use Rattle.program_files.specs.declared.contexts.ContextsFault.TheVariants.{Empty, BadLine, BadLength, Memory}

-- the context of so many bytes that a line says: two hexadecimal digits for each, in either case
abbrev pub context_in : ℕ → List ℕ → Option (List ℕ)
context_in len line = result_ok (decode_sized line len)

-- Each line says a context of so many bytes, and these are they, in their order. There is one at least.
pub record AreInLines (len : ℕ) (bytes : List ℕ) (contexts : List (List ℕ)) : Type 0 where
  pub each : map (context_in len) (lines_of bytes) ≡ map Some contexts
  pub some : 0 < length contexts

-- These contexts, of so many bytes each, stand one behind another, and nothing else. There are bytes.
pub record ArePacked (len : ℕ) (bytes : List ℕ) (contexts : List (List ℕ)) : Type 0 where
  pub together : bytes ≡ flat_map (λ context. context) contexts
  pub each : All (λ context. length context ≡ len) contexts
  pub some : 0 < length bytes

-- The line of this number, counted from 1, says no context of so many bytes, and each line before it says one.
pub record IsFirstWrong (len : ℕ) (bytes : List ℕ) (number : ℕ) : Type 0 where
  pub before : List (List ℕ)
  pub behind : List (Option (List ℕ))
  pub lines : map (context_in len) (lines_of bytes) ≡ map Some before ++ None ∷ behind
  pub number_is : number ≡ length before + 1

-- why lines say no contexts of so many bytes; that memory ran out may be said of any
abbrev pub IsLinesFault : ℕ → List ℕ → ContextsFault → Type 0
IsLinesFault len bytes Empty = bytes ≡ []
IsLinesFault len bytes (BadLine line) = IsFirstWrong len bytes line
IsLinesFault len bytes BadLength = ⊥
IsLinesFault len bytes Memory = ⊤

-- why bytes are no contexts of so many bytes one behind another; that memory ran out may be said of any
abbrev pub IsPackedFault : ℕ → List ℕ → ContextsFault → Type 0
IsPackedFault len bytes Empty = bytes ≡ []
IsPackedFault len bytes (BadLine line) = ⊥
IsPackedFault len bytes BadLength = (bytes ≢ []) × ((len ≡ 0) ⊎ (length bytes % len ≢ 0))
IsPackedFault len bytes Memory = ⊤

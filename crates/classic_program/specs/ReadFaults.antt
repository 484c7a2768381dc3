-- Why a text or an array isn't read.
use Rattle.std.specs.Prelude.{◌≡◌, ◌≢◌, ◌⊎◌, ℕ, ◌+◌, List, [], ◌∷◌, ◌++◌, All, length, take, Option, Some, None}
use Rattle.script_lines.specs.Words.{number_in}
use Rattle.classic_program.specs.declared.fault.ReadFault.{ReadFault}
use Rattle.classic_program.specs.declared.fault.ReadFault.TheVariants as read
use Rattle.classic_program.specs.declared.sock_filter.SockFilter.{SockFilter}
use Rattle.classic_program.specs.Reading.{filter_in, parts_at}

abbrev pub read_fault_number : ReadFault → ℕ
read_fault_number read.BadCount = 100
read_fault_number (read.BadLine n) = 101
read_fault_number read.CutRecord = 102
read_fault_number read.Memory = 13

abbrev pub read_fault_line : ReadFault → Option ℕ
read_fault_line read.BadCount = Some 1
read_fault_line (read.BadLine n) = Some n
read_fault_line fault = None

-- an instruction stands in the line
abbrev pub HasFilter : List ℕ → Type 0
HasFilter line = (filter : SockFilter) × (filter_in line ≡ Some filter)

-- The number of the first line in which none stands. The first of these lines is line 2 of its text.
pub record IsFirstWrong (lines : List (List ℕ)) (number : ℕ) : Type 0 where
  pub front : List (List ℕ)
  pub wrong : List ℕ
  pub behind : List (List ℕ)
  pub parts : lines ≡ front ++ wrong ∷ behind
  pub right : All HasFilter front
  pub none : filter_in wrong ≡ None
  pub number_is : number ≡ length front + 2

-- The lines are more than so many, or fewer. An empty one behind the last line feed is none. No line among the first so
-- many is wrong.
pub record IsMiscounted (count : ℕ) (lines : List (List ℕ)) : Type 0 where
  pub right : All HasFilter (take count lines)
  pub count_is_not : length lines ≢ count
  pub none_behind : lines ≢ take count lines ++ [] ∷ []

-- what is wrong with lines that are to be so many instructions
abbrev pub IsLinesFault : ℕ → List (List ℕ) → ReadFault → Type 0
IsLinesFault count lines read.BadCount = IsMiscounted count lines
IsLinesFault count lines (read.BadLine number) = IsFirstWrong (take count lines) number
IsLinesFault count lines read.CutRecord = ⊥
IsLinesFault count lines read.Memory = Unit {0}

-- Why a text is no listing: its first line is no number, or something is wrong with the lines behind it. That memory ran
-- out may be said of any.
pub record IsListingFault (text : List ℕ) (fault : ReadFault) : Type 0 where
  pub head : List ℕ
  pub behind : List (List ℕ)
  pub parts : parts_at 10 text ≡ head ∷ behind
  pub why : ((number_in head ≡ None) × (fault ≡ read.BadCount))
      ⊎ ((count : ℕ) × (number_in head ≡ Some count) × IsLinesFault count behind fault)

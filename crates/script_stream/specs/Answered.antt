-- What a script is answered: its lines one after another, each from the state that the one before
-- left.
use Rattle.std.specs.Prelude.{◌≡◌, ℕ, ◌+◌, ◌<◌, ◌⊎◌, List, [], ◌∷◌, ◌++◌, length, Option}
use Rattle.std.specs.Io.Iter.{u64_saturate}
use Rattle.std.specs.Io.KnownBytes.{IsAtEnd}
use Rattle.script_stream.specs.declared.fault.ScriptFault.{ScriptFault}
use Rattle.script_stream.specs.declared.fault.ScriptFault.TheVariants.{BadCommand}
use Rattle.script_stream.specs.Lines.{lines_of}

-- the most bytes of a line, without its line feed
abbrev pub longest_line : ℕ
longest_line = 70000

-- A line that ends the script: it is too long, or no command.
abbrev pub IsBadLine : (List ℕ → Type 0) → List ℕ → Type 0
IsBadLine is_bad line = (longest_line < length line) ⊎ is_bad line

-- It is so of the whole input, of which these bytes were read: of them alone where the reader has
-- none left, or else of them with whatever follows.
abbrev pub IsSoOfInput : Option (List ℕ) → List ℕ → (List ℕ → Type 0) → Type 0
IsSoOfInput left read IsSo = (IsAtEnd left × IsSo read) ⊎ ((rest : List ℕ) → IsSo (read ++ rest))

module _ {S : Type 0} (answers : S → List ℕ → List ℕ → S → Type 0) where
  -- The text is that of the answers to these lines, and they lead from one state to the other.
  abbrev pub Answered : S → List (List ℕ) → List ℕ → S → Type 0
  Answered old [] text new = (text ≡ []) × (new ≡ old)
  Answered old (line ∷ lines) text new =
      (first rest : List ℕ) × (mid : S) × answers old line first mid × Answered mid lines rest new
      × (text ≡ first ++ rest)

  -- The text answers exactly the lines before this one, counted from 1, which is bad.
  pub record AnsweredBefore (is_bad : List ℕ → Type 0) (old : S) (input : List ℕ) (line : ℕ)
      (text : List ℕ) : Type 0 where
    pub good : List (List ℕ)
    pub bad : List ℕ
    pub others : List (List ℕ)
    pub lines : lines_of input ≡ good ++ bad ∷ others
    pub number : line ≡ u64_saturate (length good + 1)
    pub is : IsBadLine is_bad bad
    pub new : S
    pub answered : Answered old good text new

  -- The text is a beginning of the answers to the first lines.
  pub record BeginsAnswered (old : S) (input : List ℕ) (text : List ℕ) : Type 0 where
    pub first : List (List ℕ)
    pub others : List (List ℕ)
    pub lines : lines_of input ≡ first ++ others
    pub more : List ℕ
    pub new : S
    pub answered : Answered old first (text ++ more) new

  -- How a script fails: what is written is a beginning of the answers to its lines, and where the
  -- fault told is a bad line, exactly the answers to the lines before it.
  pub record FailsWith (is_bad : List ℕ → Type 0) (old : S) (input written : List ℕ)
      (fault : ScriptFault) : Type 0 where
    pub begun : BeginsAnswered old input written
    pub before : (line : ℕ) → fault ≡ BadCommand line
        → AnsweredBefore is_bad old input line written

-- What is read of a text of instructions, and how the others are refused.
use Rattle.std.specs.Prelude.{◌≡◌, ◌≢◌, ◌⊎◌, ℕ, List, ◌++◌, codes, Option, Some, None}
use Rattle.std.specs.Str.{IsUtf8}
use Rattle.asm_source.specs.Head.{head_text}
use Rattle.asm_source.specs.LineEnds.{with_feeds}
use Rattle.texts.specs.Assembled.{IsSplit, IsTextFault}
use Rattle.texts.specs.declared.assembly.TextFault.{TextFault}
use Rattle.texts.specs.declared.assembly.TextFault.TheVariants.{Memory}

-- The lines above `code` are read without comments, and without blanks that are too many.
abbrev pub read_parts : Option (List ℕ) → List ℕ → List ℕ
read_parts None body = body
read_parts (Some head) body = head_text head ++ (codes "code\n" ++ body)

-- What is read of a text is that of its parts.
abbrev pub IsReadByParts : List ℕ → List ℕ → Type 0
IsReadByParts text read =
    (head : Option (List ℕ)) × (body : List ℕ) × IsSplit text head body × (read ≡ read_parts head body)

-- What is read of bytes. Lines may end by a carriage return and a line feed. What is no UTF-8 text is read as it
-- is, and refused.
abbrev pub IsRead : List ℕ → List ℕ → Type 0
IsRead bytes read =
    IsReadByParts (with_feeds bytes) read
    ⊎ ((IsUtf8 (with_feeds bytes) → ⊥) × (read ≡ with_feeds bytes))

-- the bytes are refused for what is read of them, and not for want of memory
abbrev pub IsRefusedText : List ℕ → Type 0
IsRefusedText bytes =
    (read : List ℕ) × IsRead bytes read
    × ((fault : TextFault) × (fault ≢ Memory) × IsTextFault read fault)

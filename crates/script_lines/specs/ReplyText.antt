-- The texts of answers.
use Rattle.std.specs.Prelude.{◌≡◌, ℕ, ◌==◌, if◌then◌else◌, List, [], ◌∷◌, ◌++◌, length, codes, Option}
use Rattle.std.specs.Prelude.{Some, None, Result, Ok, Err}
use Rattle.std.specs.Fmt.{decimal}
use Rattle.hex.specs.Hex.{encode_lower}
use Rattle.bpf_model.specs.Call.{errno_number}
use Rattle.bpf_model.specs.declared.call.Errno.{Errno}
use Rattle.bpf_model.specs.declared.event.Given.{Given}
use Rattle.bpf_model.specs.declared.event.Given.TheVariants as given
use Rattle.bpf_model.specs.declared.stat.Stat.{Stat}
use Rattle.script_lines.specs.declared.reply.Reply.{Reply}
use Rattle.script_lines.specs.declared.reply.Reply.TheVariants as replies

-- The later text begins with the earlier.
abbrev pub GoesOn : List ℕ → List ℕ → Type 0
GoesOn before after = (more : List ℕ) × (after ≡ before ++ more)

-- lower case digits, or `-` for no bytes
abbrev pub bytes_text : List ℕ → List ℕ
bytes_text bytes = if length bytes == 0 then codes "-" else encode_lower bytes

-- `0`, or the error as a negative number
abbrev pub ret_text : Result (Unit {0}) Errno → List ℕ
ret_text (Ok done) = codes "0"
ret_text (Err error) = codes "-" ++ decimal (errno_number error)

abbrev pub given_text : Given → List ℕ
given_text given.Free = codes "free"
given_text given.Worn = codes "worn"

abbrev pub slot_text : Option ℕ → List ℕ
slot_text None = []
slot_text (Some slot) = codes " at " ++ decimal slot

-- the name of the map, the key of the element, and what became of its map slot
abbrev pub reaped_text : List ℕ → List ℕ → Given → List ℕ
reaped_text map key given =
    codes "reaped " ++ map ++ codes " " ++ bytes_text key ++ codes " " ++ given_text given

-- a word and a number
abbrev pub counted : List ℕ → ℕ → List ℕ
counted word number = word ++ decimal number

abbrev pub stat_text : Stat → List ℕ
stat_text stat =
    (counted (codes "stat linked ") stat.linked ++ counted (codes " unlinked ") stat.unlinked)
    ++ (counted (codes " given ") stat.given ++ counted (codes " worn ") stat.worn)
    ++ (counted (codes " runs ") stat.runs ++ counted (codes " open ") stat.«open»)

-- an answer's line, without the line feed that ends it
abbrev pub reply_line : Reply → List ℕ
reply_line (replies.Map number) = codes "map " ++ decimal number
reply_line (replies.Prog number) = codes "prog " ++ decimal number
reply_line (replies.Ret ret) = codes "ret " ++ ret_text ret
reply_line (replies.Value value) = codes "value " ++ bytes_text value.items
reply_line replies.Nothing = codes "none"
reply_line (replies.Run number) = codes "run " ++ decimal number
reply_line replies.Moved = codes "moved"
reply_line (replies.Exit value) = codes "exit " ++ decimal value
reply_line replies.Done = codes "ok"
reply_line (replies.Reaped map key given) = reaped_text map key.items given
reply_line (replies.Stat stat) = stat_text stat
reply_line (replies.Element key value) = bytes_text key.items ++ codes " " ++ bytes_text value.items
reply_line replies.End = codes "end"
reply_line (replies.Refused code slot) = codes "refused " ++ decimal code ++ slot_text slot

abbrev pub reply_text : Reply → List ℕ
reply_text reply = reply_line reply ++ 10 ∷ []

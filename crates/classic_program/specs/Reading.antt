-- The two forms that classic programs are handed over in: the text of `tcpdump -ddd`, and the array of
-- struct sock_filter (Linux, include/uapi/linux/filter.h) that libseccomp exports, little-endian.
use Rattle.std.specs.Prelude.{◌≡◌, ℕ, zero, suc, ◌/◌, ◌^◌, ◌==◌, nat_lt, if◌then◌else◌, List, [], ◌∷◌, ◌++◌, length, map, drop}
use Rattle.std.specs.Prelude.{slice_index, Option, Some, None, ◌⊎◌, All, false}
use Rattle.std.specs.Borrow.{Bor}
use Rattle.std.specs.Int.{w16, w32, from_le_bytes}
use Rattle.std.specs.List.{slice_split}
use Rattle.bpf_model.specs.Value.{◌>>=◌}
use Rattle.script_lines.specs.Words.{number_in}
use Rattle.classic_program.specs.declared.sock_filter.SockFilter.{SockFilter}

-- the struct in the first eight bytes
abbrev pub filter_at : List ℕ → SockFilter
filter_at bytes = record {
  code = from_le_bytes w16 (slice_index bytes 0 ∷ slice_index bytes 1 ∷ []);
  jt = slice_index bytes 2;
  jf = slice_index bytes 3;
  k = from_le_bytes w32 (slice_index bytes 4 ∷ slice_index bytes 5 ∷ slice_index bytes 6
      ∷ slice_index bytes 7 ∷ []);
}

-- so many structs of eight bytes, one after the other
abbrev pub filters_from : ℕ → List ℕ → List SockFilter
filters_from zero bytes = []
filters_from (suc n) bytes = filter_at bytes ∷ filters_from n (drop 8 bytes)

abbrev pub filters_in : List ℕ → List SockFilter
filters_in bytes = filters_from (length bytes / 8) bytes

-- the lines of a text, parted by line feeds (byte 10), and the words of a line, by spaces (byte 32)
abbrev pub parts_at : ℕ → List ℕ → List (List ℕ)
parts_at separator text = slice_split (λ b. b == separator) text

-- the number below a limit that a word writes, in decimal
abbrev pub number_below : ℕ → List ℕ → Option ℕ
number_below limit word = number_in word >>= λ n. if nat_lt n limit then Some n else None

-- four numbers, each in its range: the code, the two skips, and k
abbrev pub filter_of_words : List (List ℕ) → Option SockFilter
filter_of_words (code ∷ jt ∷ jf ∷ k ∷ []) =
    number_below (2 ^ 16) code >>= λ code. number_below (2 ^ 8) jt >>= λ jt.
    number_below (2 ^ 8) jf >>= λ jf. number_below (2 ^ 32) k >>= λ k.
    Some (record { code = code; jt = jt; jf = jf; k = k })
filter_of_words words = None

abbrev pub filter_in : List ℕ → Option SockFilter
filter_in line = filter_of_words (parts_at 32 line)

-- So many lines, an instruction each. A line feed may end the last of them.
pub record HasLines (count : ℕ) (all : List (List ℕ)) (filters : List SockFilter) : Type 0 where
  pub lines : List (List ℕ)
  pub parts : (all ≡ lines) ⊎ (all ≡ lines ++ [] ∷ [])
  pub count_is : count ≡ length filters
  pub each : map filter_in lines ≡ map Some filters

-- The text is a listing: how many instructions there are, and a line for each.
pub record IsListing (text : List ℕ) (filters : List SockFilter) : Type 0 where
  pub head : List ℕ
  pub count : ℕ
  pub behind : List (List ℕ)
  pub parts : parts_at 10 text ≡ head ∷ behind
  pub count_is : number_in head ≡ Some count
  pub lines : HasLines count behind filters

-- what is left behind a separator
abbrev pub parts_left : ℕ → Option (Bor (List ℕ)) → List (List ℕ)
parts_left separator None = []
parts_left separator (Some rest) = parts_at separator rest.now

-- no byte is this one
abbrev pub Lacks : ℕ → List ℕ → Type 0
Lacks separator bytes = All (λ b. (b == separator) ≡ false) bytes

-- SipHash-1-3 of words: one round after each word, and three at the end. Of J.-P. Aumasson and D. J. Bernstein, "SipHash: a
-- fast short-input PRF" (2012), sections 2.1 to 2.4, with c = 1 and d = 3, as Rust's maps take it. That has the length of
-- the text in a block of its own behind whole words. All keys of a table have one length, so that block is left out here.
use Rattle.std.specs.Prelude.{ℕ, ◌+◌, ◌%◌, ◌^◌, List, fold, bit_xor}
use Rattle.std.specs.Int.{w64, rotate_left}
use Rattle.table_words.specs.declared.sip.Secret.{Secret}
use Rattle.table_words.specs.declared.sip.SipState.{SipState}

abbrev pub sum : ℕ → ℕ → ℕ
sum x y = (x + y) % 2 ^ 64

abbrev pub rotated : ℕ → ℕ → ℕ
rotated x by = rotate_left w64 x by

-- section 2.1: "somepseudorandomlygeneratedbytes" under the two words of the secret
unfoldable pub begun : Secret → SipState
begun k = record {
  v0 = bit_xor k.first 0x736f_6d65_7073_6575;
  v1 = bit_xor k.second 0x646f_7261_6e64_6f6d;
  v2 = bit_xor k.first 0x6c79_6765_6e65_7261;
  v3 = bit_xor k.second 0x7465_6462_7974_6573;
}

-- section 2.4: a round. Its first half adds v1 to v0 and v3 to v2, its second v1 to v2 and v3 to v0.
unfoldable pub rounded : SipState → SipState
rounded s =
    let a0 = sum s.v0 s.v1 in
    let a1 = bit_xor (rotated s.v1 13) a0 in
    let a2 = sum s.v2 s.v3 in
    let a3 = bit_xor (rotated s.v3 16) a2 in
    let b0 = sum (rotated a0 32) a3 in
    let b3 = bit_xor (rotated a3 21) b0 in
    let b2 = sum a2 a1 in
    let b1 = bit_xor (rotated a1 17) b2 in
    record { v0 = b0; v1 = b1; v2 = rotated b2 32; v3 = b3 }

-- section 2.2: the state after one more word
unfoldable pub absorbed : SipState → ℕ → SipState
absorbed s word =
    let t = rounded (record { v0 = s.v0; v1 = s.v1; v2 = s.v2; v3 = bit_xor s.v3 word }) in
    record { v0 = bit_xor t.v0 word; v1 = t.v1; v2 = t.v2; v3 = t.v3 }

-- section 2.3: what is told in the end
unfoldable pub finished : SipState → ℕ
finished s =
    let t = rounded (rounded (rounded (record { v0 = s.v0; v1 = s.v1; v2 = bit_xor s.v2 0xff; v3 = s.v3 }))) in
    bit_xor (bit_xor (bit_xor t.v0 t.v1) t.v2) t.v3

abbrev pub sip_hash : Secret → List ℕ → ℕ
sip_hash k words = finished (fold absorbed (begun k) words)

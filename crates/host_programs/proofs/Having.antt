-- Each packet has a context.
use Rattle.bpf_model.proofs.Prelude.{ℕ, zero, suc, ◌-◌, ◌/◌, ◌^◌, ◌<◌, List, [], ◌∷◌, ◌++◌, length, take, min, refl, arith, replicate, w32, byte_at}
use Rattle.bpf_model.proofs.Prelude.{to_le_bytes, length-replicate, none-some, same_Some, mod_below, get-replicate, AreBytes}
use Rattle.classic_program.proofs.Prelude.{IsPacketContext, packet_bytes}
use Rattle.host_programs.specs.Packets.{seen}
use Rattle.host_programs.proofs.Laid.{context_of, get-take}

no-bytes : AreBytes []
no-bytes k b h = absurd (none-some b h)

more-bytes : (x : ℕ) (xs : List ℕ) → x < 2 ^ 8 → AreBytes xs → AreBytes (x ∷ xs)
more-bytes x xs l f zero b h = omega (arith, l, same_Some x b h)
more-bytes x xs l f (suc k) b h = f k b h

append-bytes : (xs ys : List ℕ) → AreBytes xs → AreBytes ys → AreBytes (xs ++ ys)
append-bytes [] ys f g = g
append-bytes (x ∷ xs) ys f g = more-bytes x (xs ++ ys) (f 0 x refl) (append-bytes xs ys (λ k b h. f (suc k) b h) g)

byte-below : (i n : ℕ) → byte_at i n < 2 ^ 8
byte-below zero n = mod_below n 256 (omega arith)
byte-below (suc i) n = mod_below (n / 256 ^ suc i) 256 (omega arith)

number-bytes : (n : ℕ) → AreBytes (to_le_bytes w32 n)
number-bytes n =
    let third = more-bytes (byte_at 3 n) [] (byte-below 3 n) no-bytes in
    let second = more-bytes (byte_at 2 n) (byte_at 3 n ∷ []) (byte-below 2 n) third in
    let first = more-bytes (byte_at 1 n) (byte_at 2 n ∷ byte_at 3 n ∷ []) (byte-below 1 n) second in
    more-bytes (byte_at 0 n) (byte_at 1 n ∷ byte_at 2 n ∷ byte_at 3 n ∷ []) (byte-below 0 n) first

zero-bytes : (n : ℕ) → AreBytes (replicate n 0)
zero-bytes n k b h = omega (arith, get-replicate n k 0 b h)

pub record HasContext (packet : List ℕ) (wire : ℕ) : Type 0 where
  pub context : List ℕ
  pub is : IsPacketContext (seen packet wire) context
  pub bytes : AreBytes context

pub has_context : (packet : List ℕ) (wire : ℕ) → AreBytes packet → wire < 2 ^ 32 → HasContext packet wire
has_context packet wire bytes w =
    let n = min packet_bytes (length packet) in
    let zeros = replicate (packet_bytes - n) 0 in
    let rest = take n packet ++ zeros in
    record {
      context = to_le_bytes w32 n ++ (to_le_bytes w32 wire ++ rest);
      is = context_of packet wire n (to_le_bytes w32 n) (to_le_bytes w32 wire) (take n packet) zeros _ bytes w refl refl refl refl
          (length-replicate (packet_bytes - n) 0) refl;
      bytes = append-bytes (to_le_bytes w32 n) (to_le_bytes w32 wire ++ rest) (number-bytes n)
          (append-bytes (to_le_bytes w32 wire) rest (number-bytes wire)
          (append-bytes (take n packet) zeros (λ k b h. bytes k b (get-take n k b packet h)) (zero-bytes (packet_bytes - n))));
    }

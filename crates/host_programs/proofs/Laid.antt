-- How the bytes of a packet's context lie.
use Rattle.bpf_model.proofs.Prelude.{◌≡◌, ℕ, zero, suc, ◌+◌, ◌-◌, ◌*◌, ◌^◌, ◌<◌, ◌≤◌, List, [], ◌∷◌, ◌++◌, length, take, min, refl, sym, ap, ◌∙◌, subst}
use Rattle.bpf_model.proofs.Prelude.{arith, Some, slice_get, w32, byte_at, to_le_bytes, take_min, length-take, length-append, from_le_bytes-to_le_bytes_4}
use Rattle.bpf_model.proofs.Prelude.{none-some, get-append, get-below, number_at, AreBytes}
use Rattle.classic_program.proofs.Prelude.{IsPacketContext, packet_bytes}
use Rattle.std.proofs.Common.{length-drop}
use borrow.Rule.Slice.PartMut.{put_mid, post_of}
use Rattle.host_programs.specs.Packets.{seen}

regroup : (a b c d : ℕ) → a + 256 * (b + 256 * (c + 256 * (d + 256 * 0))) ≡ a + b * 256 ^ 1 + c * 256 ^ 2 + d * 256 ^ 3
regroup a b c d = omega arith

number_first : (n : ℕ) (rest : List ℕ) → n < 2 ^ 32 → number_at (slice_get (to_le_bytes w32 n ++ rest)) 0 4 ≡ Some n
number_first n rest h = ap Some (regroup (byte_at 0 n) (byte_at 1 n) (byte_at 2 n) (byte_at 3 n) ∙ from_le_bytes-to_le_bytes_4 n h)

number_next : (m n : ℕ) (rest : List ℕ) → n < 2 ^ 32 →
    number_at (slice_get (to_le_bytes w32 m ++ (to_le_bytes w32 n ++ rest))) 4 4 ≡ Some n
number_next m n rest h = ap Some (regroup (byte_at 0 n) (byte_at 1 n) (byte_at 2 n) (byte_at 3 n) ∙ from_le_bytes-to_le_bytes_4 n h)

behind : (m n k : ℕ) (rest : List ℕ) → slice_get (to_le_bytes w32 m ++ (to_le_bytes w32 n ++ rest)) (8 + k) ≡ slice_get rest k
behind m n k rest =
    let e : 8 + k ≡ suc (suc (suc (suc (suc (suc (suc (suc k))))))) = omega arith in
    ap (slice_get (to_le_bytes w32 m ++ (to_le_bytes w32 n ++ rest))) e

pub get-take : (n k b : ℕ) (xs : List ℕ) → slice_get (take n xs) k ≡ Some b → slice_get xs k ≡ Some b
get-take zero k b xs h = absurd (none-some b h)
get-take (suc n) k b [] h = h
get-take (suc n) zero b (x ∷ xs) h = h
get-take (suc n) (suc k) b (x ∷ xs) h = get-take n k b xs h

suc_eight : (k : ℕ) → suc (suc (suc (suc (suc (suc (suc (suc k))))))) ≡ 8 + k
suc_eight k = omega arith

get-front : (xs ys : List ℕ) (k : ℕ) → k < length xs → slice_get (xs ++ ys) k ≡ slice_get xs k
get-front xs ys k h = let x = get-below xs k h in get-append xs ys k x.0 x.1 ∙ sym x.1

pub context_of : (packet : List ℕ) (wire n : ℕ) (a b s zeros items : List ℕ) → AreBytes packet → wire < 2 ^ 32
    → n ≡ min packet_bytes (length packet) → a ≡ to_le_bytes w32 n → b ≡ to_le_bytes w32 wire → s ≡ take n packet
    → length zeros ≡ packet_bytes - n → items ≡ a ++ (b ++ (s ++ zeros)) → IsPacketContext (seen packet wire) items
context_of packet wire n a b s zeros items bytes w least ea eb es z e =
    let same : s ≡ take packet_bytes packet = es ∙ ap (λ (k : ℕ). take k packet) least ∙ take_min packet_bytes packet in
    let long : length (take packet_bytes packet) ≡ n = length-take packet_bytes packet ∙ sym least in
    let size : length s ≡ n = ap length same ∙ long in
    let few : n ≤ packet_bytes = omega (arith, least) in
    let rest = s ++ zeros in
    let total : length rest ≡ packet_bytes = length-append s zeros ∙ omega (arith, size, z, few) in
    let f : items ≡ to_le_bytes w32 n ++ (to_le_bytes w32 wire ++ rest) =
    e ∙ ap (λ (l : List ℕ). l ++ (b ++ rest)) ea ∙ ap (λ (l : List ℕ). to_le_bytes w32 n ++ (l ++ rest)) eb in
    record {
      size = ap length f ∙ suc_eight (length rest) ∙ ap (λ (k : ℕ). 8 + k) total;
      bytes = λ k b h. bytes k b (get-take packet_bytes k b packet h);
      captured = omega (arith, long, few);
      captured_is = subst (λ (xs : List ℕ). number_at (slice_get xs) 0 4 ≡ Some (length (take packet_bytes packet))) (sym f)
          (number_first n (to_le_bytes w32 wire ++ rest) (omega (arith, few)) ∙ ap Some (sym long));
      wire = w;
      wire_is = subst (λ (xs : List ℕ). number_at (slice_get xs) 4 4 ≡ Some wire) (sym f) (number_next n wire rest w);
      packet = λ k h. ap (λ (xs : List ℕ). slice_get xs (8 + k)) f ∙ behind n wire k rest
          ∙ ap (λ (xs : List ℕ). slice_get (xs ++ zeros) k) same ∙ get-front (take packet_bytes packet) zeros k h;
    }

-- Bytes that were written over others, one part behind the other.
pub written : (packet : List ℕ) (wire n : ℕ) (a b s old : List ℕ) → AreBytes packet → wire < 2 ^ 32
    → n ≡ min packet_bytes (length packet) → a ≡ to_le_bytes w32 n → b ≡ to_le_bytes w32 wire → s ≡ take n packet → length old ≡ 8 + packet_bytes
    → IsPacketContext (seen packet wire) (put_mid 8 (8 + n - 8) (put_mid 4 4 (a ++ post_of 0 4 old) b) s)
written packet wire n a b s old bytes w least ea eb es l =
    let few : n ≤ packet_bytes = omega (arith, least) in
    let size : 8 + n - 8 ≡ n = omega arith in
    let rest = post_of 0 4 (post_of 0 4 old) in
    let zeros = post_of 0 (8 + n - 8) rest in
    let long : length zeros ≡ packet_bytes - n =
    length-drop (8 + n - 8) rest ∙ omega (arith, l, few, length-drop 4 old, length-drop 4 (post_of 0 4 old)) in
    context_of packet wire n (to_le_bytes w32 n) (to_le_bytes w32 wire) s zeros _ bytes w least refl refl es long
    (ap (λ (x : List ℕ). put_mid 8 (8 + n - 8) (put_mid 4 4 (x ++ post_of 0 4 old) b) s) ea
    ∙ ap (λ (y : List ℕ). put_mid 8 (8 + n - 8) (put_mid 4 4 (to_le_bytes w32 n ++ post_of 0 4 old) y) s) eb)

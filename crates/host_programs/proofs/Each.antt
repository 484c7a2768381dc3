-- Runs on contexts that stand one behind another.
use Rattle.bpf_model.proofs.Prelude.{inl, inr, ◌≡◌, ℕ, zero, suc, ◌+◌, ◌<◌, List, [], ◌∷◌, drop, Some, refl, sym, ap, ◌∙◌, subst, arith, slice_get, slice_set}
use Rattle.bpf_model.proofs.Prelude.{get-set_cases}
use Rattle.host_programs.specs.Opened.{OpenProgram}
use Rattle.host_programs.specs.Packets.{seen_of}
use Rattle.host_programs.specs.Runs.{Gives, GivesOnPacket, context_at}
use Rattle.host_programs.specs.declared.packet.PacketAt.{PacketAt}

nothing : (n : ℕ) → drop {A = ℕ} n [] ≡ []
nothing zero = refl
nothing (suc n) = refl

pub drop-more : (n m : ℕ) (xs : List ℕ) → drop m (drop n xs) ≡ drop (n + m) xs
drop-more zero m xs = ap (λ (k : ℕ). drop k xs) (omega arith)
drop-more (suc n) m [] = nothing m ∙ sym (nothing (suc n + m))
drop-more (suc n) m (x ∷ xs) =
    let e : suc n + m ≡ suc (n + m) = omega arith in
    drop-more n m xs ∙ ap (λ (k : ℕ). drop k (x ∷ xs)) (sym e)

pub next-each : (p : OpenProgram) (long at v : ℕ) (contexts results : List ℕ)
    → ((k n : ℕ) → k < at → slice_get results k ≡ Some n → Gives p (context_at long k contexts) n)
    → Gives p (context_at long at contexts) v → (k n : ℕ) → k < at + 1 → slice_get (slice_set results at v) k ≡ Some n →
    Gives p (context_at long k contexts) n
next-each p long at v contexts results before now k n h g =
    elim (get-set_cases results at k v n g) [
      | inl x ↦ subst (λ (m : ℕ). Gives p (context_at long k contexts) m) x.1
          (subst (λ (i : ℕ). Gives p (context_at long i contexts) v) (sym x.0) now)
      | inr x ↦ before k n (omega (arith, h, x.0)) x.1
    ]

pub next-packet : (p : OpenProgram) (bytes : List ℕ) (packets : List PacketAt) (at v : ℕ) (results : List ℕ) (here : PacketAt)
    → ((packet : PacketAt) → slice_get packets at ≡ Some packet → here ≡ packet)
    → ((k n : ℕ) (packet : PacketAt) → k < at → slice_get packets k ≡ Some packet → slice_get results k ≡ Some n →
    GivesOnPacket p (seen_of bytes packet) n)
    → GivesOnPacket p (seen_of bytes here) v → (k n : ℕ) (packet : PacketAt) → k < at + 1 → slice_get packets k ≡ Some packet
    → slice_get (slice_set results at v) k ≡ Some n → GivesOnPacket p (seen_of bytes packet) n
next-packet p bytes packets at v results here only before now k n packet h is g =
    elim (get-set_cases results at k v n g) [
      | inl x ↦ subst (λ (m : ℕ). GivesOnPacket p (seen_of bytes packet) m) x.1
          (subst (λ (q : PacketAt). GivesOnPacket p (seen_of bytes q) v)
          (only packet (subst (λ (i : ℕ). slice_get packets i ≡ Some packet) x.0 is)) now)
      | inr x ↦ before k n packet (omega (arith, h, x.0)) is x.1
    ]

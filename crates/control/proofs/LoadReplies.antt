-- What a program's bytes are replied.
use Rattle.bpf_model.proofs.Prelude.{◌≡◌, ◌≢◌, ℕ, ◌<◌, ◌≤◌, inl, inr, List, length, None, Result, Ok, Err, IfOk, refl, sym, ap, subst, arith, nat_tests}
use Rattle.bpf_model.proofs.Prelude.{IsProgram, text}
use Rattle.model_laws.proofs.Prelude.{MAX_PROGRAMS, CTX_BYTES, Insn, MapShape, IsPlainWithMaps}
use Rattle.verifier.proofs.Prelude.{IsToldOf}
use Rattle.world_laws.proofs.Prelude.{IsBoundTo}
use Rattle.insn_codec.specs.declared.fault.DecodeFault.{DecodeFault}
use Rattle.insn_codec.specs.declared.fault.DecodeFault.TheVariants as faults
use Rattle.insn_codec.specs.Faults.{IsDecodeFault}
use Rattle.verifier.specs.declared.refusal.ProgramRefusal.{ProgramRefusal}
use Rattle.verifier.specs.declared.refusal.ProgramRefusal.TheVariants.{Memory}
use Rattle.control.specs.MapAndLoad.{AreMapsNamed, ReadReplies, LoadReplied, LoadReplies, limit_refusal}
use Rattle.control.specs.declared.refusal.LineRefusal.{LineRefusal}
use Rattle.control.specs.declared.refusal.LineRefusal.TheVariants as refusals
use Rattle.control.specs.Refusals.{program_reply}
use Rattle.control.specs.Setups.{SetupView, shapes_made}

-- a fault of decoding that is not for want of memory
pub undecoded-reply : {E : Type 0} (s : SetupView) (code : List ℕ) (shapes : List MapShape) (maps : List ℕ)
    (ctx_len : ℕ) (fault : DecodeFault) (result : Result (Result ℕ LineRefusal) E) → IsDecodeFault code fault →
    IfOk result (λ _. fault ≢ faults.Memory) → IfOk result (λ made. made ≡ Err (refusals.Decode fault)) →
    IfOk result (λ made. ReadReplies s code shapes maps ctx_len (program_reply made) s)
undecoded-reply s code shapes maps ctx_len fault (Ok made) is known told-as =
    inl (record { fault = fault; is = is; known = known; reply_is = ap program_reply told-as }, refl)
undecoded-reply s code shapes maps ctx_len fault (Err e) is known told-as = tt

-- a refusal of the verifier that is not for want of memory
pub unverified-reply : {E : Type 0} (s : SetupView) (code : List ℕ) (shapes : List MapShape) (maps : List ℕ)
    (ctx_len : ℕ) (program : List Insn) (refusal : ProgramRefusal) (result : Result (Result ℕ LineRefusal) E) → IsProgram program →
    code ≡ text program → IsToldOf program refusal → (IsPlainWithMaps program shapes → refusal ≡ Memory) →
    IfOk result (λ _. refusal ≢ Memory) → IfOk result (λ made. made ≡ Err (refusals.Program refusal)) →
    IfOk result (λ made. ReadReplies s code shapes maps ctx_len (program_reply made) s)
unverified-reply s code shapes maps ctx_len program refusal (Ok made) is spelled told with-maps known told-as =
    inr (inl (
      record {
        program = program;
        is = is;
        text_is = spelled;
        refusal = refusal;
        told = told;
        known = known;
        not_plain_with_maps = λ p. known (with-maps p);
        reply_is = ap program_reply told-as;
      },
      refl,
    ))
unverified-reply s code shapes maps ctx_len program refusal (Err e) is spelled told with-maps known told-as = tt

-- no limit refuses where there is room, and the context is not too long
no-limit : (s : SetupView) (ctx_len : ℕ) → length s.programs < MAX_PROGRAMS → ctx_len ≤ CTX_BYTES → limit_refusal s ctx_len ≡ None
no-limit s ctx_len room fits = grind (arith, nat_tests)

-- what the code is replied, for the maps that are named
pub read-reply : {E : Type 0} (s new : SetupView) (ctx_len : ℕ) (code : List ℕ) (wanted : List (List ℕ))
    (shapes : List MapShape) (maps : List ℕ) (result : Result (Result ℕ LineRefusal) E) → length s.programs < MAX_PROGRAMS →
    ctx_len ≤ CTX_BYTES → AreMapsNamed s.registry.names wanted maps → IsBoundTo (shapes_made s) shapes maps →
    IfOk result (λ made. ReadReplies s code shapes maps ctx_len (program_reply made) new) →
    IfOk result (λ made. LoadReplies s ctx_len code wanted (program_reply made) new)
read-reply s new ctx_len code wanted shapes maps (Ok made) room fits named bound read =
    subst (λ o. LoadReplied o s ctx_len code wanted (program_reply made) new) (sym (no-limit s ctx_len room fits))
    (inr (record { maps = maps; named = named; shapes = shapes; bound = bound; read = read }))
read-reply s new ctx_len code wanted shapes maps (Err e) room fits named bound read = tt

-- When an update finds no memory.
use Rattle.bpf_model.proofs.Prelude.{◌≡◌, ◌≢◌, ℕ, List, length, Option, Some, None, refl, sym, ap, ◌∙◌, Bool, true, false, Result, Ok, Err, slice_get, ◌==◌}
use Rattle.bpf_model.proofs.Prelude.{if◌then◌else◌, eqb-true, eq-eqb, false≢true, same_Some, nil_from_length, MapState, Store, error_of_kind, Settles}
use Rattle.bpf_model.proofs.Prelude.{Updates, Loaded, open_sections, Schedule, IsReachedSchedule}
use Rattle.model_laws.proofs.Prelude.{Errno, NoEntry, TooBig, NoMemory, Exists, InvalidArgument, MapShape, MapKind, Hash, Array, IsFull}
use Rattle.model_laws.proofs.Accounting.{enomem_exactly}

-- the tests of an update, in their order
abbrev first_failed : Bool → Bool → Bool → Bool → Bool → Option Errno
first_failed flags exists absent big full =
    if flags then Some InvalidArgument
    else if exists then Some Exists
    else if absent then Some NoEntry
    else if big then Some TooBig
    else if full then Some NoMemory
    else None

fails-last : (a b c d e : Bool) (ret : Result (Unit {0}) Errno) (s new : Store) (Done : Type 0) →
    Settles (first_failed a b c d e) ret s new Done → ret ≡ Err NoMemory → e ≡ true
fails-last true b c d e ret s new Done h g = absurd (let x : Err InvalidArgument ≡ Err NoMemory = sym h.0 ∙ g in cc)
fails-last false true c d e ret s new Done h g = absurd (let x : Err Exists ≡ Err NoMemory = sym h.0 ∙ g in cc)
fails-last false false true d e ret s new Done h g = absurd (let x : Err NoEntry ≡ Err NoMemory = sym h.0 ∙ g in cc)
fails-last false false false true e ret s new Done h g = absurd (let x : Err TooBig ≡ Err NoMemory = sym h.0 ∙ g in cc)
fails-last false false false false true ret s new Done h g = refl
fails-last false false false false false ret s new Done h g = absurd (let x : Ok tt ≡ Err NoMemory = sym h.0 ∙ g in cc)

full-fails : (a b c d e : Bool) (ret : Result (Unit {0}) Errno) (s new : Store) (Done : Type 0) →
    Settles (first_failed a b c d e) ret s new Done → e ≡ true → ret ≢ Ok tt
full-fails true b c d e ret s new Done h full g = let x : Err InvalidArgument ≡ Ok tt = sym h.0 ∙ g in cc
full-fails false true c d e ret s new Done h full g = let x : Err Exists ≡ Ok tt = sym h.0 ∙ g in cc
full-fails false false true d e ret s new Done h full g = let x : Err NoEntry ≡ Ok tt = sym h.0 ∙ g in cc
full-fails false false false true e ret s new Done h full g = let x : Err TooBig ≡ Ok tt = sym h.0 ∙ g in cc
full-fails false false false false true ret s new Done h full g = let x : Err NoMemory ≡ Ok tt = sym h.0 ∙ g in cc
full-fails false false false false false ret s new Done h full g = absurd (false≢true full)

-- an array's update never wants for memory
array-fails : (a b c : Bool) (ret : Result (Unit {0}) Errno) (s new : Store) (Done : Type 0) →
    Settles (if a then Some InvalidArgument else if b then Some TooBig else if c then Some Exists else None) ret s new
    Done → ret ≡ Err NoMemory → ⊥
array-fails true b c ret s new Done h g = let x : Err InvalidArgument ≡ Err NoMemory = sym h.0 ∙ g in cc
array-fails false true c ret s new Done h g = let x : Err TooBig ≡ Err NoMemory = sym h.0 ∙ g in cc
array-fails false false true ret s new Done h g = let x : Err Exists ≡ Err NoMemory = sym h.0 ∙ g in cc
array-fails false false false ret s new Done h g = let x : Ok tt ≡ Err NoMemory = sym h.0 ∙ g in cc

none-left : (kind : MapKind) (flags : ℕ) (present : Bool) (linked : ℕ) (m : MapState) (ret : Result (Unit {0}) Errno)
    (s new : Store) (Done : Type 0) → Settles (error_of_kind kind flags present linked m) ret s new Done →
    ret ≡ Err NoMemory → length m.bag ≡ 0
none-left Hash flags present linked m ret s new Done h g = eqb-true (length m.bag) 0 (fails-last _ _ _ _ (length m.bag == 0) ret s new Done h g)
none-left Array flags present linked m ret s new Done h g = absurd (array-fails _ _ _ ret s new Done h g)

no-success : (kind : MapKind) (flags : ℕ) (present : Bool) (linked : ℕ) (m : MapState) (ret : Result (Unit {0}) Errno)
    (s new : Store) (Done : Type 0) → kind ≡ Hash → Settles (error_of_kind kind flags present linked m) ret s new Done
    → length m.bag ≡ 0 → ret ≢ Ok tt
no-success Hash flags present linked m ret s new Done is h none = full-fails _ _ _ _ (length m.bag == 0) ret s new Done h (eq-eqb (length m.bag) 0 none)
no-success Array flags present linked m ret s new Done is h none = absurd (let x : Array ≡ Hash = is in cc)

pub no_memory_when_full : (shapes : List MapShape) (programs : List Loaded) (s : Schedule) (k : ℕ) (m : MapState)
    (key value : List ℕ) (flags : ℕ) (ret : Result (Unit {0}) Errno) (new : Store) →
    IsReachedSchedule shapes programs s → slice_get s.machine.store.maps k ≡ Some m →
    Updates s.machine.store (open_sections s.machine.runs) k key value flags ret new →
    (ret ≡ Err NoMemory → IsFull k s.machine.store.elements m) ×
    (m.shape.kind ≡ Hash → IsFull k s.machine.store.elements m → ret ≢ Ok tt)
no_memory_when_full shapes programs s k m key value flags ret new r at u =
    let same : u.state ≡ m = same_Some u.state m (sym u.there ∙ at) in
    let bag : length u.state.bag ≡ length m.bag = ap (λ x. length x.bag) same in
    let exactly = enomem_exactly shapes programs s k m r at in (
      λ g.
          let none : length u.state.bag ≡ 0 = none-left u.state.shape.kind _ _ _ u.state ret _ _ _ u.settled g in
          exactly.0 (nil_from_length m.bag (sym bag ∙ none)),
      λ hash full.
          let none : length u.state.bag ≡ 0 = bag ∙ ap length (exactly.1 full) in
          no-success u.state.shape.kind _ _ _ u.state ret _ _ _ (ap (λ x. x.shape.kind) same ∙ hash) u.settled none,
    )

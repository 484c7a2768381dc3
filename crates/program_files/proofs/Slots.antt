-- The slots of a line, word by word; and maps that no registry takes.
use Rattle.bpf_model.proofs.Prelude.{◌≡◌, ◌≢◌, ℕ, ◌<◌, Bool, true, false, not, cond, ◌&&◌, List, [], ◌++◌, refl, sym, ◌∙◌, arith, Option, Some, None}
use Rattle.bpf_model.proofs.Prelude.{false≢true, nat_tests, option_append}
use Rattle.model_laws.proofs.Prelude.{MapShape, MAX_REUSE}
use Rattle.maps.specs.declared.fault.MapFault.{MapFault}
use Rattle.maps.specs.declared.fault.MapFault.TheVariants.{BadName, NameTaken, BadShape, TooMany}
use Rattle.maps.specs.Registry.{RegistryView, is_name, is_shape, has_name, creation_fault}
use Rattle.std.specs.Int.{is_in_range}
use Rattle.program_files.specs.Lines.{file_words, code_slots}

-- what was added to the code is the slots of the line's words but for those that are left
pub record HasSlots (line : List ℕ) (left : List (List ℕ)) (old new : List ℕ) : Type 0 where
  pub bytes : List ℕ
  pub slots : code_slots (file_words line) ≡ option_append (Some bytes) (code_slots left)
  pub code : new ≡ old ++ bytes

pub joined_nil : (x : Option (List ℕ)) → x ≡ option_append (Some []) x
joined_nil None = refl
joined_nil (Some bytes) = refl

-- a registry takes no such map

abbrev fault_of : Bool → Bool → Bool → Bool → Option MapFault
fault_of named taken shaped full = cond (not named) (Some BadName)
    (cond taken (Some NameTaken) (cond (not shaped) (Some BadShape) (cond full (Some TooMany) None)))

sound : (named taken shaped full : Bool) → fault_of named taken shaped full ≡ None → (named ≡ true) × (shaped ≡ true)
sound false taken shaped full e = absurd (let h : Some BadName ≡ None = e in cc)
sound true true shaped full e = absurd (let h : Some NameTaken ≡ None = e in cc)
sound true false false full e = absurd (let h : Some BadShape ≡ None = e in cc)
sound true false true full e = (refl, refl)

pub sound_map : (r : RegistryView) (name : List ℕ) (shape : MapShape) → creation_fault r name shape ≡ None → (is_name name ≡ true) × (is_shape shape ≡ true)
sound_map r name shape e = sound (is_name name) (has_name r name) (is_shape shape) _ e

not_within : (n : ℕ) → MAX_REUSE < n → is_in_range 1 MAX_REUSE n ≡ false
not_within n h = grind (arith, nat_tests)

none_and : (b : Bool) → (b && false) ≡ false
none_and true = refl
none_and false = refl

reuse_within : (shape : MapShape) → MAX_REUSE < shape.reuse_limit → is_shape shape ≡ true → ⊥
reuse_within shape h e =
    let wide = not_within shape.reuse_limit h in
    let none : is_shape shape ≡ false = simp (wide, none_and) in
    false≢true (sym none ∙ e)

pub too_often : (r : RegistryView) (name : List ℕ) (shape : MapShape) → MAX_REUSE < shape.reuse_limit → creation_fault r name shape ≢ None
too_often r name shape h e = absurd (reuse_within shape h (sound_map r name shape e).1)

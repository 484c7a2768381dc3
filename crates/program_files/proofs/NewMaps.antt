-- The maps that a file names are new.
use Rattle.bpf_model.proofs.Prelude.{ℕ, List, [], ◌∷◌, refl, sym, subst, inl, inr, AreNewMaps}
use Rattle.maps.specs.Registry.{RegistryView, no_maps}
use Rattle.maps.proofs.NewMaps.{new-more}
use Rattle.program_files.specs.ProgramFile.{FileContent, FileSays, AddMaps}

all_new : (old : RegistryView) (lines : List (List ℕ)) (new : RegistryView) → AreNewMaps old.maps → AddMaps old lines new → AreNewMaps new.maps
all_new old [] new h e = subst (λ (r : RegistryView). AreNewMaps r.maps) (sym e) h
all_new old (line ∷ lines) new h (next, adds, rest) = all_new next lines new (subst AreNewMaps (sym adds.maps) (new-more old.maps adds.shape h)) rest

pub says_new : (bytes : List ℕ) (content : FileContent) → FileSays bytes content → AreNewMaps content.registry.maps
says_new bytes content (inl (text, is, file)) = all_new no_maps file.map_lines content.registry refl file.maps
says_new bytes content (inr (raw, is)) = subst (λ (c : FileContent). AreNewMaps c.registry.maps) (sym is) refl

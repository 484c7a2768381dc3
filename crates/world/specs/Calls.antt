-- What a helper leaves in r0, and what it makes of the maps.
use Rattle.std.specs.Prelude.{ℕ, ◌-◌, List, Option, Some, None, slice_get, slice_set}
use Rattle.bpf_model.specs.declared.call.Helper.{Helper}
use Rattle.bpf_model.specs.declared.call.Helper.TheVariants.{Lookup}
use Rattle.bpf_model.specs.View.{MapView, RunView}
use Rattle.bpf_model.specs.Word.{map_base}
use Rattle.world_laws.specs.Calling.{served}
use Rattle.world_laws.specs.Moving.{word_in}

-- The word for r0, and the maps afterwards: a lookup changes none. (A map that is not there changes
-- nothing: no verified program names one.)
abbrev pub called_at : Helper → ℕ → Option MapView → RunView → List MapView → ℕ × List MapView
called_at Lookup map (Some m) v maps = ((served Lookup map m v).0, maps)
called_at helper map (Some m) v maps =
    ((served helper map m v).0, slice_set maps map (served helper map m v).1)
called_at helper map None v maps = (0, maps)

abbrev pub called_on : Helper → Option ℕ → RunView → List MapView → ℕ × List MapView
called_on helper (Some map) v maps = called_at helper map (slice_get maps map) v maps
called_on helper None v maps = (0, maps)

abbrev pub called : Helper → List ℕ → RunView → List MapView → ℕ × List MapView
called helper bound v maps = called_on helper (slice_get bound (word_in v 1 - map_base)) v maps

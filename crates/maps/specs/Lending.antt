-- A map of a registry that is lent to be changed.
use Rattle.std.specs.Prelude.{ℕ, slice_set}
use Rattle.std.specs.Borrow.{Lends, MutBor, Fml}
use Rattle.bpf_model.specs.View.{MapView}
use Rattle.maps.specs.Registry.{RegistryView}
use Rattle.map_kinds.specs.contracts.map.Map as map
use Rattle.maps.specs.contracts.registry.Registry as registry

-- what is last written through the loan becomes the map of this number; names and other maps stay
abbrev pub LendsMap : MutBor RegistryView → ℕ → MutBor MapView → Fml
LendsMap r id lent = Lends registry.the_row map.the_row r lent
    (λ m. record { names = r.now.names; maps = slice_set r.now.maps id m })

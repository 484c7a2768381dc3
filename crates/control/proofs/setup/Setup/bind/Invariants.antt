use Rattle.bpf_model.proofs.Prelude.{◌≡◌, ℕ, List, ◌++◌, length}
use Rattle.world_laws.proofs.Prelude.{IsBoundTo}
use Rattle.control.specs.MapAndLoad.{AreMapsNamed}
use Rattle.control.specs.Setups.{shapes_made}
use Rattle.control.proofs.setup.Setup.bind.Given as goal

abbrev pub invariant-loop : goal.invariant-loop
invariant-loop l =
    (front : List (List ℕ)) × (l.fn.names ≡ front ++ l.rest) × AreMapsNamed l.self.registry.names front l.bound.maps.items
    × IsBoundTo (shapes_made l.self) l.bound.shapes.items l.bound.maps.items × (length l.bound.maps.items ≡ l.counter)

-- What is seen of a map, whichever kind it is.
use Rattle.bpf_model.specs.View.{MapView}
use Rattle.map_kinds.specs.declared.map.Elements.{Elements}
use Rattle.map_kinds.specs.declared.map.Elements.TheVariants.{Hash, Array}

abbrev pub view_of : Elements → MapView
view_of (Hash v) = v
view_of (Array v) = v

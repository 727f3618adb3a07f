-- What a clause reads of a bank in its place.
use Rattle.engine_parts.specs.declared.in_place.InPlace.{InPlace}

module _ {T : Type 0} where
  abbrev pub with_value : InPlace T → T → InPlace T
  with_value held value = record held { value = value }

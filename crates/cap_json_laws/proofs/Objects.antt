-- Objects whose members are in the order of their text.
use Rattle.std.proofs.Common.{List, [], ◌∷◌}
use Rattle.serde_json.specs.Data.{Data, Members, member, no_members, object}
use Rattle.cap_json_laws.specs.JsonFields.{Field}

-- the members in this order
abbrev pub in_order : List Field → Members
in_order [] = no_members
in_order (field ∷ fields) = member field.0 field.1 (in_order fields)

abbrev pub ordered : List Field → Data
ordered fields = object (in_order fields)

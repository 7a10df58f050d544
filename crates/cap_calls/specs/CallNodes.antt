-- The node that a call reports (standard: Structs, Lists, Serialization Over a Stream; the numbers are the profile's).
use Rattle.std.specs.Prelude.{List, length, replicate, ℕ, ◌*◌, ◌+◌, ◌/◌}
use Rattle.cap_spec.specs.Pointers.{element_bits}
use Rattle.cap_spec.specs.declared.Kind.{Kind}
use Rattle.cap_spec.specs.declared.Kind.TheVariants.{Cap, Null, Pointers, Scalars, Struct, Structs}
use Rattle.cap_frame.specs.Fronts.{table_words}
use Rattle.cap_frame.specs.SegmentStarts.{start_of}
use Rattle.cap_calls.specs.declared.node.CallNode.{CallNode}

-- nothing, and null
abbrev pub none_node : CallNode
none_node =
    record {
      kind = 0;
      element = 0;
      count = 0;
      data_words = 0;
      pointers = 0;
      capability = 0;
      offset = 0;
      length = 0;
      reserved = replicate 2 0;
    }

-- how many bytes of a frame come before word b of segment t: those of the table and of the words
abbrev pub offset_of : List (List ℕ) → ℕ → ℕ → ℕ
offset_of m t b = 8 * (table_words (length m) + (start_of m t + b))

-- A node of this kind whose object comes after this many bytes. The bytes of a list of structs are those
-- after its tag.
abbrev pub kind_node : Kind → ℕ → CallNode
kind_node Null before = none_node
kind_node (Cap i) before = record none_node { kind = 5; capability = i }
kind_node (Struct d p) before =
    record none_node { kind = 1; data_words = d; pointers = p; offset = before; length = 8 * d }
kind_node (Scalars c n) before =
    record none_node { kind = 2; element = c; count = n; offset = before; length = (element_bits c * n + 7) / 8 }
kind_node (Pointers n) before = record none_node { kind = 3; element = 6; count = n; offset = before }
kind_node (Structs n d p) before =
    record none_node {
      kind = 4;
      element = 7;
      count = n;
      data_words = d;
      pointers = p;
      offset = before + 8;
      length = 8 * (n * (d + p));
    }

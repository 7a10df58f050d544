use Rattle.cap_canon.proofs.Found.{pointers_object, scalars_object, struct_found, structs_found}
use Rattle.cap_canon.proofs.objects.left_of.Goals as goal

pub struct_left-requires : goal.struct_left-requires
struct_left-requires g c =
    let (s, w, tree, charge, deep, denotes, found) = c.requires in
    let f = rw c.in-Struct.is at found.2 in
    (s, w, deep, tree, rw (c.from.ensures, c.from-in-Struct.ensures) (struct_found charge denotes f))

pub structs_left-requires : goal.structs_left-requires
structs_left-requires g c =
    let (s, w, tree, charge, deep, denotes, found) = c.requires in
    let f = rw c.in-Structs.is at found.2 in
    (s, w, deep, tree, rw (c.from-in-Structs.ensures, c.from-in-Structs-2.ensures) (structs_found charge denotes f))

pub returns-in-Struct : goal.returns-in-Struct
returns-in-Struct g c = λ s w t c' d h f.
    let k = rw c.in-Struct.is at f.2 in
    c.struct_left.ensures s w d t (rw (c.from.ensures, c.from-in-Struct.ensures) (struct_found c' h k))

pub returns-in-Scalars : goal.returns-in-Scalars
returns-in-Scalars g c = λ s w t c' d h f.
    let k = rw c.in-Scalars.is at f.2 in
    scalars_object (g.M.Segments.segments c.args.message.now) s w t c' d _ _ h k

pub returns-in-Pointers : goal.returns-in-Pointers
returns-in-Pointers g c = λ s w t c' d h f.
    let k = rw c.in-Pointers.is at f.2 in
    pointers_object (g.M.Segments.segments c.args.message.now) s w t c' d _ h k

pub returns-in-Structs : goal.returns-in-Structs
returns-in-Structs g c = λ s w t c' d h f.
    let k = rw c.in-Structs.is at f.2 in
    c.structs_left.ensures s w d t (rw (c.from-in-Structs.ensures, c.from-in-Structs-2.ensures) (structs_found c' h k))

use Rattle.cap_spec.proofs.ProofNames.{subst}
use Rattle.cap_difference.specs.Reasons.{Decides, StructsDiffers}
use Rattle.cap_difference.proofs.ShapeKinds.{decided_by_kind}
use Rattle.cap_difference.proofs.objects.object_reason.Goals as goal
use Rattle.cap_ptr.specs.declared.shapes.Shape.TheVariants as shape

pub returns-in-Struct : goal.returns-in-Struct
returns-in-Struct g c = λ k q tag cost what h kind.
    let x = c.args.target in
    decided_by_kind (g.M.Segments.segments c.args.message.now) c.args.end c.args.pointer x.segment x.start q tag
    (shape.Struct c.in-Struct.data_words c.in-Struct.pointers) what c.struct_reason.result (rw c.in-Struct.is at h.shape) kind c.struct_reason.ensures

pub returns-in-Scalars : goal.returns-in-Scalars
returns-in-Scalars g c = λ k q tag cost what h kind.
    let x = c.args.target in
    decided_by_kind (g.M.Segments.segments c.args.message.now) c.args.end c.args.pointer x.segment x.start q tag
    (shape.Scalars c.in-Scalars.code c.in-Scalars.count) what c.values_reason.result (rw c.in-Scalars.is at h.shape) kind c.values_reason.ensures

pub returns-in-Pointers : goal.returns-in-Pointers
returns-in-Pointers g c = λ k q tag cost what h kind.
    let x = c.args.target in
    decided_by_kind (g.M.Segments.segments c.args.message.now) c.args.end c.args.pointer x.segment x.start q tag
    (shape.Pointers c.in-Pointers.count) what c.pointers_reason.result (rw c.in-Pointers.is at h.shape) kind c.pointers_reason.ensures

pub returns-in-Structs : goal.returns-in-Structs
returns-in-Structs g c = λ k q tag cost what h kind.
    let m = g.M.Segments.segments c.args.message.now in
    let x = c.args.target in
    let y = c.in-Structs in
    let s = rw c.in-Structs.is at h.shape in
    decided_by_kind m c.args.end c.args.pointer x.segment x.start q tag
    (shape.Structs y.words y.count y.data_words y.pointers) what c.structs_reason.result s kind
    (subst (λ u. Decides (StructsDiffers m c.args.end x.segment x.start y.count y.data_words y.pointers u) c.structs_reason.result) s.words c.structs_reason.ensures)

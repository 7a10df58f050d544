use Rattle.std.proofs.Common.{rules, sym, subst, length, take, ℕ, List, ◌≡◌, ◌<◌, ◌≤◌}
use Rattle.std.specs.Io.KnownBytes.{Appends, Keeps}
use Rattle.cap_spec.proofs.ProofNames.{length-take-le}
use Rattle.cap_cmd.specs.Marking.{IsPiece}
use Rattle.cap_cmd.specs.Marked.{shown_by}
use Rattle.cap_cmd.proofs.Marking.{body_shown, kept_same, kept_then, take_front}
use Rattle.cap_cmd.proofs.marked.MarkedLinesByteOut.write.Goals as goal
use Rattle.cap_cmd.proofs.marked.MarkedLinesByteOut.write.Goals.{then-self-from+in_default, else-self-from, then-self-from-2, else-self-from-2}

pub returns-in-Ok-clause-bytes : goal.returns-in-Ok-clause-bytes
returns-in-Ok-clause-bytes g c =
    let s = c.if-self-from.self in
    let kept : Keeps (shown_by g.O.ByteOut c.args.self.now) (shown_by g.O.ByteOut s) =
    elim c.if-self-from.branch [
      | then-self-from+in_default w ↦ subst (λ t. Keeps (shown_by g.O.ByteOut c.args.self.now) (shown_by g.O.ByteOut t)) (sym w.self-is) w.finish_mark.ensures.kept
      | else-self-from w ↦ subst (λ t. Keeps (shown_by g.O.ByteOut c.args.self.now) (shown_by g.O.ByteOut t)) (sym w.self-is) (kept_same (shown_by g.O.ByteOut c.args.self.now))
    ] in
    let whole : s.column ≡ s.place → s.done ≡ length s.mark.items =
    elim c.if-self-from.branch [
      | then-self-from+in_default w ↦ λ _. search (rules, w.self-is)
      | else-self-from w ↦ λ e. absurd (search (rules, w.self-is))
    ] in
    let one : s.column < s.place → c.if-self-from-2.most ≡ 1 =
    elim c.if-self-from-2.branch [
      | then-self-from-2 w ↦ λ _. w.most-is
      | else-self-from-2 w ↦ λ e. absurd (search rules)
    ] in
    let pieces : s.place ≤ s.column → (n : ℕ) → n < c.if-self-from-2.most → IsPiece (take n c.args.buf.now) =
    elim c.if-self-from-2.branch [
      | then-self-from-2 w ↦ λ e. absurd (search rules)
      | else-self-from-2 w ↦ λ _ n below. w.line_length-most.ensures.piece n (subst (λ m. n < m) w.most-is below)
    ] in
    let inside : c.if-self-from-2.most ≤ length c.args.buf.now =
    elim c.if-self-from-2.branch [
      | then-self-from-2 w ↦ search rules
      | else-self-from-2 w ↦ search rules
    ] in
    let positive : 0 < c.if-self-from-2.most =
    elim c.if-self-from-2.branch [
      | then-self-from-2 w ↦ search rules
      | else-self-from-2 w ↦ search rules
    ] in
    let within : c.in-Ok.count ≤ c.if-self-from-2.most = search (rules, length-take-le) in
    let grown : Appends (g.O.ByteOut.written s.out) (g.O.ByteOut.written c.write.new.self) (take c.in-Ok.count c.args.buf.now) =
    subst (λ (l : List ℕ). Appends (g.O.ByteOut.written s.out) (g.O.ByteOut.written c.write.new.self) l)
    (take_front c.in-Ok.count c.if-self-from-2.most c.args.buf.now within) c.in-Ok.ensures.bytes in
    let some : 0 < c.in-Ok.count = search (rules, length-take-le) in
    kept_then _ _ _ _ kept (body_shown s.place s.mark.items s.column s.done c.next_column-self.result c.if-self-from-2.most c.in-Ok.count
    c.args.buf.now _ _ some within inside whole one pieces c.next_column-self.ensures grown)

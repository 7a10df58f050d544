use Rattle.std.proofs.Common.{length, ℕ, ◌≡◌, ◌≤◌}
use Rattle.cap_canon.proofs.Structs.{StructsSoFar}
use Rattle.cap_canon.proofs.appending.append_structs.Given as goal

abbrev pub invariant-elements : goal.invariant-elements
invariant-elements g l =
    let m = g.M.Segments.segments l.message in
    let words = g.T.CopyOutput.words in
    record {
      far : StructsSoFar m l.part l.start l.count l.counter (words l.initial.copy) (words l.copy) (g.T.CopyOutput.capacity l.copy);
      capacity : g.T.CopyOutput.capacity l.copy ≡ g.T.CopyOutput.capacity l.initial.copy;
      borrow : g.T.CopyOutput.borrow l.copy ≡ g.T.CopyOutput.borrow l.initial.copy;
      after : (n : ℕ) → length (words l.copy) ≤ n → g.T.CopyOutput.after l.copy n ≡ g.T.CopyOutput.after l.initial.copy n;
    }

use Rattle.cap_spec.proofs.ProofNames.{rules}
use Rattle.cap_cmd.proofs.Marking.{more_shown}
use Rattle.cap_words.proofs.Turns.{rest_length}
use Rattle.cap_cmd.proofs.marked.MarkedLines.finish_mark.Goals as goal

pub loop-self-preserved : goal.loop-self-preserved
loop-self-preserved g c = record {
  mark = c.loop-self.invariant.mark;
  place = c.loop-self.invariant.place;
  column = c.loop-self.invariant.column;
  kept = search (rules, more_shown, rest_length);
  unfailed = search rules;
  unbroken = search rules;
  for_good = search rules;
}

use Rattle.std.proofs.Common.{length, ◌-◌, ◌≡◌, ◌≤◌}
use Rattle.cap_run.specs.PuttingEnds.{Transcodes}
use Rattle.cap_run.proofs.engines.transcode.put_words.Given as goal

abbrev pub invariant-loop-put : goal.invariant-loop-put
invariant-loop-put g l = record {
  few : l.put ≤ l.words;
  fits : length l.buffer ≡ length l.initial.buffer;
  copies : Transcodes g.S.WordSource g.K.WordSink l.initial.source l.source l.initial.sink l.sink l.put;
}

abbrev pub decreases-loop-put : goal.decreases-loop-put
decreases-loop-put g l = l.words - l.put

use Rattle.cap_run.proofs.TranscodeEnds.{copies_words}
use Rattle.cap_run.proofs.engines.transcode.run_pack_with.Goals as goal

pub returns : goal.returns
returns g c = copies_words c.transcode.ensures

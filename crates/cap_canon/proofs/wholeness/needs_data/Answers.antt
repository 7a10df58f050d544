use Rattle.std.proofs.Common.{rules}
use Rattle.cap_canon.proofs.Needed.{range_needed}
use Rattle.cap_canon.proofs.WholeObjects.{data_last, data_short}
use Rattle.cap_canon.proofs.wholeness.needs_data.Goals as goal

pub returns-then-data_words-eq0 : goal.returns-then-data_words-eq0
returns-then-data_words-eq0 g c = search (rules, range_needed)

pub returns-then-word-eq0 : goal.returns-then-word-eq0
returns-then-word-eq0 g c = search (rules, data_short)

pub returns : goal.returns
returns g c = search (rules, data_last)

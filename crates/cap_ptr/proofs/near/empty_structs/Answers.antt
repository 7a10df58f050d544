use Rattle.std.proofs.Common.{rules}
use Rattle.cap_ptr.proofs.near.empty_structs.Goals as goal

pub returns-else-data_size-eq0-clause-value : goal.returns-else-data_size-eq0-clause-value
returns-else-data_size-eq0-clause-value c = search rules

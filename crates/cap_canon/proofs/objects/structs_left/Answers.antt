use Rattle.std.proofs.Common.{rules}
use Rattle.cap_canon.proofs.Found.{structs_object}
use Rattle.cap_canon.proofs.objects.structs_left.Goals as goal

pub returns : goal.returns
returns g c = search (rules, structs_object)

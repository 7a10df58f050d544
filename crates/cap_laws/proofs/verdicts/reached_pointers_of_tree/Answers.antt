use Rattle.cap_spec.proofs.Paths.Deepest.{deepest_reached}
use Rattle.cap_spec.proofs.Verdicts.OneVerdict.{paths_within_depth, reached_not_wrong}
use Rattle.cap_laws.proofs.verdicts.reached_pointers_of_tree.Goals as goal

pub returns-clause-right : goal.returns-clause-right
returns-clause-right c = reached_not_wrong

pub returns-clause-shallow : goal.returns-clause-shallow
returns-clause-shallow c m t cost d denoted p level q tag (s, w, k, t', b, reached, finds, has_tag) =
    paths_within_depth m t cost d denoted p level s w k t' b q tag reached finds has_tag

pub returns-clause-deepest : goal.returns-clause-deepest
returns-clause-deepest c m t cost d denoted deep =
    let (p, level, s, w, k, t', b, q, tag, reached, finds, has_tag, is) = deepest_reached m t cost d denoted deep in
    (p, level, q, tag, (s, w, k, t', b, reached, finds, has_tag), is)

use Rattle.cap_spec.proofs.Paths.PathTexts.{bad_at_some_place, one_bad_place, one_path_text, path_not_bad}
use Rattle.cap_laws.proofs.paths.one_path_text.Goals as goal

pub returns-clause-path : goal.returns-clause-path
returns-clause-path c = one_path_text

pub returns-clause-bad : goal.returns-clause-bad
returns-clause-bad c = one_bad_place

pub returns-clause-at_some_place : goal.returns-clause-at_some_place
returns-clause-at_some_place c = bad_at_some_place

pub returns-clause-apart : goal.returns-clause-apart
returns-clause-apart c = path_not_bad

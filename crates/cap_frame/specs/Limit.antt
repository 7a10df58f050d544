-- What contracts see of a limit (profile).
use Rattle.std.specs.Prelude.{ℕ}
use Rattle.cap_frame.specs.declared.fault.SizeLimit.{SizeLimit}

-- how many words it allows
abbrev pub limit_of : SizeLimit → ℕ
limit_of limit = limit.words

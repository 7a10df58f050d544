use Rattle.cap_cmd.proofs.running.input_is_packed.Goals as goal

pub returns-in-Unpack : goal.returns-in-Unpack
returns-in-Unpack c = rw c.in-Unpack.is

use Rattle.cap_spec.proofs.ProofNames.{ap, arith, length, ℕ, ◌*◌, ◌++◌, ◌∙◌, length-replicate}
use Rattle.cap_text.proofs.node.begin_line.Goals as goal

pub push_text-requires : goal.push_text-requires
push_text-requires c = omega (arith, ap length c.spaces.ensures, length-replicate {A = ℕ} (2 * c.args.level) 32, c.requires.low, c.requires.fits)

pub returns-clause-items : goal.returns-clause-items
returns-clause-items c = c.push_text.ensures ∙ ap (λ l. c.args.page.now ++ l) c.spaces.ensures

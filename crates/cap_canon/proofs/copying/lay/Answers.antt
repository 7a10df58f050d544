use Rattle.std.proofs.Common.{ap, arith, length, length-set, ◌∙◌}
use Rattle.cap_canon.proofs.Afters.{fewer_before}
use Rattle.cap_canon.proofs.CopyWalks.{agrees_more, length_more}
use Rattle.cap_canon.proofs.copying.lay.Goals as goal

pub returns-clause-agrees : goal.returns-clause-agrees
returns-clause-agrees g c = λ d s w tree whole due is p own a.
    (let app = rw c.set.ensures.words at (c.append_own.ensures.own d s w tree is) in
    agrees_more _ whole due c.requires.ends.0 c.requires.ends.1
    (c.pointer_word.ensures (g.M.Segments.segments c.args.message.now) d s w tree is) p own app a)

pub returns-clause-ends : goal.returns-clause-ends
returns-clause-ends g c = λ d s w tree is.
    (let app = rw c.set.ensures.words at (c.append_own.ensures.own d s w tree is) in
    length_more _ _ _ c.requires.ends.0 app)

pub append_own-requires : goal.append_own-requires
append_own-requires g c =
    let l = ap length c.set.ensures.words ∙ length-set (g.T.CopyOutput.words c.args.copy.now) c.args.slot c.pointer_word.result in (
      c.requires.is.0,
      c.requires.is.1,
      c.requires.is.2,
      c.requires.is.3,
      c.requires.is.4,
      omega (arith, l, c.requires.ends.0, c.requires.is.5, c.set.ensures.capacity),
    )

pub returns-clause-after : goal.returns-clause-after
returns-clause-after g c = λ n h.
    (let r = c.requires.is in
    let app = c.append_own.ensures.own r.0 r.1 r.2 r.3 r.4 in
    c.append_own.ensures.after n h ∙ c.set.ensures.after n (fewer_before _ _ _ n app.appended h))

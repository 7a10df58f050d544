use Rattle.std.proofs.Common.{arith, refl, ◌<◌, rules}
use Rattle.cap_canon.proofs.Needed.{most_within}
use Rattle.cap_canon.proofs.WholeObjects.{most_all, most_short}
use Rattle.cap_canon.proofs.wholeness.list_needs_data.Goals as goal

pub returns-then-data_words-eq0 : goal.returns-then-data_words-eq0
returns-then-data_words-eq0 g c = search (rules, most_within)

pub returns-then-first_set-eq0 : goal.returns-then-first_set-eq0
returns-then-first_set-eq0 g c = search (rules, most_short)

pub returns : goal.returns
returns g c =
    let a = c.args in
    let m = g.M.Segments.segments a.message.now in
    let some : 0 < a.data_words = omega (arith, c.if-data_words-eq0.false) in
    let (k, lt, has, before) = c.first_set.ensures.some c.if-first_set-eq0.false in
    let all = most_all m a.s a.start a.data_words a.pointers a.count k c.first_set.result some lt c.requires.elements.inside has c.if-first_set-eq0.false in
    (λ _. all, λ _. refl)

use Rattle.std.proofs.Common.{append_assoc, codes, refl, rules, suc, zero, ℕ, ◌++◌, ◌≡◌, ◌≢◌}
use Rattle.cap_text.specs.JsonLines.{number_member, place_members}
use Rattle.cap_text.proofs.json.push_place_members.Goals as goal

-- the members of a pointer whose number isn't 0
three_members : (s w p : ℕ) → p ≢ 0
    → place_members s w p ≡ number_member (codes "segment") s ++ number_member (codes "word") w ++ number_member (codes "pointer") p
three_members s w zero h = absurd (h refl)
three_members s w (suc p) h = refl

pub returns-clause-items : goal.returns-clause-items
returns-clause-items c =
    let segment = rw c.from.ensures at c.push_member.ensures.items in
    let word = rw c.from-2.ensures at c.push_member-2.ensures.items in
    let members = three_members c.args.segment c.args.word c.args.pointer c.if-pointer-eq0.false in
    rw members (search (rules, segment, word, append_assoc))

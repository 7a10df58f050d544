use Rattle.cap_spec.proofs.Frames.Messages.{one_word}
use Rattle.cap_spec.proofs.ProofNames.{subst}
use Rattle.cap_explain.specs.Leading.{landing_of}
use Rattle.cap_explain.specs.Meanings.{Shows, target_at}
use Rattle.cap_explain.proofs.Targets.{landed, leads_of, shown_of, tag_shown, tag_there}
use Rattle.cap_explain.proofs.laws.target_is_where_the_pointer_leads.Goals as goal

pub returns-clause-shown : goal.returns-clause-shown
returns-clause-shown c = λ m s w p k t b q h leads.
    let (own, has, x) = shown_of m s w k t b q leads in
    subst (λ y. Shows (target_at m s w y) t b q) (one_word m s w own p has h) x

pub returns-clause-leads : goal.returns-clause-leads
returns-clause-leads c = λ m s w p t b q h x. (leads_of m s w p (landing_of m p) h (landed m p) t b q x).0

pub returns-clause-segment : goal.returns-clause-segment
returns-clause-segment c = λ m s w p t b q h x. (leads_of m s w p (landing_of m p) h (landed m p) t b q x).1

pub returns-clause-tag : goal.returns-clause-tag
returns-clause-tag c = λ m t tag. (tag_shown m t tag, λ h. tag_there m t tag h.1 h.0 h.2 h.3)

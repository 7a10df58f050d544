-- The bytes of a view's place are those of the place of its path.
use Rattle.cap_spec.proofs.ProofNames.{Err, List, MatchOption, ap, subst, ℕ, ◌∙◌, ◌≡◌, HasPlace, ReachesSpot, Spot}
use Rattle.cap_frame.specs.Bytes.{cut}
use Rattle.cap_frame.specs.declared.byte_message.ByteView.{ByteView}
use Rattle.cap_vet.specs.Views.{bytes_of_place, node_spot, view_place}
use Rattle.cap_ptr.specs.declared.place.Place.{Place}
use Rattle.cap_read.proofs.Placing.{bytes_there, no_bytes_there, no_place}
use Rattle.cap_read.proofs.place_bytes.read_bytes.Goals as goal

-- the segments of a view of bytes
abbrev seg : ByteView → List (List ℕ)
seg u = cut u.sizes.now u.bytes.now

pub returns-in-None-clause-bytes : goal.returns-in-None-clause-bytes
returns-in-None-clause-bytes c = λ t b n h.
    let none = subst (λ u. (level : ℕ) (a : Spot) → ReachesSpot (seg u) c.args.path.now level a → ⊥) c.in-Ok.ensures.message c.in-None.ensures.none in
    absurd (no_place (seg c.args.message.now) c.args.path.now none t b n h)

pub returns-in-Some-clause-bytes : goal.returns-in-Some-clause-bytes
returns-in-Some-clause-bytes c = λ t b n h.
    let message = c.in-Ok.ensures.message in
    let of_node = c.in-Some.ensures.message ∙ message in
    let of_view = c.view-view.ensures.message ∙ of_node in
    let spot = node_spot c.in-Some.node in
    let view = c.view-view.result in
    let comes = subst (λ u. (level : ℕ) × ReachesSpot (seg u) c.args.path.now level spot) message c.in-Some.ensures.some in
    let lies = subst (λ u. MatchOption (view_place view) ((t b n : ℕ) → HasPlace (seg u) spot t b n → ⊥)
    (λ (p : Place). HasPlace (seg u) spot p.segment p.start p.words)) of_node c.view-view.ensures.place in
    let bytes = subst (λ u. c.bytes.result.now ≡ bytes_of_place (seg u) (view_place view)) of_view c.bytes.ensures in
    bytes ∙ bytes_there (seg c.args.message.now) c.args.path.now comes.0 spot (view_place view) comes.1 lies t b n h

pub returns-in-Some-clause-empty : goal.returns-in-Some-clause-empty
returns-in-Some-clause-empty c = λ none.
    let message = c.in-Ok.ensures.message in
    let of_node = c.in-Some.ensures.message ∙ message in
    let of_view = c.view-view.ensures.message ∙ of_node in
    let spot = node_spot c.in-Some.node in
    let view = c.view-view.result in
    let comes = subst (λ u. (level : ℕ) × ReachesSpot (seg u) c.args.path.now level spot) message c.in-Some.ensures.some in
    let lies = subst (λ u. MatchOption (view_place view) ((t b n : ℕ) → HasPlace (seg u) spot t b n → ⊥)
    (λ (p : Place). HasPlace (seg u) spot p.segment p.start p.words)) of_node c.view-view.ensures.place in
    let bytes = subst (λ u. c.bytes.result.now ≡ bytes_of_place (seg u) (view_place view)) of_view c.bytes.ensures in
    bytes ∙ no_bytes_there (seg c.args.message.now) c.args.path.now comes.0 spot (view_place view) comes.1 lies none

pub returns-in-Err-clause-refuses : goal.returns-in-Err-clause-refuses
returns-in-Err-clause-refuses c = λ r h.
    let e = c.in-Err.ensures.refuses r h in
    let same : c.in-Err.refusal ≡ r = cc in ap Err same

pub returns-in-None-clause-refuses : goal.returns-in-None-clause-refuses
returns-in-None-clause-refuses c = λ r h. absurd (cc (c.in-Ok.ensures.refuses r h))

pub returns-in-Some-clause-refuses : goal.returns-in-Some-clause-refuses
returns-in-Some-clause-refuses c = λ r h. absurd (cc (c.in-Ok.ensures.refuses r h))

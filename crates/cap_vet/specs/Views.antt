-- What nodes and views are of (profile).
use Rattle.std.specs.Prelude.{List, None, Option, Some, [], ℕ}
use Rattle.cap_spec.specs.Arriving.{own_at}
use Rattle.cap_spec.specs.SpecNames.{words_from, Spot, plain_text, Own}
use Rattle.cap_spec.specs.declared.Kind.{Kind}
use Rattle.cap_spec.specs.declared.Kind.TheVariants.{Cap, Null}
use Rattle.cap_vet.specs.Spots.{spot_of}
use Rattle.cap_vet.specs.declared.nodes.node.Node.{Node}
use Rattle.cap_ptr.specs.declared.place.Place.{Place}
use Rattle.cap_vet.specs.declared.nodes.view.View.{View}
use Rattle.cap_frame.specs.declared.segments.Segments as segments

-- a node's message
abbrev pub node_message : {M : Type 0} {g : segments.Ghosts M} → Node M g → M
node_message n = n.message.now

-- the spot of a node
abbrev pub node_spot : {M : Type 0} {g : segments.Ghosts M} → Node M g → Spot
node_spot n = spot_of n.spot

-- a view's message
abbrev pub view_message : {M : Type 0} {g : segments.Ghosts M} → View M g → M
view_message v = v.message.now

-- what a view is of, with its sizes
abbrev pub view_kind : {M : Type 0} {g : segments.Ghosts M} → View M g → Kind
view_kind v = v.found.kind

-- the words that a view keeps: null and a capability have none, at 0:0
abbrev pub kept_place : {M : Type 0} {g : segments.Ghosts M} → View M g → Place
kept_place v = v.found.place

-- the words of an object of this kind, which null and a capability don't have
abbrev pub place_of_kind : Kind → Place → Option Place
place_of_kind Null p = None
place_of_kind (Cap i) p = None
place_of_kind _ p = Some p

-- the words of what a view is of
abbrev pub view_place : {M : Type 0} {g : segments.Ghosts M} → View M g → Option Place
view_place v = place_of_kind v.found.kind v.found.place

-- the bytes of the words of a place, and none where there is no place
abbrev pub bytes_of_place : List (List ℕ) → Option Place → List ℕ
bytes_of_place m None = []
bytes_of_place m (Some p) = plain_text (words_from m p.segment p.start p.words)

-- what a view shows
abbrev pub shown : {M : Type 0} {g : segments.Ghosts M} → View M g → Own
shown {M} {g} v = own_at (g.segments v.message.now) v.found.kind v.found.place.segment v.found.place.start

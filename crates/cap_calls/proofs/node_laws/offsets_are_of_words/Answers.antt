use Rattle.cap_calls.proofs.NodeBytes.{place_inside}
use Rattle.cap_calls.proofs.SegmentPlaces.{bytes_at, words_at}
use Rattle.cap_calls.proofs.node_laws.offsets_are_of_words.Goals as goal

pub returns-clause-words : goal.returns-clause-words
returns-clause-words c = λ bs m t b n k (l, frame, segments, h) exists inside e.
    words_at l.message_words bs m frame h.front t b n exists inside k e

pub returns-clause-path : goal.returns-clause-path
returns-clause-path c = λ bs m path t b n (l, frame, segments, h) p.
    let inside = place_inside m path t b n p in
    bytes_at l.message_words bs m frame h.front t b n inside.0 inside.1

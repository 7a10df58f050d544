-- Names of specs that several files cite, passed on from one place. Declares nothing.
pub use Rattle.cap_spec.specs.Canonical.{layout, trim}
pub use Rattle.cap_spec.specs.Copies.{HasCopy}
pub use Rattle.cap_spec.specs.Denoting.{AreElements, DenoteEach, Denotes, Finds, places, words_from}
pub use Rattle.cap_spec.specs.Endings.{GivesTooMany, GivesTooMuch}
pub use Rattle.cap_spec.specs.Faults.{IsRefused}
pub use Rattle.cap_spec.specs.Following.{HasTag, Leads, Wrong, extra, near, to_cap, to_null}
pub use Rattle.cap_spec.specs.Frames.{Frames, IsPartial, Stream, frame_text, sizes_of}
pub use Rattle.cap_spec.specs.Getting.{AreOnPath, AreShallow, IsRefusedOnPath}
pub use Rattle.cap_spec.specs.GreatestLimits.{most_depth, most_words}
pub use Rattle.cap_spec.specs.Lists.{AreDistinct, IsOneOf}
pub use Rattle.cap_spec.specs.Messages.{HasWord, IsMessage, segment_of}
pub use Rattle.cap_spec.specs.Occupying.{IsDisjoint, IsFirstOverlap, Occupies, Overlaps, Uses}
pub use Rattle.cap_spec.specs.PackedFrames.{packed_frame}
pub use Rattle.cap_spec.specs.Packing.{pack_text}
pub use Rattle.cap_spec.specs.Paths.{Before, Costs, IsFirstCap, Reaches, ReachesSpot, Spot, StepsTo, word}
pub use Rattle.cap_spec.specs.Plain.{capped, plain_is_cut, plain_text, plain_words}
pub use Rattle.cap_spec.specs.Pointers.{code, data_size, extent, kind, list_size, list_words, middle, pointer_size}
pub use Rattle.cap_spec.specs.Showing.{Own}
pub use Rattle.cap_spec.specs.Strict.{IsLax, IsLaxAt, IsStrict}
pub use Rattle.cap_spec.specs.Texts.{refused, strict_verdict, vet_text}
pub use Rattle.cap_spec.specs.Tree.{Tree, Trees, cap, cap_count, node_at, null, pointer_count, pointers, scalars}
pub use Rattle.cap_spec.specs.Tree.{struct, structs}
pub use Rattle.cap_spec.specs.Unamplified.{unamplified}
pub use Rattle.cap_spec.specs.Unpacking.{marks, packed_is_cut, spread, unpacked}
pub use Rattle.cap_spec.specs.Verdicts.{CostOf, IsDeepAt}
pub use Rattle.cap_spec.specs.Words.{IsWord}

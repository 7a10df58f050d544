-- Lemmas of this crate that several proofs cite, passed on from one place. Declares nothing.
pub use Rattle.cap_spec.proofs.Bytes.Lists.{all_append, all_back, all_drop, all_take, reverse-more}
pub use Rattle.cap_spec.proofs.Bytes.Plain.{length_plain, plain_short, plain_split, words_exact}
pub use Rattle.cap_spec.proofs.Bytes.WordBytes.{bytes_back}
pub use Rattle.cap_spec.proofs.Canonical.Copies.{one_copy}
pub use Rattle.cap_spec.proofs.Canonical.Placing.{rest_at, lie_back, lie_front, lie_inside}
pub use Rattle.cap_spec.proofs.Canonical.PointerFields.{StructFields, list_fields, start_after, struct_fields}
pub use Rattle.cap_spec.proofs.Canonical.Sizes.{layout_charged, length-content}
pub use Rattle.cap_spec.proofs.Canonical.TreeMeasures.{FitElements, Fits, extent_scalars}
pub use Rattle.cap_spec.proofs.Canonical.TrimmedMeasures.{children_needed_le, data_needed_le, tree_count-take_le}
pub use Rattle.cap_spec.proofs.Canonical.TrimmedTrees.{tree_count-trim_all}
pub use Rattle.cap_spec.proofs.Disjoint.Overlaps.{disjoint_of_none, none_of_disjoint, one_overlap, one_used}
pub use Rattle.cap_spec.proofs.Frames.Endings.{length_joined}
pub use Rattle.cap_spec.proofs.Frames.FrameTexts.{frame_text_frames, one_stream}
pub use Rattle.cap_spec.proofs.Frames.Framing.{length_halves, one_frame, same_table, table_length}
pub use Rattle.cap_spec.proofs.Frames.Messages.{HasWord-at, HasWord-inside, HasWord-segment, one_word, short_segment}
pub use Rattle.cap_spec.proofs.Frames.OneEnding.{one_ending}
pub use Rattle.cap_spec.proofs.Packed.Packing.{front-le}
pub use Rattle.cap_spec.proofs.Packed.Unpacking.{plain_reads}
pub use Rattle.cap_spec.proofs.Paths.Arrivals.{found_form, lead_word, part_to_step, step_to_part}
pub use Rattle.cap_spec.proofs.Paths.Depths.{elements_depth}
pub use Rattle.cap_spec.proofs.Paths.PathCosts.{charge_is_cost}
pub use Rattle.cap_spec.proofs.Paths.PathCounts.{first_cap, pointer_path_reached}
pub use Rattle.cap_spec.proofs.Paths.Preorder.{Before-asymmetric, Before-irreflexive, Before-trans, one_first_cap}
pub use Rattle.cap_spec.proofs.Paths.Walks.{comes_beyond, coming_last, one_coming, one_reached}
pub use Rattle.cap_spec.proofs.Pointers.Following.{leads-near, object-not_wrong, one_lead}
pub use Rattle.cap_spec.proofs.Pointers.Shapes.{pointers_shape, struct_shape, structs_shape, structs_words}
pub use Rattle.cap_spec.proofs.Strict.Faults.{strict_not_fault, strict_wider}
pub use Rattle.cap_spec.proofs.Strict.FirstLax.{first_by_tour}
pub use Rattle.cap_spec.proofs.Strict.Looking.{near_has_none}
pub use Rattle.cap_spec.proofs.Trees.Charges.{each_charged, extent_pointers, extent_struct, extent_structs, extra_same}
pub use Rattle.cap_spec.proofs.Trees.Charges.{lead_kind, length-places}
pub use Rattle.cap_spec.proofs.Trees.DenotedTrees.{range_length}
pub use Rattle.cap_spec.proofs.Trees.Finding.{object_parts, one_found, one_object, pointers_found, scalars_found}
pub use Rattle.cap_spec.proofs.Trees.Finding.{struct_found, structs_found}
pub use Rattle.cap_spec.proofs.Trees.OneTree.{Formed, HasForm, formed, number_list, number_struct, one_tree}
pub use Rattle.cap_spec.proofs.Trees.ReadingBack.{length-scalar_words}
pub use Rattle.cap_spec.proofs.Trees.Readings.{word_within}
pub use Rattle.cap_spec.proofs.Verdicts.KeptBefore.{kept_before}
pub use Rattle.cap_spec.proofs.Verdicts.OneFault.{fault_tour, first_fault_kept, one_of_last, one_refusal}
pub use Rattle.cap_spec.proofs.Verdicts.OneVerdict.{paths_cost_charge, paths_within_depth, reached_not_wrong}
pub use Rattle.cap_spec.proofs.Verdicts.Refusals.{refused_justified, within_not_refused}

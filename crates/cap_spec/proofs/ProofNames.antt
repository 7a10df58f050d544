-- Names of std and of this crate's specs that many proofs cite, passed on from one place. Declares nothing.
pub use Rattle.std.proofs.Common.{All, Bool, Err, Fits, IfErr, IfOk, IfSome, IsTrue, List, MatchOption, None, Ok, OnOk}
pub use Rattle.std.proofs.Common.{OnSome, Option, Result, Some, [], add-one, ap, append-nil, append_assoc, ap₂, arith}
pub use Rattle.std.proofs.Common.{below_more, codes, cond, decimal, drop, drop-cons, drop-drop, drop_at, eq-eqb, eqb}
pub use Rattle.std.proofs.Common.{eqb-true, false, filter, flat_map, get_or, get_or-drop, get_or-take, if◌then◌else◌}
pub use Rattle.std.proofs.Common.{inl, inr, le-leb, le-ltb, leb, length, length-append, length-drop, length-set}
pub use Rattle.std.proofs.Common.{length-take, length-take-le, lit<, lit≤, lt-ltb, ltb, map, max, min, mul-le-mul_right}
pub use Rattle.std.proofs.Common.{mul_comm, nat_le, nat_lt, ne_eqb, negsuc, not, option_map, option_to_list, pos, refl}
pub use Rattle.std.proofs.Common.{replicate, reverse, rules, set, shr-shr, slice_get, slice_index, slice_index_or}
pub use Rattle.std.proofs.Common.{slice_range, subst, suc, sum, sym, take, take-add, take-append-drop, take-take}
pub use Rattle.std.proofs.Common.{take_all, take_at, take_while, true, unwrap_or, w32, w64, w8, zero, zero-add, ℕ, ℤ}
pub use Rattle.std.proofs.Common.{⊎_elim, ◌%◌, ◌&&◌, ◌*◌, ◌++◌, ◌+ℤ◌, ◌+◌, ◌-◌, ◌/◌, ◌<◌, ◌==◌, ◌^◌, ◌||◌, ◌↔◌, ◌∙◌}
pub use Rattle.std.proofs.Common.{◌∷◌, ◌≡◌, ◌≢◌, ◌≤◌, ◌⊎◌}
pub use Rattle.std.proofs.KnownBytes.{Appends-trans, Consumes-nil, Consumes-trans, Keeps-trans, append_known-moved}
pub use Rattle.std.proofs.Math.Logic.{∥∥₁_elim, ∥∥₁_map}
pub use Rattle.std.proofs.Math.Nat.{pow-succ'}
pub use Rattle.std.proofs.Math.Seq.{drop-append-add, drop-append_seam, split_at, take-append-add, take-append_seam}
pub use Rattle.std.proofs.Props.{props}
pub use Rattle.std.proofs.lemmas.Bool.{agree_below_at, and_parts, cases_eq, cases_lt, cond-false, cond-true, false≢true}
pub use Rattle.std.proofs.lemmas.Bool.{lt-leb}
pub use Rattle.std.proofs.lemmas.Bool.Decides.{eqb_tells, leb_tells, nat_tests}
pub use Rattle.std.proofs.lemmas.Fmt.{decimal_by_steps, decimal_digit, decimal_injective, decimal_step}
pub use Rattle.std.proofs.lemmas.Fmt.{length-decimal-le}
pub use Rattle.std.proofs.lemmas.Grind.{common_steps, take-set_at}
pub use Rattle.std.proofs.lemmas.Int.{ints, to_z_pos}
pub use Rattle.std.proofs.lemmas.List.{drop-append-le, drop-take, drop_all, get_or-append_right, get_or-map}
pub use Rattle.std.proofs.lemmas.List.{get_or_append_left, get_or_default, get_or_past, length-map, length-replicate}
pub use Rattle.std.proofs.lemmas.List.{length-reverse, map-append, nil_from_length, replicate-append-replicate}
pub use Rattle.std.proofs.lemmas.List.{reverse-append, same_lists, take-append-le, take-replicate, take_more, take_rest}
pub use Rattle.std.proofs.lemmas.List.FromFn.{get_or-map-range_with_len, length-map-range_with_len}
pub use Rattle.std.proofs.lemmas.List.Sums.{sum_by-append, sum_by-cons}
pub use Rattle.std.proofs.lemmas.Nat.{mul-le}
pub use Rattle.std.proofs.lemmas.Option.{get_or_from_slice_get, same_Some, slice_get-get_or, slice_get_past}
pub use Rattle.std.proofs.lemmas.Option.{slice_get_within}
pub use Rattle.std.proofs.lemmas.Simd.{bitmask_splat, length-chunk}
pub use Rattle.std.proofs.lemmas.Slice.{drop-put_mid, take-put_mid, take-put_mid_below}
pub use Rattle.std.specs.Int.{byte_at}
pub use Rattle.std.specs.Io.KnownBytes.{Appends, Consumes, IsAtEnd, Keeps, append_known}
pub use Rattle.std.specs.List.{AllByRecursion, prefix_len, range_with_len}
pub use Rattle.std.specs.Prelude.{⊤}
pub use Rattle.std.specs.Simd.Lanes.{Each1, chunk, mask_l, number_l, top, zip2}
pub use Rattle.byteorder.specs.Endian.{little_bytes, little_from, little_number}
pub use Rattle.byteorder.specs.Numbers.{little_from-cons, little_number-reads_back}
pub use borrow.Rule.Slice.PartMut.{post_of, put_mid}
pub use lib.Count.{ones}
pub use Rattle.cap_spec.specs.Accepting.{IsWithin}
pub use Rattle.cap_spec.specs.Arriving.{HasObject, IsElementAt, PathFinds, own_at}
pub use Rattle.cap_spec.specs.Canonical.{children_needed, children_of, content, contents, cut_elements, data_needed}
pub use Rattle.cap_spec.specs.Canonical.{data_of, element_contents, element_sizes, element_words, is_null, layout}
pub use Rattle.cap_spec.specs.Canonical.{list_word, offsets, pointer_to, pointer_words, size, sizes, struct_word}
pub use Rattle.cap_spec.specs.Canonical.{take_trees, trim, trim_all, trim_elements}
pub use Rattle.cap_spec.specs.Copies.{HasCopy, IsCanonical}
pub use Rattle.cap_spec.specs.Denoting.{AreElements, DenoteEach, Denotes, Finds, FindsCharged, FindsKind}
pub use Rattle.cap_spec.specs.Denoting.{element_levels, levels_below, value_at, values_of, words_from}
pub use Rattle.cap_spec.specs.Endings.{BeginsMessage, Ending, EndsIn, GivesTooMany, GivesTooMuch, message, partial}
pub use Rattle.cap_spec.specs.Endings.{too_large, too_many}
pub use Rattle.cap_spec.specs.Faults.{HasNoRoot, IsFaultAt, IsFirstFault, IsFirstReason, IsRefused, is_deep, is_past}
pub use Rattle.cap_spec.specs.Following.{Condition, IsComposite, IsOnePad, IsTwoPad, Lead, Leads, Says, TagFits, Wrong}
pub use Rattle.cap_spec.specs.Following.{extra, near, one_pad, rank, to_cap, to_null, to_object, two_pads}
pub use Rattle.cap_spec.specs.Frames.{Frames, FramesZero, IsPartial, IsTable, Stream, frame_text, halves, in_contents}
pub use Rattle.cap_spec.specs.Frames.{in_table, in_word, joined, paired, sizes_of}
pub use Rattle.cap_spec.specs.Getting.{AreOnPath, AreShallow, Charges, IsFaultOnPath, IsRefusedOnPath, IsStartOf}
pub use Rattle.cap_spec.specs.GreatestLimits.{most_depth, most_words}
pub use Rattle.cap_spec.specs.Lists.{AreDistinct, IsOneOf}
pub use Rattle.cap_spec.specs.Messages.{HasWord, IsMessage, segment_of}
pub use Rattle.cap_spec.specs.Occupying.{IsDisjoint, IsFirstOverlap, Occupies, Overlaps, Uses, empty_count, on_earlier}
pub use Rattle.cap_spec.specs.Occupying.{on_root, pads_of, twice}
pub use Rattle.cap_spec.specs.ObjectShapes.{HasKind}
pub use Rattle.cap_spec.specs.PackedEnds.{ends_in, front_ends, packed_ends, word_ends}
pub use Rattle.cap_spec.specs.PackedFrames.{packed_frame, table_of}
pub use Rattle.cap_spec.specs.Packing.{full_run, group_size, group_text, pack_in, pack_text, tag_of, zero_bytes}
pub use Rattle.cap_spec.specs.Packing.{zero_run, zeros_in}
pub use Rattle.cap_spec.specs.PathTexts.{BeginsPath, IsBadAt, IsPath, IsStep, path_text, step_text}
pub use Rattle.cap_spec.specs.Paths.{Before, Costs, HasPlace, IsFirstCap, IsNumbered, IsPlace, IsTour, PathLeads}
pub use Rattle.cap_spec.specs.Paths.{Reaches, ReachesCap, ReachesSpot, Rises, Spot, StepsTo, element, level_of}
pub use Rattle.cap_spec.specs.Paths.{number_of, word}
pub use Rattle.cap_spec.specs.Placing.{HasWordsAt}
pub use Rattle.cap_spec.specs.Plain.{capped, plain_ends, plain_is_cut, plain_text, plain_words, word_bytes}
pub use Rattle.cap_spec.specs.Pointers.{IsFar, IsReserved, cap_index, code, data_size, element_bits, extent}
pub use Rattle.cap_spec.specs.Pointers.{far_segment, kind, list_size, list_words, middle, pad, pointer_size, two}
pub use Rattle.cap_spec.specs.Scalars.{packed_word, scalar_words}
pub use Rattle.cap_spec.specs.Showing.{Own, kind_of, own_of, words_of_own}
pub use Rattle.cap_spec.specs.SpotTrees.{DenotesAt}
pub use Rattle.cap_spec.specs.Strict.{IsFirstLax, IsLax, IsLaxAt, IsStrict, IsStrictFault}
pub use Rattle.cap_spec.specs.Texts.{accepted, dump_text, get_text, hex, hex_digit, label, line, outline_text, own_text}
pub use Rattle.cap_spec.specs.Texts.{refused, segment_lines, segments_text, strict_verdict, then_number, vet_text}
pub use Rattle.cap_spec.specs.Texts.{word_lines}
pub use Rattle.cap_spec.specs.Tree.{AreElementTrees, AreTrees, IsTree, Tree, Trees, cap, cap_count, cap_counts, has_cap}
pub use Rattle.cap_spec.specs.Tree.{more, node_at, null, part_at, pointer_count, pointers, scalars, struct, structs}
pub use Rattle.cap_spec.specs.Tree.{tree_at, tree_count}
pub use Rattle.cap_spec.specs.Unamplified.{unamplified}
pub use Rattle.cap_spec.specs.Unpacking.{Cut, Groups, IsGroup, Unpacks, given_in, given_of, group_length, group_words}
pub use Rattle.cap_spec.specs.Unpacking.{groups_text, groups_words, is_cut_in, marked, marks, packed_is_cut, plain}
pub use Rattle.cap_spec.specs.Unpacking.{spread, unpacked, zeros}
pub use Rattle.cap_spec.specs.Verdicts.{CostOf, IsDeepAt, Justified, no_root, past_limit, too_deep}
pub use Rattle.cap_spec.specs.Words.{IsWord, field, signed_offset_of}
pub use Rattle.cap_spec.specs.declared.Kind.TheVariants.{Pointers, Scalars, Struct, Structs}
pub use Rattle.cap_spec.specs.declared.Lax.{Lax}
pub use Rattle.cap_spec.specs.declared.Lax.TheVariants.{CapabilityPad, EmptySegment, NullPad}
pub use Rattle.cap_spec.specs.declared.Reason.{Reason}
pub use Rattle.cap_spec.specs.declared.Reason.TheVariants.{CompositeOverrun, CompositeTag, DepthLimit, OutOfSegment}
pub use Rattle.cap_spec.specs.declared.Reason.TheVariants.{PadIsFar, PadNotFar, PadOutside, Reserved, SegmentMissing}
pub use Rattle.cap_spec.specs.declared.Reason.TheVariants.{TagKind, TagOffset, WordLimit}
pub use Rattle.cap_spec.specs.declared.Refusal.{Refusal}
pub use Rattle.cap_spec.specs.declared.Step.{Step}
pub use Rattle.cap_spec.specs.declared.Step.TheVariants.{Item, Ptr}

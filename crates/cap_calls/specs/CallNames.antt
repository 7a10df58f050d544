-- Names of specs that several files cite, passed on from one place. Declares nothing.
pub use Rattle.cap_spec.specs.declared.Kind.{Kind}
pub use Rattle.cap_spec.specs.declared.Kind.TheVariants.{Cap, Null, Scalars, Struct, Structs}
pub use Rattle.cap_spec.specs.declared.Reason.{Reason}
pub use Rattle.cap_spec.specs.declared.Step.{Step}
pub use Rattle.cap_spec.specs.declared.Step.TheVariants.{Item, Ptr}
pub use Rattle.cap_spec.specs.declared.StrictRefusal.{StrictRefusal}
pub use Rattle.cap_spec.specs.declared.StrictRefusal.TheVariants.{ManySegments, Pointer}
pub use Rattle.cap_frame.specs.declared.fault.FrontFault.{FrontFault}
pub use Rattle.cap_frame.specs.declared.framed.Framed.{Framed}
pub use Rattle.cap_frame.specs.declared.byte_message.ByteView.{ByteView}
pub use Rattle.cap_walk.specs.declared.demands.Demands.{Demands}
pub use Rattle.cap_vet.specs.declared.nodes.path_start.PathStart.{PathStart}
pub use Rattle.cap_vet.specs.declared.nodes.view.View.{View}
pub use Rattle.cap_walk.specs.declared.report.Report.{Report}
pub use Rattle.cap_calls.specs.AnswerNumbers.{reason_answer, refusal_answer}
pub use Rattle.cap_calls.specs.CallBounds.{frame_bound}
pub use Rattle.cap_calls.specs.CallFindings.{Judges, ReportsCall, ReportsWhole, accepted_found, framed, framed_found}
pub use Rattle.cap_calls.specs.CallFindings.{none_found, refused, refused_found, reports, trailing}
pub use Rattle.cap_calls.specs.CallFlags.{allows_amplified, allows_trailing, demands_of, has_no_table}
pub use Rattle.cap_calls.specs.CallFrames.{AreLimits, HasFrame, HasNoFrame, HasTrailing}
pub use Rattle.cap_calls.specs.CallInputs.{IsSegment, ReportsInput, of_frame, of_no_words, of_words}
pub use Rattle.cap_calls.specs.CallNodes.{kind_node, none_node, offset_of}
pub use Rattle.cap_calls.specs.CallReports.{cause_answer}
pub use Rattle.cap_calls.specs.Calls.{IsGood, ReportsMessage, ReportsVet}
pub use Rattle.cap_calls.specs.CanonicalCalls.{size_found}
pub use Rattle.cap_calls.specs.ExclusiveCalls.{Marks, exclusive, fault_found, overlap}
pub use Rattle.cap_calls.specs.MessageStages.{IsEnd}
pub use Rattle.cap_calls.specs.NodeCalls.{Gets, ReportsGet, a_node, a_path, bad_path, bad_path_found, no_meeting, no_node}
pub use Rattle.cap_calls.specs.NodeCalls.{path_found}
pub use Rattle.cap_calls.specs.PackCalls.{ReportsText, cut}
pub use Rattle.cap_calls.specs.PackedStreams.{GivesWords, WritesWords, words_to_come}
pub use Rattle.cap_calls.specs.PointerCalls.{call_step, steps_found}
pub use Rattle.cap_calls.specs.RangeCalls.{AreStepKinds, EndsRange, GetsRange, ReportsRange, full, past, path_after}
pub use Rattle.cap_calls.specs.RangeCalls.{step_after, stops, unknown}
pub use Rattle.cap_calls.specs.RangeShortcut.{HasCount, IsShortcutNode, WritesFirst}
pub use Rattle.cap_calls.specs.SegmentsCalls.{ReportsSegmentsCall, message}
pub use Rattle.cap_calls.specs.Slices.{AreSegments, ReportsNoSegments, segments_in, words_of_slices}
pub use Rattle.cap_calls.specs.UnpackingMessages.{Appends, IsOpen, IsState, StopsCall, ReportsUnpackMessage, bad}
pub use Rattle.cap_calls.specs.UnpackingMessages.{state_of, too_many, truncated, unpacks}
pub use Rattle.cap_calls.specs.declared.answer.Answer.{Answer}
pub use Rattle.cap_calls.specs.declared.answer.Answer.TheVariants.{BufferTooSmall, Good, NoNode}
pub use Rattle.cap_calls.specs.declared.calls.get_range.Shortcut.{Shortcut}
pub use Rattle.cap_calls.specs.declared.calls.get_range.Shortcut.TheVariants.{Elements}
pub use Rattle.cap_calls.specs.declared.calls.unpack_message.Stage.{Stage}
pub use Rattle.cap_calls.specs.declared.found.Found.{Found}
pub use Rattle.cap_calls.specs.declared.front.NoFrame.{NoFrame}
pub use Rattle.cap_calls.specs.declared.front.NoFrame.TheVariants.{BadLimits, Fault}
pub use Rattle.cap_calls.specs.declared.limits.CallLimits.{CallLimits}
pub use Rattle.cap_calls.specs.declared.node.CallNode.{CallNode}
pub use Rattle.cap_calls.specs.declared.report.CallReport.{CallReport}
pub use Rattle.cap_calls.specs.declared.step.CallStep.{CallStep}
pub use Rattle.cap_calls.specs.declared.unpacking.Unpacking.{Unpacking}

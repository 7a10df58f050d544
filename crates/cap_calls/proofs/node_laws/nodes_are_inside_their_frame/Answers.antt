use Rattle.cap_spec.proofs.ProofNames.{rules}
use Rattle.std.proofs.Common.{Bool, List, ap, arith, length, not, slice_index_or, ℕ, ◌+◌, ◌<◌, ◌≡◌, ◌≤◌}
use Rattle.cap_calls.specs.CallFindings.{without}
use Rattle.cap_calls.specs.NodeCalls.{bad_limits}
use Rattle.cap_calls.specs.CallNames.{Step, Demands, ReportsWhole, framed, reports, trailing, allows_trailing}
use Rattle.cap_calls.specs.CallNames.{demands_of, HasFrame, none_node, Gets, ReportsGet, a_node, a_path, bad_path}
use Rattle.cap_calls.specs.CallNames.{no_meeting, no_node, GetsRange, ReportsRange, path_after, Answer, Found}
use Rattle.cap_calls.specs.CallNames.{CallLimits, CallNode, CallReport, CallStep}
use Rattle.cap_calls.proofs.Bounds.{length_inside}
use Rattle.cap_calls.proofs.NodeBytes.{node_bounded}
use Rattle.cap_calls.proofs.SegmentPlaces.{offset_inside}
use Rattle.cap_calls.specs.RangeCalls as range
use Rattle.cap_calls.proofs.node_laws.nodes_are_inside_their_frame.Goals as goal

-- The bytes of each node that a call reports are inside the frame that it reports.
-- how many bytes there are up to the end of a node's
abbrev end_of : CallNode → ℕ
end_of node = node.offset + node.length

-- without a node there are none
none_ends : (node : CallNode) (long : ℕ) → node ≡ none_node → end_of node ≤ long
none_ends node long e = omega (arith, ap end_of e)

module _ (l : CallLimits) (bs : List ℕ) where
  -- what is got of a path
  gets_inside : (path : List Step) (node : CallNode) (demands : Demands) (m : List (List ℕ)) (words depth frame segments : ℕ)
      (g : Found) → HasFrame l bs frame segments m → Gets path node demands m words depth g → end_of node ≤ frame
  gets_inside path node demands m words depth frame segments g h (no_meeting r f e n) = none_ends node frame n
  gets_inside path node demands m words depth frame segments g h (no_node meets none e n) = none_ends node frame n
  gets_inside path node demands m words depth frame segments g h (a_node k t b n meets (level, a, c, f) e i) =
      let inside = node_bounded m frame (λ t b n exists capacity. offset_inside l.message_words bs m frame h.front t b n exists capacity)
      path k t b n level a c f in
      omega (arith, inside, ap end_of i)

  message_inside : (whole : Bool) (path : List Step) (node : CallNode) (demands : Demands) (f : Found)
      → ReportsWhole whole (node ≡ none_node) (Gets path node demands) l bs f → end_of node ≤ f.report.length
  message_inside whole path node demands f (trailing m x y t h more e i) = none_ends node f.report.length i
  message_inside whole path node demands f (reports only (without c h e i)) = none_ends node f.report.length i
  message_inside whole path node demands f (reports only (framed m x y g h p e)) = search (rules, gets_inside path node demands m l.charge l.depth x y g h p)

  pub get_inside : (text : List ℕ) (a : Answer) (node : CallNode) (r : CallReport) → ReportsGet l bs text a node r
      → (end_of node ≤ r.length) × (r.length ≤ length bs)
  get_inside text a node r (f, bad_limits bad e n, (i, j)) = search (rules, none_ends)
  get_inside text a node r (f, bad_path at are bad e n, (i, j)) = search (rules, none_ends)
  get_inside text a node r (f, a_path path are whole t, (i, j)) =
      let long : r.length ≡ f.report.length = ap (λ (z : CallReport). z.length) j in
      search (rules, message_inside, length_inside)

  -- what is got of the nodes of a range
  range_message_inside : (whole : Bool) (path : ℕ → List Step) (old new : List CallNode) (demands : Demands) (f : Found) (k : ℕ)
      → k < f.count → ReportsWhole whole (new ≡ old) (GetsRange path old new demands) l bs f
      → end_of (slice_index_or new k none_node) ≤ f.report.length
  range_message_inside whole path old new demands f k less (trailing m x y t h more e i) = search rules
  range_message_inside whole path old new demands f k less (reports only (without c h e i)) = search rules
  range_message_inside whole path old new demands f k less (reports only (framed m x y g h p e)) =
      let long : f.report.length ≡ x = ap (λ (z : Found). z.report.length) e in
      let count : f.count ≡ g.count = ap (λ (z : Found). z.count) e in
      omega (
        arith,
        long,
        gets_inside (path k) (slice_index_or new k none_node) demands m l.charge l.depth x y _ h
            (p.nodes k (omega (arith, less, count))),
      )

  pub range_inside : (steps : List CallStep) (varying : ℕ) (old : List CallNode) (a : Answer) (n : ℕ) (new : List CallNode)
      (r : CallReport) (k : ℕ) → ReportsRange l bs steps varying old a n new r → k < n
      → (end_of (slice_index_or new k none_node) ≤ r.length) × (r.length ≤ length bs)
  range_inside steps varying old a n new r k (f, range.bad_limits bad e i, q, c) less = search rules
  range_inside steps varying old a n new r k (f, range.bad_steps at are bad e i, q, c) less = search rules
  range_inside steps varying old a n new r k (f, range.range are t, (i, j), c) less =
      search (
        rules,
        range_message_inside (not (allows_trailing l)) (λ k. path_after steps varying k) old new (demands_of l) f k (omega (arith, less, c)) t,
        length_inside (not (allows_trailing l)) l bs f t,
      )

pub returns-clause-get : goal.returns-clause-get
returns-clause-get c = λ l bs text a node r t. get_inside l bs text a node r t

pub returns-clause-get_range : goal.returns-clause-get_range
returns-clause-get_range c = λ l bs call k less.
    range_inside l bs call.steps call.varying call.before call.returned call.count call.after call.report k call.reports less

use Rattle.std.proofs.Common.{◌∙◌, ℕ, arith, length, map, refl, subst, sym}
use Rattle.dg_append.proofs.BatchSegmentIndex.{tail_rises}
use Rattle.dg_append.proofs.BatchSegmentParts.{as_many_deltas, as_many_lists, begins_after_lists, given_here, listed_by, older_long, past_graph, past_long, past_recent, past_steps, range_of, recent_long, written_whole}
use Rattle.dg_append.proofs.segment.segment_of.Goals as goal
use Rattle.dg_build.specs.GivenDeltas.{AreGiven, IsFaultOfSuch}
use Rattle.dg_history.specs.declared.params.Params.{Params}
use Rattle.dg_history.specs.History.{Batch, first_time_of}
use Rattle.dg_history.proofs.ParameterRanges.{InRange}
use Rattle.dg_index.specs.FileOfHistory.{segment_of}
use Rattle.dg_index.proofs.UnheardRecords.{segment_unheard}
use Rattle.dg_index.specs.OpenedIndex.{Opening, list_row}
use Rattle.dg_stored.specs.StoredHistory.{floor_of}

pub build-requires-clause-list : goal.build-requires-clause-list
build-requires-clause-list c =
    let p : InRange c.params-params.result.l c.params-params.result.k = range_of c.args.index.now.opening c.params-params.result c.events_len-before.result c.params-params.ensures c.events_len-before.ensures.events c.facts.ensures.parameters in
    let some = p.list_some in
    (omega (arith, some), p.list_most)

pub build-requires-clause-arity : goal.build-requires-clause-arity
build-requires-clause-arity c = (range_of c.args.index.now.opening c.params-params.result c.events_len-before.result c.params-params.ensures c.events_len-before.ensures.events c.facts.ensures.parameters).arity_two

pub build-requires-clause-recent : goal.build-requires-clause-recent
build-requires-clause-recent c = recent_long c.args.index.now.opening c.params-params.result c.events_len-before.result c.params-params.ensures c.events_len-before.ensures.events (length c.args.next.now.recent.now) c.requires.next.follows.counted

pub build-requires-clause-older : goal.build-requires-clause-older
build-requires-clause-older c =
    older_long c.args.index.now.opening c.params-params.result c.events_len-before.result c.params-params.ensures c.events_len-before.ensures.events (length c.args.next.now.events.now) (length c.args.older.now) c.requires.older

pub returns-in-Ok-clause-behind : goal.returns-in-Ok-clause-behind
returns-in-Ok-clause-behind c =
    let o : Opening = c.args.index.now.opening in
    let parts = c.in_ok-segment.ensures.parts in
    let made = c.in-Ok.ensures.batch in
    record {
      events_are = made.0 ∙ parts.0;
      first_is = made.1 ∙ parts.1;
      last_is = made.2 ∙ parts.2;
      names_are = made.3 ∙ parts.3;
      lists = c.in-Ok.ensures.lists ∙ as_many_lists o c.params-params.result c.events_len-before.result c.params-params.ensures c.events_len-before.ensures.events _;
      deltas = c.in-Ok.ensures.deltas ∙ as_many_deltas o c.params-params.result c.events_len-before.result c.params-params.ensures c.events_len-before.ensures.events _;
      listed = listed_by (floor_of o (first_time_of c.args.next.now.events.now)) c.args.next.now.recent.now c.args.next.now.events.now (map list_row c.in-Ok.segment.lists) c.requires.next.follows.some (c.in-Ok.ensures.times (floor_of o (first_time_of c.args.next.now.events.now)) (tail_rises c.args.index.now.opening c.args.next.now.recent.now c.args.next.now.events.now c.requires.next.follows));
      behind = begins_after_lists o c.params-params.result c.events_len-before.result c.params-params.ensures c.events_len-before.ensures.events (floor_of o (first_time_of c.args.next.now.events.now)) c.in-Ok.segment.lists c.args.next.now.recent.now c.args.next.now.events.now
          (c.in-Ok.ensures.behind (floor_of o (first_time_of c.args.next.now.events.now)) (tail_rises c.args.index.now.opening c.args.next.now.recent.now c.args.next.now.events.now c.requires.next.follows));
      deltas_unheard = c.facts-in-Ok.ensures;
      unheard = λ narrow. c.in-Ok.ensures.unheard (c.is_wide.ensures ∙ narrow);
    }

pub returns-in-Ok-clause-is : goal.returns-in-Ok-clause-is
returns-in-Ok-clause-is c past is =
    let o : Opening = c.args.index.now.opening in
    let p : Params = c.params-params.result in
    let n : ℕ = c.events_len-before.result in
    let parts = c.in_ok-segment.ensures.parts in
    let b : Batch = record { names = c.in_ok-segment.segment.names; events = c.args.next.now.events.now } in
    c.in-Ok.ensures.is past
    (past_long o p n c.params-params.ensures c.events_len-before.ensures.events past c.args.next.now.recent.now c.args.next.now.current.now.graph c.args.next.now.events.now c.args.older.now is)
    (past_recent o p n c.params-params.ensures c.events_len-before.ensures.events past c.args.next.now.recent.now c.args.next.now.current.now.graph c.args.next.now.events.now c.args.older.now is)
    (past_graph o p n c.params-params.ensures c.events_len-before.ensures.events past c.args.next.now.recent.now c.args.next.now.current.now.graph c.args.next.now.events.now c.args.older.now is c.args.next.now.top.now c.requires.next.top)
    is.changes
    (past_steps o p n c.params-params.ensures c.events_len-before.ensures.events past c.args.next.now.recent.now c.args.next.now.current.now.graph c.args.next.now.events.now c.args.older.now is)
    parts.0 parts.1 parts.2
    ∙ written_whole c.is_wide.result (segment_of p past b) (λ narrow. segment_unheard p past b (is.form (sym c.is_wide.ensures ∙ narrow)))
    ∙ (λ i. segment_of (c.params-params.ensures i) past (record { names = parts.3 i; events = c.args.next.now.events.now }))

pub returns-in_ok-key-in-Err-Wide-clause-never : goal.returns-in_ok-key-in-Err-Wide-clause-never
returns-in_ok-key-in-Err-Wide-clause-never c past is =
    let o : Opening = c.args.index.now.opening in
    let p : Params = c.params-params.result in
    let n : ℕ = c.events_len-before.result in
    let parts = c.in_ok-segment.ensures.parts in
    let none = c.in-Err-Wide.ensures.fault past
    (past_long o p n c.params-params.ensures c.events_len-before.ensures.events past c.args.next.now.recent.now c.args.next.now.current.now.graph c.args.next.now.events.now c.args.older.now is)
    (past_recent o p n c.params-params.ensures c.events_len-before.ensures.events past c.args.next.now.recent.now c.args.next.now.current.now.graph c.args.next.now.events.now c.args.older.now is)
    (past_graph o p n c.params-params.ensures c.events_len-before.ensures.events past c.args.next.now.recent.now c.args.next.now.current.now.graph c.args.next.now.events.now c.args.older.now is c.args.next.now.top.now c.requires.next.top)
    is.changes
    (past_steps o p n c.params-params.ensures c.events_len-before.ensures.events past c.args.next.now.recent.now c.args.next.now.current.now.graph c.args.next.now.events.now c.args.older.now is)
    in cc (none, c.in-Err-Wide.field-0-is)

pub returns-in_ok-key-in-Err-Wide-clause-fails : goal.returns-in_ok-key-in-Err-Wide-clause-fails
returns-in_ok-key-in-Err-Wide-clause-fails c =
    let o : Opening = c.args.index.now.opening in
    let p : Params = c.params-params.result in
    let n : ℕ = c.events_len-before.result in
    let wide = subst (IsFaultOfSuch (AreGiven p n c.args.next.now.top.now c.args.next.now.recent.now c.args.next.now.events.now c.args.older.now) 0) c.in-Err-Wide.field-0-is c.in-Err-Wide.ensures.first in (
      refl,
      record {
        place = c.in-Err-Wide.delta_index;
        first = record {
          deltas = wide.deltas;
          are = given_here o p n c.params-params.ensures c.events_len-before.ensures.events c.args.next.now.top.now c.args.next.now.current.now.graph c.args.next.now.recent.now c.args.next.now.events.now c.args.older.now wide.deltas
              c.requires.next.top wide.are;
          first = wide.first;
        };
        there = c.in_ok-key-in-Err-Wide.ensures;
      },
    )

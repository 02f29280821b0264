use Rattle.std.proofs.Common.{◌≡◌, ℕ, ◌+◌, ◌-◌, ◌≤◌, List, true, Some, Err, length, take, drop, refl, sym, ap, subst, ◌∙◌, arith, length-take}
use Rattle.std.proofs.lemmas.Result.{err_from_is_err_and}
use Rattle.dg_history.specs.declared.limits.TheConstants.{EVENTS_MAX}
use Rattle.std.specs.Prelude.{◌==◌}
use Rattle.dg_index.specs.ImageText.{names_at}
use Rattle.dg_history.specs.History.{are_parameters, is_wide}
use Rattle.dg_index.specs.declared.entry.BatchEntry.{BatchEntry}
use Rattle.dg_index.specs.declared.entry.Row.{Row}
use Rattle.dg_index.specs.OpenedIndex.{Opening, Opened, may_follow, list_count, delta_count, keys_next, event_total, earliest_in, rows_in, are_unheard, may_be_listed}
use Rattle.dg_index.proofs.OpenedIndexHistories.{large_parameters}
use Rattle.dg_segment.specs.declared.names_read.DirectoryFault.TheVariants.{Broken}
use Rattle.dg_catalogue.specs.Additions.{bytes_of_rows}
use Rattle.dg_file.specs.Index.{IndexState}
use Rattle.dg_segment.proofs.DirectoryTests.{due_many, due_stale, due_following, due_rows, due_measured, due_listed, due_taken, due_unheard, rows_number, said}
use Rattle.dg_segment.proofs.OpenedIndexKeys.{keys_count, keys_few}
use Rattle.dg_file.proofs.InvariantBatches.{follows_in}
use Rattle.dg_file.proofs.index.Index.read_directory.Goals as goal

pub returns-then-len-count-clause-broken : goal.returns-then-len-count-clause-broken
returns-then-len-count-clause-broken c = λ _.
    due_many (record { index = c.args.self.now.opening; names = c.args.names.now }) c.args.columns c.args.bytes.now (omega (arith, c.if-bytes-lt-NAMES_OFFSET.false)) c.u32_at-count.result c.u32_at-count.ensures (omega (arith, c.len.ensures, c.if-len-count.true))

pub returns-in_err-end-clause-broken : goal.returns-in_err-end-clause-broken
returns-in_err-end-clause-broken c = λ broken.
    let p = err_from_is_err_and c.from_residual.result c.from_residual.ensures.1 in
    let is : c.read_names.result ≡ Err Broken = cc (c.in_err-end.was, p.1, p.2, broken) in
    due_stale (record { index = c.args.self.now.opening; names = c.args.names.now }) c.args.columns c.args.bytes.now (omega (arith, c.if-bytes-lt-NAMES_OFFSET.false))
    (λ t e. c.read_names.ensures.broken is t (subst (λ n. names_at n c.args.bytes.now 28 ≡ Some t) (sym c.u32_at-count.ensures) e))

pub returns-then-not-may_follow-clause-broken : goal.returns-then-not-may_follow-clause-broken
returns-then-not-may_follow-clause-broken c = λ _.
    let o : Opening = c.args.self.now.opening in
    let x : Opened = record { index = o; names = c.args.names.now } in
    let b : BatchEntry = c.batch_at-batch.result in
    let events : c.self.inside.events ≡ event_total o.batches = c.self.invariant.count ∙ ap (λ (v : IndexState). event_total v.opening.batches) c.self.view_is in
    let earliest : c.self.inside.earliest ≡ earliest_in 0 o.batches = c.self.invariant.earliest ∙ ap (λ (v : IndexState). earliest_in 0 v.opening.batches) c.self.view_is in
    let long : 28 ≤ length c.args.bytes.now = omega (arith, c.if-bytes-lt-NAMES_OFFSET.false) in
    due_following x c.args.columns c.args.bytes.now (is_wide o.form) refl long c.u32_at-count.result c.in_ok-end.end c.read_names.new.names b c.u32_at-count.ensures c.in_ok-end.ensures.taken c.batch_at-batch.ensures
    (list_count o b.events) (delta_count o b.events) refl refl ((λ i. may_follow (sym events i) (sym earliest i) b) ∙ sym c.may_follow.ensures ∙ c.if-not-may_follow.true)

pub overflow_cast-deltas : goal.overflow_cast-deltas
overflow_cast-deltas c =
    let o : Opening = c.args.self.now.opening in
    let x : Opened = record { index = o; names = c.args.names.now } in
    let b : BatchEntry = c.batch_at-batch.result in
    let events : c.self.inside.events ≡ event_total o.batches = c.self.invariant.count ∙ ap (λ (v : IndexState). event_total v.opening.batches) c.self.view_is in
    let earliest : c.self.inside.earliest ≡ earliest_in 0 o.batches = c.self.invariant.earliest ∙ ap (λ (v : IndexState). earliest_in 0 v.opening.batches) c.self.view_is in
    let long : 28 ≤ length c.args.bytes.now = omega (arith, c.if-bytes-lt-NAMES_OFFSET.false) in
    let follow : may_follow (event_total o.batches) (earliest_in 0 o.batches) b ≡ true = (λ i. may_follow (sym events i) (sym earliest i) b) ∙ sym c.may_follow.ensures ∙ c.if-not-may_follow.false in
    let few : event_total o.batches + b.events ≤ EVENTS_MAX = (follows_in (event_total o.batches) (earliest_in 0 o.batches) b follow).all in
    let large = large_parameters o.params.l o.params.k (subst (λ (v : IndexState). are_parameters v.opening.params.l v.opening.params.k ≡ true) c.self.view_is c.self.invariant.parameters) in
    let number : c.len-2.result ≡ length (keys_next o b.events) = omega (arith, c.len-2.ensures, c.in_ok-keys.keys.ok, ap length c.in_ok-keys.ensures.keys) in
    omega (arith, number, keys_few o b.events large.0 large.1 few)

pub overflow_sub-deltas : goal.overflow_sub-deltas
overflow_sub-deltas c =
    let o : Opening = c.args.self.now.opening in
    let x : Opened = record { index = o; names = c.args.names.now } in
    let b : BatchEntry = c.batch_at-batch.result in
    let events : c.self.inside.events ≡ event_total o.batches = c.self.invariant.count ∙ ap (λ (v : IndexState). event_total v.opening.batches) c.self.view_is in
    let earliest : c.self.inside.earliest ≡ earliest_in 0 o.batches = c.self.invariant.earliest ∙ ap (λ (v : IndexState). earliest_in 0 v.opening.batches) c.self.view_is in
    let long : 28 ≤ length c.args.bytes.now = omega (arith, c.if-bytes-lt-NAMES_OFFSET.false) in
    let number : c.len-2.result ≡ length (keys_next o b.events) = omega (arith, c.len-2.ensures, c.in_ok-keys.keys.ok, ap length c.in_ok-keys.ensures.keys) in
    omega (arith, number, keys_count o b.events, c.lists_next-lists.ensures)

pub overflow_sub-deltas-2 : goal.overflow_sub-deltas-2
overflow_sub-deltas-2 c =
    let o : Opening = c.args.self.now.opening in
    let x : Opened = record { index = o; names = c.args.names.now } in
    let b : BatchEntry = c.batch_at-batch.result in
    let events : c.self.inside.events ≡ event_total o.batches = c.self.invariant.count ∙ ap (λ (v : IndexState). event_total v.opening.batches) c.self.view_is in
    let earliest : c.self.inside.earliest ≡ earliest_in 0 o.batches = c.self.invariant.earliest ∙ ap (λ (v : IndexState). earliest_in 0 v.opening.batches) c.self.view_is in
    let long : 28 ≤ length c.args.bytes.now = omega (arith, c.if-bytes-lt-NAMES_OFFSET.false) in
    let number : c.len-2.result ≡ length (keys_next o b.events) = omega (arith, c.len-2.ensures, c.in_ok-keys.keys.ok, ap length c.in_ok-keys.ensures.keys) in
    omega (arith, number, keys_count o b.events, c.lists_next-lists.ensures)

pub returns-then-not-has_rows-clause-broken : goal.returns-then-not-has_rows-clause-broken
returns-then-not-has_rows-clause-broken c = λ _.
    let o : Opening = c.args.self.now.opening in
    let x : Opened = record { index = o; names = c.args.names.now } in
    let b : BatchEntry = c.batch_at-batch.result in
    let events : c.self.inside.events ≡ event_total o.batches = c.self.invariant.count ∙ ap (λ (v : IndexState). event_total v.opening.batches) c.self.view_is in
    let earliest : c.self.inside.earliest ≡ earliest_in 0 o.batches = c.self.invariant.earliest ∙ ap (λ (v : IndexState). earliest_in 0 v.opening.batches) c.self.view_is in
    let long : 28 ≤ length c.args.bytes.now = omega (arith, c.if-bytes-lt-NAMES_OFFSET.false) in
    let lists : ℕ = c.lists_next-lists.result in
    let deltas : ℕ = c.len-2.result - lists - 1 in
    let number : c.len-2.result ≡ length (keys_next o b.events) = omega (arith, c.len-2.ensures, c.in_ok-keys.keys.ok, ap length c.in_ok-keys.ensures.keys) in
    let deltas_is : deltas ≡ delta_count o b.events = omega (arith, number, keys_count o b.events, c.lists_next-lists.ensures) in
    due_rows x c.args.columns c.args.bytes.now c.is_wide-wide.result c.is_wide-wide.ensures long c.u32_at-count.result c.in_ok-end.end c.read_names.new.names b c.u32_at-count.ensures c.in_ok-end.ensures.taken c.batch_at-batch.ensures lists deltas c.lists_next-lists.ensures deltas_is (sym c.has_rows.ensures ∙ c.if-not-has_rows.true)

pub returns-then-not-is_measured-clause-broken : goal.returns-then-not-is_measured-clause-broken
returns-then-not-is_measured-clause-broken c = λ _.
    let o : Opening = c.args.self.now.opening in
    let x : Opened = record { index = o; names = c.args.names.now } in
    let b : BatchEntry = c.batch_at-batch.result in
    let events : c.self.inside.events ≡ event_total o.batches = c.self.invariant.count ∙ ap (λ (v : IndexState). event_total v.opening.batches) c.self.view_is in
    let earliest : c.self.inside.earliest ≡ earliest_in 0 o.batches = c.self.invariant.earliest ∙ ap (λ (v : IndexState). earliest_in 0 v.opening.batches) c.self.view_is in
    let long : 28 ≤ length c.args.bytes.now = omega (arith, c.if-bytes-lt-NAMES_OFFSET.false) in
    let lists : ℕ = c.lists_next-lists.result in
    let deltas : ℕ = c.len-2.result - lists - 1 in
    let number : c.len-2.result ≡ length (keys_next o b.events) = omega (arith, c.len-2.ensures, c.in_ok-keys.keys.ok, ap length c.in_ok-keys.ensures.keys) in
    let deltas_is : deltas ≡ delta_count o b.events = omega (arith, number, keys_count o b.events, c.lists_next-lists.ensures) in
    let rows : List Row = c.in_ok-rows.rows.items in
    let rows_are : rows ≡ rows_in (said c.is_wide-wide.result lists deltas c.args.bytes.now (c.in_ok-end.ensures.taken.names, c.in_ok-end.end)) = c.in_ok-rows.ensures in
    let here : c.deref.result.now ≡ rows = c.deref.ensures.value in
    due_measured x c.args.columns c.args.bytes.now c.is_wide-wide.result c.is_wide-wide.ensures long c.u32_at-count.result c.in_ok-end.end c.read_names.new.names b c.u32_at-count.ensures c.in_ok-end.ensures.taken c.batch_at-batch.ensures lists deltas c.lists_next-lists.ensures deltas_is rows rows_are (ap (λ (l : List Row). bytes_of_rows l == c.args.columns) (sym here) ∙ sym c.is_measured.ensures ∙ c.if-not-is_measured.true)

pub slice_bounds-may_be_listed-end : goal.slice_bounds-may_be_listed-end
slice_bounds-may_be_listed-end c =
    let o : Opening = c.args.self.now.opening in
    let x : Opened = record { index = o; names = c.args.names.now } in
    let b : BatchEntry = c.batch_at-batch.result in
    let events : c.self.inside.events ≡ event_total o.batches = c.self.invariant.count ∙ ap (λ (v : IndexState). event_total v.opening.batches) c.self.view_is in
    let earliest : c.self.inside.earliest ≡ earliest_in 0 o.batches = c.self.invariant.earliest ∙ ap (λ (v : IndexState). earliest_in 0 v.opening.batches) c.self.view_is in
    let long : 28 ≤ length c.args.bytes.now = omega (arith, c.if-bytes-lt-NAMES_OFFSET.false) in
    let lists : ℕ = c.lists_next-lists.result in
    let deltas : ℕ = c.len-2.result - lists - 1 in
    let number : c.len-2.result ≡ length (keys_next o b.events) = omega (arith, c.len-2.ensures, c.in_ok-keys.keys.ok, ap length c.in_ok-keys.ensures.keys) in
    let deltas_is : deltas ≡ delta_count o b.events = omega (arith, number, keys_count o b.events, c.lists_next-lists.ensures) in
    let rows : List Row = c.in_ok-rows.rows.items in
    let rows_are : rows ≡ rows_in (said c.is_wide-wide.result lists deltas c.args.bytes.now (c.in_ok-end.ensures.taken.names, c.in_ok-end.end)) = c.in_ok-rows.ensures in
    let here : c.deref-2.result.now ≡ rows = c.deref-2.ensures.value in
    omega (arith, length-take c.lists_next-lists.result c.deref-2.result.now, ap length here, ap length rows_are, rows_number c.is_wide-wide.result lists deltas c.args.bytes.now (c.in_ok-end.ensures.taken.names, c.in_ok-end.end))

pub returns-then-not-may_be_listed-clause-broken : goal.returns-then-not-may_be_listed-clause-broken
returns-then-not-may_be_listed-clause-broken c = λ _.
    let o : Opening = c.args.self.now.opening in
    let x : Opened = record { index = o; names = c.args.names.now } in
    let b : BatchEntry = c.batch_at-batch.result in
    let events : c.self.inside.events ≡ event_total o.batches = c.self.invariant.count ∙ ap (λ (v : IndexState). event_total v.opening.batches) c.self.view_is in
    let earliest : c.self.inside.earliest ≡ earliest_in 0 o.batches = c.self.invariant.earliest ∙ ap (λ (v : IndexState). earliest_in 0 v.opening.batches) c.self.view_is in
    let long : 28 ≤ length c.args.bytes.now = omega (arith, c.if-bytes-lt-NAMES_OFFSET.false) in
    let lists : ℕ = c.lists_next-lists.result in
    let deltas : ℕ = c.len-2.result - lists - 1 in
    let number : c.len-2.result ≡ length (keys_next o b.events) = omega (arith, c.len-2.ensures, c.in_ok-keys.keys.ok, ap length c.in_ok-keys.ensures.keys) in
    let deltas_is : deltas ≡ delta_count o b.events = omega (arith, number, keys_count o b.events, c.lists_next-lists.ensures) in
    let rows : List Row = c.in_ok-rows.rows.items in
    let rows_are : rows ≡ rows_in (said c.is_wide-wide.result lists deltas c.args.bytes.now (c.in_ok-end.ensures.taken.names, c.in_ok-end.end)) = c.in_ok-rows.ensures in
    let here : c.deref-2.result.now ≡ rows = c.deref-2.ensures.value in
    due_listed x c.args.columns c.args.bytes.now c.is_wide-wide.result c.is_wide-wide.ensures long c.u32_at-count.result c.in_ok-end.end c.read_names.new.names b c.u32_at-count.ensures c.in_ok-end.ensures.taken c.batch_at-batch.ensures lists deltas c.lists_next-lists.ensures deltas_is rows c.floor-floor.result rows_are c.floor-floor.ensures
    (ap (λ (l : List Row). may_be_listed c.floor-floor.result b.ends.last (take lists l)) (sym here) ∙ sym c.may_be_listed.ensures ∙ c.if-not-may_be_listed.true)

pub returns-clause-taken : goal.returns-clause-taken
returns-clause-taken c =
    let o : Opening = c.args.self.now.opening in
    let x : Opened = record { index = o; names = c.args.names.now } in
    let b : BatchEntry = c.batch_at-batch.result in
    let events : c.self.inside.events ≡ event_total o.batches = c.self.invariant.count ∙ ap (λ (v : IndexState). event_total v.opening.batches) c.self.view_is in
    let earliest : c.self.inside.earliest ≡ earliest_in 0 o.batches = c.self.invariant.earliest ∙ ap (λ (v : IndexState). earliest_in 0 v.opening.batches) c.self.view_is in
    let long : 28 ≤ length c.args.bytes.now = omega (arith, c.if-bytes-lt-NAMES_OFFSET.false) in
    let follow : may_follow (event_total o.batches) (earliest_in 0 o.batches) b ≡ true = (λ i. may_follow (sym events i) (sym earliest i) b) ∙ sym c.may_follow.ensures ∙ c.if-not-may_follow.false in
    let few : event_total o.batches + b.events ≤ EVENTS_MAX = (follows_in (event_total o.batches) (earliest_in 0 o.batches) b follow).all in
    let large = large_parameters o.params.l o.params.k (subst (λ (v : IndexState). are_parameters v.opening.params.l v.opening.params.k ≡ true) c.self.view_is c.self.invariant.parameters) in
    let lists : ℕ = c.lists_next-lists.result in
    let deltas : ℕ = c.len-2.result - lists - 1 in
    let number : c.len-2.result ≡ length (keys_next o b.events) = omega (arith, c.len-2.ensures, c.in_ok-keys.keys.ok, ap length c.in_ok-keys.ensures.keys) in
    let deltas_is : deltas ≡ delta_count o b.events = omega (arith, number, keys_count o b.events, c.lists_next-lists.ensures) in
    let rows : List Row = c.in_ok-rows.rows.items in
    let rows_are : rows ≡ rows_in (said c.is_wide-wide.result lists deltas c.args.bytes.now (c.in_ok-end.ensures.taken.names, c.in_ok-end.end)) = c.in_ok-rows.ensures in
    let here : c.deref.result.now ≡ rows = c.deref.ensures.value in
    let here2 : c.deref-2.result.now ≡ rows = c.deref-2.ensures.value in
    let here3 : c.deref-3.result.now ≡ rows = c.deref-3.ensures.value in
    due_taken x c.args.columns c.args.bytes.now c.is_wide-wide.result c.is_wide-wide.ensures long c.u32_at-count.result c.in_ok-end.end c.read_names.new.names b c.u32_at-count.ensures c.in_ok-end.ensures.taken c.batch_at-batch.ensures lists deltas c.lists_next-lists.ensures deltas_is (record { batch = b; keys = c.in_ok-keys.keys; rows = c.in_ok-rows.rows }) c.floor-floor.result large.0 few (omega (arith, c.len.ensures, c.if-len-count.false)) refl rows_are
    c.in_ok-keys.ensures.keys (sym c.has_rows.ensures ∙ c.if-not-has_rows.false) follow (ap (λ (l : List Row). bytes_of_rows l == c.args.columns) (sym here) ∙ sym c.is_measured.ensures ∙ c.if-not-is_measured.false)
    c.floor-floor.ensures (ap (λ (l : List Row). may_be_listed c.floor-floor.result b.ends.last (take lists l)) (sym here2) ∙ sym c.may_be_listed.ensures ∙ c.if-not-may_be_listed.false)
    (ap (λ (l : List Row). are_unheard (take deltas (drop lists l))) (sym here3) ∙ sym c.are_unheard.ensures ∙ c.if-not-are_unheard.false)

pub are_unheard-requires : goal.are_unheard-requires
are_unheard-requires c =
    let o : Opening = c.args.self.now.opening in
    let x : Opened = record { index = o; names = c.args.names.now } in
    let b : BatchEntry = c.batch_at-batch.result in
    let events : c.self.inside.events ≡ event_total o.batches = c.self.invariant.count ∙ ap (λ (v : IndexState). event_total v.opening.batches) c.self.view_is in
    let earliest : c.self.inside.earliest ≡ earliest_in 0 o.batches = c.self.invariant.earliest ∙ ap (λ (v : IndexState). earliest_in 0 v.opening.batches) c.self.view_is in
    let long : 28 ≤ length c.args.bytes.now = omega (arith, c.if-bytes-lt-NAMES_OFFSET.false) in
    let lists : ℕ = c.lists_next-lists.result in
    let deltas : ℕ = c.len-2.result - lists - 1 in
    let number : c.len-2.result ≡ length (keys_next o b.events) = omega (arith, c.len-2.ensures, c.in_ok-keys.keys.ok, ap length c.in_ok-keys.ensures.keys) in
    let deltas_is : deltas ≡ delta_count o b.events = omega (arith, number, keys_count o b.events, c.lists_next-lists.ensures) in
    let rows : List Row = c.in_ok-rows.rows.items in
    let rows_are : rows ≡ rows_in (said c.is_wide-wide.result lists deltas c.args.bytes.now (c.in_ok-end.ensures.taken.names, c.in_ok-end.end)) = c.in_ok-rows.ensures in
    let here3 : c.deref-3.result.now ≡ rows = c.deref-3.ensures.value in
    omega (arith, ap length here3, ap length rows_are, rows_number c.is_wide-wide.result lists deltas c.args.bytes.now (c.in_ok-end.ensures.taken.names, c.in_ok-end.end))

pub returns-then-not-are_unheard-clause-broken : goal.returns-then-not-are_unheard-clause-broken
returns-then-not-are_unheard-clause-broken c = λ _.
    let o : Opening = c.args.self.now.opening in
    let x : Opened = record { index = o; names = c.args.names.now } in
    let b : BatchEntry = c.batch_at-batch.result in
    let events : c.self.inside.events ≡ event_total o.batches = c.self.invariant.count ∙ ap (λ (v : IndexState). event_total v.opening.batches) c.self.view_is in
    let earliest : c.self.inside.earliest ≡ earliest_in 0 o.batches = c.self.invariant.earliest ∙ ap (λ (v : IndexState). earliest_in 0 v.opening.batches) c.self.view_is in
    let long : 28 ≤ length c.args.bytes.now = omega (arith, c.if-bytes-lt-NAMES_OFFSET.false) in
    let lists : ℕ = c.lists_next-lists.result in
    let deltas : ℕ = c.len-2.result - lists - 1 in
    let number : c.len-2.result ≡ length (keys_next o b.events) = omega (arith, c.len-2.ensures, c.in_ok-keys.keys.ok, ap length c.in_ok-keys.ensures.keys) in
    let deltas_is : deltas ≡ delta_count o b.events = omega (arith, number, keys_count o b.events, c.lists_next-lists.ensures) in
    let rows : List Row = c.in_ok-rows.rows.items in
    let rows_are : rows ≡ rows_in (said c.is_wide-wide.result lists deltas c.args.bytes.now (c.in_ok-end.ensures.taken.names, c.in_ok-end.end)) = c.in_ok-rows.ensures in
    let here3 : c.deref-3.result.now ≡ rows = c.deref-3.ensures.value in
    due_unheard x c.args.columns c.args.bytes.now c.is_wide-wide.result c.is_wide-wide.ensures long c.u32_at-count.result c.in_ok-end.end c.read_names.new.names b c.u32_at-count.ensures c.in_ok-end.ensures.taken c.batch_at-batch.ensures lists deltas c.lists_next-lists.ensures deltas_is rows rows_are
    (ap (λ (l : List Row). are_unheard (take deltas (drop lists l))) (sym here3) ∙ sym c.are_unheard.ensures ∙ c.if-not-are_unheard.true)

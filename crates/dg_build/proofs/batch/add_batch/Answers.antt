use Rattle.std.proofs.Common.{◌≡◌, ℕ, ◌+◌, ◌-◌, ◌*◌, ◌/◌, ◌++◌, [], List, drop, length, map, sym, ap, subst, ◌∙◌, arith, length-append}
use Rattle.std.specs.List.{All}
use Rattle.std.proofs.lemmas.List.Elements.{All-drop}
use Rattle.std.proofs.lemmas.Result.{err_from_is_err_and}
use Rattle.dg_columns.specs.NamesInRange.{NamesFit}
use Rattle.dg_graph.specs.declared.event.Event.{Event}
use Rattle.dg_index.specs.Hierarchy.{numbers}
use Rattle.dg_index.specs.IndexRecords.{Events, deltas_due}
use Rattle.dg_index.specs.FileOfHistory.{Segment, Stored, stored}
use Rattle.dg_build.specs.GivenDeltas.{AddsSuch, AreGivenBetween, IsFaultOfSuch}
use Rattle.dg_build.specs.SpelledRecords.{written_columns}
use Rattle.dg_build.proofs.SpelledRecordLists.{list_there}
use Rattle.dg_build.proofs.FirstList.{IsCut, below_list, is_cut_or_short}
use Rattle.dg_build.proofs.InteriorDeltaHeights.{written_at}
use Rattle.dg_build.proofs.SpelledRecordDeltas.{below_more}
use Rattle.dg_build.proofs.SpelledRecordSegments.{lists_within, written_whole}
use Rattle.dg_build.proofs.batch.add_batch.Goals as goal

pub first_count-cut-requires : goal.first_count-cut-requires
first_count-cut-requires c = below_list c.args.params.l c.args.before (length c.args.recent.now) c.requires.list.0 c.requires.recent

pub add_lists-requires-clause-first : goal.add_lists-requires-clause-first
add_lists-requires-clause-first c =
    let l : ℕ = c.args.params.l in
    let cut : IsCut l c.args.before c.args.recent.now c.args.events.now c.first_events-first.result.now c.behind-later.result.now =
    is_cut_or_short l c.args.before c.first_count-cut.result c.args.recent.now c.args.events.now c.first_events-first.result.now c.behind-later.result.now c.requires.list.0 c.requires.recent c.first_count-cut.ensures.full c.first_count-cut.ensures.short
    (λ some. c.first_events-first.ensures.full some ∙ c.in_ok-list.ensures some) c.first_events-first.ensures.short c.behind-later.ensures in
    cut.full

pub add_lists-requires-clause-long : goal.add_lists-requires-clause-long
add_lists-requires-clause-long c =
    let l : ℕ = c.args.params.l in
    let cut : IsCut l c.args.before c.args.recent.now c.args.events.now c.first_events-first.result.now c.behind-later.result.now =
    is_cut_or_short l c.args.before c.first_count-cut.result c.args.recent.now c.args.events.now c.first_events-first.result.now c.behind-later.result.now c.requires.list.0 c.requires.recent c.first_count-cut.ensures.full c.first_count-cut.ensures.short
    (λ some. c.first_events-first.ensures.full some ∙ c.in_ok-list.ensures some) c.first_events-first.ensures.short c.behind-later.ensures in
    omega (arith, lists_within l c.args.before (length c.args.events.now) c.requires.list.0, c.requires.recent, cut.long)

pub add_interior-requires-clause-first : goal.add_interior-requires-clause-first
add_interior-requires-clause-first c closes =
    let l : ℕ = c.args.params.l in
    let cut : IsCut l c.args.before c.args.recent.now c.args.events.now c.first_events-first.result.now c.behind-later.result.now =
    is_cut_or_short l c.args.before c.first_count-cut.result c.args.recent.now c.args.events.now c.first_events-first.result.now c.behind-later.result.now c.requires.list.0 c.requires.recent c.first_count-cut.ensures.full c.first_count-cut.ensures.short
    (λ some. c.first_events-first.ensures.full some ∙ c.in_ok-list.ensures some) c.first_events-first.ensures.short c.behind-later.ensures in
    cut.full (omega (arith, closes))

pub add_interior-requires-clause-long : goal.add_interior-requires-clause-long
add_interior-requires-clause-long c =
    let l : ℕ = c.args.params.l in
    let cut : IsCut l c.args.before c.args.recent.now c.args.events.now c.first_events-first.result.now c.behind-later.result.now =
    is_cut_or_short l c.args.before c.first_count-cut.result c.args.recent.now c.args.events.now c.first_events-first.result.now c.behind-later.result.now c.requires.list.0 c.requires.recent c.first_count-cut.ensures.full c.first_count-cut.ensures.short
    (λ some. c.first_events-first.ensures.full some ∙ c.in_ok-list.ensures some) c.first_events-first.ensures.short c.behind-later.ensures in
    omega (arith, lists_within l c.args.before (length c.args.events.now) c.requires.list.0, c.requires.recent, cut.long)

pub set_piece-requires-clause-names : goal.set_piece-requires-clause-names
set_piece-requires-clause-names c =
    subst (All (λ (e : Event). NamesFit e.body)) (sym c.behind-piece.ensures) (All-drop (λ (e : Event). NamesFit e.body) c.saturating_sub.result c.args.events.now c.requires.event_names)

pub returns-clause-written : goal.returns-clause-written
returns-clause-written c =
    let more : List Event = c.args.events.now in
    let w = written_whole c.args.segment.now c.add_lists.new.segment c.add_interior.new.segment c.set_piece.new.segment _ _ c.requires.bare.0 c.in_ok-add_lists.ensures c.in_ok-add_interior.ensures.frame
    (c.in_ok-set_piece.ensures ∙ ap (λ (l : List Event). record c.add_interior.new.segment { piece = written_columns c.args.messages (stored (Events l)) }) (c.behind-piece.ensures ∙ ap (λ n. drop n more) c.saturating_sub.ensures)) in
    let l : ℕ = c.args.params.l in
    let cut : IsCut l c.args.before c.args.recent.now c.args.events.now c.first_events-first.result.now c.behind-later.result.now =
    is_cut_or_short l c.args.before c.first_count-cut.result c.args.recent.now c.args.events.now c.first_events-first.result.now c.behind-later.result.now c.requires.list.0 c.requires.recent c.first_count-cut.ensures.full c.first_count-cut.ensures.short
    (λ some. c.first_events-first.ensures.full some ∙ c.in_ok-list.ensures some) c.first_events-first.ensures.short c.behind-later.ensures in
    let n : ℕ = (c.args.before + length more) / l - c.args.before / l in
    let there : c.add_interior.new.segment.deltas ≡ c.set_piece.new.segment.deltas = ap (λ (s : Segment). s.deltas) (sym w.is) in
    w.is ∙ (λ i. record c.args.segment.now {
      lists = map (list_there c.args.messages l (cut.is i)) (numbers 0 n);
      deltas = there i;
      piece = written_columns c.args.messages (stored (Events (drop ((c.args.before + length more) / l * l - c.args.before) more)));
    })

pub returns-clause-count : goal.returns-clause-count
returns-clause-count c =
    let w = written_whole c.args.segment.now c.add_lists.new.segment c.add_interior.new.segment c.set_piece.new.segment _ _ c.requires.bare.0 c.in_ok-add_lists.ensures c.in_ok-add_interior.ensures.frame c.in_ok-set_piece.ensures in
    omega (arith, ap (λ (s : Segment). length s.deltas) w.is, c.in_ok-add_interior.ensures.count, ap (λ (s : Segment). length s.deltas) c.in_ok-add_lists.ensures, ap (λ (l : List Stored). length l) c.requires.bare.1)

pub returns-clause-is : goal.returns-clause-is
returns-clause-is c past long is_recent is_now changes steps =
    let p = c.args.params in
    let more = c.args.events.now in
    let front = ap (λ (l : List Event). l ++ more) is_recent in
    let w = written_whole c.args.segment.now c.add_lists.new.segment c.add_interior.new.segment c.set_piece.new.segment _ _ c.requires.bare.0 c.in_ok-add_lists.ensures c.in_ok-add_interior.ensures.frame c.in_ok-set_piece.ensures in
    let l : ℕ = c.args.params.l in
    let cut : IsCut l c.args.before c.args.recent.now c.args.events.now c.first_events-first.result.now c.behind-later.result.now =
    is_cut_or_short l c.args.before c.first_count-cut.result c.args.recent.now c.args.events.now c.first_events-first.result.now c.behind-later.result.now c.requires.list.0 c.requires.recent c.first_count-cut.ensures.full c.first_count-cut.ensures.short
    (λ some. c.first_events-first.ensures.full some ∙ c.in_ok-list.ensures some) c.first_events-first.ensures.short c.behind-later.ensures in
    let made = c.in_ok-add_interior.ensures.is past more c.requires.list.0 (ap (λ n. n / p.l) long) is_recent (cut.is ∙ front) is_now changes steps in
    let none : c.add_lists.new.segment.deltas ≡ [] = ap (λ (s : Segment). s.deltas) c.in_ok-add_lists.ensures ∙ c.requires.bare.1 in
    ap (λ (s : Segment). s.deltas) w.is ∙ made ∙ ap (λ (l : List Stored). l ++ map (written_at p (past ++ more)) (deltas_due p.k (c.args.before / p.l) ((c.args.before + length more) / p.l))) none

pub returns-in_err-add_interior-clause-fault : goal.returns-in_err-add_interior-clause-fault
returns-in_err-add_interior-clause-fault c =
    let failed = err_from_is_err_and c.from_residual-in_err-add_interior.result c.from_residual-in_err-add_interior.ensures.1 in
    rw (failed.1, failed.2) (λ past long is_recent is_now changes steps.
    let p = c.args.params in
    let more = c.args.events.now in
    let front = ap (λ (l : List Event). l ++ more) is_recent in
    let l : ℕ = c.args.params.l in
    let cut : IsCut l c.args.before c.args.recent.now c.args.events.now c.first_events-first.result.now c.behind-later.result.now =
    is_cut_or_short l c.args.before c.first_count-cut.result c.args.recent.now c.args.events.now c.first_events-first.result.now c.behind-later.result.now c.requires.list.0 c.requires.recent c.first_count-cut.ensures.full c.first_count-cut.ensures.short
    (λ some. c.first_events-first.ensures.full some ∙ c.in_ok-list.ensures some) c.first_events-first.ensures.short c.behind-later.ensures in
    c.in_err-add_interior.ensures.fault past more c.requires.list.0 (ap (λ n. n / p.l) long) is_recent (cut.is ∙ front) is_now changes steps
    (omega (arith, length-append past more, long, c.requires.fits)))

pub returns-in_err-add_interior-clause-wide : goal.returns-in_err-add_interior-clause-wide
returns-in_err-add_interior-clause-wide c =
    let failed = err_from_is_err_and c.from_residual-in_err-add_interior.result c.from_residual-in_err-add_interior.ensures.1 in
    let n : ℕ = length (deltas_due c.args.params.k (c.args.before / c.args.params.l) ((c.args.before + length c.args.events.now) / c.args.params.l)) in
    let none : length c.add_lists.new.segment.deltas ≡ 0 = ap (λ (s : Segment). length s.deltas) c.in_ok-add_lists.ensures ∙ ap (λ (l : List Stored). length l) c.requires.bare.1 in
    rw (failed.1, failed.2) (below_more (length c.add_lists.new.segment.deltas + n) n c.in_err-add_interior.field-0.0 (omega (arith, none)) c.in_err-add_interior.ensures.wide)

pub returns-clause-given : goal.returns-clause-given
returns-clause-given c =
    let l : ℕ = c.args.params.l in
    let cut : IsCut l c.args.before c.args.recent.now c.args.events.now c.first_events-first.result.now c.behind-later.result.now =
    is_cut_or_short l c.args.before c.first_count-cut.result c.args.recent.now c.args.events.now c.first_events-first.result.now c.behind-later.result.now c.requires.list.0 c.requires.recent c.first_count-cut.ensures.full c.first_count-cut.ensures.short
    (λ some. c.first_events-first.ensures.full some ∙ c.in_ok-list.ensures some) c.first_events-first.ensures.short c.behind-later.ensures in
    let none : c.add_lists.new.segment.deltas ≡ [] = ap (λ (s : Segment). s.deltas) c.in_ok-add_lists.ensures ∙ c.requires.bare.1 in
    let w = written_whole c.args.segment.now c.add_lists.new.segment c.add_interior.new.segment c.set_piece.new.segment _ _ c.requires.bare.0 c.in_ok-add_lists.ensures c.in_ok-add_interior.ensures.frame c.in_ok-set_piece.ensures in
    let there : c.add_interior.new.segment.deltas ≡ c.set_piece.new.segment.deltas = ap (λ (s : Segment). s.deltas) (sym w.is) in
    subst (λ (tail : List Event). AddsSuch (AreGivenBetween c.args.params (c.args.before / l) ((c.args.before + length c.args.events.now) / l) c.args.now.now c.args.recent.now tail c.args.older_steps.now) [] c.set_piece.new.segment.deltas) cut.is
    (subst (λ (new : List Stored). AddsSuch (AreGivenBetween c.args.params (c.args.before / l) ((c.args.before + length c.args.events.now) / l) c.args.now.now c.args.recent.now (c.first_events-first.result.now ++ c.behind-later.result.now) c.args.older_steps.now) [] new) there
    (subst (λ (old : List Stored). AddsSuch (AreGivenBetween c.args.params (c.args.before / l) ((c.args.before + length c.args.events.now) / l) c.args.now.now c.args.recent.now (c.first_events-first.result.now ++ c.behind-later.result.now) c.args.older_steps.now) old c.add_interior.new.segment.deltas) none
    c.in_ok-add_interior.ensures.given))

pub returns-in_err-add_interior-clause-first : goal.returns-in_err-add_interior-clause-first
returns-in_err-add_interior-clause-first c =
    let failed = err_from_is_err_and c.from_residual-in_err-add_interior.result c.from_residual-in_err-add_interior.ensures.1 in
    let l : ℕ = c.args.params.l in
    let cut : IsCut l c.args.before c.args.recent.now c.args.events.now c.first_events-first.result.now c.behind-later.result.now =
    is_cut_or_short l c.args.before c.first_count-cut.result c.args.recent.now c.args.events.now c.first_events-first.result.now c.behind-later.result.now c.requires.list.0 c.requires.recent c.first_count-cut.ensures.full c.first_count-cut.ensures.short
    (λ some. c.first_events-first.ensures.full some ∙ c.in_ok-list.ensures some) c.first_events-first.ensures.short c.behind-later.ensures in
    let none : c.add_lists.new.segment.deltas ≡ [] = ap (λ (s : Segment). s.deltas) c.in_ok-add_lists.ensures ∙ c.requires.bare.1 in
    rw (failed.1, failed.2)
    (subst (λ (tail : List Event). IsFaultOfSuch (AreGivenBetween c.args.params (c.args.before / l) ((c.args.before + length c.args.events.now) / l) c.args.now.now c.args.recent.now tail c.args.older_steps.now) 0 c.in_err-add_interior.field-0.0) cut.is
    (subst (λ (old : List Stored). IsFaultOfSuch (AreGivenBetween c.args.params (c.args.before / l) ((c.args.before + length c.args.events.now) / l) c.args.now.now c.args.recent.now (c.first_events-first.result.now ++ c.behind-later.result.now) c.args.older_steps.now) (length old) c.in_err-add_interior.field-0.0) none
    c.in_err-add_interior.ensures.first))

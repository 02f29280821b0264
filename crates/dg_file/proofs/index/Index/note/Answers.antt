use Rattle.std.proofs.Common.{◌≡◌, ◌+◌, ◌<◌, ◌++◌, ◌∷◌, [], List, Option, Some, true, cond, refl, sym, ap, subst, ◌∙◌, vec_len, arith}
use Rattle.std.specs.Vec.{vec_capacity}
use Rattle.dg_history.specs.declared.node.Key.{Key}
use Rattle.dg_index.specs.declared.entry.BatchEntry.{BatchEntry}
use Rattle.dg_index.specs.declared.entry.Ends.{Ends}
use Rattle.dg_index.specs.OpenedIndex.{Opening, event_total, earliest_in, first_in, keys_next, laid, last_list, may_be_listed, may_follow}
use Rattle.dg_catalogue.specs.Additions.{Suits}
use Rattle.dg_catalogue.specs.Entries.{spanned}
use Rattle.dg_file.specs.Index.{IndexState}
use Rattle.dg_file.specs.Invariant.{IndexIsSound, listed_after, with_rows}
use Rattle.dg_index.specs.IndexGrowth.{name_total}
use Rattle.dg_catalogue.proofs.AdditionRecords.{suits_length}
use Rattle.dg_file.proofs.InvariantBatches.{noted_sound, room_for}
use Rattle.dg_file.proofs.index.Index.note.Goals as goal

pub add_all-requires-clause-room : goal.add_all-requires-clause-room
add_all-requires-clause-room c =
    let o : Opening = record { params = c.self.inside.params; form = c.self.inside.form; batches = c.self.inside.batches.items; records = c.self.inside.catalogue.entries; used = c.self.inside.used } in
    let same = sym c.self.view_is in
    room_for o c.self.inside.events c.self.inside.names c.self.inside.earliest c.self.inside.listed c.self.inside.catalogue.span c.self.inside.catalogue c.args.batch c.args.keys.now c.args.rows.now c.args.offset c.args.used c.self.invariant refl
    (omega (arith, c.requires.spare, ap (λ (v : IndexState). v.spare) same)) (c.requires.keys ∙ ap (λ (v : IndexState). keys_next v.opening c.args.batch.events) same) c.requires.rows
    (omega (arith, c.requires.behind, ap (λ (v : IndexState). v.opening.used) same)) c.requires.used c.requires.within

pub add_all-requires-clause-same : goal.add_all-requires-clause-same
add_all-requires-clause-same c = suits_length c.args.keys.now c.args.rows.now c.requires.rows

pub invariant_of-self : goal.invariant_of-self
invariant_of-self c =
    let o : Opening = record { params = c.self.inside.params; form = c.self.inside.form; batches = c.self.inside.batches.items; records = c.self.inside.catalogue.entries; used = c.self.inside.used } in
    let same = sym c.self.view_is in
    let b : BatchEntry = c.args.batch in
    let keys : c.args.keys.now ≡ keys_next o b.events = c.requires.keys ∙ ap (λ (v : IndexState). keys_next v.opening b.events) same in
    let suits = subst (λ (l : List Key). Suits l c.args.rows.now) keys c.requires.rows in
    let follows = subst (λ (v : IndexState). may_follow (event_total v.opening.batches) (earliest_in 0 v.opening.batches) b ≡ true) same c.requires.follows in
    let listed = subst (λ (v : IndexState). may_be_listed (last_list (first_in b.ends.first v.opening.batches) v.opening.records) b.ends.last c.args.rows.now ≡ true) same c.requires.listed in
    let all = noted_sound o c.self.inside.events c.self.inside.names c.self.inside.earliest c.self.inside.listed c.self.inside.catalogue.span b c.args.rows.now c.args.offset c.args.used c.self.invariant suits follows listed
    (omega (arith, c.requires.names, ap (λ (v : IndexState). name_total v.opening.batches) same)) (omega (arith, c.requires.behind, ap (λ (v : IndexState). v.opening.used) same)) c.requires.used c.requires.within in
    let room : vec_len c.self.inside.batches < vec_capacity c.self.inside.batches = omega (arith, c.requires.room, ap (λ (v : IndexState). v.room) same) in
    let batches : c.push.new.self.items ≡ c.self.inside.batches.items ++ b ∷ [] = c.push.ensures.items ∙ ap (λ t. cond t (c.self.inside.batches.items ++ b ∷ []) c.self.inside.batches.items) (c.push.ensures.succeeds room) in
    let records = c.add_batch.ensures.entries ∙ c.add_all.ensures.entries ∙ ap (λ l. c.self.inside.catalogue.entries ++ laid c.args.offset l c.args.rows.now) keys in
    let new : Opening = record { params = c.self.inside.params; form = c.self.inside.form; batches = c.push.new.self.items; records = c.add_batch.new.self.entries; used = c.args.used } in
    let span : c.add_batch.new.self.span ≡ Some (spanned c.self.inside.catalogue.span b.ends) = c.add_batch.ensures.span ∙ ap (λ (x : Option Ends). Some (spanned x b.ends)) c.add_all.ensures.span in
    let last : c.listed_after-self-inside.result ≡ listed_after c.self.inside.listed c.args.rows.now = c.listed_after-self-inside.ensures in
    subst (λ (n : Opening). IndexIsSound n (c.self.inside.events + b.events) (c.self.inside.names + b.names) (b.ends.last + 1) c.listed_after-self-inside.result c.add_batch.new.self.span)
    (λ i. record { params = c.self.inside.params; form = c.self.inside.form; batches = sym batches i; records = sym records i; used = c.args.used })
    (subst (λ last. IndexIsSound (with_rows o b c.args.rows.now c.args.offset c.args.used) (c.self.inside.events + b.events) (c.self.inside.names + b.names) (b.ends.last + 1) last c.add_batch.new.self.span) (sym last)
    (subst (λ span. IndexIsSound (with_rows o b c.args.rows.now c.args.offset c.args.used) (c.self.inside.events + b.events) (c.self.inside.names + b.names) (b.ends.last + 1) (listed_after c.self.inside.listed c.args.rows.now) span) (sym span) all))

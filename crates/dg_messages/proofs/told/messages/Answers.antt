use Rattle.std.proofs.Common.{◌≡◌, ◌∙◌, Ok, ap, arith, drop, length}
use Rattle.std.proofs.lemmas.List.{take_at}
use Rattle.dg_heard.specs.Heard.{heard_events}
use Rattle.dg_messages.specs.Told.{AreToldIn}
use Rattle.dg_messages.proofs.CollectedMessages.{sets_named, sets_told}
use Rattle.dg_heard.proofs.ListColumns.{told_so}
use Rattle.dg_messages.proofs.told.messages.Given.{Over}
use Rattle.dg_messages.proofs.told.messages.Goals as goal
use Rattle.dg_messages.proofs.told.messages.Goals.{In_ok-sets_of}

-- what was collected of the lists is what the recent events are added to
heard_kept : (g : Over) (c : In_ok-sets_of g) → c.deref_mut-2.result.now ≡ c.push_heard.new.lists
heard_kept g c =
    let lists = c.in_ok-lists.lists in
    let count = c.in_ok-lists.ensures.count in
    let long = c.in_ok-push_heard.ensures.heard.collected.count in
    let heard = c.push_heard.new.lists in
    c.deref_mut-2.ensures.value ∙ take_at heard (drop (length heard) lists.items) lists.len (let ok = lists.ok.0 in omega arith)

all_long : (g : Over) (c : In_ok-sets_of g) → length c.push_all.new.lists ≡ c.in_ok-lists.lists.len
all_long g c =
    let ok = c.in_ok-lists.lists.ok.0 in
    let count = c.in_ok-lists.ensures.count in
    let long = c.in_ok-push_heard.ensures.heard.collected.count in
    c.in_ok-push_all.ensures.count ∙ ap length (heard_kept g c) ∙ omega arith

pub returns-clause-told : goal.returns-clause-told
returns-clause-told g c =
    let h = c.in_ok-push_heard.ensures.heard in
    let all = c.push_all.new.lists in
    let is =
    sets_told h.events c.args.recent.now c.args.times.now c.push_heard.new.lists c.deref_mut-2.result.now all _ c.in_ok-sets_of.field-0.items h.collected (heard_kept g c) c.in_ok-push_all.ensures
    (take_at all _ c.in_ok-lists.lists.len (all_long g c)) c.in_ok-sets_of.ensures in
    told_so (g.D.Disk.image c.args.disk.now) (λ image. heard_events c.args.name_count image c.args.index.now.opening c.args.times.now ≡ Ok h.events)
    (λ image. AreToldIn c.args.name_count image c.args.index.now.opening c.args.recent.now c.args.times.now c.in_ok-sets_of.field-0.items) (λ image heard. (h.events, heard, is)) h.heard

pub returns-clause-named : goal.returns-clause-named
returns-clause-named g c =
    let h = c.in_ok-push_heard.ensures.heard in
    let all = c.push_all.new.lists in
    sets_named h.events c.args.recent.now c.args.times.now c.push_heard.new.lists c.deref_mut-2.result.now all _ c.in_ok-sets_of.field-0.items h.collected (heard_kept g c) c.in_ok-push_all.ensures
    (take_at all _ c.in_ok-lists.lists.len (all_long g c)) c.in_ok-sets_of.ensures c.args.name_count h.named

-- The sets are the messages of the instants, and the rest is as their columns are read.
use Rattle.std.proofs.Common.{sym, ◌∙◌}
use Rattle.std.proofs.lemmas.Option.{IfSome_then}
use Rattle.dg_messages.specs.Once.{sets_for}
use Rattle.dg_retrieval.specs.Beginnings.{leads_in}
use Rattle.dg_messages.proofs.HeardGraphs.{hears_graphs, hears_nothing, none_damaged}
use Rattle.dg_messages.proofs.MessagesBehind.{all_there, leads_many, told_many}
use Rattle.dg_messages.proofs.hearing.hear.Goals as goal

pub returns-in_err-heard-clause-over : goal.returns-in_err-heard-clause-over
returns-in_err-heard-clause-over g c =
    IfSome_then (g.D.Disk.image c.args.disk.now) c.in_err-heard.ensures.damage
    (λ im first z now over.
    hears_nothing c.from_residual.result c.in_err-heard.field-0.0 c.from_residual.ensures
    (none_damaged z im c.args.index.now.opening c.args.name_count now c.args.recent.now c.args.times.now over (c.law_histories_are_heard.ensures z im over.stands c.args.times.now) c.in_err-heard.field-0.0 first))

pub with_messages-requires-clause-times : goal.with_messages-requires-clause-times
with_messages-requires-clause-times g c =
    let leads = c.args.retrieved.leads in
    sym c.requires.count ∙ leads_many 0 leads.begins.items leads.writings.items

pub returns-clause-done : goal.returns-clause-done
returns-clause-done g c =
    let old = leads_in c.args.retrieved.leads in
    let new = leads_in c.in_ok-told.told.leads in
    let sets = sets_for c.in_ok-heard.heard.instants.items c.in_ok-heard.heard.sets.items c.args.times.now in
    let told = c.in_ok-told.ensures in
    record {
      sets = sets;
      told = c.in_ok-heard.ensures.told;
      behind = told.behind;
      count = told_many old new sets told.behind ∙ c.requires.count;
      weight = told.weight;
      singles = told.singles;
      sum = told.sum;
      named = λ recent there. all_there c.args.name_count old new sets told.behind (c.in_ok-heard.ensures.named recent) there;
    }

pub returns-clause-over : goal.returns-clause-over
returns-clause-over g c =
    IfSome_then (g.D.Disk.image c.args.disk.now) c.in_ok-heard.ensures.told
    (λ im told z now over.
    hears_graphs z im c.args.index.now.opening c.args.name_count now c.args.recent.now c.args.times.now over (c.law_histories_are_heard.ensures z im over.stands c.args.times.now) c.args.retrieved c.in_ok-told.told
    (sets_for c.in_ok-heard.heard.instants.items c.in_ok-heard.heard.sets.items c.args.times.now) told c.in_ok-told.ensures.behind)

use Rattle.std.proofs.Common.{ap, length, ◌∙◌, ◌∷◌, [], List, subst}
use Rattle.std.proofs.lemmas.List.{length-map}
use Rattle.std.proofs.lemmas.Option.{IfSome_then}
use Rattle.dg_history.specs.declared.node.NodeId.TheVariants.{Root}
use Rattle.dg_index.specs.OpenedIndex.{Opening}
use Rattle.dg_plan.specs.declared.edge.Edge.{Edge}
use Rattle.dg_plan.specs.HistoryGraph.{all_columns}
use Rattle.dg_plan.specs.IndexGraph.{arcs_of}
use Rattle.dg_plan.specs.Walks.{IsTree}
use Rattle.dg_retrieval.specs.Beginnings.{GraphLead, leads_in}
use Rattle.dg_retrieval.specs.TreeLeads.{AreTreeLeads}
use Rattle.dg_retrieval.proofs.CallRecords.{damage_told, of_both, sets_failed}
use Rattle.dg_retrieval.proofs.NodeSetLeads.{from_nothing, sets_come, sets_named}
use Rattle.dg_retrieval.proofs.record_sets.node_sets.Goals as goal

pub returns-in_err-leads-clause-over : goal.returns-in_err-leads-clause-over
returns-in_err-leads-clause-over g c =
    IfSome_then (g.D.Disk.image c.args.disk.now) c.in_err-leads.ensures.takes (λ im at z over.
    let a = at z over in
    sets_failed c.from_residual-in_err-leads.result c.in_err-leads.field-0.0 c.from_residual-in_err-leads.ensures a.shared a.never)

pub returns-in_err-leads-clause-damage : goal.returns-in_err-leads-clause-damage
returns-in_err-leads-clause-damage g c =
    damage_told c.args.from.now.name_count c.args.from.now.planner.now.edges c.args.from.now.index.now.opening all_columns c.args.nodes.now (g.D.Disk.image c.args.disk.now) c.from_residual-in_err-leads.result c.in_err-leads.field-0.0 c.from_residual-in_err-leads.ensures c.in_err-leads.ensures.damage

pub returns-clause-done : goal.returns-clause-done
returns-clause-done g c =
    let leads = leads_in c.in_ok-leads.field-0.leads in
    let done = c.in_ok-leads.ensures.done in
    record {
      count = ap length c.in_ok-sets_led.ensures ∙ length-map leads from_nothing ∙ done.count;
      named = sets_named c.args.from.now.name_count leads done.named _ c.in_ok-sets_led.ensures;
    }

pub returns-clause-over : goal.returns-clause-over
returns-clause-over g c =
    of_both (g.D.Disk.image c.args.disk.now) c.in_ok-leads.ensures.led c.in_ok-leads.ensures.takes (λ im led at z over. record {
      sets = c.in_ok-sets_led.ensures
          ∙ sets_come c.args.from.now.index.now.opening c.args.from.now.planner.now.edges c.requires.over.edges c.args.nodes.now c.requires.leaves led.grafts c.args.from.now.name_count c.deref.result.now
          (leads_in c.in_ok-leads.field-0.leads) im led.led z over;
      most = (at z over).shared;
      never = tt;
    })

pub returns-clause-led : goal.returns-clause-led
returns-clause-led g c =
    let o : Opening = c.args.from.now.index.now.opening in
    let leads : List GraphLead = leads_in c.in_ok-leads.field-0.leads in
    IfSome_then (g.D.Disk.image c.args.disk.now) c.in_ok-leads.ensures.led
    (λ im led. record {
      grafts = led.grafts;
      tree = subst (λ (es : List Edge). IsTree (arcs_of es) (Root ∷ []) c.args.nodes.now led.grafts) c.requires.over.edges led.tree;
      times = c.deref.result.now;
      leads = leads;
      led = subst (λ (es : List Edge). AreTreeLeads c.args.from.now.name_count [] es o all_columns c.args.nodes.now led.grafts c.deref.result.now leads im) c.requires.over.edges led.led;
      sets_are = c.in_ok-sets_led.ensures;
    })

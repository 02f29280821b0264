use Rattle.std.proofs.Common.{◌≡◌, ◌∙◌, ap, rules, subst, sym, filter}
use Rattle.std.proofs.lemmas.Fn.{filter_same}
use Rattle.dg_graph.specs.Elements.{IsSet, asks, column_of}
use Rattle.dg_graph.proofs.Sets.{IsSet-filter}
use Rattle.dg_gather.proofs.gathered.shown.Goals as goal

kept : (c : goal.After-retain) → c.retain.new.self.items ≡ filter (λ x. asks c.args.cols (column_of x)) c.args.set
kept c =
    filter_same _ (λ x. asks c.args.cols (column_of x)) _ (λ x b f' k. search rules) _ _ c.retain.ensures.filtered
    ∙ ap (filter (λ x. asks c.args.cols (column_of x))) c.into_items-items.ensures.value

pub from_rising-requires : goal.from_rising-requires
from_rising-requires c = subst IsSet (sym (kept c)) (IsSet-filter (λ x. asks c.args.cols (column_of x)) c.args.set c.into_items-items.ensures.set)

pub returns : goal.returns
returns c =
    c.from_rising.ensures
    ∙ filter_same _ (λ x. asks c.args.cols (column_of x)) _ (λ x b f' k. search rules) _ _ c.retain.ensures.filtered
    ∙ ap (filter (λ x. asks c.args.cols (column_of x))) c.into_items-items.ensures.value

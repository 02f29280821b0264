use Rattle.std.proofs.Common.{List, [], ◌++◌, ◌∙◌, ap}
use Rattle.dg_graph.specs.declared.element.Element.{Element}
use Rattle.dg_graph.specs.Sets.{unioned}
use Rattle.dg_added.specs.PutIn.{put_within}
use Rattle.dg_added.proofs.PutIn.{added_is}
use Rattle.dg_added.proofs.additions.added.Goals as goal

pub returns : goal.returns
returns c =
    c.from_unsorted.ensures ∙ ap (unioned []) (c.in_ok-push_added.ensures ∙ ap (λ (l : List Element). l ++ put_within c.args.from c.args.until c.args.events.now) c.new-put.ensures.items) ∙ added_is c.args.from c.args.until c.args.events.now

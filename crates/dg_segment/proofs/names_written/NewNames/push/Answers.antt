use Rattle.std.proofs.Common.{ℕ, List, [], ◌∷◌, ◌++◌, ap, ◌∙◌}
use Rattle.dg_segment.proofs.NewNameBytes.{names_more, texts_more}
use Rattle.dg_segment.proofs.names_written.NewNames.push.Goals as goal

pub invariant_of-self-2 : goal.invariant_of-self-2
invariant_of-self-2 c =
    names_more c.self.inside.count c.self.inside.bytes.items c.args.text.now _ c.self.invariant c.requires c.in_ok-put_name.ensures.ok

pub returns-clause-ok : goal.returns-clause-ok
returns-clause-ok c =
    texts_more c.self.inside.count c.self.inside.bytes.items c.args.text.now _ c.self.invariant c.requires c.in_ok-put_name.ensures.ok
    ∙ ap (λ (l : List (List ℕ)). l ++ c.args.text.now ∷ []) c.self.view_is

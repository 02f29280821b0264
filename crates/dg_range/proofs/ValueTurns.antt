-- The turns of events that come one part after another.
use Rattle.std.proofs.Common.{◌≡◌, ℕ, List as ListOf, [], ◌∷◌, ◌++◌, refl, sym, ap, ◌∙◌, append_assoc}
use Rattle.std.proofs.lemmas.List.Concat.{flat_map-append}
use Rattle.dg_aux.specs.Turns.{AreAlike, additions, says, turns_by, turns_of}
use Rattle.dg_aux.specs.declared.turns.Turn.{Turn}
use Rattle.dg_graph.specs.declared.event.Event.{Event}

-- of no event there are none
pub turns_none : (name : ℕ) (old : ListOf Turn) → old ≡ old ++ turns_of name []
turns_none name [] = refl
turns_none name (t ∷ old) = ap (λ l. t ∷ l) (turns_none name old)

pub turns_more : (name : ℕ) (old now new : ListOf Turn) (more : ListOf Event) → new ≡ now ++ turns_of name more → (events : ListOf Event) → now ≡ old ++ turns_of name events → new ≡ old ++ turns_of name (events ++ more)
turns_more name old now new more added events is =
    added ∙ ap (λ l. l ++ turns_of name more) is ∙ append_assoc old (turns_of name events) (turns_of name more)
    ∙ ap (λ l. old ++ l) (sym (flat_map-append (λ e. turns_by name e) events more))

-- what is applied to an index with room
pub applied : (name kept middle_name : ℕ) (now middle new : ListOf Turn) (given more : ListOf Event) → kept ≡ name → middle_name ≡ kept → middle ≡ now → given ≡ more
    → new ≡ middle ++ turns_of middle_name given → new ≡ now ++ turns_of name more
applied name kept middle_name now middle new given more a b c d is = is ∙ (λ i. c i ++ turns_of ((b ∙ a) i) (d i))

-- and what is like it
pub alike_to : (old middle new : ListOf Turn) → middle ≡ old → AreAlike middle new → AreAlike old new
alike_to old middle new is h = record {
  says = λ value id t. h.says value id t ∙ ap (λ l. says l value id t) is;
  additions = h.additions ∙ ap additions is;
}

-- What is gathered of a part is what leads to the one graph that is retrieved.
use Rattle.std.proofs.Common.{◌≡◌, inr, ℕ, suc, List, [], ◌∷◌, Option, Result, Ok, Err, get_or, length, map, refl, sym, ◌∙◌, ap, subst, arith}
use Rattle.std.specs.Prelude.{IfSome}
use Rattle.std.proofs.lemmas.Option.{IfSome_then}
use Rattle.dg_fold.specs.BytesRead.{Takes}
use Rattle.dg_fold.specs.declared.writing.Writing.{Writing}
use Rattle.dg_fold.specs.Writings.{composed_all, written_for}
use Rattle.dg_gather.specs.declared.gathered.Gathered.{Gathered}
use Rattle.dg_gather.specs.Gathered.{shown_by}
use Rattle.dg_graph.specs.Composition.{applied}
use Rattle.dg_graph.specs.declared.element.Columns.{Columns}
use Rattle.dg_graph.specs.declared.element.Element.{Element}
use Rattle.dg_graph.specs.Elements.{shown}
use Rattle.dg_graph.specs.Replay.{shown_at}
use Rattle.dg_handles.specs.Handles.{overlays_on}
use Rattle.dg_history.specs.History.{History, events_of}
use Rattle.dg_machine.specs.MachineState.{MachineState, elements, history_in}
use Rattle.dg_records.specs.declared.fault.RecordFault.{RecordFault}
use Rattle.dg_records.specs.declared.fault.RecordFault.TheVariants as fault
use Rattle.dg_retrieval.specs.declared.graph_lead.Beginning.{Beginning}
use Rattle.dg_retrieval.specs.declared.retrieval.Retrieved.{Retrieved}
use Rattle.dg_retrieval.specs.Beginnings.{begun_with, leads_from, leads_in, led_to}
use Rattle.dg_session.specs.Gathering.{GathersFor}
use Rattle.dg_session.specs.Parts.{Parts}
use Rattle.dg_session.specs.Reads.{IsRetrieved, RetrievesFor, bases_of, listed_by}
use Rattle.dg_session.specs.Session.{StandsFor}

-- ---- the one lead

-- there are as many leads as beginnings
pub as_many : (n : ℕ) (begins : List Beginning) (writings : List Writing) → length (leads_from n begins writings) ≡ length begins
as_many n [] writings = refl
as_many n (b ∷ begins) writings = ap suc (as_many (suc n) begins writings)

module _ (now : List Element) (held : ℕ → List Element) (cols : Columns) (writings : List Writing) (begun set : List Element) where
  -- what is shown of the one graph, which begins so
  pub one_graph : (begins : List Beginning) (d : Beginning) → length begins ≡ 1 → begun ≡ begun_with now held (get_or begins 0 d)
      → set ≡ shown (applied (composed_all (written_for 0 writings)) begun) cols → map (led_to now held cols) (leads_from 0 begins writings) ≡ set ∷ []
  one_graph [] d one begins_so is = absurd (omega (arith, one))
  one_graph (b ∷ []) d one begins_so is =
      ap (λ (s : List Element). s ∷ []) (sym (is ∙ ap (λ (s : List Element). shown (applied (composed_all (written_for 0 writings)) s) cols) begins_so))
  one_graph (b ∷ c ∷ more) d one begins_so is = absurd (omega (arith, one))

-- ---- over an image that stands for a state

-- the graph of the one handle would be that as of the instant, whatever it rests on
one_shown : (z : History) (t : ℕ) (cols : Columns) (bases : List (Option ℕ)) (graph : List Element) → graph ∷ [] ≡ map (elements z) (overlays_on cols (t ∷ []) bases) → graph ≡ shown_at (events_of z) t cols
one_shown z t cols [] graph h = cc
one_shown z t cols (b ∷ more) graph h = same h
  where
    same : {xs ys : List Element} → (let l : List (List Element) = xs ∷ [] in l) ≡ ys ∷ [] → xs ≡ ys
    same e = cc

module _ (p : Parts) (t : ℕ) (cols : Columns) (told : Option (List ℕ)) (before after : ℕ) where
  abbrev Over : Result Retrieved RecordFault → Type 0
  Over r = IfSome told (λ image. (m : MachineState) → StandsFor p image m → RetrievesFor m p (t ∷ []) cols before after r)

  abbrev pub Gathers : Result Gathered RecordFault → Type 0
  Gathers r = IfSome told (λ image. (m : MachineState) → StandsFor p image m → GathersFor m t cols before after r)

  -- what leads to the one graph that is retrieved
  pub gathered_is : (x : Retrieved) (g : Gathered) → Over (Ok x) → map (led_to p.graph (listed_by p) cols) (leads_in x.leads) ≡ shown_by g ∷ [] → g.weight ≡ x.weight → Gathers (Ok g)
  gathered_is x g over shows weighs = IfSome_then told over (λ image f m s. gathers m (f m s))
    where
      gathers : (m : MachineState) → RetrievesFor m p (t ∷ []) cols before after (Ok x) → GathersFor m t cols before after (Ok g)
      gathers m f = record {
        shown = one_shown (history_in m.index) t cols (bases_of (leads_in x.leads)) (shown_by g) (sym shows ∙ f.retrieved.listed);
        weighs = (
          x.singles.items,
          bases_of (leads_in x.leads),
          map (led_to p.graph (listed_by p) cols) (leads_in x.leads),
          subst (λ w. IsRetrieved m (t ∷ []) cols w x.singles.items (bases_of (leads_in x.leads)) (map (led_to p.graph (listed_by p) cols) (leads_in x.leads))) (sym weighs) f.retrieved,
        );
        takes = subst (λ w. Takes w before after) (sym weighs) f.takes;
        never = tt;
      }

  -- the retrieval failed
  pub retrieval_fails : (f : RecordFault) → Over (Err f) → Gathers (Err f)
  retrieval_fails f over = IfSome_then told over (λ image h m s. record { shown = tt; weighs = tt; takes = tt; never = (h m s).never })

  -- memory lacks behind it
  pub memory_lacks : (x : Retrieved) → Over (Ok x) → Gathers (Err fault.Memory)
  memory_lacks x over = IfSome_then told over (λ image h m s. record { shown = tt; weighs = tt; takes = tt; never = inr refl })

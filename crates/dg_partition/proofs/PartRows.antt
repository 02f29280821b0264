-- Worked rows.
use Rattle.std.specs.Prelude.{None, codes, ◌≡◌, [], ◌∷◌, Some, refl, true}
use Rattle.dg_graph.specs.declared.event.Body.TheVariants as body
use Rattle.dg_graph.specs.declared.function.Function.TheVariants.{Intersection}
use Rattle.dg_history.specs.declared.form.Form.TheVariants as form
use Rattle.dg_history.specs.History.{History, events_of}
use Rattle.dg_index.specs.FileOfHistory.{file, size}
use Rattle.dg_partition.specs.HistoryParts.{part_of}

p : History
p = record {
  params = record { l = 2; k = 2; function = Intersection };
  form = form.Two;
  batches = record {
    names = codes "name" ∷ codes "A" ∷ [];
    events =
        record { time = 10; body = body.NodeAdded 1 }
        ∷ record { time = 20; body = body.NodeAdded 2 }
        ∷ record { time = 30; body = body.EdgeAdded true 5 1 2 }
        ∷ record { time = 40; body = body.NodeAttr 0 1 None (Some 1) }
        ∷ record { time = 50; body = body.EdgeRemoved true 5 1 2 } ∷ [];
  } ∷ [];
}

-- the part of even ids has the two nodes alone
even_events : events_of (part_of p 0 2) ≡ record { time = 10; body = body.NodeAdded 1 } ∷ record { time = 20; body = body.NodeAdded 2 } ∷ []
unfolding p
even_events = refl

even_size : size (part_of p 0 2) ≡ 202
unfolding p
even_size = refl

odd_size : size (part_of p 1 2) ≡ 544
unfolding p
odd_size = refl

-- the part of odd ids is the file itself
odd_is_whole : file (part_of p 1 2) ≡ file p
unfolding p
odd_is_whole = refl

-- one part of one is the history
one_is_whole : part_of p 0 1 ≡ p
unfolding p
one_is_whole = refl

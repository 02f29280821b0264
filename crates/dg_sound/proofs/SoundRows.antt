-- Worked rows: the file of five changes, as it stands and with one byte changed.
use Rattle.std.specs.Prelude.{None, codes, ◌≡◌, ℕ, ◌+◌, List, [], ◌∷◌, ◌++◌, Option, Some, Result, Ok, Err, true, refl, take, drop, length}
use Rattle.dg_graph.specs.declared.element.Column.TheVariants as column
use Rattle.dg_graph.specs.declared.event.Body.TheVariants as body
use Rattle.dg_graph.specs.declared.function.Function.TheVariants.{Intersection}
use Rattle.dg_history.specs.declared.form.Form.TheVariants as form
use Rattle.dg_history.specs.declared.node.Key.TheVariants as key
use Rattle.dg_history.specs.History.{History, with_batch, with_upgrade}
use Rattle.dg_index.specs.FileOfHistory.{file}
use Rattle.dg_index.specs.OpenedIndex.{Opened, Unopened, opening, opened_of}
use Rattle.dg_sound.specs.declared.soundness.Soundness.{Soundness}
use Rattle.dg_sound.specs.declared.soundness.Soundness.TheVariants.{Sound, Unsound}
use Rattle.dg_sound.specs.Soundness.{own_history, soundness_of}

-- five changes with two names, in lists of two events and nodes of two children
p : History
p = record {
  params = record { l = 2; k = 2; function = Intersection };
  form = form.One;
  batches = record {
    names = codes "name" ∷ codes "A" ∷ [];
    events =
        record { time = 10; body = body.NodeAdded 1 }
        ∷ record { time = 20; body = body.NodeAdded 2 }
        ∷ record { time = 30; body = body.EdgeAdded true 5 1 2 }
        ∷ record { time = 40; body = body.NodeAttr 0 1 None (Some 1) }
        ∷ record { time = 50; body = body.EdgeRemoved true 5 1 2 } ∷ [];
  } ∷ [];
}

-- with one change more, which closes a list: the piece of the first batch is an older one
longer : History
longer = with_batch p (record { names = []; events = record { time = 60; body = body.NodeAdded 3 } ∷ [] })

answered : List ℕ → Result Opened Unopened → Option Soundness
answered image (Ok x) = Some (soundness_of image x)
answered image (Err e) = None

-- what an image is, where it is opened
answer : List ℕ → Option Soundness
answer image = answered image (opening image)

-- the image of the history, and with another byte at the offset
image_of : History → List ℕ
image_of z = file z ++ 0 ∷ []

changed : History → ℕ → ℕ → List ℕ
changed z offset byte = take offset (image_of z) ++ byte ∷ drop (offset + 1) (image_of z)

whole : length (image_of p) ≡ 496
unfolding p image_of
whole = refl

sound : answer (image_of p) ≡ Some (Sound 5)
unfolding p image_of answer answered
sound = refl

own : own_history (image_of p) (opened_of p) ≡ Some p
unfolding p image_of
own = refl

-- Node 3 is added in place of node 2: that is a history too, but not with the edge that the next list adds.
other_node : answer (changed p 296 3) ≡ Some (Unsound (key.List 1) column.Structure)
unfolding p image_of changed answer answered
other_node = refl

-- the value is no name of the file
no_name : answer (changed p 370 3) ≡ Some (Unsound (key.List 1) column.NodeAttr)
unfolding p image_of changed answer answered
no_name = refl

-- the directory tells another last time of a list, and another first time of the batch
other_list_time : answer (changed p 90 21) ≡ Some (Unsound (key.List 0) column.Structure)
unfolding p image_of changed answer answered
other_list_time = refl

other_batch_time : answer (changed p 49 9) ≡ Some (Unsound (key.Piece 0) column.Structure)
unfolding p image_of changed answer answered
other_batch_time = refl

-- an edge with a direction is not removed as one without
other_edge : answer (changed p 494 0) ≡ Some (Unsound (key.Piece 0) column.Structure)
unfolding p image_of changed answer answered
other_edge = refl

other_top : answer (changed p 396 3) ≡ Some (Unsound (key.Top 1) column.Structure)
unfolding p image_of changed answer answered
other_top = refl

other_down : answer (changed p 454 0) ≡ Some (Unsound (key.Down 1 2) column.NodeAttr)
unfolding p image_of changed answer answered
other_down = refl

longer_sound : answer (image_of longer) ≡ Some (Sound 6)
unfolding longer p image_of answer answered
longer_sound = refl

-- the older piece says an event otherwise than the list
other_piece : answer (changed longer 494 0) ≡ Some (Unsound (key.Piece 0) column.Structure)
unfolding longer p image_of changed answer answered
other_piece = refl

-- ---- the second form

upgraded_sound : answer (image_of (with_upgrade p)) ≡ Some (Sound 5)
unfolding p image_of answer answered
upgraded_sound = refl

upgraded_own : own_history (image_of (with_upgrade p)) (opened_of (with_upgrade p)) ≡ Some (with_upgrade p)
unfolding p image_of
upgraded_own = refl

-- two nodes, and then a message twice
heard : History
heard = record {
  params = record { l = 2; k = 2; function = Intersection };
  form = form.Two;
  batches = record {
    names = codes "hi" ∷ codes "yo" ∷ [];
    events =
        record { time = 10; body = body.NodeAdded 1 }
        ∷ record { time = 10; body = body.NodeAdded 2 }
        ∷ record { time = 20; body = body.Message 1 2 0 }
        ∷ record { time = 20; body = body.Message 1 2 1 } ∷ [];
  } ∷ [];
}

heard_sound : answer (image_of heard) ≡ Some (Sound 5)
unfolding heard image_of answer answered
heard_sound = refl

heard_own : own_history (image_of heard) (opened_of heard) ≡ Some heard
unfolding heard image_of
heard_own = refl

-- Worked examples, computed by the definitions: each script with the text that is due.
use Rattle.std.specs.Prelude.{◌≡◌, ℕ, true, List, [], ◌∷◌, ◌++◌, Option, Some, None, codes, map, refl}
use Rattle.std.specs.Fmt.{digits}
use Rattle.dg_graph.specs.declared.function.Function.TheVariants.{Intersection}
use Rattle.dg_text.specs.Lines.{lines_of}
use Rattle.dg_machine.specs.declared.reply.Refusal.TheVariants as refusal
use Rattle.dg_machine.specs.Answer.{Answered, answer, refuse}
use Rattle.dg_changes.specs.ChangeGrammar.{ChangeByText, change_by_text_in}
use Rattle.dg_history.specs.declared.form.Form.TheVariants as form
use Rattle.dg_history.specs.History.{History, empty_history}
use Rattle.dg_graph.specs.declared.event.Body.TheVariants as body
use Rattle.dg_changes.specs.GeneratedChanges.{generated, next_number}
use Rattle.dg_machine.specs.MachineState.{MachineState, machine_at, names_in}
use Rattle.dg_history.specs.declared.node.NodeId.{NodeId}
use Rattle.dg_history.specs.declared.node.NodeId.TheVariants as node
use Rattle.dg_plan.specs.Walks.{Graft}
use Rattle.dg_machine.specs.Planning.{Planned, no_plan}
use Rattle.dg_machine.specs.Script.{Entry, Asked, No_command, Long_line, script}
use Rattle.dg_machine.specs.ReplyText.{text}

-- the answer with ample memory, and with this plan; a line that is no command leaves the grammar at column 1
answered : Planned → MachineState → Entry → Answered
answered plan m (Asked c lines) = answer m c lines plan
answered plan m (No_command line) = refuse m (refusal.Syntax 1)
answered plan m Long_line = refuse m refusal.LineLong

-- the plan of the first entry, and those of the entries behind it
abbrev first_plan : List Planned → Planned
first_plan [] = no_plan
first_plan (plan ∷ plans) = plan

abbrev more_plans : List Planned → List Planned
more_plans [] = []
more_plans (plan ∷ plans) = plans

-- the text of the answers, by these plans of the first entries; the others have none
output : List Planned → MachineState → List Entry → List ℕ
output plans m [] = []
output plans m (e ∷ entries) =
    let a = answered (first_plan plans) m e in text (names_in a.state.index) a.reply ++ output (more_plans plans) a.state entries

-- what the script is due over this index, with this number for the first handle and so many bytes for the file, by
-- these plans
due_from : ℕ → ℕ → Option History → List Planned → List ℕ → List ℕ
due_from first room index plans bytes =
    output plans (machine_at (record { script_bytes = 1099511627776; events = 268435456; file_bytes = room; first_handle = first }) index) (script bytes)

-- the same from handle 1 on
due_in : ℕ → Option History → List Planned → List ℕ → List ℕ
due_in room index plans bytes = due_from 1 room index plans bytes

-- what the script is due from an empty history
due : List Planned → List ℕ → List ℕ
due plans bytes = due_in 281474976710656 (Some (empty_history form.Two (record { l = 2; k = 2; function = Intersection }))) plans bytes

-- what the script is due where there is no index
due_of_none : List Planned → List ℕ → List ℕ
due_of_none plans bytes = due_in 281474976710656 None plans bytes

-- the plan of these steps; with these potentials; and the tree of these grafts, with the weights of the single plans
abbrev steps_are : List ℕ → Planned
steps_are steps = record no_plan { steps = steps }

abbrev with_potentials : List ℕ → List ℕ → Planned
with_potentials steps potentials = record no_plan { steps = steps; potentials = potentials }

abbrev grafts_are : List (Graft NodeId) → List ℕ → Planned
grafts_are grafts singles = record no_plan { grafts = grafts; singles = singles }

abbrev graft : NodeId → List ℕ → Graft NodeId
graft from steps = record { from = from; steps = steps }

-- The graph of an index of two closed lists of two events, arity 2, has these edges by their numbers: 0 from the root
-- to the current graph and 1 to the interior node; 2 to 4 and 5 to 8 at the lists; 9 to 12 at the interior node; 13 to
-- 16 at the recent events. Of one list it has 0; 1 to 3; and 4 to 7. Of three lists it has 0 and 1; 2 to 12; 13 to 16;
-- and 17 to 20.

-- of the walks of weight 42 to list 0 the one of a single edge is the least
load_at_list : due (no_plan ∷ steps_are (1 ∷ []) ∷ []) (codes "load 2\n10 +node 1\n20 +node 2\nat 10 s\nlist 1\n")
    ≡ codes "ok load 2 2 20\nend\nok at 1 42\nend\nok list 1 1\nnode 1\nend\n"
unfolding digits due_from due due_in output answered
load_at_list = refl

-- List 1 is reached from leaf 2, for which nothing is read; leaf 1 is as cheap as leaf 2, and more edges away.
edges : due (no_plan ∷ no_plan ∷ no_plan ∷ steps_are (0 ∷ 13 ∷ 15 ∷ 6 ∷ []) ∷ steps_are (0 ∷ []) ∷ []) (codes "# five changes\r\nload 4\n10 +node 1\n20 +node 2\n30 +edge 5 1 2 dir\n50 -edge 5\n\nat 9 s\nat 51 s\nat 30 sne\nat 50 s\nlist 1\nlist 2\nlist 3")
    ≡ codes "ok load 4 4 50\nend\nrefused 7 out-of-range 10 50\nend\nrefused 7 out-of-range 10 50\nend\nok at 1 76\nend\nok at 2 0\nend\nok list 1 3\nnode 1\nnode 2\nedge 5 1 2 dir\nend\nok list 2 2\nnode 1\nnode 2\nend\nrefused 8 unknown-handle 3\nend\n"
unfolding digits due_from due due_in output answered
edges = refl

refusals : due [] (codes "load 2\n5 +node 1\n4 +node 2\nload 2\n5 +node 1\n6 +node 1\nload 1\n5 -node 1\nload 3\n5 +node 1\n5 +edge 1 1 1 undir\n5 -node 1\nload 3\n5 +node 1\n5 +edge 1 1 1 undir\n5 +edge 1 2 2 dir\nload 1\n5 -edge 1\nload 2\n5 +node 1\n5 +edge 1 1 2 dir\nload 1\n05 +node 1\nlist 1\nfrob\nat 5 s\nload 1\n5 +node 7\nload 1\n6 +node 8\nload 2\n7 +node 9")
    ≡ codes "refused 6 bad-change 2 1\nend\nrefused 6 bad-change 2 2\nend\nrefused 6 bad-change 1 3\nend\nrefused 6 bad-change 3 4\nend\nrefused 6 bad-change 3 5\nend\nrefused 6 bad-change 1 6\nend\nrefused 6 bad-change 2 8\nend\nrefused 6 bad-change 1 10\nend\nrefused 8 unknown-handle 1\nend\nrefused 1 syntax 1\nend\nrefused 7 out-of-range empty\nend\nok load 1 1 5\nend\nrefused 20 already-loaded\nend\nrefused 5 short-batch 1 2\nend\n"
unfolding digits due_from due due_in output answered
refusals = refl

made_and_loaded : due_of_none (no_plan ∷ no_plan ∷ steps_are (0 ∷ []) ∷ []) (codes "create 2 2 intersection\nload 3\n10 +node 1\n20 +node 2\n30 +edge 5 1 2 dir\nat 30 s\nlist 1\n")
    ≡ codes "ok create\nend\nok load 3 3 30\nend\nok at 1 0\nend\nok list 1 3\nnode 1\nnode 2\nedge 5 1 2 dir\nend\n"
unfolding digits due_from due_of_none due_in output answered
made_and_loaded = refl

parameters : due_of_none [] (codes "create 1 2 union\ncreate 2 65 union\ncreate 2 2 union\ncreate 1 1 union\nlist 1\nat 5 s\n")
    ≡ codes "refused 4 parameters\nend\nrefused 4 parameters\nend\nok create\nend\nrefused 3 index-exists\nend\nrefused 8 unknown-handle 1\nend\nrefused 7 out-of-range empty\nend\n"
unfolding digits due_from due_of_none due_in output answered
parameters = refl

without_index : due_of_none [] (codes "at 5 s\nseveral s 5\nload 2\n10 +node 1\n9 +node 1\nload 2\n10 +node 1\n")
    ≡ codes "refused 2 no-index\nend\nrefused 2 no-index\nend\nrefused 2 no-index\nend\nrefused 5 short-batch 1 2\nend\n"
unfolding digits due_from due_of_none due_in output answered
without_index = refl

file_full : due_in 232 None [] (codes "create 2 2 intersection\nload 3\n10 +node 1\n20 +node 2\n30 +edge 5 1 2 dir\nat 30 s\n")
    ≡ codes "ok create\nend\nrefused 13 file-full 233 232\nend\nrefused 7 out-of-range empty\nend\n"
unfolding digits due_from due_in output answered
file_full = refl

-- the history of five changes, with an attribute
five : List ℕ
five = codes "create 2 2 intersection\nload 5\n10 +node 1\n20 +node 2\n30 +edge 5 1 2 dir\n40 nset 1 name A\n50 -edge 5\n"

made_five : List ℕ
made_five = codes "ok create\nend\nok load 5 5 50\nend\n"

-- what the script is due over these five changes, by these plans
over_five : List Planned → List ℕ → List ℕ
over_five plans bytes = due_of_none (no_plan ∷ no_plan ∷ plans) (five ++ bytes)

-- Leaf 2 is behind the recent events of the five changes. With two more it is a list before them: 59 bytes backwards
-- through list 2, where the interior node and the delta down to the leaf have 60.
appended : over_five (steps_are (0 ∷ 13 ∷ 15 ∷ []) ∷ no_plan ∷ no_plan ∷ steps_are (0 ∷ []) ∷ no_plan ∷ steps_are (0 ∷ 17 ∷ 19 ∷ 10 ∷ 11 ∷ []) ∷ []) (codes "at 40 sn\nappend 2\n60 -node 2\n70 +node 3\nlist 1\nat 70 sn\nlist 2\nat 40 s\n")
    ≡ made_five ++ codes "ok at 1 0\nend\nok append 2 7 70\nend\nok list 1 4\nnode 1\nnode 2\nedge 5 1 2 dir\nnattr 1 name A\nend\nok at 2 0\nend\nok list 2 3\nnode 1\nnode 3\nnattr 1 name A\nend\nok at 3 59\nend\n"
unfolding digits due_from over_five due_of_none five made_five due_in output answered
appended = refl

refused_batches : over_five [] (codes "append 2\n50 +node 7\n60 +node 8\nappend 1\n60 -node 1\nappend 1\n60 nset 1 name A\nappend 1\n70 +nod 1\n")
    ≡ made_five ++ codes "refused 6 bad-change 1 1\nend\nrefused 6 bad-change 1 4\nend\nok append 1 6 60\nend\nrefused 6 bad-change 1 10\nend\n"
unfolding digits due_from over_five due_of_none five made_five due_in output answered
refused_batches = refl

-- Values with spaces and of no byte, a key that is taken away, and reasons 7 and 9. At 5 the point is list 2: 34 bytes
-- for a value at a node and 34 for one at an edge.
values : due_of_none (no_plan ∷ no_plan ∷ no_plan ∷ no_plan ∷ no_plan ∷ no_plan ∷ steps_are (0 ∷ 17 ∷ 19 ∷ 10 ∷ []) ∷ no_plan ∷ steps_are (0 ∷ []) ∷ []) (codes "create 2 2 union\nload 6\n1 +node 1\n2 nset 1 k  x \n3 nset 1 empty \n4 +edge 1 1 1 dir\n5 eset 1 w 7\n6 ndel 1 k\nappend 1\n7 -edge 1\nappend 1\n7 ndel 1 k\nappend 1\n7 edel 1 v\nappend 1\n7 ndel 1 k \nat 5 sne\nlist 1\nat 6 sn\nlist 2\n")
    ≡ codes "ok create\nend\nok load 6 6 6\nend\nrefused 6 bad-change 1 7\nend\nrefused 6 bad-change 1 9\nend\nrefused 6 bad-change 1 9\nend\nrefused 6 bad-change 1 10\nend\nok at 1 68\nend\nok list 1 5\nnode 1\nedge 1 1 1 dir\nnattr 1 k  x \nnattr 1 empty \neattr 1 w 7\nend\nok at 2 0\nend\nok list 2 3\nnode 1\nedge 1 1 1 dir\nnattr 1 empty \nend\n"
unfolding digits due_from due_of_none due_in output answered
values = refl

-- ---- plans, certificates and records

-- the potentials of root, now, recent, leaf 1 and 2, list 0 and 1, and inner 1 1
plan_printed : over_five (with_potentials (1 ∷ 9 ∷ []) (0 ∷ 0 ∷ 0 ∷ 26 ∷ 0 ∷ 26 ∷ 26 ∷ 26 ∷ []) ∷ []) (codes "plan 20 s\n")
    ≡ made_five ++ codes "ok plan 26 2\nstep 1 inner 1 1 26\nstep 9 leaf 1 0\npotential root 0\npotential now 0\npotential recent 0\npotential leaf 2 0\nend\n"
unfolding digits due_from over_five due_of_none five made_five due_in output answered
plan_printed = refl

certificates : over_five [] (codes "certify 20 s 6\nstep 1 inner 1 1 26\nstep 9 leaf 1 0\npotential root 0\npotential now 0\npotential recent 0\npotential leaf 2 0\ncertify 20 s 5\nstep 1 inner 1 1 26\nstep 9 leaf 1 0\npotential root 0\npotential now 0\npotential recent 0\ncertify 20 s 6\nstep 1 inner 1 1 26\nstep 9 leaf 1 1\npotential root 0\npotential now 0\npotential recent 0\npotential leaf 2 0\ncertify 20 s 9\nstep 2 list 0 42\nstep 4 leaf 1 0\npotential root 0\npotential now 0\npotential recent 0\npotential leaf 1 26\npotential leaf 2 0\npotential list 1 40\npotential inner 1 1 26\ncertify 20 s 1\nhello\n")
    ≡ made_five ++ codes "ok certify valid\nend\nok certify potential leaf 2\nend\nok certify step 2\nend\nok certify not-tight\nend\nok certify line 1\nend\n"
unfolding digits due_from over_five due_of_none five made_five due_in output answered
certificates = refl

-- steps behind potentials, nodes that are not there, the bounds of a line, and refusals
odd_certificates : over_five [] (codes "certify 20 s 0\ncertify 50 s 1\nstep 0 now 0\ncertify 20 s 2\npotential root 0\nstep 1 inner 1 1 26\ncertify 20 s 2\nstep 1 inner 1 1 26\npotential leaf 0 0\ncertify 20 s 1\nstep 1 leaf 0 26\ncertify 9 s 1\nhello\ncertify 20 s 2\nhello\n")
    ≡ made_five ++ codes "ok certify step 1\nend\nok certify valid\nend\nok certify line 1\nend\nok certify line 2\nend\nok certify step 1\nend\nrefused 7 out-of-range 10 50\nend\nrefused 5 short-batch 1 2\nend\n"
unfolding digits due_from over_five due_of_none five made_five due_in output answered
odd_certificates = refl

records : over_five [] (codes "tree\n")
    ≡ made_five ++ codes "ok tree 2 2 intersection 5 2 5\nrecord list 0 42 0 0 0\nrecord list 1 40 34 0 0\nrecord top 1 26 0 0 0\nrecord down 1 1 0 0 0 0\nrecord down 1 2 34 24 0 0\nend\n"
unfolding digits due_from over_five due_of_none five made_five due_in output answered
records = refl

-- no leaf but the root: the plan of the recent events
recent_plan : due_of_none (no_plan ∷ no_plan ∷ with_potentials (3 ∷ []) (0 ∷ 0 ∷ 0 ∷ []) ∷ []) (codes "create 3 2 union\nload 2\n10 +node 1\n20 +node 2\nplan 10 s\ntree\n")
    ≡ codes "ok create\nend\nok load 2 2 20\nend\nok plan 0 1\nstep 3 recent 0\nend\nok tree 3 2 union 2 0 0\nend\n"
unfolding digits due_from due_of_none due_in output answered
recent_plan = refl

no_index_to_plan : due_of_none [] (codes "plan 5 s\ntree\ncertify 5 s 0\ncreate 2 2 union\nplan 5 s\ntree\n")
    ≡ codes "refused 2 no-index\nend\nrefused 2 no-index\nend\nrefused 2 no-index\nend\nok create\nend\nrefused 7 out-of-range empty\nend\nok tree 2 2 union 0 0 0\nend\n"
unfolding digits due_from due_of_none due_in output answered
no_index_to_plan = refl

-- ---- graphs as of instants

-- Leaf 1 is read down from the interior node, and list 1 backwards from leaf 2.
by_plans : over_five (steps_are (1 ∷ 9 ∷ []) ∷ no_plan ∷ steps_are (0 ∷ 13 ∷ 15 ∷ 6 ∷ []) ∷ []) (codes "at 20 s\nlist 1\nat 30 s\nlist 2\n")
    ≡ made_five ++ codes "ok at 1 26\nend\nok list 1 2\nnode 1\nnode 2\nend\nok at 2 40\nend\nok list 2 3\nnode 1\nnode 2\nedge 5 1 2 dir\nend\n"
unfolding digits due_from over_five due_of_none five made_five due_in output answered
by_plans = refl

-- No walk to these two points weighs less: the potentials certify 40 for instant 30 of the five changes, and 59 for
-- instant 40 with two more.
least_weights : over_five [] (codes "certify 30 s 10\nstep 0 now 0\nstep 13 recent 0\nstep 15 leaf 2 0\nstep 6 list 1 40\npotential root 0\npotential now 0\npotential recent 0\npotential leaf 1 26\npotential leaf 2 0\npotential inner 1 1 26\nappend 2\n60 -node 2\n70 +node 3\ncertify 40 s 12\nstep 0 now 0\nstep 17 recent 0\nstep 19 leaf 3 0\nstep 10 list 2 59\nstep 11 leaf 2 0\npotential root 0\npotential now 0\npotential recent 0\npotential leaf 1 26\npotential leaf 3 0\npotential list 0 42\npotential inner 1 1 26\n")
    ≡ made_five ++ codes "ok certify valid\nend\nok append 2 7 70\nend\nok certify valid\nend\n"
unfolding digits due_from over_five due_of_none five made_five due_in output answered
least_weights = refl

-- List 1 weighs 40 from leaf 1, which is in the tree by then, and 40 from the root by leaf 2: one edge is less than
-- four. The last instant is the first again, so its graft has no step.
graphs_by_a_tree : over_five (grafts_are (graft node.Root (1 ∷ 9 ∷ []) ∷ graft (node.Leaf 1) (5 ∷ []) ∷ graft (node.Leaf 1) [] ∷ []) (26 ∷ 40 ∷ 26 ∷ []) ∷ []) (codes "several s 20 30 20\nlist 2\nlist 3\nlist 4\n")
    ≡ made_five ++ codes "ok several 66 92\nhandle 1 20 26\nhandle 2 30 40\nhandle 3 20 26\nend\nok list 2 3\nnode 1\nnode 2\nedge 5 1 2 dir\nend\nok list 3 2\nnode 1\nnode 2\nend\nrefused 8 unknown-handle 4\nend\n"
unfolding digits due_from over_five due_of_none five made_five due_in output answered
graphs_by_a_tree = refl

-- in the other order leaf 1 is grafted at list 1, whose events are read by then
the_other_order : over_five (grafts_are (graft node.Root (0 ∷ 13 ∷ 15 ∷ 6 ∷ []) ∷ graft (node.List 1) (7 ∷ []) ∷ []) (40 ∷ 26 ∷ []) ∷ []) (codes "several s 30 20\n")
    ≡ made_five ++ codes "ok several 40 66\nhandle 1 30 40\nhandle 2 20 26\nend\n"
unfolding digits due_from over_five due_of_none five made_five due_in output answered
the_other_order = refl

-- one instant is a tree of one plan; an instant that is not in the history refuses them all, and gives no handle
one_or_none : over_five (no_plan ∷ no_plan ∷ grafts_are (graft node.Root (1 ∷ 9 ∷ []) ∷ []) (26 ∷ []) ∷ []) (codes "several s 20 9\nseveral s 51 20\nseveral s 20\n")
    ≡ made_five ++ codes "refused 7 out-of-range 10 50\nend\nrefused 7 out-of-range 10 50\nend\nok several 26 26\nhandle 1 20 26\nend\n"
unfolding digits due_from over_five due_of_none five made_five due_in output answered
one_or_none = refl

-- ---- queries, releases and cleaning

-- leaf 2, without and with the attributes of nodes, and list 1, in which the edge still is
queries : over_five (steps_are (0 ∷ 13 ∷ 15 ∷ []) ∷ steps_are (0 ∷ 13 ∷ 15 ∷ []) ∷ steps_are (0 ∷ 13 ∷ 15 ∷ 6 ∷ []) ∷ []) (codes "at 40 s\nat 40 sn\nat 30 s\ncounts 1\ncounts 2\ncounts 4\nnode 3 1\nnode 3 9\nnode 2 1\nnode 4 1\nneighbours 3 2\nneighbours 3 1\nneighbours 3 9\nneighbours 4 1\n")
    ≡ made_five ++ codes "ok at 1 0\nend\nok at 2 0\nend\nok at 3 40\nend\nok counts 1 2 1 0 0\nend\nok counts 2 2 1 1 0\nend\nrefused 8 unknown-handle 4\nend\nok node 3 1 yes 1\nend\nok node 3 9 no\nend\nok node 2 1 yes 1\nattr name A\nend\nrefused 8 unknown-handle 4\nend\nok neighbours 3 2 1\nin 5 1\nend\nok neighbours 3 1 1\nout 5 2\nend\nok neighbours 3 9 0\nend\nrefused 8 unknown-handle 4\nend\n"
unfolding digits due_from over_five due_of_none five made_five due_in output answered
queries = refl

-- Loops, directed and not, count once; an edge that is not directed lies on both sides of both its ends.
loops : due (no_plan ∷ steps_are (0 ∷ []) ∷ []) (codes "load 6\n1 +node 1\n1 +node 2\n1 +edge 9 1 1 dir\n1 +edge 8 1 1 undir\n1 +edge 7 2 1 undir\n1 +edge 6 2 1 dir\nat 1 s\nnode 1 1\nneighbours 1 1\nneighbours 1 2\n")
    ≡ codes "ok load 6 6 1\nend\nok at 1 0\nend\nok node 1 1 yes 4\nend\nok neighbours 1 1 4\nin 6 2\nboth 7 2\nboth 8 1\nout 9 1\nend\nok neighbours 1 2 2\nout 6 1\nboth 7 1\nend\n"
unfolding digits due_from due due_in output answered
loops = refl

-- The current graph has two nodes and an attribute; the graph as of 40 has the edge besides.
cleaning : over_five (steps_are (1 ∷ 9 ∷ []) ∷ steps_are (0 ∷ 13 ∷ 15 ∷ []) ∷ no_plan ∷ no_plan ∷ no_plan ∷ steps_are (0 ∷ 13 ∷ 15 ∷ 6 ∷ []) ∷ []) (codes "at 20 s\nat 40 s\npool\nrelease 2\nclean 1\nat 30 s\nclean all\npool\nrelease 3\nrelease 1\nclean all\n")
    ≡ made_five ++ codes "ok at 1 26\nend\nok at 2 0\nend\nok pool 2 4\nend\nok release 2\nend\nok clean\nend\nok at 3 40\nend\nok clean all 4\nend\nok pool 2 4\nend\nok release 3\nend\nok release 1\nend\nok clean all 3\nend\n"
unfolding digits due_from over_five due_of_none five made_five due_in output answered
cleaning = refl

-- a number is not given again
released : over_five (steps_are (0 ∷ []) ∷ steps_are (0 ∷ []) ∷ no_plan ∷ no_plan ∷ no_plan ∷ no_plan ∷ steps_are (0 ∷ []) ∷ []) (codes "at 50 s\nat 50 sn\nrelease 1\nlist 1\nrelease 1\nlist 2\nat 50 s\n")
    ≡ made_five ++ codes "ok at 1 0\nend\nok at 2 0\nend\nok release 1\nend\nrefused 8 unknown-handle 1\nend\nrefused 8 unknown-handle 1\nend\nok list 2 3\nnode 1\nnode 2\nnattr 1 name A\nend\nok at 3 0\nend\n"
unfolding digits due_from over_five due_of_none five made_five due_in output answered
released = refl

empty_pool : due_of_none [] (codes "list 1\nat 5 s\npool\nclean 3\nclean all\nrelease 1\n")
    ≡ codes "refused 8 unknown-handle 1\nend\nrefused 2 no-index\nend\nok pool 0 0\nend\nok clean\nend\nok clean all 0\nend\nrefused 8 unknown-handle 1\nend\n"
unfolding digits due_from due_of_none due_in output answered
empty_pool = refl

-- no handle is left, though one was given up
handles_spent : due_from 4294967295 281474976710656 None (no_plan ∷ no_plan ∷ steps_are (0 ∷ []) ∷ []) (five ++ codes "at 50 s\nat 50 s\nseveral s 50\nrelease 4294967295\nat 50 s\n")
    ≡ made_five ++ codes "ok at 4294967295 0\nend\nrefused 19 handles-spent\nend\nrefused 19 handles-spent\nend\nok release 4294967295\nend\nrefused 19 handles-spent\nend\n"
unfolding digits due_from five made_five output answered
handles_spent = refl

-- ---- nodes that are held

-- The base has the edge of number 1, and all edges behind it stand one further. It has no attributes, so it cannot
-- serve a retrieval that asks for them.
held_node : over_five (steps_are (0 ∷ []) ∷ steps_are (1 ∷ 10 ∷ []) ∷ steps_are (1 ∷ 9 ∷ []) ∷ []) (codes "materialise inner 1 1 s\nat 20 s\nat 20 sn\nrelease 1\nnode 1 1\nneighbours 1 1\nrelease 2\nrelease 1\nlist 1\n")
    ≡ made_five ++ codes "ok materialise 1 26\nend\nok at 2 0\nend\nok at 3 26\nend\nrefused 10 in-use 2\nend\nrefused 17 not-an-overlay 1\nend\nrefused 17 not-an-overlay 1\nend\nok release 2\nend\nok release 1\nend\nrefused 8 unknown-handle 1\nend\n"
unfolding digits due_from over_five due_of_none five made_five due_in output answered
held_node = refl

-- without what is in memory leaf 2 weighs 60 through the interior node, whose edges are those from 8 on
unknown_nodes : over_five (no_plan ∷ no_plan ∷ no_plan ∷ steps_are (0 ∷ 10 ∷ []) ∷ []) (codes "materialise inner 2 1 s\nmaterialise leaf 3 s\nmaterialise leaf 0 s\nmaterialise leaf 2 s\nlist 1\ncounts 1\n")
    ≡ made_five ++ codes "refused 11 unknown-node\nend\nrefused 11 unknown-node\nend\nrefused 11 unknown-node\nend\nok materialise 1 60\nend\nok list 1 3\nnode 1\nnode 2\nedge 5 1 2 dir\nend\nok counts 1 2 1 0 0\nend\n"
unfolding digits due_from over_five due_of_none five made_five due_in output answered
unknown_nodes = refl

-- The set of a node need be no graph: this one has two values of one key.
no_graph : due_of_none (no_plan ∷ no_plan ∷ steps_are (0 ∷ []) ∷ no_plan ∷ steps_are (1 ∷ 10 ∷ []) ∷ []) (codes "create 2 2 union\nload 4\n1 +node 1\n2 nset 1 c red\n3 nset 1 c blue\n4 +node 2\nmaterialise inner 1 1 sn\nlist 1\nat 2 sn\nlist 2\n")
    ≡ codes "ok create\nend\nok load 4 4 4\nend\nok materialise 1 66\nend\nok list 1 4\nnode 1\nnode 2\nnattr 1 c red\nnattr 1 c blue\nend\nok at 2 41\nend\nok list 2 2\nnode 1\nnattr 1 c red\nend\n"
unfolding digits due_from due_of_none due_in output answered
no_graph = refl

-- Two graphs of a tree rest on the base, and the least of them is named: list 1 is grafted at leaf 1, and the path to it
-- begins with the base. The third rests on the current graph.
resting : over_five (steps_are (0 ∷ []) ∷ grafts_are (graft node.Root (1 ∷ 10 ∷ []) ∷ graft (node.Leaf 1) (6 ∷ []) ∷ graft node.Root (0 ∷ 14 ∷ 16 ∷ []) ∷ []) (0 ∷ 40 ∷ 0 ∷ []) ∷ []) (codes "materialise inner 1 1 s\nseveral s 20 30 40\nrelease 1\nrelease 2\nrelease 1\nrelease 4\nrelease 1\nrelease 3\nrelease 1\n")
    ≡ made_five ++ codes "ok materialise 1 26\nend\nok several 40 40\nhandle 2 20 0\nhandle 3 30 40\nhandle 4 40 0\nend\nrefused 10 in-use 2\nend\nok release 2\nend\nrefused 10 in-use 3\nend\nok release 4\nend\nrefused 10 in-use 3\nend\nok release 3\nend\nok release 1\nend\n"
unfolding digits due_from over_five due_of_none five made_five due_in output answered
resting = refl

-- ---- generated changes, and the file

-- the number behind the seed 7
number_behind : next_number 7 ≡ 9098160460397411210
number_behind = refl

-- what the lines of a batch ask for
asked_by : List ℕ → List (Option ChangeByText)
asked_by bytes = map change_by_text_in (lines_of bytes)

-- an even and an odd group of changes, as the lines that ask for the same
two_groups : generated 7 16
    ≡ asked_by (codes "1000 +node 1\n1000 +node 2\n1001 +edge 1 1 2 undir\n1001 nset 1 kind v3\n1002 nset 2 kind v0\n1002 eset 1 w 19\n1003 ndel 1 kind\n1003 nset 2 name n0\n1004 +node 3\n1004 +node 4\n1005 +edge 2 3 4 undir\n1005 nset 3 kind v0\n1006 nset 1 kind v2\n1006 eset 2 w 80\n1007 edel 2 w\n1007 -edge 2\n")
unfolding digits asked_by
two_groups = refl

-- of the greatest seed, whose fifth change sets the kind of node 1 once more
greatest_seed : generated 18446744073709551615 8
    ≡ asked_by (codes "1000 +node 1\n1000 +node 2\n1001 +edge 1 1 2 undir\n1001 nset 1 kind v2\n1002 nset 1 kind v4\n1002 eset 1 w 87\n1003 ndel 1 kind\n1003 nset 2 name n0\n")
unfolding digits asked_by
greatest_seed = refl

-- The kind of node 1 is there as of 1002, and is taken away at 1003; the edge of an even group stays.
workload : due_of_none (no_plan ∷ no_plan ∷ steps_are (0 ∷ []) ∷ no_plan ∷ steps_are (3 ∷ []) ∷ []) (codes "create 256 4 balanced\nworkload 7 8\nat 1003 sne\nlist 1\nat 1002 sne\nlist 2\n")
    ≡ codes "ok create\nend\nok workload 8 1003 2 1\nend\nok at 1 0\nend\nok list 1 6\nnode 1\nnode 2\nedge 1 1 2 undir\nnattr 2 kind v0\nnattr 2 name n0\neattr 1 w 19\nend\nok at 2 0\nend\nok list 2 6\nnode 1\nnode 2\nedge 1 1 2 undir\nnattr 1 kind v3\nnattr 2 kind v0\neattr 1 w 19\nend\n"
unfolding digits due_from due_of_none due_in output answered
workload = refl

-- the edge of an odd group goes again
odd_group : due_of_none (no_plan ∷ no_plan ∷ steps_are (0 ∷ []) ∷ []) (codes "create 256 4 balanced\nworkload 7 16\nat 1007 sne\nlist 1\n")
    ≡ codes "ok create\nend\nok workload 16 1007 4 1\nend\nok at 1 0\nend\nok list 1 10\nnode 1\nnode 2\nnode 3\nnode 4\nedge 1 1 2 undir\nnattr 1 kind v2\nnattr 2 kind v0\nnattr 2 name n0\nnattr 3 kind v0\neattr 1 w 19\nend\n"
unfolding digits due_from due_of_none due_in output answered
odd_group = refl

-- without an index, after an event, and with a seed or a number of changes outside its range
refused_workloads : due_of_none [] (codes "workload 7 8\nverify\ncreate 256 4 balanced\nworkload 7 0\nworkload 7 1048577\nworkload 18446744073709551616 1\nworkload 7\nworkload 7 1 1\nverify 1\nverify\nworkload 5 2\nworkload 7 1048576\nload 1\n1000 +node 3\nverify\n")
    ≡ codes "refused 2 no-index\nend\nrefused 2 no-index\nend\nok create\nend\nrefused 1 syntax 1\nend\nrefused 1 syntax 1\nend\nrefused 1 syntax 1\nend\nrefused 1 syntax 1\nend\nrefused 1 syntax 1\nend\nrefused 1 syntax 1\nend\nok verify sound 0\nend\nok workload 2 1000 2 0\nend\nrefused 20 already-loaded\nend\nrefused 20 already-loaded\nend\nok verify sound 0\nend\n"
unfolding digits due_from due_of_none due_in output answered
refused_workloads = refl

-- the lists, the top and the downs that `tree` prints
verified : over_five [] (codes "verify\n") ≡ made_five ++ codes "ok verify sound 5\nend\n"
unfolding digits due_from over_five due_of_none five made_five due_in output answered
verified = refl

-- ---- forms, skewed functions and messages

skewed_parameters : due_of_none [] (codes "create 2 2 skewed 300\ncreate 2 2 skewed\n") ≡ codes "refused 4 parameters\nend\nrefused 1 syntax 1\nend\n"
unfolding digits due_from due_of_none due_in output answered
skewed_parameters = refl

skewed_records : due_of_none [] (codes "create 2 2 skewed 256\nload 5\n10 +node 1\n20 +node 2\n30 +edge 5 1 2 dir\n40 nset 1 name A\n50 -edge 5\ntree\n")
    ≡ codes "ok create\nend\nok load 5 5 50\nend\nok tree 2 2 skewed 256 5 2 5\nrecord list 0 42 0 0 0\nrecord list 1 40 34 0 0\nrecord top 1 52 24 0 0\nrecord down 1 1 34 24 0 0\nrecord down 1 2 0 0 0 0\nend\n"
unfolding digits due_from due_of_none due_in output answered
skewed_records = refl

form_two_full : due_in 550 None [] (five ++ codes "append 1\n60 +node 9\n") ≡ made_five ++ codes "refused 13 file-full 736 550\nend\n"
unfolding digits due_from five made_five due_in output answered
form_two_full = refl

-- the five changes in a file of the first form
first_form : Option History
first_form = Some (record {
  params = record { l = 2; k = 2; function = Intersection };
  form = form.One;
  batches = record {
    names = codes "name" ∷ codes "A" ∷ [];
    events =
        record { time = 10; body = body.NodeAdded 1 }
        ∷ record { time = 20; body = body.NodeAdded 2 }
        ∷ record { time = 30; body = body.EdgeAdded true 5 1 2 }
        ∷ record { time = 40; body = body.NodeAttr 0 1 None (Some 1) }
        ∷ record { time = 50; body = body.EdgeRemoved true 5 1 2 } ∷ [];
  } ∷ [];
})

upgraded : due_in 713 first_form [] (codes "append 1\n60 msg 1 2 x\nappend 1\n60 msg 1 9 x\nupgrade\nupgrade\nappend 1\n60 +node 9\n")
    ≡ codes "refused 22 old-format\nend\nrefused 6 bad-change 1 8\nend\nok upgrade\nend\nrefused 21 new-format\nend\nok append 1 6 60\nend\n"
unfolding digits due_from due_in output answered first_form
upgraded = refl

no_room_for_marker : due_in 520 first_form [] (codes "upgrade\n") ≡ codes "refused 13 file-full 521 520\nend\n"
unfolding digits due_from due_in output answered first_form
no_room_for_marker = refl

-- Leaf 2 is behind the recent events. Leaf 1 is reached from it through list 1, which has no structure.
messages : due_of_none (no_plan ∷ no_plan ∷ no_plan ∷ steps_are (0 ∷ 13 ∷ 15 ∷ []) ∷ no_plan ∷ no_plan ∷ steps_are (0 ∷ 13 ∷ 15 ∷ 6 ∷ 7 ∷ []) ∷ steps_are (0 ∷ 13 ∷ 15 ∷ []) ∷ no_plan ∷ grafts_are (graft node.Root (0 ∷ 13 ∷ 15 ∷ []) ∷ graft (node.Leaf 2) [] ∷ []) (0 ∷ 0 ∷ []) ∷ [])
    (codes "create 2 2 intersection\nload 4\n10 +node 1\n10 +node 2\n20 msg 1 2 hi\n20 msg 1 2 yo\nappend 1\n30 +node 3\nat 20 st\nlist 1\ncounts 1\nat 10 st\nat 20 s\ncounts 3\nseveral st 20 20\n")
    ≡ codes "ok create\nend\nok load 4 4 20\nend\nok append 1 5 30\nend\nok at 1 64\nend\nok list 1 4\nnode 1\nnode 2\nmsg 1 2 hi\nmsg 1 2 yo\nend\nok counts 1 2 0 0 0 2\nend\nok at 2 0\nend\nok at 3 0\nend\nok counts 3 2 0 0 0\nend\nok several 64 128\nhandle 4 20 64\nhandle 5 20 64\nend\n"
unfolding digits due_from due_of_none due_in output answered
messages = refl

-- ---- selections and value indexes

-- What came in from 20 to 30, by the tree of the two instants; what is not there as of 20 alone is nothing. A selection
-- has no nodes to ask for.
chosen_elements : over_five (grafts_are (graft node.Root (0 ∷ 13 ∷ 15 ∷ 6 ∷ []) ∷ graft (node.List 1) (7 ∷ []) ∷ []) [] ∷ no_plan ∷ grafts_are (graft node.Root (1 ∷ 9 ∷ []) ∷ []) [] ∷ []) (codes "expression s and 30 not 20\nlist 1\nexpression s not 20\nlist 2\nnode 1 1\nneighbours 2 1\nexpression s or 9 20\nexpression s and 20\nexpression st 20\n")
    ≡ made_five ++ codes "ok expression 1 40\nend\nok list 1 1\nedge 5 1 2 dir\nend\nok expression 2 26\nend\nok list 2 0\nend\nrefused 17 not-an-overlay 1\nend\nrefused 17 not-an-overlay 2\nend\nrefused 7 out-of-range 10 50\nend\nrefused 1 syntax 1\nend\nrefused 1 syntax 1\nend\n"
unfolding digits due_from over_five due_of_none five made_five due_in output answered
chosen_elements = refl

-- what is asked of a selection, its count in the pool, and its release
asked_of_selections : over_five (grafts_are (graft node.Root (0 ∷ 13 ∷ 15 ∷ 6 ∷ []) ∷ graft (node.List 1) (7 ∷ []) ∷ []) [] ∷ []) (codes "expression s and 30 not 20\ncounts 1\npool\nrelease 1\nlist 1\npool\n")
    ≡ made_five ++ codes "ok expression 1 40\nend\nok counts 1 0 1 0 0\nend\nok pool 1 4\nend\nok release 1\nend\nrefused 8 unknown-handle 1\nend\nok pool 0 3\nend\n"
unfolding digits due_from over_five due_of_none five made_five due_in output answered
asked_of_selections = refl

-- both lists meet the first interval; the others meet none
added_elements : over_five [] (codes "interval 20 40 s\nlist 1\ninterval 50 51 s\nlist 2\ninterval 40 20 s\ninterval 9 20 s\ninterval 20 52 s\ninterval 51 51 s\n")
    ≡ made_five ++ codes "ok interval 1 82\nend\nok list 1 2\nnode 2\nedge 5 1 2 dir\nend\nok interval 2 0\nend\nok list 2 0\nend\nok interval 3 0\nend\nrefused 7 out-of-range 10 50\nend\nrefused 7 out-of-range 10 50\nend\nrefused 7 out-of-range 10 50\nend\n"
unfolding digits due_from over_five due_of_none five made_five due_in output answered
added_elements = refl

-- the messages of an interval, and where they are not asked for
added_messages : due_of_none [] (codes "create 2 2 intersection\nload 4\n10 +node 1\n10 +node 2\n20 msg 1 2 hi\n20 msg 1 2 yo\ninterval 20 21 st\nlist 1\ninterval 20 21 s\nlist 2\n")
    ≡ codes "ok create\nend\nok load 4 4 20\nend\nok interval 1 64\nend\nok list 1 2\nmsg 1 2 hi\nmsg 1 2 yo\nend\nok interval 2 0\nend\nok list 2 0\nend\n"
unfolding digits due_from due_of_none due_in output answered
added_messages = refl

value_index : over_five [] (codes "index size\nfind 40 name A\nindex name\nindex name\nfind 40 name A\nfind 30 name A\nfind 51 name A\nfind 40 name other\nappend 2\n60 nset 1 name B\n70 ndel 1 name\nfind 60 name B\nfind 60 name A\nfind 70 name B\n")
    ≡ made_five ++ codes "refused 23 unknown-key\nend\nrefused 24 not-indexed\nend\nok index 1 34\nend\nrefused 25 already-indexed\nend\nok find 1\nnode 1\nend\nok find 0\nend\nrefused 7 out-of-range 10 50\nend\nok find 0\nend\nok append 2 7 70\nend\nok find 1\nnode 1\nend\nok find 0\nend\nok find 0\nend\n"
unfolding digits due_from over_five due_of_none five made_five due_in output answered
value_index = refl

-- What a change comes to, by what its tests say; and the events that changes come to, one after another.
--     completion      the body that a change comes to, and the tests that it passed
--     comes_to      it is a change of the set
--     all_come, as_many, times_fit      a list of changes: an event for each of them, in its time
--     made_come, made_joined, made_before, made_behind      events that are changes one after another
use Rattle.std.proofs.Common.{◌≡◌, ℕ, ◌+◌, ◌≤◌, Bool, true, false, cond, not, ◌&&◌, ◌||◌, List, [], ◌∷◌, ◌++◌, Option, Some, None, Result, Ok, Err, IfSome, find, is_some, length, nat_eq, nat_lt, refl, sym, ap, subst, ◌∙◌, arith}
use Rattle.std.specs.List.{All, list_any}
use Rattle.std.specs.Option.{option_eq}
use Rattle.std.proofs.lemmas.Bool.{and_from, and_parts, eq-eqb, eqb-true, ltb-false, not-false, not_from_false, or_left, or_right}
use Rattle.std.proofs.lemmas.List.Elements.{All-cons, All-head, All-nil, All-tail}
use Rattle.dg_graph.specs.declared.element.Element.{Element}
use Rattle.dg_graph.specs.declared.element.Element.TheVariants as element
use Rattle.dg_graph.specs.declared.event.Body.{Body}
use Rattle.dg_graph.specs.declared.event.Body.TheVariants as body
use Rattle.dg_graph.specs.declared.event.Change.{Change}
use Rattle.dg_graph.specs.declared.event.Event.{Event}
use Rattle.dg_graph.specs.declared.event.What.{What}
use Rattle.dg_graph.specs.declared.event.What.TheVariants as what
use Rattle.dg_graph.specs.declared.event.TheConstants.{REASON_TIME}
use Rattle.dg_graph.specs.declared.limits.TheConstants.{TIME_MAX}
use Rattle.dg_graph.specs.CompletedChanges.{completed, event_of, go_on, on_value}
use Rattle.dg_graph.specs.Completion.{has_node, edge_of, is_edge, needs_node, needs_edge, node_value, edge_value, edge_removal, value_removal, complete, is_change_of, is_found, is_value_change}
use Rattle.dg_graph.specs.Effect.{forwards}
use Rattle.dg_graph.specs.Elements.{has, same}
use Rattle.dg_graph.specs.Graph.{IsGraph}
use Rattle.dg_graph.specs.MadeByChanges.{AreMadeByChanges}
use Rattle.dg_graph.specs.Replay.{replay_from}
use Rattle.dg_graph.proofs.Sets.{same_itself}

-- what a look-up finds is in the set, and passes the test
pub found_in : (t : Element → Bool) (xs : List Element) (x : Element) → find t xs ≡ Some x → (has xs x ≡ true) × (t x ≡ true)
found_in t [] x e = cc
found_in t (y ∷ ys) x e = by (t y) refl e (found_in t ys x)
  where
    by : (b : Bool) → t y ≡ b → cond b (Some y) (find t ys) ≡ Some x → (find t ys ≡ Some x → (has ys x ≡ true) × (t x ≡ true))
        → (has (y ∷ ys) x ≡ true) × (t x ≡ true)
    by true is e rest =
        let at : y ≡ x = cc in
        (or_left (same x y) (has ys x) (ap (same x) at ∙ same_itself x), ap t (sym at) ∙ is)
    by false is e rest = (or_right (same x y) (has ys x) (rest e).0, (rest e).1)

-- the empty set is a graph
pub empty_graph : IsGraph []
empty_graph = record {
  rises = tt;
  needs = λ x e. cc;
  one_edge = λ id src dst s t d f e g. cc;
  one_node_value = λ id key v o e g. cc;
  one_edge_value = λ id key v o e g. cc;
}

-- ---- what a change comes to

-- the body that a removal of an edge comes to
pub record IsEdgeRemoval (needed : Bool) (found : Option Element) (b : Body) : Type 0 where
  pub id : ℕ
  pub src : ℕ
  pub dst : ℕ
  pub directed : Bool
  pub is : body.EdgeRemoved directed id src dst ≡ b
  pub found_is : found ≡ Some (element.Edge directed id src dst)
  pub free : needed ≡ false

-- the body that a removal of a value comes to
pub record IsValueRemoval (make : Option ℕ → Option ℕ → Body) (found : Option ℕ) (b : Body) : Type 0 where
  pub value : ℕ
  pub is : make (Some value) None ≡ b
  pub found_is : found ≡ Some value

-- This change comes to this body after the set, which passed the tests.
abbrev pub IsCompletion : What → List Element → Body → Type 0
IsCompletion (what.AddNode id) set b = (body.NodeAdded id ≡ b) × (has_node set id ≡ false)
IsCompletion (what.RemoveNode id) set b = (body.NodeRemoved id ≡ b) × (has_node set id ≡ true) × (list_any (needs_node id) set ≡ false)
IsCompletion (what.AddEdge directed id src dst) set b =
    (body.EdgeAdded directed id src dst ≡ b) × (is_some (edge_of set id) ≡ false) × ((has_node set src && has_node set dst) ≡ true)
IsCompletion (what.RemoveEdge id) set b = IsEdgeRemoval (list_any (needs_edge id) set) (edge_of set id) b
IsCompletion (what.SetNode id key value) set b = (body.NodeAttr key id (node_value set id key) (Some value) ≡ b) × (has_node set id ≡ true)
IsCompletion (what.UnsetNode id key) set b = IsValueRemoval (body.NodeAttr key id) (node_value set id key) b × (has_node set id ≡ true)
IsCompletion (what.SetEdge id key value) set b = (body.EdgeAttr key id (edge_value set id key) (Some value) ≡ b) × (is_some (edge_of set id) ≡ true)
IsCompletion (what.UnsetEdge id key) set b = IsValueRemoval (body.EdgeAttr key id) (edge_value set id key) b × (is_some (edge_of set id) ≡ true)
IsCompletion (what.Message src dst value) set b = (body.Message src dst value ≡ b) × ((has_node set src && has_node set dst) ≡ true)

-- a test with a reason on one side
unless : (t : Bool) (reason : ℕ) (r : Result Body ℕ) (b : Body) → cond t (Err reason) r ≡ Ok b → (r ≡ Ok b) × (t ≡ false)
unless true reason r b h = cc
unless false reason r b h = (h, refl)

where_so : (t : Bool) (reason : ℕ) (r : Result Body ℕ) (b : Body) → cond t r (Err reason) ≡ Ok b → (r ≡ Ok b) × (t ≡ true)
where_so true reason r b h = (h, refl)
where_so false reason r b h = cc

ok_is : (x b : Body) → (let r : Result Body ℕ = Ok x in r) ≡ Ok b → x ≡ b
ok_is x b h = cc

edge_removed : (needed : Bool) (found : Option Element) (b : Body) → edge_removal needed found ≡ Ok b → IsEdgeRemoval needed found b
edge_removed needed None b h = cc
edge_removed needed (Some (element.Node id)) b h = cc
edge_removed needed (Some (element.NodeAttr id key value)) b h = cc
edge_removed needed (Some (element.EdgeAttr id key value)) b h = cc
edge_removed needed (Some (element.Message src dst value)) b h = cc
edge_removed true (Some (element.Edge directed id src dst)) b h = cc
edge_removed false (Some (element.Edge directed id src dst)) b h =
    record { id = id; src = src; dst = dst; directed = directed; is = cc; found_is = refl; free = refl }

value_removed : (make : Option ℕ → Option ℕ → Body) (found : Option ℕ) (b : Body) → value_removal make found ≡ Ok b → IsValueRemoval make found b
value_removed make None b h = cc
value_removed make (Some value) b h = record { value = value; is = cc; found_is = refl }

pub completion : (w : What) (set : List Element) (b : Body) → complete w set ≡ Ok b → IsCompletion w set b
completion (what.AddNode id) set b h =
    let t = unless (has_node set id) _ (Ok (body.NodeAdded id)) b h in
    (ok_is (body.NodeAdded id) b t.0, t.1)
completion (what.RemoveNode id) set b h =
    let t = unless (not (has_node set id)) _ _ b h in
    let u = unless (list_any (needs_node id) set) _ (Ok (body.NodeRemoved id)) b t.0 in
    (ok_is (body.NodeRemoved id) b u.0, not-false (has_node set id) t.1, u.1)
completion (what.AddEdge directed id src dst) set b h =
    let t = unless (is_some (edge_of set id)) _ _ b h in
    let u = where_so (has_node set src && has_node set dst) _ (Ok (body.EdgeAdded directed id src dst)) b t.0 in
    (ok_is (body.EdgeAdded directed id src dst) b u.0, t.1, u.1)
completion (what.RemoveEdge id) set b h = edge_removed (list_any (needs_edge id) set) (edge_of set id) b h
completion (what.SetNode id key value) set b h =
    let x : Body = body.NodeAttr key id (node_value set id key) (Some value) in
    let t = where_so (has_node set id) _ (Ok x) b h in
    (ok_is x b t.0, t.1)
completion (what.UnsetNode id key) set b h =
    let t = where_so (has_node set id) _ _ b h in
    (value_removed (body.NodeAttr key id) (node_value set id key) b t.0, t.1)
completion (what.SetEdge id key value) set b h =
    let x : Body = body.EdgeAttr key id (edge_value set id key) (Some value) in
    let t = where_so (is_some (edge_of set id)) _ (Ok x) b h in
    (ok_is x b t.0, t.1)
completion (what.UnsetEdge id key) set b h =
    let t = where_so (is_some (edge_of set id)) _ _ b h in
    (value_removed (body.EdgeAttr key id) (edge_value set id key) b t.0, t.1)
completion (what.Message src dst value) set b h =
    let t = where_so (has_node set src && has_node set dst) _ (Ok (body.Message src dst value)) b h in
    (ok_is (body.Message src dst value) b t.0, t.1)

-- ---- it is a change

pub same_value : (a b : Option ℕ) → option_eq nat_eq a b ≡ true → a ≡ b
same_value None None e = refl
same_value None (Some n) e = cc
same_value (Some m) None e = cc
same_value (Some m) (Some n) e = ap (λ (v : ℕ). Some v) (eqb-true m n e)

-- a change of a value goes from the value that is there
pub old_is : (there old new : Option ℕ) → is_value_change there old new ≡ true → old ≡ there
old_is there old new e = same_value old there (and_parts (option_eq nat_eq old there) (is_some old || is_some new) e).0

value_itself : (o : Option ℕ) → option_eq nat_eq o o ≡ true
value_itself None = refl
value_itself (Some n) = eq-eqb n n refl

value_set : (there : Option ℕ) (value : ℕ) → is_value_change there there (Some value) ≡ true
value_set there value = and_from (option_eq nat_eq there there) _ (value_itself there) (or_right (is_some there) true refl)

value_taken : (there : Option ℕ) (value : ℕ) → there ≡ Some value → is_value_change there (Some value) None ≡ true
value_taken there value is =
    and_from (option_eq nat_eq (Some value) there) true (ap (option_eq nat_eq (Some value)) is ∙ value_itself (Some value)) refl

pub comes_to : (w : What) (set : List Element) (b : Body) → complete w set ≡ Ok b → is_change_of set b ≡ true
comes_to w set b h = by w (completion w set b h)
  where
    so : (x : Body) → x ≡ b → is_change_of set x ≡ true → is_change_of set b ≡ true
    so x is c = subst (λ (y : Body). is_change_of set y ≡ true) is c

    by : (w : What) → IsCompletion w set b → is_change_of set b ≡ true
    by (what.AddNode id) c = so (body.NodeAdded id) c.0 (not_from_false (has_node set id) c.1)
    by (what.RemoveNode id) c =
        so (body.NodeRemoved id) c.0 (and_from (has_node set id) _ c.1 (not_from_false (list_any (needs_node id) set) c.2))
    by (what.AddEdge directed id src dst) c =
        so (body.EdgeAdded directed id src dst) c.0 (and_from (not (is_some (edge_of set id))) _ (not_from_false (is_some (edge_of set id)) c.1) c.2)
    by (what.RemoveEdge id) c =
        let x = element.Edge c.directed c.id c.src c.dst in
        let same_id : c.id ≡ id = eqb-true c.id id (found_in (is_edge id) set x c.found_is).1 in
        let there : is_found (edge_of set c.id) x ≡ true =
        ap (λ (k : ℕ). is_found (edge_of set k) x) same_id ∙ ap (λ (o : Option Element). is_found o x) c.found_is ∙ same_itself x in
        let free : list_any (needs_edge c.id) set ≡ false = ap (λ (k : ℕ). list_any (needs_edge k) set) same_id ∙ c.free in
        so (body.EdgeRemoved c.directed c.id c.src c.dst) c.is (and_from (is_found (edge_of set c.id) x) _ there (not_from_false (list_any (needs_edge c.id) set) free))
    by (what.SetNode id key value) c =
        so (body.NodeAttr key id (node_value set id key) (Some value)) c.0 (and_from (has_node set id) _ c.1 (value_set (node_value set id key) value))
    by (what.UnsetNode id key) c =
        so (body.NodeAttr key id (Some c.0.value) None) c.0.is (and_from (has_node set id) _ c.1 (value_taken (node_value set id key) c.0.value c.0.found_is))
    by (what.SetEdge id key value) c =
        so (body.EdgeAttr key id (edge_value set id key) (Some value)) c.0 (and_from (is_some (edge_of set id)) _ c.1 (value_set (edge_value set id key) value))
    by (what.UnsetEdge id key) c =
        so (body.EdgeAttr key id (Some c.0.value) None) c.0.is (and_from (is_some (edge_of set id)) _ c.1 (value_taken (edge_value set id key) c.0.value c.0.found_is))
    by (what.Message src dst value) c = so (body.Message src dst value) c.0 c.1

-- ---- what a list of changes comes to

-- the event of a change that comes to one
pub record Comes (earliest : ℕ) (set : List Element) (c : Change) (e : Event) : Type 0 where
  pub time : e.time ≡ c.time
  pub late : earliest ≤ c.time
  pub body : complete c.what set ≡ Ok e.body

event_comes : (earliest : ℕ) (set : List Element) (c : Change) (e : Event) → event_of earliest set c ≡ Ok e → Comes earliest set c e
event_comes earliest set c e h = by_time (nat_lt c.time earliest) refl h
  where
    by_body : (r : Result Body ℕ) → complete c.what set ≡ r → nat_lt c.time earliest ≡ false
        → on_value (λ (b : Body). record { time = c.time; body = b }) r ≡ Ok e → Comes earliest set c e
    by_body (Err x) is late k = cc
    by_body (Ok b) is late k =
        let s : (let x : Event = record { time = c.time; body = b } in x) ≡ e = cc in
        subst (λ (x : Event). Comes earliest set c x) s (record { time = refl; late = ltb-false c.time earliest late; body = is })

    by_time : (early : Bool) → nat_lt c.time earliest ≡ early
        → cond early (Err REASON_TIME) (on_value (λ (b : Body). record { time = c.time; body = b }) (complete c.what set)) ≡ Ok e → Comes earliest set c e
    by_time true is k = cc
    by_time false is k = by_body (complete c.what set) refl is k

-- each change comes to its event after those before it
abbrev pub AllCome : ℕ → List Element → List (Option Change) → List Event → Type 0
AllCome earliest set [] [] = Unit {0}
AllCome earliest set [] (e ∷ events) = ⊥
AllCome earliest set (None ∷ changes) events = ⊥
AllCome earliest set (Some c ∷ changes) [] = ⊥
AllCome earliest set (Some c ∷ changes) (e ∷ events) = Comes earliest set c e × AllCome e.time (forwards set e) changes events

pub all_come : (n earliest : ℕ) (set : List Element) (changes : List (Option Change)) (events : List Event)
    → completed n earliest set changes ≡ Ok events → AllCome earliest set changes events
all_come n earliest set [] [] h = tt
all_come n earliest set [] (e ∷ events) h = cc
all_come n earliest set (None ∷ changes) events h = cc
all_come n earliest set (Some c ∷ changes) events h =
    by_event (event_of earliest set c) refl h (λ e more k. all_come (n + 1) e.time (forwards set e) changes more k)
  where
    by_rest : (e : Event) (r : Result (List Event) (ℕ × ℕ)) → event_of earliest set c ≡ Ok e
        → on_value (λ (es : List Event). e ∷ es) r ≡ Ok events
        → ((more : List Event) → r ≡ Ok more → AllCome e.time (forwards set e) changes more)
        → AllCome earliest set (Some c ∷ changes) events
    by_rest e (Err x) is k next = cc
    by_rest e (Ok more) is k next =
        let s : e ∷ more ≡ events = cc in
        subst (λ (es : List Event). AllCome earliest set (Some c ∷ changes) es) s (event_comes earliest set c e is, next more refl)

    by_event : (r : Result Event ℕ) → event_of earliest set c ≡ r
        → go_on n (λ e. completed (n + 1) e.time (forwards set e) changes) r ≡ Ok events
        → ((e : Event) (more : List Event) → completed (n + 1) e.time (forwards set e) changes ≡ Ok more → AllCome e.time (forwards set e) changes more)
        → AllCome earliest set (Some c ∷ changes) events
    by_event (Err x) is k next = cc
    by_event (Ok e) is k next = by_rest e (completed (n + 1) e.time (forwards set e) changes) is k (next e)

-- as many events as changes
pub as_many : (earliest : ℕ) (set : List Element) (changes : List (Option Change)) (events : List Event)
    → AllCome earliest set changes events → length events ≡ length changes
as_many earliest set [] [] h = refl
as_many earliest set [] (e ∷ events) h = absurd h
as_many earliest set (None ∷ changes) events h = absurd h
as_many earliest set (Some c ∷ changes) [] h = absurd h
as_many earliest set (Some c ∷ changes) (e ∷ events) h = omega (arith, as_many e.time (forwards set e) changes events h.1)

-- their times are those of the changes
pub times_fit : (earliest : ℕ) (set : List Element) (changes : List (Option Change)) (events : List Event)
    → AllCome earliest set changes events → All (λ c. IfSome c (λ (c : Change). c.time ≤ TIME_MAX)) changes → All (λ (e : Event). e.time ≤ TIME_MAX) events
times_fit earliest set [] [] h f = All-nil (λ (e : Event). e.time ≤ TIME_MAX)
times_fit earliest set [] (e ∷ events) h f = absurd h
times_fit earliest set (None ∷ changes) events h f = absurd h
times_fit earliest set (Some c ∷ changes) [] h f = absurd h
times_fit earliest set (Some c ∷ changes) (e ∷ events) h f =
    let here : c.time ≤ TIME_MAX = All-head (λ c. IfSome c (λ (c : Change). c.time ≤ TIME_MAX)) (Some c) changes f in
    All-cons (λ (e : Event). e.time ≤ TIME_MAX) e events (omega (arith, here, h.0.time))
    (times_fit e.time (forwards set e) changes events h.1 (All-tail (λ c. IfSome c (λ (c : Change). c.time ≤ TIME_MAX)) (Some c) changes f))

-- ---- events that are changes one after another

pub made_come : (earliest : ℕ) (set : List Element) (changes : List (Option Change)) (events : List Event)
    → AllCome earliest set changes events → AreMadeByChanges set events
made_come earliest set [] [] h = tt
made_come earliest set [] (e ∷ events) h = absurd h
made_come earliest set (None ∷ changes) events h = absurd h
made_come earliest set (Some c ∷ changes) [] h = absurd h
made_come earliest set (Some c ∷ changes) (e ∷ events) h = (comes_to c.what set e.body h.0.body, made_come e.time (forwards set e) changes events h.1)

pub made_joined : (set : List Element) (xs ys : List Event) → AreMadeByChanges set xs → AreMadeByChanges (replay_from set xs) ys → AreMadeByChanges set (xs ++ ys)
made_joined set [] ys first more = more
made_joined set (e ∷ xs) ys first more = (first.0, made_joined (forwards set e) xs ys first.1 more)

-- those before some of them, and those behind
pub made_before : (set : List Element) (xs ys : List Event) → AreMadeByChanges set (xs ++ ys) → AreMadeByChanges set xs
made_before set [] ys made = tt
made_before set (e ∷ xs) ys made = (made.0, made_before (forwards set e) xs ys made.1)

pub made_behind : (set : List Element) (xs ys : List Event) → AreMadeByChanges set (xs ++ ys) → AreMadeByChanges (replay_from set xs) ys
made_behind set [] ys made = made
made_behind set (e ∷ xs) ys made = made_behind (forwards set e) xs ys made.1

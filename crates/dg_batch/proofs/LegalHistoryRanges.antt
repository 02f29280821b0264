-- The ids and the numbers of names in events are those of changes, and so are in their ranges.
use Rattle.std.proofs.Common.{◌≡◌, ℕ, ◌<◌, ◌≤◌, ◌^◌, Bool, true, false, not, List, [], ◌∷◌, ◌++◌, Option, Some, None, Ok, if◌then◌else◌, length, find, refl, sym, ◌∙◌, ap, subst, arith}
use Rattle.std.specs.Prelude.{IfSome, IsTrue, nat_eq, option_and_then}
use Rattle.std.specs.List.{All}
use Rattle.std.specs.Option.{option_map, option_eq}
use Rattle.std.proofs.lemmas.List.{get_or_append_left}
use Rattle.std.proofs.lemmas.List.Elements.{All-nil, All-cons, All-head, All-tail, All-filter}
use Rattle.dg_graph.specs.declared.element.Element.{Element}
use Rattle.dg_graph.specs.declared.element.Element.TheVariants as element
use Rattle.dg_graph.specs.declared.event.Body.{Body}
use Rattle.dg_graph.specs.declared.event.Body.TheVariants as body
use Rattle.dg_graph.specs.declared.event.Change.{Change}
use Rattle.dg_graph.specs.declared.event.Event.{Event}
use Rattle.dg_graph.specs.declared.event.What.{What}
use Rattle.dg_graph.specs.declared.event.What.TheVariants as what
use Rattle.dg_graph.specs.declared.limits.TheConstants.{TIME_MAX}
use Rattle.dg_changes.specs.Batch.{changes_after, names_after}
use Rattle.dg_graph.specs.Completion.{is_edge, node_value, edge_value, is_node_value, is_edge_value, value_in, complete, has_key}
use Rattle.dg_graph.specs.Effect.{forwards, removed_by, added_by, moved}
use Rattle.dg_graph.specs.Elements.{before, same, put, with_one, without}
use Rattle.dg_changes.specs.ChangeGrammar.{WhatByText, Plain, Sets_node, Unsets_node, Sets_edge, Unsets_edge, Sends, ChangeByText, named, change_with, what_in}
use Rattle.dg_history.specs.LegalHistory.{FitsBody}
use Rattle.dg_text.specs.Names.{added, is_key, is_name, name_text}
use Rattle.dg_graph.specs.Replay.{replay_from}
use Rattle.dg_graph.proofs.Completions.{AllCome, IsCompletion, completion}
use Rattle.dg_batch.proofs.NamesAfter.{Grows, Has, grows_none, grows_both, added_grows, added_has, has_more, key_is_name, number_within, text_is}
use Rattle.dg_batch.proofs.ChangeGrammarRanges.{AskedFits, PlainFits, SaidFits}
use Rattle.dg_append.specs.AddedBatches.{WhatHasNamesThere}

-- Ids of which the fact `I` holds, and numbers of names below n: in a change, in an element and in what
-- changes.
abbrev pub WhatFits : (ℕ → Type 0) → ℕ → What → Type 0
WhatFits I n (what.AddNode id) = I id
WhatFits I n (what.RemoveNode id) = I id
WhatFits I n (what.AddEdge directed id src dst) = I id × I src × I dst
WhatFits I n (what.RemoveEdge id) = I id
WhatFits I n (what.SetNode id key value) = I id × (key < n) × (value < n)
WhatFits I n (what.UnsetNode id key) = I id × (key < n)
WhatFits I n (what.SetEdge id key value) = I id × (key < n) × (value < n)
WhatFits I n (what.UnsetEdge id key) = I id × (key < n)
WhatFits I n (what.Message src dst value) = I src × I dst × (value < n)

abbrev pub ElementFits : (ℕ → Type 0) → ℕ → Element → Type 0
ElementFits I n (element.Node id) = Unit {0}
ElementFits I n (element.Edge directed id src dst) = I id × I src × I dst
ElementFits I n (element.NodeAttr id key value) = value < n
ElementFits I n (element.EdgeAttr id key value) = value < n
ElementFits I n (element.Message src dst value) = Unit {0}

abbrev pub BodyFits : (ℕ → Type 0) → ℕ → Body → Type 0
BodyFits I n (body.NodeAdded id) = I id
BodyFits I n (body.NodeRemoved id) = I id
BodyFits I n (body.EdgeAdded directed id src dst) = I id × I src × I dst
BodyFits I n (body.EdgeRemoved directed id src dst) = I id × I src × I dst
BodyFits I n (body.NodeAttr key id old new) = I id × (key < n) × IfSome old (λ v. v < n) × IfSome new (λ v. v < n)
BodyFits I n (body.EdgeAttr key id old new) = I id × (key < n) × IfSome old (λ v. v < n) × IfSome new (λ v. v < n)
BodyFits I n (body.Message src dst value) = I src × I dst × (value < n)

-- ---- what a set has

found_fits : (I : ℕ → Type 0) (n : ℕ) (p : Element → Bool) (xs : List Element) (x : Element) → All (ElementFits I n) xs → find p xs ≡ Some x → ElementFits I n x
found_fits I n p [] x f h = cc
found_fits I n p (y ∷ xs) x f h = go (p y) h (λ e. found_fits I n p xs x (All-tail (ElementFits I n) y xs f) e)
  where
    go : (b : Bool) → (if b then Some y else find p xs) ≡ Some x → (find p xs ≡ Some x → ElementFits I n x) → ElementFits I n x
    go true e later = let s : y ≡ x = cc in subst (ElementFits I n) s (All-head (ElementFits I n) y xs f)
    go false e later = later e

put_fits : (I : ℕ → Type 0) (n : ℕ) (x : Element) (set : List Element) → ElementFits I n x → All (ElementFits I n) set → All (ElementFits I n) (put x set)
put_fits I n x [] h f = All-cons (ElementFits I n) x [] h f
put_fits I n x (y ∷ set) h f =
    go (before x y) (same x y) (put_fits I n x set h (All-tail (ElementFits I n) y set f))
  where
    go : (a b : Bool) → All (ElementFits I n) (put x set) → All (ElementFits I n) (if a then x ∷ y ∷ set else (if b then y ∷ set else y ∷ put x set))
    go true b more = All-cons (ElementFits I n) x (y ∷ set) h f
    go false true more = f
    go false false more = All-cons (ElementFits I n) y (put x set) (All-head (ElementFits I n) y set f) more

without_fits : (I : ℕ → Type 0) (n : ℕ) (set : List Element) (o : Option Element) → All (ElementFits I n) set → All (ElementFits I n) (without set o)
without_fits I n set None f = f
without_fits I n set (Some x) f = All-filter (λ y. not (same x y)) (ElementFits I n) set f

with_fits : (I : ℕ → Type 0) (n : ℕ) (set : List Element) (o : Option Element) → IfSome o (ElementFits I n) → All (ElementFits I n) set → All (ElementFits I n) (with_one set o)
with_fits I n set None h f = f
with_fits I n set (Some x) h f = put_fits I n x set h f

moved_fits : (I : ℕ → Type 0) (n : ℕ) (make : ℕ → Element) (value other : Option ℕ) → ((v : ℕ) → v < n → ElementFits I n (make v)) → IfSome value (λ v. v < n)
    → IfSome (moved make value other) (ElementFits I n)
moved_fits I n make value other fits h = by (option_eq nat_eq value other) value h
  where
    by : (b : Bool) (o : Option ℕ) → IfSome o (λ v. v < n) → IfSome (if b then None else option_map make o) (ElementFits I n)
    by true o k = tt
    by false None k = tt
    by false (Some v) k = fits v k

added_fits : (I : ℕ → Type 0) (n : ℕ) (b : Body) → BodyFits I n b → IfSome (added_by b) (ElementFits I n)
added_fits I n (body.NodeAdded id) h = tt
added_fits I n (body.NodeRemoved id) h = tt
added_fits I n (body.EdgeAdded directed id src dst) h = h
added_fits I n (body.EdgeRemoved directed id src dst) h = tt
added_fits I n (body.NodeAttr key id old new) h = moved_fits I n (element.NodeAttr id key) new old (λ v k. k) h.3
added_fits I n (body.EdgeAttr key id old new) h = moved_fits I n (element.EdgeAttr id key) new old (λ v k. k) h.3
added_fits I n (body.Message src dst value) h = tt

pub set_fits : (I : ℕ → Type 0) (n : ℕ) (set : List Element) (e : Event) → BodyFits I n e.body → All (ElementFits I n) set → All (ElementFits I n) (forwards set e)
set_fits I n set e h f = with_fits I n (without set (removed_by e.body)) (added_by e.body) (added_fits I n e.body h) (without_fits I n set (removed_by e.body) f)

pub replay_fits : (I : ℕ → Type 0) (n : ℕ) (set : List Element) (events : List Event) → All (λ (e : Event). BodyFits I n e.body) events → All (ElementFits I n) set
    → All (ElementFits I n) (replay_from set events)
replay_fits I n set [] h f = f
replay_fits I n set (e ∷ events) h f =
    replay_fits I n (forwards set e) events (All-tail (λ (e : Event). BodyFits I n e.body) e events h)
    (set_fits I n set e (All-head (λ (e : Event). BodyFits I n e.body) e events h) f)

-- ---- what a change comes to

value_fits : (I : ℕ → Type 0) (n : ℕ) (o : Option Element) → ((x : Element) → o ≡ Some x → ElementFits I n x) → IfSome (option_and_then value_in o) (λ v. v < n)
value_fits I n None h = tt
value_fits I n (Some (element.Node id)) h = tt
value_fits I n (Some (element.Edge directed id src dst)) h = tt
value_fits I n (Some (element.NodeAttr id key value)) h = h (element.NodeAttr id key value) refl
value_fits I n (Some (element.EdgeAttr id key value)) h = h (element.EdgeAttr id key value) refl
value_fits I n (Some (element.Message src dst value)) h = tt

pub body_fits : (I : ℕ → Type 0) (n : ℕ) (w : What) (set : List Element) (b : Body) → WhatFits I n w → All (ElementFits I n) set → complete w set ≡ Ok b → BodyFits I n b
body_fits I n w set b f all h = by w f (completion w set b h)
  where
    so : (x : Body) → x ≡ b → BodyFits I n x → BodyFits I n b
    so x is fits = subst (BodyFits I n) is fits

    found : (t : Element → Bool) → IfSome (option_and_then value_in (find t set)) (λ v. v < n)
    found t = value_fits I n (find t set) (λ x e. found_fits I n t set x all e)

    taken : (t : Element → Bool) (v : ℕ) → option_and_then value_in (find t set) ≡ Some v → v < n
    taken t v is = subst (λ (o : Option ℕ). IfSome o (λ v. v < n)) is (found t)

    by : (w : What) → WhatFits I n w → IsCompletion w set b → BodyFits I n b
    by (what.AddNode id) f c = so (body.NodeAdded id) c.0 f
    by (what.RemoveNode id) f c = so (body.NodeRemoved id) c.0 f
    by (what.AddEdge directed id src dst) f c = so (body.EdgeAdded directed id src dst) c.0 f
    by (what.RemoveEdge id) f c =
        so (body.EdgeRemoved c.directed c.id c.src c.dst) c.is (found_fits I n (is_edge id) set (element.Edge c.directed c.id c.src c.dst) all c.found_is)
    by (what.SetNode id key value) f c =
        so (body.NodeAttr key id (node_value set id key) (Some value)) c.0 (f.0, f.1, found (is_node_value id key), f.2)
    by (what.UnsetNode id key) f c =
        so (body.NodeAttr key id (Some c.0.value) None) c.0.is (f.0, f.1, taken (is_node_value id key) c.0.value c.0.found_is, tt)
    by (what.SetEdge id key value) f c =
        so (body.EdgeAttr key id (edge_value set id key) (Some value)) c.0 (f.0, f.1, found (is_edge_value id key), f.2)
    by (what.UnsetEdge id key) f c =
        so (body.EdgeAttr key id (Some c.0.value) None) c.0.is (f.0, f.1, taken (is_edge_value id key) c.0.value c.0.found_is, tt)
    by (what.Message src dst value) f c = so (body.Message src dst value) c.0 f

pub events_fit : (I : ℕ → Type 0) (n earliest : ℕ) (set : List Element) (changes : List (Option Change)) (events : List Event)
    → AllCome earliest set changes events → All (λ c. IfSome c (λ (c : Change). WhatFits I n c.what)) changes → All (ElementFits I n) set → All (λ (e : Event). BodyFits I n e.body) events
events_fit I n earliest set [] [] h f all = All-nil (λ (e : Event). BodyFits I n e.body)
events_fit I n earliest set [] (e ∷ events) h f all = absurd h
events_fit I n earliest set (None ∷ changes) events h f all = absurd h
events_fit I n earliest set (Some c ∷ changes) [] h f all = absurd h
events_fit I n earliest set (Some c ∷ changes) (e ∷ events) h f all =
    let here : BodyFits I n e.body = body_fits I n c.what set e.body (All-head (λ c. IfSome c (λ (c : Change). WhatFits I n c.what)) (Some c) changes f) all h.0.body in
    All-cons (λ (e : Event). BodyFits I n e.body) e events here
    (events_fit I n e.time (forwards set e) changes events h.1 (All-tail (λ c. IfSome c (λ (c : Change). WhatFits I n c.what)) (Some c) changes f) (set_fits I n set e here all))

-- ---- the key of a change and of its event

-- the key of a change may be a key, in this list of names
abbrev pub HasKey : List (List ℕ) → What → Type 0
HasKey names (what.AddNode id) = Unit {0}
HasKey names (what.RemoveNode id) = Unit {0}
HasKey names (what.AddEdge directed id src dst) = Unit {0}
HasKey names (what.RemoveEdge id) = Unit {0}
HasKey names (what.SetNode id key value) = is_key (name_text names key) ≡ true
HasKey names (what.UnsetNode id key) = is_key (name_text names key) ≡ true
HasKey names (what.SetEdge id key value) = is_key (name_text names key) ≡ true
HasKey names (what.UnsetEdge id key) = is_key (name_text names key) ≡ true
HasKey names (what.Message src dst value) = Unit {0}

body_key : (names : List (List ℕ)) (w : What) (set : List Element) (b : Body) → HasKey names w → complete w set ≡ Ok b → IsTrue (has_key names b)
body_key names w set b f h = by w f (completion w set b h)
  where
    so : (x : Body) → x ≡ b → IsTrue (has_key names x) → IsTrue (has_key names b)
    so x is has = subst (λ (y : Body). IsTrue (has_key names y)) is has

    by : (w : What) → HasKey names w → IsCompletion w set b → IsTrue (has_key names b)
    by (what.AddNode id) f c = so (body.NodeAdded id) c.0 refl
    by (what.RemoveNode id) f c = so (body.NodeRemoved id) c.0 refl
    by (what.AddEdge directed id src dst) f c = so (body.EdgeAdded directed id src dst) c.0 refl
    by (what.RemoveEdge id) f c = so (body.EdgeRemoved c.directed c.id c.src c.dst) c.is refl
    by (what.SetNode id key value) f c = so (body.NodeAttr key id (node_value set id key) (Some value)) c.0 f
    by (what.UnsetNode id key) f c = so (body.NodeAttr key id (Some c.0.value) None) c.0.is f
    by (what.SetEdge id key value) f c = so (body.EdgeAttr key id (edge_value set id key) (Some value)) c.0 f
    by (what.UnsetEdge id key) f c = so (body.EdgeAttr key id (Some c.0.value) None) c.0.is f
    by (what.Message src dst value) f c = so (body.Message src dst value) c.0 refl

pub events_keys : (names : List (List ℕ)) (earliest : ℕ) (set : List Element) (changes : List (Option Change)) (events : List Event)
    → AllCome earliest set changes events → All (λ c. IfSome c (λ (c : Change). HasKey names c.what)) changes → All (λ (e : Event). IsTrue (has_key names e.body)) events
events_keys names earliest set [] [] h f = All-nil (λ (e : Event). IsTrue (has_key names e.body))
events_keys names earliest set [] (e ∷ events) h f = absurd h
events_keys names earliest set (None ∷ changes) events h f = absurd h
events_keys names earliest set (Some c ∷ changes) [] h f = absurd h
events_keys names earliest set (Some c ∷ changes) (e ∷ events) h f =
    All-cons (λ (e : Event). IsTrue (has_key names e.body)) e events
    (body_key names c.what set e.body (All-head (λ c. IfSome c (λ (c : Change). HasKey names c.what)) (Some c) changes f) h.0.body)
    (events_keys names e.time (forwards set e) changes events h.1 (All-tail (λ c. IfSome c (λ (c : Change). HasKey names c.what)) (Some c) changes f))

-- ---- what the lines of a batch ask for, by the numbers of its names

asked_grows : (names : List (List ℕ)) (asked : WhatByText) → AskedFits asked → Grows names (named names asked)
asked_grows names (Plain w) f = grows_none names
asked_grows names (Sets_node id key value) f =
    grows_both names (added names key) (added (added names key) value) (added_grows names key (key_is_name key f.1)) (added_grows (added names key) value f.2)
asked_grows names (Unsets_node id key) f = added_grows names key (key_is_name key f.1)
asked_grows names (Sets_edge id key value) f =
    grows_both names (added names key) (added (added names key) value) (added_grows names key (key_is_name key f.1)) (added_grows (added names key) value f.2)
asked_grows names (Unsets_edge id key) f = added_grows names key (key_is_name key f.1)
asked_grows names (Sends src dst value) f = added_grows names value f.2

pub lines_grow : (names : List (List ℕ)) (lines : List (Option ChangeByText)) → All (λ s. IfSome s SaidFits) lines → Grows names (names_after names lines)
lines_grow names [] f = grows_none names
lines_grow names (None ∷ lines) f = lines_grow names lines (All-tail (λ s. IfSome s SaidFits) None lines f)
lines_grow names (Some s ∷ lines) f =
    grows_both names (named names s.asked) (names_after (named names s.asked) lines)
    (asked_grows names s.asked (All-head (λ s. IfSome s SaidFits) (Some s) lines f).1)
    (lines_grow (named names s.asked) lines (All-tail (λ s. IfSome s SaidFits) (Some s) lines f))

-- the ids, the numbers of names and the key of a change are in their ranges, in this list of names
pub record ChangeFits (names : List (List ℕ)) (c : Change) : Type 0 where
  pub time : c.time ≤ TIME_MAX
  pub numbers : WhatFits (λ n. n < 2 ^ 64) (length names) c.what
  pub key : HasKey names c.what

plain_fits : (n : ℕ) (w : What) → PlainFits w → WhatFits (λ n. n < 2 ^ 64) n w
plain_fits n (what.AddNode id) f = f
plain_fits n (what.RemoveNode id) f = f
plain_fits n (what.AddEdge directed id src dst) f = f
plain_fits n (what.RemoveEdge id) f = f
plain_fits n (what.SetNode id key value) f = absurd f
plain_fits n (what.UnsetNode id key) f = absurd f
plain_fits n (what.SetEdge id key value) f = absurd f
plain_fits n (what.UnsetEdge id key) f = absurd f
plain_fits n (what.Message src dst value) f = absurd f

plain_key : (names : List (List ℕ)) (w : What) → PlainFits w → HasKey names w
plain_key names (what.AddNode id) f = tt
plain_key names (what.RemoveNode id) f = tt
plain_key names (what.AddEdge directed id src dst) f = tt
plain_key names (what.RemoveEdge id) f = tt
plain_key names (what.SetNode id key value) f = absurd f
plain_key names (what.UnsetNode id key) f = absurd f
plain_key names (what.SetEdge id key value) f = absurd f
plain_key names (what.UnsetEdge id key) f = absurd f
plain_key names (what.Message src dst value) f = absurd f

-- the key and the value that were added
key_there : (names : List (List ℕ)) (key value : List ℕ) → is_name value ≡ true → Has (added (added names key) value) key
key_there names key value f = has_more (added names key) (added (added names key) value) key (added_grows (added names key) value f) (added_has names key)

asked_numbers : (names new : List (List ℕ)) (asked : WhatByText) → AskedFits asked → Grows (named names asked) new
    → WhatFits (λ n. n < 2 ^ 64) (length new) (what_in (named names asked) asked)
asked_numbers names new (Plain w) f g = plain_fits (length new) w f
asked_numbers names new (Sets_node id key value) f g =
    let all = added (added names key) value in
    (f.0, number_within all new key g (key_there names key value f.2), number_within all new value g (added_has (added names key) value))
asked_numbers names new (Unsets_node id key) f g = (f.0, number_within (added names key) new key g (added_has names key))
asked_numbers names new (Sets_edge id key value) f g =
    let all = added (added names key) value in
    (f.0, number_within all new key g (key_there names key value f.2), number_within all new value g (added_has (added names key) value))
asked_numbers names new (Unsets_edge id key) f g = (f.0, number_within (added names key) new key g (added_has names key))
asked_numbers names new (Sends src dst value) f g = (f.0, f.1, number_within (added names value) new value g (added_has names value))

asked_key : (names new : List (List ℕ)) (asked : WhatByText) → AskedFits asked → Grows (named names asked) new → HasKey new (what_in (named names asked) asked)
asked_key names new (Plain w) f g = plain_key new w f
asked_key names new (Sets_node id key value) f g =
    ap is_key (text_is (added (added names key) value) new key g (key_there names key value f.2)) ∙ f.1
asked_key names new (Unsets_node id key) f g = ap is_key (text_is (added names key) new key g (added_has names key)) ∙ f.1
asked_key names new (Sets_edge id key value) f g =
    ap is_key (text_is (added (added names key) value) new key g (key_there names key value f.2)) ∙ f.1
asked_key names new (Unsets_edge id key) f g = ap is_key (text_is (added names key) new key g (added_has names key)) ∙ f.1
asked_key names new (Sends src dst value) f g = tt

pub changes_fit : (names new : List (List ℕ)) (lines : List (Option ChangeByText)) → All (λ s. IfSome s SaidFits) lines → Grows (names_after names lines) new
    → All (λ c. IfSome c (ChangeFits new)) (changes_after names lines)
changes_fit names new [] f g = All-nil (λ c. IfSome c (ChangeFits new))
changes_fit names new (None ∷ lines) f g =
    All-cons (λ c. IfSome c (ChangeFits new)) None (changes_after names lines) tt (changes_fit names new lines (All-tail (λ s. IfSome s SaidFits) None lines f) g)
changes_fit names new (Some s ∷ lines) f g =
    let said : SaidFits s = All-head (λ s. IfSome s SaidFits) (Some s) lines f in
    let more = All-tail (λ s. IfSome s SaidFits) (Some s) lines f in
    let grown : Grows (named names s.asked) new =
    grows_both (named names s.asked) (names_after (named names s.asked) lines) new (lines_grow (named names s.asked) lines more) g in
    All-cons (λ c. IfSome c (ChangeFits new)) (Some (change_with names s)) (changes_after (named names s.asked) lines)
    (record { time = said.0; numbers = asked_numbers names new s.asked said.1 grown; key = asked_key names new s.asked said.1 grown })
    (changes_fit (named names s.asked) new lines more g)

-- ---- the ranges that are asked for elsewhere

pub legal_body : (n : ℕ) (b : Body) → BodyFits (λ n. n < 2 ^ 64) n b → FitsBody n b
legal_body n (body.NodeAdded id) h = h
legal_body n (body.NodeRemoved id) h = h
legal_body n (body.EdgeAdded directed id src dst) h = h
legal_body n (body.EdgeRemoved directed id src dst) h = h
legal_body n (body.NodeAttr key id old new) h = h
legal_body n (body.EdgeAttr key id old new) h = h
legal_body n (body.Message src dst value) h = h

pub from_legal : (n : ℕ) (b : Body) → FitsBody n b → BodyFits (λ n. n < 2 ^ 64) n b
from_legal n (body.NodeAdded id) h = h
from_legal n (body.NodeRemoved id) h = h
from_legal n (body.EdgeAdded directed id src dst) h = h
from_legal n (body.EdgeRemoved directed id src dst) h = h
from_legal n (body.NodeAttr key id old new) h = h
from_legal n (body.EdgeAttr key id old new) h = h
from_legal n (body.Message src dst value) h = h

pub what_named : (n : ℕ) (w : What) → WhatFits (λ n. n < 2 ^ 64) n w → WhatHasNamesThere n w
what_named n (what.AddNode id) h = tt
what_named n (what.RemoveNode id) h = tt
what_named n (what.AddEdge directed id src dst) h = tt
what_named n (what.RemoveEdge id) h = tt
what_named n (what.SetNode id key value) h = (h.1, h.2)
what_named n (what.UnsetNode id key) h = h.1
what_named n (what.SetEdge id key value) h = (h.1, h.2)
what_named n (what.UnsetEdge id key) h = h.1
what_named n (what.Message src dst value) h = h.2

-- with more names they fit too
some_more : (n m : ℕ) (o : Option ℕ) → n ≤ m → IfSome o (λ v. v < n) → IfSome o (λ v. v < m)
some_more n m None le h = tt
some_more n m (Some v) le h = omega (arith, le, h)

pub body_more : (n m : ℕ) (b : Body) → n ≤ m → FitsBody n b → FitsBody m b
body_more n m (body.NodeAdded id) le h = h
body_more n m (body.NodeRemoved id) le h = h
body_more n m (body.EdgeAdded directed id src dst) le h = h
body_more n m (body.EdgeRemoved directed id src dst) le h = h
body_more n m (body.NodeAttr key id old new) le h = (h.0, omega (arith, le, h.1), some_more n m old le h.2, some_more n m new le h.3)
body_more n m (body.EdgeAttr key id old new) le h = (h.0, omega (arith, le, h.1), some_more n m old le h.2, some_more n m new le h.3)
body_more n m (body.Message src dst value) le h = (h.0, h.1, omega (arith, le, h.2))

-- and the keys of old names stay
key_more : (names more : List (List ℕ)) (key : ℕ) → key < length names → IsTrue (is_key (name_text names key)) → IsTrue (is_key (name_text (names ++ more) key))
key_more names more key lt h = subst (λ (t : List ℕ). IsTrue (is_key t)) (sym (get_or_append_left names more [] key lt)) h

pub has_key_more : (names more : List (List ℕ)) (b : Body) → FitsBody (length names) b → IsTrue (has_key names b) → IsTrue (has_key (names ++ more) b)
has_key_more names more (body.NodeAdded id) f h = h
has_key_more names more (body.NodeRemoved id) f h = h
has_key_more names more (body.EdgeAdded directed id src dst) f h = h
has_key_more names more (body.EdgeRemoved directed id src dst) f h = h
has_key_more names more (body.NodeAttr key id old new) f h = key_more names more key f.1 h
has_key_more names more (body.EdgeAttr key id old new) f h = key_more names more key f.1 h
has_key_more names more (body.Message src dst value) f h = h

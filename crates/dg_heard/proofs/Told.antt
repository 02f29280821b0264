-- The messages of an instant, as a set: which elements it has, whatever the order of the events.
use Rattle.std.proofs.Common.{◌≡◌, ℕ, Bool, true, false, cond, ◌||◌, List, [], ◌∷◌, ◌++◌, Option, Some, None, IfSome, refl, sym, ap, subst, ◌∙◌}
use Rattle.std.specs.Prelude.{◌==◌}
use Rattle.std.specs.List.{All}
use Rattle.std.specs.Option.{option_to_list}
use Rattle.std.proofs.lemmas.Bool.{false≢true}
use Rattle.std.proofs.lemmas.List.Elements.{All-cons, All-head, All-nil, All-tail}
use Rattle.std.specs.declared.cmp.Ordering.TheVariants.{Less, Equal, Greater}
use Rattle.dg_graph.specs.declared.element.Column.TheVariants as column
use Rattle.dg_graph.specs.declared.element.Element.{Element}
use Rattle.dg_graph.specs.declared.event.Body.{Body}
use Rattle.dg_graph.specs.declared.event.Body.TheVariants as body
use Rattle.dg_graph.specs.declared.event.Event.{Event}
use Rattle.dg_graph.specs.Elements.{column_of, element_cmp, same, IsSet, has, put, with_one}
use Rattle.dg_graph.specs.Replay.{message_of, told_at}
use Rattle.dg_graph.proofs.Sets.{element_exact, has-put, IsSet-put, put_by, same_members}

-- the message of the event, if it is one of this instant
abbrev pub message_at : ℕ → Event → Option Element
message_at t e = cond (e.time == t) (message_of e.body) None

-- ---- an element more, if there is one

or_none : (a : Bool) → a ≡ (a || false)
or_none true = refl
or_none false = refl

or_assoc : (a b c : Bool) → (a || (b || c)) ≡ ((a || b) || c)
or_assoc true b c = refl
or_assoc false b c = refl

pub has-with_one : (set : List Element) (o : Option Element) (q : Element) → has (with_one set o) q ≡ (has (option_to_list o) q || has set q)
has-with_one set None q = refl
has-with_one set (Some x) q = has-put x set q ∙ ap (λ b. b || has set q) (or_none (same q x))

pub IsSet-with_one : (set : List Element) (o : Option Element) → IsSet set → IsSet (with_one set o)
IsSet-with_one set None s = s
IsSet-with_one set (Some x) s = IsSet-put x set s

-- ---- the messages of an instant

-- they are a set
pub IsSet-told : (events : List Event) (t : ℕ) → IsSet (told_at events t)
IsSet-told [] t = tt
IsSet-told (e ∷ events) t = IsSet-with_one (told_at events t) (message_at t e) (IsSet-told events t)

-- it has the message of the first event, and those of the others
pub has-told : (e : Event) (events : List Event) (t : ℕ) (q : Element) → has (told_at (e ∷ events) t) q ≡ (has (option_to_list (message_at t e)) q || has (told_at events t) q)
has-told e events t q = has-with_one (told_at events t) (message_at t e) q

-- it has those of some events, and those of others
pub has-told_append : (a b : List Event) (t : ℕ) (q : Element) → has (told_at (a ++ b) t) q ≡ (has (told_at a t) q || has (told_at b t) q)
has-told_append [] b t q = refl
has-told_append (e ∷ a) b t q =
    let here : Bool = has (option_to_list (message_at t e)) q in
    has-told e (a ++ b) t q ∙ ap (λ c. here || c) (has-told_append a b t q) ∙ or_assoc here (has (told_at a t) q) (has (told_at b t) q)
    ∙ ap (λ c. c || has (told_at b t) q) (sym (has-told e a t q))

-- events that have the same messages of the instant tell the same set
pub told_alike : (a b : List Event) (t : ℕ) → ((q : Element) → has (told_at a t) q ≡ has (told_at b t) q) → told_at a t ≡ told_at b t
told_alike a b t is = same_members (told_at a t) (told_at b t) (IsSet-told a t) (IsSet-told b t) is

-- so do two lists of events of which each part tells the same set
pub told_append_alike : (a b c d : List Event) (t : ℕ) → told_at a t ≡ told_at c t → told_at b t ≡ told_at d t → told_at (a ++ b) t ≡ told_at (c ++ d) t
told_append_alike a b c d t first second =
    told_alike (a ++ b) (c ++ d) t
    (λ q. has-told_append a b t q ∙ (λ i. has (first i) q || has (second i) q) ∙ sym (has-told_append c d t q))

-- an event that is no message of the instant tells nothing
pub told_without : (e : Event) (events : List Event) (t : ℕ) → message_at t e ≡ None → told_at (e ∷ events) t ≡ told_at events t
told_without e events t none = ap (with_one (told_at events t)) none

-- ---- what holds of each of the messages

all_put : (P : Element → Type 0) (x : Element) (set : List Element) → P x → All P set → All P (put x set)
all_put P x [] p all = All-cons P x [] p all
all_put P x (y ∷ set) p all =
    let rest = all_put P x set p (All-tail P y set all) in
    elim (element_cmp x y) as (λ o. All P (put_by o x y set)) [
      | Less ↦ All-cons P x (y ∷ set) p all
      | Equal ↦ all
      | Greater ↦ All-cons P y (put x set) (All-head P y set all) rest
    ]

pub All-with_one : (P : Element → Type 0) (set : List Element) (o : Option Element) → IfSome o P → All P set → All P (with_one set o)
All-with_one P set None p all = all
All-with_one P set (Some x) p all = all_put P x set p all

-- what holds of each message of the instant holds of each element of the set
pub All-told : (P : Element → Type 0) (events : List Event) (t : ℕ) → All (λ (e : Event). IfSome (message_at t e) P) events → All P (told_at events t)
All-told P [] t all = All-nil P
All-told P (e ∷ events) t all =
    let Q = λ (e : Event). IfSome (message_at t e) P in
    All-with_one P (told_at events t) (message_at t e) (All-head Q e events all) (All-told P events t (All-tail Q e events all))

abbrev pub IsMessage : Element → Type 0
IsMessage x = column_of x ≡ column.Transient

pub message_is : (b : Body) → IfSome (message_of b) IsMessage
message_is (body.NodeAdded id) = tt
message_is (body.NodeRemoved id) = tt
message_is (body.EdgeAdded directed id src dst) = tt
message_is (body.EdgeRemoved directed id src dst) = tt
message_is (body.NodeAttr key id old new) = tt
message_is (body.EdgeAttr key id old new) = tt
message_is (body.Message src dst value) = refl

one_is : (t : ℕ) (e : Event) → IfSome (message_at t e) IsMessage
one_is t e = by (e.time == t)
  where
    by : (b : Bool) → IfSome (cond b (message_of e.body) None) IsMessage
    by true = message_is e.body
    by false = tt

-- all of them are messages
pub told_messages : (events : List Event) (t : ℕ) → All IsMessage (told_at events t)
told_messages [] t = All-nil IsMessage
told_messages (e ∷ events) t = All-with_one IsMessage (told_at events t) (message_at t e) (one_is t e) (told_messages events t)

pub has-each : (P : Element → Type 0) (set : List Element) (q : Element) → All P set → has set q ≡ true → P q
has-each P [] q all h = absurd (false≢true h)
has-each P (x ∷ set) q all h = by (same q x) refl h (has-each P set q (All-tail P x set all))
  where
    by : (b : Bool) → same q x ≡ b → (b || has set q) ≡ true → (has set q ≡ true → P q) → P q
    by true is h more = subst P (sym (element_exact q x is)) (All-head P x set all)
    by false is h more = more h

pub told_message : (events : List Event) (t : ℕ) (q : Element) → has (told_at events t) q ≡ true → IsMessage q
told_message events t q h = has-each IsMessage (told_at events t) q (told_messages events t) h

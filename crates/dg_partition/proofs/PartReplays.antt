-- The replay of the events of a part is what the part has of the replay.
--     part_step, part_of_replay      the set after events, and what the part has of it
--     part_at      the graph as of an instant in columns, with the messages of the instant
use Rattle.std.proofs.Common.{◌≡◌, ℕ, Bool, true, false, cond, not, ◌&&◌, ◌||◌, ◌==◌, List, [], ◌∷◌, Option, Some, None, IfSome, filter, refl, sym, ap, ◌∙◌}
use Rattle.std.specs.Prelude.{nat_eq, nat_le, if◌then◌else◌}
use Rattle.std.specs.Option.{option_eq, option_map}
use Rattle.dg_graph.specs.declared.element.Element.{Element}
use Rattle.dg_graph.specs.declared.element.Element.TheVariants as element
use Rattle.dg_graph.specs.declared.event.Body.{Body}
use Rattle.dg_graph.specs.declared.event.Body.TheVariants as body
use Rattle.dg_graph.specs.declared.event.Event.{Event}
use Rattle.dg_graph.specs.Effect.{added_by, forwards, moved, removed_by}
use Rattle.dg_graph.specs.Elements.{IsSet, has, put, same, take_out, with_one, without}
use Rattle.dg_graph.specs.Replay.{events_until, message_of, replay, replay_at, replay_from, told_at}
use Rattle.dg_graph.proofs.ExactEvents.{IsSet-forwards, IsSet-with_one, IsSet-without}
use Rattle.dg_graph.proofs.Sets.{IsSet-filter, IsSet-put, IsSet-take_out, element_exact, has-filter, has-put, has-take_out, same_members}
use Rattle.dg_partition.specs.Owners.{belongs, elements_of_part, events_of_part, is_placed, owner_of, owner_of_body}

-- ---- a filter of a set that is edited

put_kept : (t s h : Bool) → (s ≡ true → t ≡ true) → (t && (s || h)) ≡ (s || (t && h))
put_kept true s h f = refl
put_kept false true h f = f refl
put_kept false false h f = refl

put_lost : (t s h : Bool) → (s ≡ true → t ≡ false) → (t && (s || h)) ≡ (t && h)
put_lost true true h f = cc (f refl)
put_lost true false h f = refl
put_lost false s h f = refl

out_kept : (t s h : Bool) → (t && (not s && h)) ≡ (not s && (t && h))
out_kept true s h = refl
out_kept false true h = refl
out_kept false false h = refl

out_lost : (t s h : Bool) → (s ≡ true → t ≡ false) → (t && (not s && h)) ≡ (t && h)
out_lost true true h f = cc (f refl)
out_lost true false h f = refl
out_lost false s h f = refl

module _ (t : Element → Bool) where
  told : (x q : Element) (b : Bool) → t x ≡ b → same q x ≡ true → t q ≡ b
  told x q b is e = ap t (element_exact q x e) ∙ is

  filter_put : (b : Bool) (x : Element) (set : List Element) → t x ≡ b → IsSet set → filter t (put x set) ≡ cond b (put x (filter t set)) (filter t set)
  filter_put true x set is s =
      same_members (filter t (put x set)) (put x (filter t set)) (IsSet-filter t (put x set) (IsSet-put x set s)) (IsSet-put x (filter t set) (IsSet-filter t set s))
      (λ q. has-filter t (put x set) q ∙ ap (λ b. t q && b) (has-put x set q) ∙ put_kept (t q) (same q x) (has set q) (told x q true is)
      ∙ sym (has-put x (filter t set) q ∙ ap (λ b. same q x || b) (has-filter t set q)))
  filter_put false x set is s =
      same_members (filter t (put x set)) (filter t set) (IsSet-filter t (put x set) (IsSet-put x set s)) (IsSet-filter t set s)
      (λ q. has-filter t (put x set) q ∙ ap (λ b. t q && b) (has-put x set q) ∙ put_lost (t q) (same q x) (has set q) (told x q false is) ∙ sym (has-filter t set q))

  filter_out : (b : Bool) (x : Element) (set : List Element) → t x ≡ b → IsSet set → filter t (take_out x set) ≡ cond b (take_out x (filter t set)) (filter t set)
  filter_out true x set is s =
      same_members (filter t (take_out x set)) (take_out x (filter t set)) (IsSet-filter t (take_out x set) (IsSet-take_out x set s)) (IsSet-take_out x (filter t set) (IsSet-filter t set s))
      (λ q. has-filter t (take_out x set) q ∙ ap (λ b. t q && b) (has-take_out x set q) ∙ out_kept (t q) (same q x) (has set q)
      ∙ sym (has-take_out x (filter t set) q ∙ ap (λ b. not (same q x) && b) (has-filter t set q)))
  filter_out false x set is s =
      same_members (filter t (take_out x set)) (filter t set) (IsSet-filter t (take_out x set) (IsSet-take_out x set s)) (IsSet-filter t set s)
      (λ q. has-filter t (take_out x set) q ∙ ap (λ b. t q && b) (has-take_out x set q) ∙ out_lost (t q) (same q x) (has set q) (told x q false is) ∙ sym (has-filter t set q))

  filter_with : (b : Bool) (o : Option Element) (set : List Element) → IfSome o (λ x. t x ≡ b) → IsSet set → filter t (with_one set o) ≡ cond b (with_one (filter t set) o) (filter t set)
  filter_with true None set is s = refl
  filter_with false None set is s = refl
  filter_with b (Some x) set is s = filter_put b x set is s

  filter_without : (b : Bool) (o : Option Element) (set : List Element) → IfSome o (λ x. t x ≡ b) → IsSet set → filter t (without set o) ≡ cond b (without (filter t set) o) (filter t set)
  filter_without true None set is s = refl
  filter_without false None set is s = refl
  filter_without b (Some x) set is s = filter_out b x set is s

-- ---- an event, and the elements that it names

moved_owner : (make : ℕ → Element) (o : Option ℕ) → ((v : ℕ) → owner_of (make v) ≡ o) → (value other : Option ℕ) → IfSome (moved make value other) (λ x. owner_of x ≡ o)
moved_owner make o is value other = by (option_eq nat_eq value other) value
  where
    by : (b : Bool) (value : Option ℕ) → IfSome (cond b None (option_map make value)) (λ x. owner_of x ≡ o)
    by true value = tt
    by false None = tt
    by false (Some v) = is v

removed_owner : (b : Body) → IfSome (removed_by b) (λ x. owner_of x ≡ owner_of_body b)
removed_owner (body.NodeAdded id) = tt
removed_owner (body.NodeRemoved id) = refl
removed_owner (body.EdgeAdded directed id src dst) = tt
removed_owner (body.EdgeRemoved directed id src dst) = refl
removed_owner (body.NodeAttr key id old new) = moved_owner (element.NodeAttr id key) (Some id) (λ v. refl) old new
removed_owner (body.EdgeAttr key id old new) = moved_owner (element.EdgeAttr id key) (Some id) (λ v. refl) old new
removed_owner (body.Message src dst value) = tt

added_owner : (b : Body) → IfSome (added_by b) (λ x. owner_of x ≡ owner_of_body b)
added_owner (body.NodeAdded id) = refl
added_owner (body.NodeRemoved id) = tt
added_owner (body.EdgeAdded directed id src dst) = refl
added_owner (body.EdgeRemoved directed id src dst) = tt
added_owner (body.NodeAttr key id old new) = moved_owner (element.NodeAttr id key) (Some id) (λ v. refl) new old
added_owner (body.EdgeAttr key id old new) = moved_owner (element.EdgeAttr id key) (Some id) (λ v. refl) new old
added_owner (body.Message src dst value) = tt

message_owner : (b : Body) → IfSome (message_of b) (λ x. owner_of x ≡ owner_of_body b)
message_owner (body.NodeAdded id) = tt
message_owner (body.NodeRemoved id) = tt
message_owner (body.EdgeAdded directed id src dst) = tt
message_owner (body.EdgeRemoved directed id src dst) = tt
message_owner (body.NodeAttr key id old new) = tt
message_owner (body.EdgeAttr key id old new) = tt
message_owner (body.Message src dst value) = refl

pub filters_swap : {X : Type 0} (s t : X → Bool) (xs : List X) → filter s (filter t xs) ≡ filter t (filter s xs)
filters_swap s t [] = refl
filters_swap s t (x ∷ xs) = by (filters_swap s t xs) (s x) (t x) refl refl
  where
    by : filter s (filter t xs) ≡ filter t (filter s xs) → (a b : Bool) → s x ≡ a → t x ≡ b → filter s (cond (t x) (x ∷ filter t xs) (filter t xs)) ≡ filter t (cond (s x) (x ∷ filter s xs) (filter s xs))
    by rest true true f g = (λ i. filter s (cond (g i) (x ∷ filter t xs) (filter t xs))) ∙ (λ i. cond (f i) (x ∷ filter s (filter t xs)) (filter s (filter t xs))) ∙ ap (λ l. x ∷ l) rest
        ∙ sym ((λ i. filter t (cond (f i) (x ∷ filter s xs) (filter s xs))) ∙ (λ i. cond (g i) (x ∷ filter t (filter s xs)) (filter t (filter s xs))))
    by rest true false f g = (λ i. filter s (cond (g i) (x ∷ filter t xs) (filter t xs))) ∙ rest
        ∙ sym ((λ i. filter t (cond (f i) (x ∷ filter s xs) (filter s xs))) ∙ (λ i. cond (g i) (x ∷ filter t (filter s xs)) (filter t (filter s xs))))
    by rest false true f g = (λ i. filter s (cond (g i) (x ∷ filter t xs) (filter t xs))) ∙ (λ i. cond (f i) (x ∷ filter s (filter t xs)) (filter s (filter t xs))) ∙ rest
        ∙ sym (λ i. filter t (cond (f i) (x ∷ filter s xs) (filter s xs)))
    by rest false false f g = (λ i. filter s (cond (g i) (x ∷ filter t xs) (filter t xs))) ∙ rest ∙ sym (λ i. filter t (cond (f i) (x ∷ filter s xs) (filter s xs)))

pub IsSet-told_at : (events : List Event) (t : ℕ) → IsSet (told_at events t)
IsSet-told_at [] t = tt
IsSet-told_at (e ∷ events) t = IsSet-with_one (told_at events t) (if e.time == t then message_of e.body else None) (IsSet-told_at events t)

-- ---- what a part has

module _ (p i : ℕ) where
  pub part_step : (b : Bool) (set : List Element) (e : Event) → belongs p i e ≡ b → IsSet set
      → elements_of_part p i (forwards set e) ≡ cond b (forwards (elements_of_part p i set) e) (elements_of_part p i set)
  part_step b set e is s =
      let r = removed_by e.body in
      let a = added_by e.body in
      let t : Element → Bool = λ x. is_placed p i (owner_of x) in
      let first = filter_without t b r set (placed r (removed_owner e.body)) s in
      let second = filter_with t b a (without set r) (placed a (added_owner e.body)) (IsSet-without set r s) in
      second ∙ by b r a first
    where
      placed : (o : Option Element) → IfSome o (λ x. owner_of x ≡ owner_of_body e.body) → IfSome o (λ x. is_placed p i (owner_of x) ≡ b)
      placed None k = tt
      placed (Some x) k = ap (is_placed p i) k ∙ is

      by : (b : Bool) (r a : Option Element) → elements_of_part p i (without set r) ≡ cond b (without (elements_of_part p i set) r) (elements_of_part p i set)
          → cond b (with_one (elements_of_part p i (without set r)) a) (elements_of_part p i (without set r)) ≡ cond b (with_one (without (elements_of_part p i set) r) a) (elements_of_part p i set)
      by true r a f = ap (λ l. with_one l a) f
      by false r a f = f

  pub part_of_replay : (events : List Event) (set : List Element) → IsSet set
      → elements_of_part p i (replay_from set events) ≡ replay_from (elements_of_part p i set) (events_of_part p i events)
  part_of_replay [] set s = refl
  part_of_replay (e ∷ events) set s =
      part_of_replay events (forwards set e) (IsSet-forwards set e s)
      ∙ ap (λ l. replay_from l (events_of_part p i events)) (part_step (belongs p i e) set e refl s)
      ∙ by (belongs p i e)
    where
      by : (b : Bool) → replay_from (cond b (forwards (elements_of_part p i set) e) (elements_of_part p i set)) (events_of_part p i events)
          ≡ replay_from (elements_of_part p i set) (cond b (e ∷ events_of_part p i events) (events_of_part p i events))
      by true = refl
      by false = refl

  pub part_of_replay_at : (events : List Event) (t : ℕ) → replay_at (events_of_part p i events) t ≡ elements_of_part p i (replay_at events t)
  part_of_replay_at events t =
      ap replay (filters_swap (λ e. nat_le e.time t) (belongs p i) events)
      ∙ sym (part_of_replay (events_until events t) [] tt)

  pub part_of_told : (events : List Event) (t : ℕ) → told_at (events_of_part p i events) t ≡ elements_of_part p i (told_at events t)
  part_of_told [] t = refl
  part_of_told (e ∷ events) t = by (part_of_told events t) (belongs p i e) refl
    where
      one : (b now : Bool) → belongs p i e ≡ b → IfSome (cond now (message_of e.body) None) (λ x. is_placed p i (owner_of x) ≡ b)
      one b false is = tt
      one b true is = at (message_of e.body) (message_owner e.body)
        where
          at : (o : Option Element) → IfSome o (λ x. owner_of x ≡ owner_of_body e.body) → IfSome o (λ x. is_placed p i (owner_of x) ≡ b)
          at None k = tt
          at (Some x) k = ap (is_placed p i) k ∙ is

      by : told_at (events_of_part p i events) t ≡ elements_of_part p i (told_at events t) → (b : Bool) → belongs p i e ≡ b
          → told_at (cond b (e ∷ events_of_part p i events) (events_of_part p i events)) t ≡ elements_of_part p i (with_one (told_at events t) (cond (e.time == t) (message_of e.body) None))
      by rest true is =
          ap (λ l. with_one l (cond (e.time == t) (message_of e.body) None)) rest
          ∙ sym (filter_with (λ x. is_placed p i (owner_of x)) true (cond (e.time == t) (message_of e.body) None) (told_at events t) (one true (e.time == t) is) (IsSet-told_at events t))
      by rest false is =
          rest
          ∙ sym (filter_with (λ x. is_placed p i (owner_of x)) false (cond (e.time == t) (message_of e.body) None) (told_at events t) (one false (e.time == t) is) (IsSet-told_at events t))

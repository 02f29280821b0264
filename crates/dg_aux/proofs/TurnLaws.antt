-- What the turns of events say is what their replay says.
use Rattle.std.proofs.Common.{◌≡◌, ℕ, ◌+◌, Bool, true, false, cond, not, ◌||◌, ◌&&◌, List, [], ◌∷◌, ◌++◌, Option, Some, None, nat_eq, nat_le, refl, sym, ap, ◌∙◌, arith}
use Rattle.std.proofs.lemmas.Bool.{true≢false, false≢true, eqb-true, eq-eqb}
use Rattle.std.proofs.lemmas.List.Sums.{sum_by-append, sum_by-cons}
use Rattle.std.specs.List.{count_by}
use Rattle.std.specs.Option.{option_to_list}
use Rattle.dg_graph.specs.declared.element.Element.{Element}
use Rattle.dg_graph.specs.declared.element.Element.TheVariants as element
use Rattle.dg_graph.specs.declared.event.Event.{Event}
use Rattle.dg_graph.specs.Effect.{removed_by, added_by, forwards}
use Rattle.dg_graph.specs.Elements.{has, same, put, take_out, with_one, without}
use Rattle.dg_graph.specs.Replay.{replay_from, events_until}
use Rattle.dg_graph.proofs.Sets.{element_exact, same_itself, has-put, has-take_out}
use Rattle.dg_aux.specs.declared.turns.Turn.{Turn}
use Rattle.dg_aux.specs.Turns.{is_about, says_from, says, additions, turn_of, turns_by, turns_of}
use Rattle.dg_aux.specs.Values.{additions_of, is_value_of}
use Rattle.dg_aux.specs.TurnLaws.{TurnsStandForEvents, TurnsAddAsEvents}

both : (a b : Bool) → (a && b) ≡ true → (a ≡ true) × (b ≡ true)
both true b e = (refl, e)
both false b e = absurd (false≢true e)

same_bool : (a b : Bool) → (a ≡ true → b ≡ true) → (b ≡ true → a ≡ true) → a ≡ b
same_bool true true f g = refl
same_bool true false f g = sym (f refl)
same_bool false true f g = g refl
same_bool false false f g = refl

-- whether an element that is named is this value at this node
pub same_asked : (key id k value v i : ℕ) → same (element.NodeAttr i key v) (element.NodeAttr id k value) ≡ (nat_eq k key && (nat_eq value v && nat_eq id i))
same_asked key id k value v i =
    same_bool (same (element.NodeAttr i key v) (element.NodeAttr id k value)) (nat_eq k key && (nat_eq value v && nat_eq id i))
    (λ e.
    let at = element_exact (element.NodeAttr i key v) (element.NodeAttr id k value) e in
    let ids : i ≡ id = cc in
    let keys : key ≡ k = cc in
    let values : v ≡ value = cc in
    λ j. eq-eqb k key (sym keys) j && (eq-eqb value v (sym values) j && eq-eqb id i (sym ids) j))
    (λ e.
    let first = both (nat_eq k key) (nat_eq value v && nat_eq id i) e in
    let rest = both (nat_eq value v) (nat_eq id i) first.1 in
    ap (same (element.NodeAttr i key v)) (λ j. element.NodeAttr (eqb-true id i rest.1 j) (eqb-true k key first.0 j) (eqb-true value v rest.0 j))
    ∙ same_itself (element.NodeAttr i key v))

module _ (key v i t : ℕ) where
  abbrev x : Element
  x = element.NodeAttr i key v

  -- the turn of an element that goes, up to the instant
  gone : (u : ℕ) (out : Option Element) (set : List Element) (rest : List Turn) → nat_le u t ≡ true
      → says_from (has set x) (option_to_list (turn_of key false u out) ++ rest) v i t ≡ says_from (has (without set out) x) rest v i t
  gone u None set rest le = refl
  gone u (Some (element.Node id)) set rest le = ap (λ b. says_from b rest v i t) (sym (has-take_out (element.Node id) set x))
  gone u (Some (element.Edge directed id src dst)) set rest le = ap (λ b. says_from b rest v i t) (sym (has-take_out (element.Edge directed id src dst) set x))
  gone u (Some (element.NodeAttr id k value)) set rest le =
      by (nat_eq k key) refl ∙ ap (λ b. says_from b rest v i t) (sym (has-take_out (element.NodeAttr id k value) set x ∙ ap (λ b. not b && has set x) (same_asked key id k value v i)))
    where
      word : (a r : Bool) → r ≡ true → cond (a && r) false (has set x) ≡ (not a && has set x)
      word true true e = refl
      word true false e = absurd (false≢true e)
      word false r e = refl

      by : (b : Bool) → nat_eq k key ≡ b
          → says_from (has set x) (option_to_list (cond b (Some (record { value = value; comes = false; id = id; time = u })) None) ++ rest) v i t
          ≡ says_from (not (nat_eq k key && (nat_eq value v && nat_eq id i)) && has set x) rest v i t
      by true e =
          ap (λ b. says_from b rest v i t) (word (nat_eq value v && nat_eq id i) (nat_le u t) le)
          ∙ ap (λ b. says_from (not (b && (nat_eq value v && nat_eq id i)) && has set x) rest v i t) (sym e)
      by false e = ap (λ b. says_from (not (b && (nat_eq value v && nat_eq id i)) && has set x) rest v i t) (sym e)
  gone u (Some (element.EdgeAttr id k value)) set rest le = ap (λ b. says_from b rest v i t) (sym (has-take_out (element.EdgeAttr id k value) set x))
  gone u (Some (element.Message src dst value)) set rest le = ap (λ b. says_from b rest v i t) (sym (has-take_out (element.Message src dst value) set x))

  -- and that of one that comes
  come : (u : ℕ) (into : Option Element) (set : List Element) (rest : List Turn) → nat_le u t ≡ true
      → says_from (has set x) (option_to_list (turn_of key true u into) ++ rest) v i t ≡ says_from (has (with_one set into) x) rest v i t
  come u None set rest le = refl
  come u (Some (element.Node id)) set rest le = ap (λ b. says_from b rest v i t) (sym (has-put (element.Node id) set x))
  come u (Some (element.Edge directed id src dst)) set rest le = ap (λ b. says_from b rest v i t) (sym (has-put (element.Edge directed id src dst) set x))
  come u (Some (element.NodeAttr id k value)) set rest le =
      by (nat_eq k key) refl ∙ ap (λ b. says_from b rest v i t) (sym (has-put (element.NodeAttr id k value) set x ∙ ap (λ b. b || has set x) (same_asked key id k value v i)))
    where
      word : (a r : Bool) → r ≡ true → cond (a && r) true (has set x) ≡ (a || has set x)
      word true true e = refl
      word true false e = absurd (false≢true e)
      word false r e = refl

      by : (b : Bool) → nat_eq k key ≡ b
          → says_from (has set x) (option_to_list (cond b (Some (record { value = value; comes = true; id = id; time = u })) None) ++ rest) v i t
          ≡ says_from ((nat_eq k key && (nat_eq value v && nat_eq id i)) || has set x) rest v i t
      by true e =
          ap (λ b. says_from b rest v i t) (word (nat_eq value v && nat_eq id i) (nat_le u t) le)
          ∙ ap (λ b. says_from ((b && (nat_eq value v && nat_eq id i)) || has set x) rest v i t) (sym e)
      by false e = ap (λ b. says_from ((b && (nat_eq value v && nat_eq id i)) || has set x) rest v i t) (sym e)
  come u (Some (element.EdgeAttr id k value)) set rest le = ap (λ b. says_from b rest v i t) (sym (has-put (element.EdgeAttr id k value) set x))
  come u (Some (element.Message src dst value)) set rest le = ap (λ b. says_from b rest v i t) (sym (has-put (element.Message src dst value) set x))

  -- behind the instant a turn says nothing
  silent : (comes : Bool) (u : ℕ) (o : Option Element) (b : Bool) (rest : List Turn) → nat_le u t ≡ false
      → says_from b (option_to_list (turn_of key comes u o) ++ rest) v i t ≡ says_from b rest v i t
  silent comes u None b rest le = refl
  silent comes u (Some (element.Node id)) b rest le = refl
  silent comes u (Some (element.Edge directed id src dst)) b rest le = refl
  silent comes u (Some (element.NodeAttr id k value)) b rest le =
      elim (nat_eq k key) as (λ s. says_from b (option_to_list (cond s (Some (record { value = value; comes = comes; id = id; time = u })) None) ++ rest) v i t ≡ says_from b rest v i t) [
        | true ↦ ap (λ s. says_from s rest v i t) (word (nat_eq value v && nat_eq id i) (nat_le u t) le)
        | false ↦ refl
      ]
    where
      word : (a r : Bool) → r ≡ false → cond (a && r) comes b ≡ b
      word true true e = absurd (true≢false e)
      word true false e = refl
      word false r e = refl
  silent comes u (Some (element.EdgeAttr id k value)) b rest le = refl
  silent comes u (Some (element.Message src dst value)) b rest le = refl

  parted : (a b c : List Turn) (s : Bool) → says_from s ((a ++ b) ++ c) v i t ≡ says_from s (a ++ (b ++ c)) v i t
  parted [] b c s = refl
  parted (m ∷ a) b c s = parted a b c (cond (is_about v i t m) m.comes s)

  stand : (events : List Event) (set : List Element)
      → says_from (has set x) (turns_of key events) v i t ≡ has (replay_from set (events_until events t)) x
  stand [] set = refl
  stand (e ∷ events) set =
      let out = removed_by e.body in
      let into = added_by e.body in
      let outs = option_to_list (turn_of key false e.time out) in
      let intos = option_to_list (turn_of key true e.time into) in
      let rest = turns_of key events in
      parted outs intos rest (has set x)
      ∙ elim (nat_le e.time t) as (λ s. nat_le e.time t ≡ s
      → says_from (has set x) (outs ++ (intos ++ rest)) v i t ≡ has (replay_from set (cond s (e ∷ events_until events t) (events_until events t))) x) [
        | true ↦ λ le. gone e.time out set (intos ++ rest) le ∙ come e.time into (without set out) rest le ∙ stand events (forwards set e)
        | false ↦ λ le. silent false e.time out (has set x) (intos ++ rest) le ∙ silent true e.time into (has set x) rest le ∙ stand events set
      ] refl

pub turns_stand : TurnsStandForEvents
turns_stand key events v i t = stand key v i t events []

-- ---- how many add

brings : Turn → ℕ
brings m = cond m.comes 1 0

turn_adds : (key u : ℕ) (into : Option Element) → additions (option_to_list (turn_of key true u into)) ≡ cond (is_value_of key into) 1 0
turn_adds key u None = refl
turn_adds key u (Some (element.Node id)) = refl
turn_adds key u (Some (element.Edge directed id src dst)) = refl
turn_adds key u (Some (element.NodeAttr id k value)) =
    elim (nat_eq k key) as (λ s. additions (option_to_list (cond s (Some (record { value = value; comes = true; id = id; time = u })) None)) ≡ cond s 1 0) [ true ↦ refl | false ↦ refl ]
turn_adds key u (Some (element.EdgeAttr id k value)) = refl
turn_adds key u (Some (element.Message src dst value)) = refl

turn_takes : (key u : ℕ) (out : Option Element) → additions (option_to_list (turn_of key false u out)) ≡ 0
turn_takes key u None = refl
turn_takes key u (Some (element.Node id)) = refl
turn_takes key u (Some (element.Edge directed id src dst)) = refl
turn_takes key u (Some (element.NodeAttr id k value)) =
    elim (nat_eq k key) as (λ s. additions (option_to_list (cond s (Some (record { value = value; comes = false; id = id; time = u })) None)) ≡ 0) [ true ↦ refl | false ↦ refl ]
turn_takes key u (Some (element.EdgeAttr id k value)) = refl
turn_takes key u (Some (element.Message src dst value)) = refl

pub turns_add : TurnsAddAsEvents
turns_add key [] = refl
turns_add key (e ∷ events) =
    let outs = option_to_list (turn_of key false e.time (removed_by e.body)) in
    let intos = option_to_list (turn_of key true e.time (added_by e.body)) in
    let f : Turn → ℕ = λ m. cond m.comes 1 0 in
    let g : Event → ℕ = λ e. cond (is_value_of key (added_by e.body)) 1 0 in
    omega (
      arith,
      sum_by-append f (outs ++ intos) (turns_of key events),
      sum_by-append f outs intos,
      turn_takes key e.time (removed_by e.body),
      turn_adds key e.time (added_by e.body),
      turns_add key events,
      sum_by-cons g e events,
    )

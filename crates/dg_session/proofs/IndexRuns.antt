-- Indexes one after another: which of them is of a key, and what they say as each makes room or goes past a batch.
use Rattle.std.proofs.Common.{◌≡◌, ℕ, ◌+◌, ◌==◌, ◌<◌, ◌≤◌, Bool, List, [], ◌∷◌, ◌++◌, drop, get_or, length, map, set, take, sym, ◌∙◌, ap, subst, arith, length-drop, drop-drop, vec_len}
use Rattle.std.specs.Global.{Vec}
use Rattle.std.specs.List.{All, list_any}
use Rattle.std.proofs.Math.Seq.{map-set_same}
use Rattle.std.proofs.lemmas.List.{drop-set-lt, get_or-drop, length-map, map-append, take_all, take_at, take_more, take_more_set}
use Rattle.std.proofs.lemmas.List.Elements.{All-append, All-cons, All-nil}
use Rattle.dg_aux.specs.Turns.{AreAlike, AuxState, HasRoomFor, ValuesSaid, additions, said_by, says, turns_of}
use Rattle.dg_graph.specs.declared.event.Event.{Event}
use Rattle.dg_session.proofs.IndexesSaid.{alike_says, said_kept, turns_say}
use Rattle.dg_session.specs.ValuesSaid.{IndexKept, all_said_with, kept_of, said_of, said_with}

-- one of them is of the key
abbrev pub is_key_of : ℕ → List AuxState → Bool
is_key_of key indexes = list_any (λ (k : ℕ). k == key) (map (λ (kept : IndexKept). kept.key) (map kept_of indexes))

-- ---- room

module _ (xs : List AuxState) (i : ℕ) (new d : AuxState) (key : new.key ≡ (get_or xs i d).key) (turns : new.turns ≡ (get_or xs i d).turns) where
  -- of one that makes room the same is kept
  pub reserved_kept : map kept_of (set xs i new) ≡ map kept_of xs
  reserved_kept = map-set_same kept_of xs i new d (λ j. record { key = key j; turns = turns j })

module _ (count : ℕ) where
  abbrev HasRoom : AuxState → Type 0
  HasRoom aux = HasRoomFor aux count

  pub reserved_room : (xs : List AuxState) (i : ℕ) (new : AuxState) → i < length xs → HasRoomFor new count → All HasRoom (take i xs) → All HasRoom (take (i + 1) (set xs i new))
  reserved_room xs i new lt room all =
      subst (All HasRoom) (sym (take_more_set xs i new lt)) (All-append HasRoom (take i xs) (new ∷ []) all (All-cons HasRoom new [] room (All-nil HasRoom)))

  pub all_reserved : (xs : List AuxState) (i : ℕ) → length xs ≤ i → All HasRoom (take i xs) → All HasRoom xs
  all_reserved xs i le all = subst (All HasRoom) (take_all i xs le) all

-- ---- a batch

-- one that goes past the events
pub passed_said : (a b c : AuxState) (events : List Event) → b.key ≡ a.key → b.turns ≡ a.turns ++ turns_of a.key events → c.key ≡ b.key → AreAlike b.turns c.turns → said_by c ≡ said_with events (said_by a)
passed_said a b c events key turns same alike =
    (λ j. let s : ValuesSaid = record { key = (same ∙ key) j; says = says c.turns; additions = additions c.turns } in s)
    ∙ alike_says a.key b.turns c.turns alike
    ∙ (λ j. let s : ValuesSaid = record { key = a.key; says = says (turns j); additions = additions (turns j) } in s)
    ∙ turns_say a.key a.turns events

-- of those that are left, which are as they were, one is next
module _ (xs old : List AuxState) (i : ℕ) (d : AuxState) (lt : i < length xs) (rest : drop i xs ≡ drop i old) where
  next_is : get_or xs i d ≡ get_or old i d
  next_is =
      let here : i + 0 ≡ i = omega arith in
      ap (λ n. get_or xs n d) (sym here) ∙ sym (get_or-drop i xs 0 d) ∙ ap (λ l. get_or l 0 d) rest ∙ get_or-drop i old 0 d ∙ ap (λ n. get_or old n d) here

  next_within : i < length old
  next_within = let a = length-drop i xs in let b = length-drop i old in let c = ap length rest in omega arith

  pub next_has_room : (count : ℕ) → All (λ (aux : AuxState). HasRoomFor aux count) old → HasRoomFor (get_or xs i d) count
  next_has_room count all = subst (λ (aux : AuxState). HasRoomFor aux count) (sym next_is) (all i d next_within)

  module _ (events : List Event) (new : AuxState) (says_so : said_by new ≡ said_with events (said_by (get_or xs i d))) where
    pub passed_front : map said_by (take i xs) ≡ all_said_with events (map said_by (take i old)) → map said_by (take (i + 1) (set xs i new)) ≡ all_said_with events (map said_by (take (i + 1) old))
    passed_front front =
        ap (map said_by) (take_more_set xs i new lt)
        ∙ map-append said_by (take i xs) (new ∷ [])
        ∙ (λ j. front j ++ (says_so ∙ ap (λ (aux : AuxState). said_with events (said_by aux)) next_is) j ∷ [])
        ∙ sym (map-append (said_with events) (map said_by (take i old)) (said_by (get_or old i d) ∷ []))
        ∙ ap (all_said_with events) (sym (map-append said_by (take i old) (get_or old i d ∷ [])))
        ∙ ap (λ l. all_said_with events (map said_by l)) (sym (take_more old i d next_within))

    pub passed_rest : drop (i + 1) (set xs i new) ≡ drop (i + 1) old
    passed_rest =
        let one : (l : List AuxState) → drop (i + 1) l ≡ drop 1 (drop i l) = λ l. sym (drop-drop 1 i l) in
        drop-set-lt (i + 1) xs i new (omega arith) ∙ one xs ∙ ap (drop 1) rest ∙ sym (one old)

-- ---- the indexes of a session

-- what a vector of so many holds once these stand where its first ones stood
abbrev pub lent : ℕ → List AuxState → List AuxState → List AuxState
lent len items new = take len (new ++ drop (length new) items)

-- where each of them makes room
module _ (v : Vec AuxState) (slice made : List AuxState) (value : slice ≡ v.items) (kept : map kept_of made ≡ map kept_of slice) where
  made_long : length made ≡ vec_len v
  made_long =
      let held : length v.items ≡ vec_len v = let long = v.ok.0 in omega (arith, long) in
      sym (length-map made kept_of) ∙ ap length kept ∙ length-map slice kept_of ∙ ap length value ∙ held

  pub made_are : lent (vec_len v) v.items made ≡ made
  made_are = take_at made (drop (length made) v.items) (vec_len v) made_long

  pub made_kept : map kept_of (lent (vec_len v) v.items made) ≡ map kept_of v.items
  made_kept = ap (map kept_of) made_are ∙ kept ∙ ap (map kept_of) value

  -- and goes past the events
  module _ (events passed : List Event) (room went : List AuxState) (events_are : passed ≡ events) (room_is : room ≡ lent (vec_len v) v.items made) (says_so : map said_by went ≡ all_said_with passed (map said_by room)) where
    went_long : length went ≡ vec_len v
    went_long =
        sym (length-map went said_by) ∙ ap length says_so ∙ length-map (map said_by room) (said_with passed)
        ∙ length-map room said_by ∙ ap length (room_is ∙ made_are) ∙ made_long

    pub went_said : map said_of (map kept_of (lent (vec_len v) (lent (vec_len v) v.items made) went)) ≡ all_said_with events (map said_of (map kept_of (lent (vec_len v) v.items made)))
    went_said =
        ap (λ (xs : List AuxState). map said_of (map kept_of xs)) (take_at went (drop (length went) (lent (vec_len v) v.items made)) (vec_len v) went_long)
        ∙ said_kept went ∙ says_so ∙ (λ i. all_said_with (events_are i) (map said_by (room_is i))) ∙ ap (all_said_with events) (sym (said_kept (lent (vec_len v) v.items made)))

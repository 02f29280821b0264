-- How the parts of a walk, and the bytes read for them, grow edge by edge.
use Rattle.std.proofs.Common.{◌≡◌, ⊎_elim, ◌<◌, ◌≤◌, ◌+◌, ℕ, List, [], ◌∷◌, ◌++◌, length, get_or, take, drop, map, Option, Some, None, refl, sym, ap, subst, ◌∙◌, arith}
use Rattle.std.specs.List.{All, Contains, flat_map, sum_by}
use Rattle.std.specs.Option.{ForSome, IfSome}
use Rattle.std.proofs.lemmas.Grind.{flat_map-append}
use Rattle.std.proofs.lemmas.List.{append-nil, take_more, drop_more, take-append-drop}
use Rattle.std.proofs.lemmas.List.Elements.{All-nil, All-cons, Contains-append_cases, Contains-append_left, Contains-append_right}
use Rattle.std.proofs.lemmas.List.Sums.{sum_by-append}
use Rattle.dg_graph.specs.declared.element.Column.{Column}
use Rattle.dg_graph.specs.declared.element.Columns.{Columns}
use Rattle.dg_history.specs.declared.node.Key.{Key}
use Rattle.dg_index.specs.OpenedIndex.{Opening}
use Rattle.dg_plan.specs.declared.edge.Edge.{Edge}
use Rattle.dg_plan.specs.declared.edge.Via.{Via}
use Rattle.dg_plan.specs.declared.edge.Via.TheVariants as via
use Rattle.dg_plan.specs.declared.edge.Way.{Way}
use Rattle.dg_fold.specs.declared.part.Part.{Part}
use Rattle.dg_fold.specs.Parts.{bytes_in, graph_columns}
use Rattle.dg_fold.specs.BytesRead.{IsPartOf, AreParts, HoldsWhatIsEntered, IsEntered, entered_along, entered_by, entered_length, named_along, named_by, named_in}
use Rattle.dg_records.specs.ColumnReads.{ColumnBytes, Takes, TakesAtMost, asked_column, asked_length, kept_in}

-- ---- what is told of a value, if there is one

pub if_told : {X : Type 0} (o : Option X) (P : X → Type 0) → ForSome o P → IfSome o P
if_told None P h = tt
if_told (Some y) P h = h y refl

-- ---- parts

module _ (bytes : ColumnBytes) (cols : Columns) where
  pub part_more : (named : List (Key × Way)) (parts : List Part) (k : Key × Way) (p : Part) → AreParts bytes cols named parts → IsPartOf bytes cols k p
      → AreParts bytes cols (named ++ k ∷ []) (parts ++ p ∷ [])
  part_more [] [] k p h one = (one, tt)
  part_more [] (q ∷ parts) k p h one = absurd h
  part_more (j ∷ named) [] k p h one = absurd h
  part_more (j ∷ named) (q ∷ parts) k p h one = (h.0, part_more named parts k p h.1 one)

  -- the bytes of each part are those of its record
  pub own_bytes : (named : List (Key × Way)) (parts : List Part) → AreParts bytes cols named parts
      → All (λ p. (col : Column) → bytes_in p.bytes col ≡ asked_column bytes (graph_columns cols) p.key col) parts
  own_bytes [] [] h = All-nil (λ (p : Part). (col : Column) → bytes_in p.bytes col ≡ asked_column bytes (graph_columns cols) p.key col)
  own_bytes [] (q ∷ parts) h = absurd h
  own_bytes (j ∷ named) [] h = absurd h
  own_bytes (j ∷ named) (q ∷ parts) h =
      All-cons (λ (p : Part). (col : Column) → bytes_in p.bytes col ≡ asked_column bytes (graph_columns cols) p.key col) q parts
      (λ col. h.0.columns col ∙ ap (λ key. asked_column bytes (graph_columns cols) key col) (sym h.0.key))
      (own_bytes named parts h.1)

-- ---- what is entered is named

abbrev named_key : Key × Way → Key
named_key n = n.0

keys_of_parts : (parts : List Part) → map (λ (p : Part). p.key) parts ≡ map named_key (named_in parts)
keys_of_parts [] = refl
keys_of_parts (p ∷ parts) = ap (λ l. p.key ∷ l) (keys_of_parts parts)

map-append : (xs ys : List (Key × Way)) → map named_key (xs ++ ys) ≡ map named_key xs ++ map named_key ys
map-append [] ys = refl
map-append (x ∷ xs) ys = ap (λ l. x.0 ∷ l) (map-append xs ys)

by_one : (v : Via) (key : Key) → Contains (entered_by v) key → Contains (map named_key (named_by v)) key
by_one via.Now key c = c
by_one (via.Base handle) key c = c
by_one (via.Paid k way) key c = c
by_one (via.Held k way) key c = absurd (let h = c.1 in omega arith)
by_one (via.Recent way) key c = c

entered_named : (walk : List Edge) (key : Key) → Contains (entered_along walk) key → Contains (map named_key (named_along walk)) key
entered_named [] key c = absurd (let h = c.1 in omega arith)
entered_named (e ∷ walk) key c =
    subst (λ l. Contains l key) (sym (map-append (named_by e.via) (named_along walk)))
    (⊎_elim
    (λ here. Contains-append_left (map named_key (named_by e.via)) (map named_key (named_along walk)) key (by_one e.via key here))
    (λ there. Contains-append_right (map named_key (named_by e.via)) (map named_key (named_along walk)) key (entered_named walk key there))
    (Contains-append_cases (entered_by e.via) (entered_along walk) key c))

-- ---- counts

-- bytes, and then more
pub takes_both : (m n a b c : ℕ) → Takes m a b → Takes n b c → Takes (m + n) a c
takes_both m n a b c f g = omega arith

-- bytes, and then at most so many more
pub takes_most : (m n whole a b c : ℕ) → Takes m a b → TakesAtMost n b c → m + n ≤ whole → TakesAtMost whole a c
takes_most m n whole a b c f g h = omega arith

-- ---- a walk

-- What is known when so many edges of a walk have been gone over.
pub record SoFar (image : Option (List ℕ)) (o : Opening) (cols : Columns) (walk : List Edge) (i : ℕ) (parts : List Part) (taken taken_now : ℕ) : Type 0 where
  pub named : named_in parts ≡ named_along (take i walk)
  pub are : ForSome image (λ bytes. AreParts (kept_in bytes o) cols (named_along (take i walk)) parts)
  pub takes : ForSome image (λ bytes. Takes (entered_length (kept_in bytes o) cols (take i walk)) taken taken_now)
  pub rest : HoldsWhatIsEntered (entered_along (take i walk)) (drop i walk)

module _ (image : Option (List ℕ)) (o : Opening) (cols : Columns) (walk : List Edge) (i : ℕ) (d : Edge) (within : i < length walk) where
  along : {A : Type 0} (f : Edge → List A) → flat_map f (take (i + 1) walk) ≡ flat_map f (take i walk) ++ f (get_or walk i d)
  along f =
      ap (flat_map f) (take_more walk i d within)
      ∙ flat_map-append f (take i walk) (get_or walk i d ∷ [])
      ∙ ap (λ l. flat_map f (take i walk) ++ l) (append-nil (f (get_or walk i d)))

  next_length : (bytes : ColumnBytes) → entered_length bytes cols (take (i + 1) walk)
      ≡ entered_length bytes cols (take i walk) + sum_by (asked_length bytes (graph_columns cols)) (entered_by (get_or walk i d).via)
  next_length bytes =
      ap (sum_by (asked_length bytes (graph_columns cols))) (along (λ (e : Edge). entered_by e.via))
      ∙ sum_by-append (asked_length bytes (graph_columns cols)) (entered_along (take i walk)) (entered_by (get_or walk i d).via)

  at_next : (parts : List Part) (a b : ℕ) → SoFar image o cols walk i parts a b → HoldsWhatIsEntered (entered_along (take i walk)) (get_or walk i d ∷ drop (i + 1) walk)
  at_next parts a b s = subst (HoldsWhatIsEntered (entered_along (take i walk))) (drop_more walk i d within) s.rest

  -- the record that the next edge holds is that of a part
  pub is_entered : (parts : List Part) (a b : ℕ) → SoFar image o cols walk i parts a b → IsEntered (map (λ (p : Part). p.key) parts) (get_or walk i d).via
  is_entered parts a b s = by (get_or walk i d).via (at_next parts a b s).0
    where
      by : (v : Via) → IsEntered (entered_along (take i walk)) v → IsEntered (map (λ (p : Part). p.key) parts) v
      by via.Now h = tt
      by (via.Base handle) h = tt
      by (via.Paid key way) h = tt
      by (via.Held key way) h =
          subst (λ l. Contains l key) (sym (keys_of_parts parts ∙ ap (map named_key) s.named)) (entered_named (take i walk) key h)
      by (via.Recent way) h = tt

  -- the walk up to the next edge weighs no more than the whole
  no_more : (bytes : ColumnBytes) → entered_length bytes cols (take i walk) + sum_by (asked_length bytes (graph_columns cols)) (entered_by (get_or walk i d).via) ≤ entered_length bytes cols walk
  no_more bytes =
      let whole : entered_length bytes cols walk ≡ entered_length bytes cols (take (i + 1) walk) + entered_length bytes cols (drop (i + 1) walk) =
      cut bytes (take (i + 1) walk) (drop (i + 1) walk) walk (sym (take-append-drop (i + 1) walk)) in
      let next = next_length bytes in
      omega arith
    where
      cut : (bytes : ColumnBytes) (xs ys all : List Edge) → all ≡ xs ++ ys → entered_length bytes cols all ≡ entered_length bytes cols xs + entered_length bytes cols ys
      cut bytes xs ys all is =
          ap (entered_length bytes cols) is
          ∙ ap (sum_by (asked_length bytes (graph_columns cols))) (flat_map-append (λ (e : Edge). entered_by e.via) xs ys)
          ∙ sum_by-append (asked_length bytes (graph_columns cols)) (entered_along xs) (entered_along ys)

  -- over a disk that tells the same as at the start
  module _ (now : Option (List ℕ)) (same_image : now ≡ image) (parts : List Part) (a b c : ℕ) (s : SoFar image o cols walk i parts a b) where
    pub so_far_more : (more : List Part)
        → named_in more ≡ named_in parts ++ named_by (get_or walk i d).via
        → ForSome now (λ bytes. (named : List (Key × Way)) → AreParts (kept_in bytes o) cols named parts → AreParts (kept_in bytes o) cols (named ++ named_by (get_or walk i d).via) more)
        → ForSome now (λ bytes. Takes (sum_by (asked_length (kept_in bytes o) (graph_columns cols)) (entered_by (get_or walk i d).via)) b c)
        → SoFar image o cols walk (i + 1) more a c
    so_far_more more named are takes = record {
      named = named ∙ ap (λ l. l ++ named_by (get_or walk i d).via) s.named ∙ sym (along (λ (e : Edge). named_by e.via));
      are = λ bytes is.
          subst (λ l. AreParts (kept_in bytes o) cols l more) (sym (along (λ (e : Edge). named_by e.via)))
          (are bytes (same_image ∙ is) (named_along (take i walk)) (s.are bytes is));
      takes = λ bytes is.
          subst (λ n. Takes n a c) (sym (next_length (kept_in bytes o)))
          (takes_both (entered_length (kept_in bytes o) cols (take i walk)) (sum_by (asked_length (kept_in bytes o) (graph_columns cols)) (entered_by (get_or walk i d).via)) a b c (s.takes bytes is)
          (takes bytes (same_image ∙ is)));
      rest = subst (λ l. HoldsWhatIsEntered l (drop (i + 1) walk)) (sym (along (λ (e : Edge). entered_by e.via))) (at_next parts a b s).1;
    }

    -- where the next edge was read in part
    pub most_of_walk : ForSome now (λ bytes. TakesAtMost (sum_by (asked_length (kept_in bytes o) (graph_columns cols)) (entered_by (get_or walk i d).via)) b c)
        → IfSome image (λ bytes. TakesAtMost (entered_length (kept_in bytes o) cols walk) a c)
    most_of_walk most =
        if_told image (λ bytes. TakesAtMost (entered_length (kept_in bytes o) cols walk) a c)
        (λ bytes is. takes_most (entered_length (kept_in bytes o) cols (take i walk)) (sum_by (asked_length (kept_in bytes o) (graph_columns cols)) (entered_by (get_or walk i d).via)) (entered_length (kept_in bytes o) cols walk) a b c
        (s.takes bytes is)
        (most bytes (same_image ∙ is))
        (no_more (kept_in bytes o)))

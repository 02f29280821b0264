-- The records of a walk, composed as they are read.
use Rattle.std.proofs.Common.{◌≡◌, ◌<◌, ◌+◌, ℕ, zero, suc, List, [], ◌∷◌, ◌++◌, length, get_or, take, append_assoc, Option, Some, None, Result, Ok, Err, sym, ap, subst, ◌∙◌, arith}
use Rattle.std.specs.Prelude.{IsErr, IsErrAnd}
use Rattle.std.specs.List.{Contains, sum_by}
use Rattle.std.specs.Option.{IfSome}
use Rattle.std.proofs.lemmas.Grind.{flat_map-append}
use Rattle.std.proofs.lemmas.List.{append-nil, take_more}
use Rattle.std.proofs.lemmas.List.Elements.{Contains-append_left, Contains-append_right}
use Rattle.std.proofs.lemmas.List.Sums.{sum_by-append}
use Rattle.dg_delta.specs.declared.stack.Height.{Height}
use Rattle.dg_graph.specs.Composition.{Delta}
use Rattle.dg_graph.specs.declared.element.Columns.{Columns}
use Rattle.dg_history.specs.declared.node.Key.{Key}
use Rattle.dg_index.specs.OpenedIndex.{Opening}
use Rattle.dg_plan.specs.declared.edge.Edge.{Edge}
use Rattle.dg_plan.specs.declared.edge.Via.TheVariants as via
use Rattle.dg_plan.specs.declared.edge.Way.{Way}
use Rattle.dg_fold.specs.declared.fault.FoldFault.{FoldFault}
use Rattle.dg_fold.specs.declared.part.Part.{Part}
use Rattle.dg_fold.specs.Foldings.{ArePushed, StandsOrFails}
use Rattle.dg_fold.specs.Parts.{Folds, StandsOnTop, beside, graph_columns}
use Rattle.dg_fold.specs.BytesRead.{AreParts, HoldsWhatIsEntered, IsEntered, entered_along, entered_by, entered_length, named_along, named_by}
use Rattle.dg_fold.proofs.PartCompositions.{Due, fails_behind, fails_first}
use Rattle.dg_fold.proofs.BytesReadGrowth.{takes_both, takes_most}
use Rattle.dg_records.specs.ColumnReads.{ColumnBytes, Takes, TakesAtMost, asked_length, kept_in}

-- ---- what is held behind what is entered

-- what is in front of a walk
pub front_holds : (entered : List Key) (xs ys : List Edge) → HoldsWhatIsEntered entered (xs ++ ys) → HoldsWhatIsEntered entered xs
front_holds entered [] ys h = tt
front_holds entered (e ∷ xs) ys h = (h.0, front_holds (entered ++ entered_by e.via) xs ys h.1)

-- one more edge
holds_more : (entered : List Key) (xs : List Edge) (e : Edge) → HoldsWhatIsEntered entered xs → IsEntered (entered ++ entered_along xs) e.via → HoldsWhatIsEntered entered (xs ++ e ∷ [])
holds_more entered [] e h one = (subst (λ l. IsEntered l e.via) (append-nil entered) one, tt)
holds_more entered (x ∷ xs) e h one = (
  h.0,
  holds_more (entered ++ entered_by x.via) xs e h.1 (subst (λ l. IsEntered l e.via) (sym (append_assoc entered (entered_by x.via) (entered_along xs))) one),
)

pub next_holds : (walk : List Edge) (i : ℕ) (d : Edge) → i < length walk → HoldsWhatIsEntered [] (take i walk) → IsEntered (entered_along (take i walk)) (get_or walk i d).via
    → HoldsWhatIsEntered [] (take (i + 1) walk)
next_holds walk i d within h one = subst (HoldsWhatIsEntered []) (sym (take_more walk i d within)) (holds_more [] (take i walk) (get_or walk i d) h one)

-- the record that an edge enters
pub enters_there : (walk : List Edge) (i : ℕ) (d : Edge) (k key : Key) (way : Way) → i < length walk → (get_or walk i d).via ≡ via.Paid k way → k ≡ key → Contains (entered_along walk) key
enters_there [] i d k key way within is same = absurd (omega arith)
enters_there (e ∷ walk) zero d k key way within is same =
    Contains-append_left (entered_by e.via) (entered_along walk) key (subst (λ v. Contains (entered_by v) key) (sym is) (0, omega arith, same))
enters_there (e ∷ walk) (suc i) d k key way within is same =
    Contains-append_right (entered_by e.via) (entered_along walk) key (enters_there walk i d k key way (omega arith) is same)

-- ---- what is told of an image

told_both : {X : Type 0} (image : Option X) (P Q R : X → Type 0) → IfSome image P → IfSome image Q → ((x : X) → P x → Q x → R x) → IfSome image R
told_both None P Q R p q r = tt
told_both (Some x) P Q R p q r = r x p q

-- ---- a walk that is cut in two

module _ (bytes : ColumnBytes) (cols : Columns) where
  parts_both : (xs ys : List (Key × Way)) (ps qs : List Part) → AreParts bytes cols xs ps → AreParts bytes cols ys qs → AreParts bytes cols (xs ++ ys) (ps ++ qs)
  parts_both [] ys [] qs f g = g
  parts_both [] ys (p ∷ ps) qs f g = absurd f
  parts_both (x ∷ xs) ys [] qs f g = absurd f
  parts_both (x ∷ xs) ys (p ∷ ps) qs f g = (f.0, parts_both xs ys ps qs f.1 g)

module _ (image : Option (List ℕ)) (o : Opening) (cols : Columns) (walk left right : List Edge) (cut : walk ≡ left ++ right) where
  weighs : (bytes : ColumnBytes) → entered_length bytes cols walk ≡ entered_length bytes cols left + entered_length bytes cols right
  weighs bytes =
      ap (entered_length bytes cols) cut
      ∙ ap (sum_by (asked_length bytes (graph_columns cols))) (flat_map-append (λ (e : Edge). entered_by e.via) left right)
      ∙ sum_by-append (asked_length bytes (graph_columns cols)) (entered_along left) (entered_along right)

  -- over a disk that tells the same as at the start
  module _ (now : Option (List ℕ)) (same_image : now ≡ image) where
    at_start : (P : List ℕ → Type 0) → IfSome now P → IfSome image P
    at_start P h = subst (λ m. IfSome m P) same_image h

    pub takes_behind : (x y z : ℕ) → IfSome image (λ b. Takes (entered_length (kept_in b o) cols left) x y) → IfSome now (λ b. Takes (entered_length (kept_in b o) cols right) y z)
        → IfSome image (λ b. Takes (entered_length (kept_in b o) cols walk) x z)
    takes_behind x y z first then =
        told_both image (λ b. Takes (entered_length (kept_in b o) cols left) x y) (λ b. Takes (entered_length (kept_in b o) cols right) y z) (λ b. Takes (entered_length (kept_in b o) cols walk) x z) first
        (at_start (λ b. Takes (entered_length (kept_in b o) cols right) y z) then)
        (λ b f g. subst (λ n. Takes n x z) (sym (weighs (kept_in b o))) (takes_both (entered_length (kept_in b o) cols left) (entered_length (kept_in b o) cols right) x y z f g))

    pub most_behind : (x y z : ℕ) → IfSome image (λ b. Takes (entered_length (kept_in b o) cols left) x y) → IfSome now (λ b. TakesAtMost (entered_length (kept_in b o) cols right) y z)
        → IfSome image (λ b. TakesAtMost (entered_length (kept_in b o) cols walk) x z)
    most_behind x y z first then =
        told_both image (λ b. Takes (entered_length (kept_in b o) cols left) x y) (λ b. TakesAtMost (entered_length (kept_in b o) cols right) y z) (λ b. TakesAtMost (entered_length (kept_in b o) cols walk) x z) first
        (at_start (λ b. TakesAtMost (entered_length (kept_in b o) cols right) y z) then)
        (λ b f g. takes_most (entered_length (kept_in b o) cols left) (entered_length (kept_in b o) cols right) (entered_length (kept_in b o) cols walk) x y z f g (let e = weighs (kept_in b o) in omega arith))

    pub parts_behind : (ps qs : List Part) → IfSome image (λ b. AreParts (kept_in b o) cols (named_along left) ps) → IfSome now (λ b. AreParts (kept_in b o) cols (named_along right) qs)
        → IfSome image (λ b. AreParts (kept_in b o) cols (named_along walk) (ps ++ qs))
    parts_behind ps qs first then =
        told_both image (λ b. AreParts (kept_in b o) cols (named_along left) ps) (λ b. AreParts (kept_in b o) cols (named_along right) qs) (λ b. AreParts (kept_in b o) cols (named_along walk) (ps ++ qs)) first
        (at_start (λ b. AreParts (kept_in b o) cols (named_along right) qs) then)
        (λ b f g. subst (λ names. AreParts (kept_in b o) cols names (ps ++ qs)) (sym (ap named_along cut ∙ flat_map-append (λ (e : Edge). named_by e.via) left right))
        (parts_both (kept_in b o) cols (named_along left) (named_along right) ps qs f g))

-- ---- what is pushed

-- what a call hands out that ended with a fault
pub failed_as : {T : Type 0} (r : Result T FoldFault) (x : FoldFault) (due : Due) (old new : Delta) → IsErr r × IsErrAnd r (λ y. y ≡ x) → Folds (Err x) due → StandsOrFails r due old new
failed_as (Ok u) x due old new e h = cc
failed_as (Err y) x due old new e h = subst (λ z. Folds (Err z) due) (sym e.1) h

module _ {T : Type 0} (r s : Result T FoldFault) (h k : Height) (top : Delta) (a b : Due) (old mid : Delta) (are : ArePushed r s h k top a b old mid) where
  pub first_stands : (x : T) → r ≡ Ok x → StandsOnTop a old mid
  first_stands x is = subst (λ q. StandsOrFails q a old mid) is are.stands

  pub then_stands : (x : T) → s ≡ Ok x → StandsOnTop b mid top
  then_stands x is = subst (λ q. StandsOrFails q b mid top) is are.stands_behind

  pub first_fails : (f : FoldFault) → r ≡ Err f → Folds (Err f) (beside a b)
  first_fails f is = fails_first f a b (subst (λ q. StandsOrFails q a old mid) is are.stands)

  pub then_fails : (x : T) (f : FoldFault) → r ≡ Ok x → s ≡ Err f → Folds (Err f) (beside a b)
  then_fails x f is fault =
      let first = first_stands x is in
      fails_behind f first.2.0 a b first.2.1 (subst (λ q. StandsOrFails q b mid top) fault are.stands_behind)

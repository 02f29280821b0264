-- What stands on top of a stack, part by part.
use Rattle.std.proofs.Common.{◌≡◌, ◌≤◌, length, length-append, arith, ℕ, false, List, [], ◌∷◌, Option, Result, Ok, refl, sym, ap, subst, ◌∙◌}
use Rattle.std.specs.Prelude.{◌≢◌, IfErr, OnOk}
use Rattle.std.specs.Result.{IsErr, IsErrAnd}
use Rattle.std.proofs.lemmas.Result.{err_from_is_err_and}
use Rattle.dg_graph.specs.declared.element.Column.{Column}
use Rattle.dg_graph.specs.declared.element.Column.TheVariants.{Structure, NodeAttr, EdgeAttr}
use Rattle.dg_graph.specs.Composition.{Delta, IsDelta, nothing, reversed}
use Rattle.dg_graph.specs.ColumnGrammar.{delta_in}
use Rattle.dg_delta.specs.Deltas.{composed, joined}
use Rattle.dg_delta.specs.Stacks.{height_of, lower, upper}
use Rattle.dg_delta.specs.declared.stack.Height.{Height}
use Rattle.dg_delta.proofs.Deltas.{IsDelta-composed, apart_back, composes_by}
use Rattle.dg_columns.specs.ReadFits.{IsPushed, joined_columns}
use Rattle.dg_columns.proofs.ReadFitsParts.{three_joined}
use Rattle.dg_index.specs.IndexRecords.{Exact}
use Rattle.dg_plan.specs.declared.edge.Way.{Way}
use Rattle.dg_plan.specs.declared.edge.Way.TheVariants as way
use Rattle.dg_fold.specs.declared.part.Part.{Part}
use Rattle.dg_fold.specs.PathIndependence.{taken}
use Rattle.dg_fold.specs.Parts.{bytes_in, beside, deltas_in_part, parts_in, StandsOnTop, ColumnStandsOnTop}
use Rattle.dg_delta.proofs.Stacks.{joined_associates, joined_nothing, upper_joined, lower_below, upper_lower}
use Rattle.dg_fold.proofs.PartCompositions.{Due, exact_is, folds_both}
use Rattle.dg_fold.proofs.PartDeltas.{says_joined, turned_in}
use Rattle.dg_records.specs.ColumnReads.{is_events}

-- what holds where a call went well, and it did
pub went_well : {T E P : Type 0} (r : Result T E) (x : T) → r ≡ Ok x → OnOk r P → P
went_well {P = P} r x is h = subst (λ q. OnOk q P) is h

-- what holds of the fault that a call ended with
pub failed_so : {T E : Type 0} (r : Result T E) (x : E) (P : E → Type 0) → IsErr r × IsErrAnd r (λ y. y ≡ x) → P x → IfErr r P
failed_so r x P e holds = let failed = err_from_is_err_and r e.1 in rw (failed.1, failed.2) holds

-- ---- one column

IsDelta-reversed : (d : Delta) → IsDelta d → IsDelta (reversed d)
IsDelta-reversed d is = record { minus = is.plus; plus = is.minus; apart = apart_back d.minus d.plus is.apart }

taken_on : (w : Way) (until : Option ℕ) (d : Delta) → w ≢ way.Same → w ≢ way.Back → taken w until (Exact d) ≡ d ∷ []
taken_on way.Same until d f g = absurd (f refl)
taken_on way.Forward until d f g = refl
taken_on way.Back until d f g = absurd (g refl)

-- what is read stands there, where it is not taken back
pub column_stands : (names : ℕ) (p : Part) (col : Column) (bytes : List ℕ) (old new : Delta) → bytes ≡ bytes_in p.bytes col → is_events p.key ≡ false → p.way ≢ way.Same
    → p.way ≢ way.Back → IsPushed col names bytes old new → ColumnStandsOnTop names p col old new
column_stands names p col bytes old new is kind some on pushed = (
  pushed.0,
  pushed.2.delta,
  pushed.2.inside,
  exact_is names p col pushed.0 kind (ap (delta_in col names) (sym is) ∙ pushed.1) ∙ ap (λ l. Ok l) (taken_on p.way p.until pushed.0 some on),
  pushed.3,
)

-- and else its two lists have changed over
pub column_turned : (names : ℕ) (p : Part) (col : Column) (bytes : List ℕ) (old new : Delta) → bytes ≡ bytes_in p.bytes col → is_events p.key ≡ false → p.way ≡ way.Back
    → IsPushed col names bytes (reversed old) (reversed new) → ColumnStandsOnTop names p col old new
column_turned names p col bytes old new is kind back pushed = (
  reversed pushed.0,
  IsDelta-reversed pushed.0 pushed.2.delta,
  turned_in col pushed.0 pushed.2.inside,
  exact_is names p col pushed.0 kind (ap (delta_in col names) (sym is) ∙ pushed.1) ∙ ap (λ w. Ok (taken w p.until (Exact pushed.0))) back,
  ap reversed pushed.3,
)

-- ---- a part

-- its columns stand one behind another
pub columns_stand : (names : ℕ) (p : Part) (a b c d : Delta) → ColumnStandsOnTop names p Structure a b → ColumnStandsOnTop names p NodeAttr b c → ColumnStandsOnTop names p EdgeAttr c d
    → StandsOnTop (deltas_in_part names p) a d
columns_stand names p a b c d s n e = (
  joined_columns s.0 n.0 e.0,
  three_joined s.0 n.0 e.0 s.1 n.1 e.1 s.2 n.2 e.2,
  (s.0 ∷ n.0 ∷ e.0 ∷ [], (λ i. beside (s.3 i) (beside (n.3 i) (e.3 i))), says_joined s.0 n.0 e.0 s.2 n.2 e.2),
  e.4
      ∙ ap (λ x. joined x e.0) (n.4 ∙ ap (λ x. joined x n.0) s.4 ∙ joined_associates a s.0 n.0)
      ∙ joined_associates a (joined s.0 n.0) e.0,
)

-- ---- parts

-- none of them
none_stand : (old : Delta) → StandsOnTop (Ok []) old old
none_stand old = (nothing, record { minus = tt; plus = tt; apart = λ x e. refl }, ([], refl, λ x. refl), sym (joined_nothing old))

pub no_parts_stand : (names : ℕ) (parts : List Part) (old : Delta) → length parts ≡ 0 → StandsOnTop (parts_in names parts) old old
no_parts_stand names [] old none = none_stand old
no_parts_stand names (p ∷ parts) old none = absurd (omega arith)

-- what is composed of the two on top, of which the one begins at h and the other at k
abbrev pub IsComposedOf : Height → Height → Delta → Delta → Type 0
IsComposedOf h k top new =
    new ≡ joined (lower h top) (composed (upper h (lower k top)) (upper k top))

module _ (a b : Due) (old mid top : Delta) (first : StandsOnTop a old mid) (then : StandsOnTop b mid top) where
  top_is : top ≡ joined (joined old first.0) then.0
  top_is = then.3 ∙ ap (λ x. joined x then.0) first.3

  lower_is : lower (height_of old) top ≡ old
  lower_is = ap (lower (height_of old)) top_is ∙ lower_below old first.0 then.0

  first_is : upper (height_of old) (lower (height_of mid) top) ≡ first.0
  first_is =
      (λ i. upper (height_of old) (lower (height_of (first.3 i)) (top_is i))) ∙ upper_lower old first.0 then.0

  then_is : upper (height_of mid) top ≡ then.0
  then_is = ap (upper (height_of mid)) then.3 ∙ upper_joined mid then.0

  -- the one and then the other
  pub both_stand : (h k : Height) (new : Delta) → h ≡ height_of old → k ≡ height_of mid → IsComposedOf h k top new → StandsOnTop (beside a b) old new
  both_stand h k new f g is = (
    composed first.0 then.0,
    IsDelta-composed first.0 then.0 first.1 then.1,
    folds_both (composed first.0 then.0) first.0 then.0 a b first.2 then.2 (composes_by (composed first.0 then.0) first.0 then.0 refl),
    is
        ∙ (λ i. joined (lower (f i) top) (composed (upper (f i) (lower (g i) top)) (upper (g i) top)))
        ∙ (λ i. joined (lower_is i) (composed (first_is i) (then_is i))),
  )

  -- they can be composed where they stand
  pub minus_in_order : (h k : Height) → h ≡ height_of old → k ≡ height_of mid → h.minus ≤ k.minus
  minus_in_order h k f g =
      let a = ap (λ x. x.minus) f in let b = ap (λ x. x.minus) g in let c = ap (λ d. length d.minus) first.3 in
      let l = length-append old.minus first.0.minus in
      omega arith

  pub plus_in_order : (h k : Height) → h ≡ height_of old → k ≡ height_of mid → h.plus ≤ k.plus
  plus_in_order h k f g =
      let a = ap (λ x. x.plus) f in let b = ap (λ x. x.plus) g in let c = ap (λ d. length d.plus) first.3 in
      let l = length-append old.plus first.0.plus in
      omega arith

  pub minus_is_within : (k : Height) → k ≡ height_of mid → k.minus ≤ length top.minus
  minus_is_within k g =
      let b = ap (λ x. x.minus) g in let c = ap (λ d. length d.minus) then.3 in
      let l = length-append mid.minus then.0.minus in
      omega arith

  pub plus_is_within : (k : Height) → k ≡ height_of mid → k.plus ≤ length top.plus
  plus_is_within k g =
      let b = ap (λ x. x.plus) g in let c = ap (λ d. length d.plus) then.3 in
      let l = length-append mid.plus then.0.plus in
      omega arith

  pub first_is_delta : (h k : Height) → h ≡ height_of old → k ≡ height_of mid → IsDelta (upper h (lower k top))
  first_is_delta h k f g = subst IsDelta (sym ((λ i. upper (f i) (lower (g i) top)) ∙ first_is)) first.1

  pub then_is_delta : (k : Height) → k ≡ height_of mid → IsDelta (upper k top)
  then_is_delta k g = subst IsDelta (sym ((λ i. upper (g i) top) ∙ then_is)) then.1

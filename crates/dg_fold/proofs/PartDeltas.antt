-- The three columns of a delta, one after another, say what the delta says.
use Rattle.std.proofs.Common.{◌≡◌, Bool, true, false, cond, ◌||◌, ◌&&◌, ℕ, List, [], ◌∷◌, ◌++◌, Option, Ok, refl, sym, ap, ◌∙◌}
use Rattle.std.proofs.lemmas.List.Folds.{list_any-append}
use Rattle.dg_graph.specs.declared.element.Column.{Column}
use Rattle.dg_graph.specs.declared.element.Column.TheVariants.{Structure, NodeAttr, EdgeAttr, Transient}
use Rattle.dg_graph.specs.declared.element.Element.{Element}
use Rattle.dg_graph.specs.Columns.{same_column, in_column}
use Rattle.dg_graph.specs.Composition.{Delta, Says, In, Out, As_it_was, then_says, composition, Composes, reversed}
use Rattle.dg_graph.specs.Elements.{column_of, has, same}
use Rattle.dg_graph.proofs.Sets.{has-filter}
use Rattle.dg_columns.specs.ReadFits.{IsIn, joined_columns}
use Rattle.dg_index.specs.IndexRecords.{Exact}
use Rattle.dg_plan.specs.declared.edge.Way.{Way}
use Rattle.dg_plan.specs.declared.edge.Way.TheVariants as way
use Rattle.dg_fold.specs.declared.part.Part.{Part}
use Rattle.dg_fold.specs.PathIndependence.{taken}
use Rattle.dg_fold.specs.Parts.{part_column_in, deltas_in_part, beside, Folds}

-- what is said of an element that is put in, or taken out
abbrev pub word : Bool → Bool → Says
word plus minus = cond plus In (cond minus Out As_it_was)

abbrev pub in_turn : Says → Says → Says → Says
in_turn a b c = then_says a (then_says b (then_says c As_it_was))

first_word : (p m : Bool) → word ((p || false) || false) ((m || false) || false) ≡ in_turn (word p m) (word false false) (word false false)
first_word true true = refl
first_word true false = refl
first_word false true = refl
first_word false false = refl

second_word : (p m : Bool) → word ((false || p) || false) ((false || m) || false) ≡ in_turn (word false false) (word p m) (word false false)
second_word true true = refl
second_word true false = refl
second_word false true = refl
second_word false false = refl

third_word : (p m : Bool) → word ((false || false) || p) ((false || false) || m) ≡ in_turn (word false false) (word false false) (word p m)
third_word true true = refl
third_word true false = refl
third_word false true = refl
third_word false false = refl

-- one column alone names an element
words : (col : Column) (sp sm np nm ep em : Bool)
    → sp ≡ (same_column col Structure && sp) → sm ≡ (same_column col Structure && sm) → np ≡ (same_column col NodeAttr && np) → nm ≡ (same_column col NodeAttr && nm)
    → ep ≡ (same_column col EdgeAttr && ep) → em ≡ (same_column col EdgeAttr && em)
    → word ((sp || np) || ep) ((sm || nm) || em) ≡ in_turn (word sp sm) (word np nm) (word ep em)
words Structure sp sm np nm ep em a b c d e f =
    (λ i. word ((sp || c i) || e i) ((sm || d i) || f i)) ∙ first_word sp sm ∙ sym (λ i. in_turn (word sp sm) (word (c i) (d i)) (word (e i) (f i)))
words NodeAttr sp sm np nm ep em a b c d e f =
    (λ i. word ((a i || np) || e i) ((b i || nm) || f i)) ∙ second_word np nm ∙ sym (λ i. in_turn (word (a i) (b i)) (word np nm) (word (e i) (f i)))
words EdgeAttr sp sm np nm ep em a b c d e f =
    (λ i. word ((a i || c i) || ep) ((b i || d i) || em)) ∙ third_word ep em ∙ sym (λ i. in_turn (word (a i) (b i)) (word (c i) (d i)) (word ep em))
words Transient sp sm np nm ep em a b c d e f =
    (λ i. word ((a i || c i) || e i) ((b i || d i) || f i)) ∙ sym (λ i. in_turn (word (a i) (b i)) (word (c i) (d i)) (word (e i) (f i)))

-- an element that stands in a column is of the column
of_column : (col : Column) (xs : List Element) (x : Element) → in_column col xs ≡ xs → has xs x ≡ (same_column (column_of x) col && has xs x)
of_column col xs x inside = ap (λ l. has l x) (sym inside) ∙ has-filter (λ y. same_column (column_of y) col) xs x

has_three : (a b c : List Element) (x : Element) → has ((a ++ b) ++ c) x ≡ ((has a x || has b x) || has c x)
has_three a b c x = list_any-append (same x) (a ++ b) c ∙ ap (λ t. t || has c x) (list_any-append (same x) a b)

pub says_joined : (s n e : Delta) → IsIn Structure s → IsIn NodeAttr n → IsIn EdgeAttr e → Composes (joined_columns s n e) (s ∷ n ∷ e ∷ [])
says_joined s n e is in_n in_e x =
    (λ i. word (has_three s.plus n.plus e.plus x i) (has_three s.minus n.minus e.minus x i))
    ∙ words (column_of x) (has s.plus x) (has s.minus x) (has n.plus x) (has n.minus x) (has e.plus x) (has e.minus x)
    (of_column Structure s.plus x is.plus_in) (of_column Structure s.minus x is.minus_in) (of_column NodeAttr n.plus x in_n.plus_in) (of_column NodeAttr n.minus x in_n.minus_in)
    (of_column EdgeAttr e.plus x in_e.plus_in) (of_column EdgeAttr e.minus x in_e.minus_in)

pub turned_in : (col : Column) (d : Delta) → IsIn col d → IsIn col (reversed d)
turned_in col d is = record { minus_in = is.plus_in; plus_in = is.minus_in }

-- in whatever way it is taken
taken_joined : (w : Way) (until : Option ℕ) (s n e whole : Delta) → IsIn Structure s → IsIn NodeAttr n → IsIn EdgeAttr e → Composes whole (taken w until (Exact (joined_columns s n e)))
    → Composes whole (taken w until (Exact s) ++ (taken w until (Exact n) ++ taken w until (Exact e)))
taken_joined way.Same until s n e whole is in_n in_e h x = h x
taken_joined way.Forward until s n e whole is in_n in_e h x =
    h x ∙ ap (λ w. then_says w As_it_was) (says_joined s n e is in_n in_e x) ∙ closed (composition (s ∷ n ∷ e ∷ []) x)
  where
    closed : (w : Says) → then_says w As_it_was ≡ w
    closed w = refl
taken_joined way.Back until s n e whole is in_n in_e h x =
    h x ∙ says_joined (reversed s) (reversed n) (reversed e) (turned_in Structure s is) (turned_in NodeAttr n in_n) (turned_in EdgeAttr e in_e) x

pub folds_columns : (names : ℕ) (p : Part) (s n e d whole : Delta)
    → part_column_in names p Structure ≡ Ok (taken p.way p.until (Exact s)) → part_column_in names p NodeAttr ≡ Ok (taken p.way p.until (Exact n))
    → part_column_in names p EdgeAttr ≡ Ok (taken p.way p.until (Exact e)) → IsIn Structure s → IsIn NodeAttr n → IsIn EdgeAttr e
    → d ≡ joined_columns s n e → Composes whole (taken p.way p.until (Exact d)) → Folds (Ok whole) (deltas_in_part names p)
folds_columns names p s n e d whole first second third is in_n in_e joined composes = (
  taken p.way p.until (Exact s) ++ (taken p.way p.until (Exact n) ++ taken p.way p.until (Exact e)),
  (λ i. beside (first i) (beside (second i) (third i))),
  taken_joined p.way p.until s n e whole is in_n in_e (λ x. composes x ∙ ap (λ z. composition (taken p.way p.until (Exact z)) x) joined),
)

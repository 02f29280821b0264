-- The asked columns of lists in the order of reading: the place that is read, and those behind it.
use Rattle.std.proofs.Common.{◌≡◌, ℕ, suc, ◌+◌, ◌-◌, ◌<◌, ◌≤◌, Bool, true, false, cond, List as ListOf, [], ◌∷◌, ◌++◌, Option, Some, None, map, filter, length, refl, sym, ap, ◌∙◌, append_assoc, arith}
use Rattle.std.specs.Prelude.{nat_lt}
use Rattle.std.proofs.lemmas.Bool.{lt-ltb, le-ltb, ltb-true, ltb-false}
use Rattle.dg_added.specs.PutIn.{one_put_within, put_within}
use Rattle.std.specs.Option.{option_to_list}
use Rattle.std.proofs.lemmas.List.Concat.{flat_map-append}
use Rattle.std.proofs.lemmas.List.Elements.{All-append, All-nil}
use Rattle.dg_graph.specs.Elements.{asks}
use Rattle.dg_graph.specs.declared.element.Column.{Column}
use Rattle.dg_graph.specs.declared.element.Column.TheVariants.{Structure, NodeAttr, EdgeAttr, Transient}
use Rattle.dg_graph.specs.declared.element.Columns.{Columns}
use Rattle.dg_graph.specs.declared.element.Element.{Element}
use Rattle.dg_graph.specs.declared.event.Event.{Event}
use Rattle.dg_index.specs.Hierarchy.{numbers}
use Rattle.dg_range.specs.Added.{asked_columns, following, list_columns, place_after}
use Rattle.dg_records.specs.EventNames.{BodyHasNamesThere, EventNamesAreThere}

-- the columns behind one
abbrev columns_behind : Column → ListOf Column
columns_behind Structure = NodeAttr ∷ EdgeAttr ∷ Transient ∷ []
columns_behind NodeAttr = EdgeAttr ∷ Transient ∷ []
columns_behind EdgeAttr = Transient ∷ []
columns_behind Transient = []

-- this one and the asked ones behind it
abbrev asked_from : Columns → Column → ListOf Column
asked_from cols c = c ∷ filter (asks cols) (columns_behind c)

abbrev asked_or_none : Columns → Option Column → ListOf Column
asked_or_none cols None = []
asked_or_none cols (Some c) = asked_from cols c

follow : (cols : Columns) (c : Column) → filter (asks cols) (columns_behind c) ≡ asked_or_none cols (following cols c)
follow cols c = by c cols.nodes_attr cols.edges_attr cols.transient
  where
    by : (c : Column) (x y z : Bool) → filter (asks (record { nodes_attr = x; edges_attr = y; transient = z })) (columns_behind c) ≡ asked_or_none (record { nodes_attr = x; edges_attr = y; transient = z }) (following (record { nodes_attr = x; edges_attr = y; transient = z }) c)
    by Structure true y z = refl
    by Structure false true z = refl
    by Structure false false true = refl
    by Structure false false false = refl
    by NodeAttr x true z = refl
    by NodeAttr x false true = refl
    by NodeAttr x false false = refl
    by EdgeAttr x y true = refl
    by EdgeAttr x y false = refl
    by Transient x y z = refl

-- the columns of lists that are still to be read
abbrev pub rest_of : Columns → ℕ → ℕ × Column → ListOf (ℕ × Column)
rest_of cols high p = cond (nat_lt p.0 high) (map (λ (c : Column). (p.0, c)) (asked_from cols p.1) ++ asked_columns cols (numbers (p.0 + 1) (high - (p.0 + 1)))) []

-- at first these are all
pub rest_first : (cols : Columns) (low high : ℕ) → low ≤ high → rest_of cols high (low, Structure) ≡ asked_columns cols (numbers low (high - low))
rest_first cols low high le = by (nat_lt low high) refl
  where
    by : (b : Bool) → nat_lt low high ≡ b → cond b (list_columns cols low ++ asked_columns cols (numbers (low + 1) (high - (low + 1)))) [] ≡ asked_columns cols (numbers low (high - low))
    by true e =
        let lt = ltb-true low high e in
        ap (λ n. asked_columns cols (numbers low n)) (let e : suc (high - (low + 1)) ≡ high - low = omega (arith, lt) in e)
    by false e =
        let ge = ltb-false low high e in
        ap (λ n. asked_columns cols (numbers low n)) (let e : 0 ≡ high - low = omega (arith, ge) in e)

-- at the end there are none
pub rest_end : (cols : Columns) (high : ℕ) (p : ℕ × Column) → high ≤ p.0 → rest_of cols high p ≡ []
rest_end cols high p le = ap (λ b. cond b (map (λ (c : Column). (p.0, c)) (asked_from cols p.1) ++ asked_columns cols (numbers (p.0 + 1) (high - (p.0 + 1)))) []) (le-ltb p.0 high le)

-- the next one, and those behind it
pub rest_next : (cols : Columns) (high i : ℕ) (c : Column) → i < high → rest_of cols high (i, c) ≡ (i, c) ∷ rest_of cols high (place_after i (following cols c))
rest_next cols high i c lt =
    ap (λ b. cond b (map (λ (c : Column). (i, c)) (asked_from cols c) ++ more) []) here
    ∙ ap (λ l. (i, c) ∷ l) (ap (λ l. map (λ (c : Column). (i, c)) l ++ more) (follow cols c) ∙ by (following cols c))
  where
    more : ListOf (ℕ × Column)
    more = asked_columns cols (numbers (i + 1) (high - (i + 1)))

    here : nat_lt i high ≡ true
    here = lt-ltb i high lt

    by : (o : Option Column) → map (λ (c : Column). (i, c)) (asked_or_none cols o) ++ more ≡ rest_of cols high (place_after i o)
    by None = sym (rest_first cols (i + 1) high (omega (arith, lt)))
    by (Some d) = sym (ap (λ b. cond b (map (λ (c : Column). (i, c)) (asked_from cols d) ++ more) []) here)

-- so there are fewer
pub rest_less : (cols : Columns) (high i : ℕ) (c : Column) (p : ℕ × Column) → i < high → p ≡ place_after i (following cols c) → length (rest_of cols high p) < length (rest_of cols high (i, c))
rest_less cols high i c p lt is =
    let longer = ap length (rest_next cols high i c lt) in
    let here = ap (λ p. length (rest_of cols high p)) is in
    omega (arith, longer, here)

-- no place is behind the end
pub place_within : (high i : ℕ) (o : Option Column) → i < high → (place_after i o).0 ≤ high
place_within high i None lt = omega (arith, lt)
place_within high i (Some c) lt = omega (arith, lt)

-- ---- what is put in

-- what events put in, and that their names are there
pub record ArePut (names from until : ℕ) (old new : ListOf Element) (events : ListOf Event) : Type 0 where
  pub put : new ≡ old ++ put_within from until events
  pub named : EventNamesAreThere names events

append_none : (l : ListOf Element) → l ≡ l ++ []
append_none [] = refl
append_none (e ∷ l) = ap (λ m. e ∷ m) (append_none l)

pub put_none : (names from until : ℕ) (old : ListOf Element) → ArePut names from until old old []
put_none names from until old = record {
  put = append_none old;
  named = All-nil (λ (e : Event). BodyHasNamesThere names e.body);
}

pub put_more : (names from until : ℕ) (old now new : ListOf Element) (given more : ListOf Event) → given ≡ more → new ≡ now ++ put_within from until given → EventNamesAreThere names more
    → (events : ListOf Event) → ArePut names from until old now events → ArePut names from until old new (events ++ more)
put_more names from until old now new given more same added named events h = record {
  put =
      added ∙ ap (λ l. now ++ put_within from until l) same ∙ ap (λ l. l ++ put_within from until more) h.put ∙ append_assoc old (put_within from until events) (put_within from until more)
      ∙ ap (λ l. old ++ l) (sym (flat_map-append (λ e. option_to_list (one_put_within from until e)) events more));
  named = All-append (λ (e : Event). BodyHasNamesThere names e.body) events more h.named named;
}

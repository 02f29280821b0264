-- Messages that are written behind what leads to graphs.
use Rattle.std.proofs.Common.{arith, ◌≡◌, ◌==◌, ◌<◌, ◌+◌, ◌||◌, ℕ, suc, Bool, true, false, cond, drop, get_or, List, [], ◌∷◌, ◌++◌, length, length-append, map, append_assoc, refl, sym, ap, subst, ◌∙◌, ◌⊎◌, inl, inr}
use Rattle.std.specs.List.{All}
use Rattle.std.proofs.lemmas.Bool.{eqb-true, false≢true, or_cases, or_parts}
use Rattle.std.proofs.lemmas.List.{append-nil, drop_more, get_or-map}
use Rattle.std.proofs.lemmas.List.Folds.{list_any_at}
use Rattle.std.proofs.lemmas.List.Elements.{All-cons, All-head, All-nil, All-tail}
use Rattle.dg_delta.proofs.Deltas.{applies_one_after_the_other}
use Rattle.dg_fold.proofs.WritingCompositions.{composes_last, written_cut}
use Rattle.dg_fold.specs.declared.writing.Writing.{Writing}
use Rattle.dg_fold.specs.Writings.{composed_all, is_for, written_for}
use Rattle.dg_graph.proofs.Sets.{has-unioned}
use Rattle.dg_graph.specs.Composition.{Delta, applied}
use Rattle.dg_graph.specs.declared.element.Element.{Element}
use Rattle.dg_graph.specs.Elements.{has}
use Rattle.dg_graph.specs.Sets.{without_all}
use Rattle.dg_messages.specs.Once.{each_once, is_among, set_of, sets_for}
use Rattle.dg_messages.specs.Told.{TellBehind, TellsBehind, telling}
use Rattle.dg_messages.proofs.OnceHeard.{IsOnce, among_once, is_once, itself}
use Rattle.dg_retrieval.specs.Beginnings.{GraphLead, leads_from}
use Rattle.dg_retrieval.specs.declared.graph_lead.Beginning.{Beginning}
use Rattle.dg_retrieval.specs.NamesThere.{HasNamesThere, NamesAreThere}

-- ---- one writing for each set

-- what the sets of these instants, of which each is written before those in front of it, put in at the time
abbrev told_back : ℕ → List ℕ → List (List Element) → List Delta
told_back t [] sets = []
told_back t (u ∷ instants) [] = []
told_back t (u ∷ instants) (set ∷ sets) = told_back t instants sets ++ cond (u == t) (telling set ∷ []) []

-- What is known when all but these sets, the first ones, have been written.
pub record ToldBack (old : List Writing) (instants : List ℕ) (sets rest : List (List Element)) (times : List ℕ) (now : List Writing) : Type 0 where
  pub back : List (List Element)
  pub parted : sets ≡ rest ++ back
  pub told : (n : ℕ) → n < length times → written_for n now ≡ written_for n old ++ told_back (get_or times n 0) (drop (length rest) instants) back

none_there : (t : ℕ) (instants : List ℕ) → told_back t instants [] ≡ []
none_there t [] = refl
none_there t (u ∷ instants) = refl

pub told_none : (old : List Writing) (instants : List ℕ) (sets : List (List Element)) (times : List ℕ) → length sets ≡ length instants → ToldBack old instants sets sets times old
told_none old instants sets times same = record {
  back = [];
  parted = sym (append-nil sets);
  told = λ n lt. sym (ap (λ l. written_for n old ++ l) (none_there (get_or times n 0) (drop (length sets) instants)) ∙ append-nil (written_for n old));
}

written_more : (n : ℕ) (now : List Writing) (w : Writing) → written_for n (now ++ w ∷ []) ≡ written_for n now ++ cond (is_for n w) (w.delta ∷ []) []
written_more n now w = written_cut n now (w ∷ [])

length-snoc : (xs : List (List Element)) (x : List Element) → length (xs ++ x ∷ []) ≡ suc (length xs)
length-snoc [] x = refl
length-snoc (y ∷ xs) x = ap suc (length-snoc xs x)

module _ (old : List Writing) (instants : List ℕ) (sets rest less : List (List Element)) (times : List ℕ) (set : List Element) (now after : List Writing) (w : Writing) where
  pub told_next : length sets ≡ length instants → ToldBack old instants sets rest times now → rest ≡ less ++ set ∷ [] → w.targets.items ≡ map (λ t. get_or instants (length less) 0 == t) times → w.delta ≡ telling set
      → after ≡ now ++ w ∷ [] → ToldBack old instants sets less times after
  told_next same told popped targets tells pushed =
      let shorter : length rest ≡ suc (length less) = ap length popped ∙ length-snoc less set in
      let u : ℕ = get_or instants (length less) 0 in
      let all = ap length told.parted ∙ length-append rest told.back in
      let behind : drop (length less) instants ≡ u ∷ drop (length rest) instants = drop_more instants (length less) 0 (omega (arith, same, shorter, all)) ∙ ap (λ n. u ∷ drop n instants) (omega (arith, shorter)) in
      record {
        back = set ∷ told.back;
        parted = told.parted ∙ ap (λ r. r ++ told.back) popped ∙ append_assoc less (set ∷ []) told.back;
        told = λ n lt.
            let t : ℕ = get_or times n 0 in
            let here : is_for n w ≡ (u == t) = ap (λ (l : List Bool). get_or l n false) targets ∙ get_or-map (λ t. u == t) times n 0 false lt in
            let more : List Delta = told_back t (drop (length rest) instants) told.back in
            let one : List Delta = cond (u == t) (telling set ∷ []) [] in
            ap (written_for n) pushed ∙ written_more n now w ∙ (λ i. told.told n lt i ++ cond (here i) (tells i ∷ []) [])
            ∙ append_assoc (written_for n old) more one
            ∙ ap (λ l. written_for n old ++ told_back t l (set ∷ told.back)) (sym behind);
      }

-- ---- at last

none_back : (t : ℕ) (instants : List ℕ) (sets : List (List Element)) → is_among t instants ≡ false → told_back t instants sets ≡ []
none_back t [] sets new = refl
none_back t (u ∷ instants) [] new = refl
none_back t (u ∷ instants) (set ∷ sets) new =
    let apart = or_parts (u == t) (is_among t instants) new in
    (λ i. none_back t instants sets apart.1 i ++ cond (apart.0 i) (telling set ∷ []) [])

one_back : (t : ℕ) (instants : List ℕ) (sets : List (List Element)) → IsOnce instants → length sets ≡ length instants → is_among t instants ≡ true → told_back t instants sets ≡ telling (set_of t instants sets) ∷ []
one_back t [] sets once same there = absurd (false≢true there)
one_back t (u ∷ instants) [] once same there = absurd (omega arith)
one_back t (u ∷ instants) (set ∷ sets) once same there = by (one_back t instants sets once.1 (omega arith)) (u == t) refl there
  where
    by : (is_among t instants ≡ true → told_back t instants sets ≡ telling (set_of t instants sets) ∷ []) → (b : Bool) → (u == t) ≡ b → (b || is_among t instants) ≡ true
        → (told_back t instants sets ++ cond b (telling set ∷ []) []) ≡ telling (cond b set (set_of t instants sets)) ∷ []
    by more true e h = ap (λ l. l ++ telling set ∷ []) (none_back t instants sets (subst (λ v. is_among v instants ≡ false) (eqb-true u t e) once.0))
    by more false e h = append-nil (told_back t instants sets) ∙ more h

-- ---- the leads to which they come

-- for the targets from this number on the messages of these times are written behind the rest
abbrev AreTold : ℕ → List Writing → List Writing → (ℕ → List Element) → List ℕ → Type 0
AreTold n old now f times = (i : ℕ) → i < length times → written_for (n + i) now ≡ written_for (n + i) old ++ telling (f (get_or times i 0)) ∷ []

behind_from : (n : ℕ) (begins : List Beginning) (old now : List Writing) (f : ℕ → List Element) (times : List ℕ) → length times ≡ length begins → AreTold n old now f times
    → TellBehind (leads_from n begins old) (leads_from n begins now) (map f times)
behind_from n [] old now f [] same told = tt
behind_from n [] old now f (t ∷ times) same told = absurd (omega arith)
behind_from n (b ∷ begins) old now f [] same told = absurd (omega arith)
behind_from n (b ∷ begins) old now f (t ∷ times) same told =
    let Here : ℕ → ℕ → Type 0 = λ m u. written_for m now ≡ written_for m old ++ telling (f u) ∷ [] in
    let first : Here n t = subst (λ m. Here m t) (let e : n + 0 ≡ n = omega arith in e) (told 0 (omega arith)) in (
      record {
        begins = refl;
        delta = λ begun s.
            let list = written_for n old in
            ap (λ (l : List Delta). applied (composed_all l) begun) first
            ∙ applies_one_after_the_other (composed_all (list ++ telling (f t) ∷ [])) (composed_all list) (telling (f t)) begun (composes_last list (telling (f t))) s;
      },
      behind_from (suc n) begins old now f times (omega arith)
          (λ i lt. subst (λ m. Here m (get_or times i 0)) (let e : n + suc i ≡ suc n + i = omega arith in e) (told (suc i) (omega (arith, lt)))),
    )

pub told_all : (begins : List Beginning) (old now : List Writing) (instants : List ℕ) (sets rest : List (List Element)) (times : List ℕ) → length times ≡ length begins → instants ≡ each_once times → length sets ≡ length instants
    → rest ≡ [] → ToldBack old instants sets rest times now → TellBehind (leads_from 0 begins old) (leads_from 0 begins now) (sets_for instants sets times)
told_all begins old now instants sets rest times same is long none told =
    let all : sets ≡ told.back = told.parted ∙ ap (λ r. r ++ told.back) none in
    behind_from 0 begins old now (λ t. set_of t instants sets) times same
    (λ n lt.
    let t : ℕ = get_or times n 0 in
    subst (λ m. written_for m now ≡ written_for m old ++ telling (set_of t instants sets) ∷ []) (let e : n ≡ 0 + n = omega arith in e)
    (told.told n lt
    ∙ ap (λ l. written_for n old ++ l)
    ((λ i. told_back t (drop (length (none i)) instants) (sym all i))
    ∙ one_back t instants sets (subst IsOnce (sym is) (is_once times)) long (among_once times instants is t (list_any_at (λ u. u == t) times n 0 lt (itself t))))))

-- ---- how many there are, and which names they have

pub leads_many : (n : ℕ) (begins : List Beginning) (writings : List Writing) → length (leads_from n begins writings) ≡ length begins
leads_many n [] writings = refl
leads_many n (b ∷ begins) writings = ap suc (leads_many (suc n) begins writings)

pub told_many : (leads more : List GraphLead) (sets : List (List Element)) → TellBehind leads more sets → length more ≡ length leads
told_many [] [] [] behind = refl
told_many [] [] (set ∷ sets) behind = absurd behind
told_many [] (told ∷ more) sets behind = absurd behind
told_many (lead ∷ leads) [] sets behind = absurd behind
told_many (lead ∷ leads) (told ∷ more) [] behind = absurd behind
told_many (lead ∷ leads) (told ∷ more) (set ∷ sets) behind = ap suc (told_many leads more sets behind.1)

abbrev pub PutsInNamesThere : ℕ → GraphLead → Type 0
PutsInNamesThere name_count l = NamesAreThere name_count l.delta.plus

-- nothing is taken out
without_none : (set : List Element) → without_all set [] ≡ set
without_none [] = refl
without_none (x ∷ set) = ap (λ l. x ∷ l) (without_none set)

-- messages are put in
pub has-telling : (messages set : List Element) (x : Element) → has (applied (telling messages) set) x ≡ (has set x || has messages x)
has-telling messages set x = has-unioned (without_all set []) messages x ∙ ap (λ (l : List Element). has l x || has messages x) (without_none set)

-- what a delta puts in is what it makes of nothing
put_in : (d : Delta) (x : Element) → has (applied d []) x ≡ has d.plus x
put_in d x = has-unioned [] d.plus x

told_there : (name_count : ℕ) (lead told : GraphLead) (set : List Element) → TellsBehind lead told set → NamesAreThere name_count set → PutsInNamesThere name_count lead → PutsInNamesThere name_count told
told_there name_count lead told set behind those these x h = by (or_cases (has lead.delta.plus x) (has set x) (sym both ∙ h))
  where
    both : has told.delta.plus x ≡ (has lead.delta.plus x || has set x)
    both =
        sym (put_in told.delta x) ∙ ap (λ s. has s x) (behind.delta [] tt)
        ∙ has-telling set (applied lead.delta []) x ∙ ap (λ b. b || has set x) (put_in lead.delta x)

    by : (has lead.delta.plus x ≡ true) ⊎ (has set x ≡ true) → HasNamesThere name_count x
    by (inl e) = these x e
    by (inr e) = those x e

pub all_there : (name_count : ℕ) (leads more : List GraphLead) (sets : List (List Element)) → TellBehind leads more sets → All (NamesAreThere name_count) sets
    → All (PutsInNamesThere name_count) leads → All (PutsInNamesThere name_count) more
all_there name_count [] [] [] behind those these = All-nil (PutsInNamesThere name_count)
all_there name_count [] [] (set ∷ sets) behind those these = absurd behind
all_there name_count [] (told ∷ more) sets behind those these = absurd behind
all_there name_count (lead ∷ leads) [] sets behind those these = absurd behind
all_there name_count (lead ∷ leads) (told ∷ more) [] behind those these = absurd behind
all_there name_count (lead ∷ leads) (told ∷ more) (set ∷ sets) behind those these =
    All-cons (PutsInNamesThere name_count) told more
    (told_there name_count lead told set behind.0 (All-head (NamesAreThere name_count) set sets those) (All-head (PutsInNamesThere name_count) lead leads these))
    (all_there name_count leads more sets behind.1 (All-tail (NamesAreThere name_count) set sets those) (All-tail (PutsInNamesThere name_count) lead leads these))

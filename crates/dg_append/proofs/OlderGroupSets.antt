-- Sets of nodes that are read group after group.
use Rattle.std.proofs.Common.{◌≡◌, ℕ, zero, suc, ◌+◌, ◌-◌, ◌/◌, ◌<◌, ◌≤◌, List as ListOf, [], ◌∷◌, ◌++◌, Option, Some, None, Result, Ok, Err, length, take, drop, min, inl, inr, refl, sym, ap, subst, ◌∙◌, arith, length-drop, length-take, take-add, drop-drop, append_assoc, append-nil}
use Rattle.std.specs.Prelude.{IfSome}
use Rattle.std.specs.Global.{Vec}
use Rattle.std.specs.List.{AllZip, sum}
use Rattle.std.proofs.lemmas.List.{map-append, take_all}
use Rattle.std.proofs.lemmas.List.Sums.{sum_by-append, sum_by-take-le}
use Rattle.dg_append.specs.declared.older_sets.TheConstants.{GROUP_MAX}
use Rattle.dg_append.specs.OlderChildSteps.{AreLedByGroups}
use Rattle.dg_append.specs.OlderGroups.{AreUndamaged, IsDamageOfGroups, IsFirstOfGroups, groups, in_groups}
use Rattle.dg_fold.specs.BytesRead.{TakesAtMost}
use Rattle.dg_graph.specs.declared.element.Element.{Element}
use Rattle.dg_history.specs.declared.node.NodeId.{NodeId}
use Rattle.dg_history.specs.declared.node.NodeId.TheVariants.{Root}
use Rattle.dg_history.specs.History.{History, events_of}
use Rattle.dg_index.specs.Hierarchy.{set_of}
use Rattle.dg_index.specs.OpenedIndex.{Opening}
use Rattle.dg_plan.specs.declared.edge.Edge.{Edge}
use Rattle.dg_plan.specs.HistoryGraph.{all_columns}
use Rattle.dg_plan.specs.IndexGraph.{arcs_of}
use Rattle.dg_plan.specs.Walks.{AreSingles}
use Rattle.dg_records.specs.declared.fault.RecordFault.{RecordFault}
use Rattle.dg_records.specs.declared.fault.RecordFault.TheVariants as fault
use Rattle.dg_retrieval.specs.KeptGraph.{record_edges}
use Rattle.dg_retrieval.specs.NodeSets.{IsIndexOver, IsUndamaged, sets_of}
use Rattle.dg_retrieval.specs.Calls.{AreLedByTree, GivesSetsOver, TellsDamage}
use Rattle.dg_retrieval.specs.Retrieval.{IsFirstDamage, IsNoDamage}

-- ---- the first of some elements, and those behind them

pub take_fewer : {A : Type 0} (n : ℕ) (xs : ListOf A) → take (min (length xs) n) xs ≡ take n xs
take_fewer zero xs = ap (λ m. take m xs) (let e : min (length xs) 0 ≡ 0 = omega arith in e)
take_fewer {A} (suc n) [] = ap (λ m. take {A = A} m []) (let e : min 0 (suc n) ≡ 0 = omega arith in e)
take_fewer {A} (suc n) (x ∷ xs) =
    ap (λ m. take m (x ∷ xs)) (let e : min (suc (length xs)) (suc n) ≡ suc (min (length xs) n) = omega arith in e) ∙ ap (λ (l : ListOf A). x ∷ l) (take_fewer n xs)

pub drop_fewer : {A : Type 0} (n : ℕ) (xs : ListOf A) → drop (min (length xs) n) xs ≡ drop n xs
drop_fewer zero xs = ap (λ m. drop m xs) (let e : min (length xs) 0 ≡ 0 = omega arith in e)
drop_fewer {A} (suc n) [] = ap (λ m. drop {A = A} m []) (let e : min 0 (suc n) ≡ 0 = omega arith in e)
drop_fewer (suc n) (x ∷ xs) =
    ap (λ m. drop m (x ∷ xs)) (let e : min (suc (length xs)) (suc n) ≡ suc (min (length xs) n) = omega arith in e) ∙ drop_fewer n xs

zip_take : {A B : Type 0} (R : A → B → Type 0) (n : ℕ) (xs : ListOf A) (ys : ListOf B) → AllZip R xs ys → AllZip R (take n xs) (take n ys)
zip_take R zero xs ys z = tt
zip_take R (suc n) [] [] z = tt
zip_take R (suc n) [] (y ∷ ys) z = absurd z
zip_take R (suc n) (x ∷ xs) [] z = absurd z
zip_take R (suc n) (x ∷ xs) (y ∷ ys) z = (z.0, zip_take R n xs ys z.1)

zip_drop : {A B : Type 0} (R : A → B → Type 0) (n : ℕ) (xs : ListOf A) (ys : ListOf B) → AllZip R xs ys → AllZip R (drop n xs) (drop n ys)
zip_drop R zero xs ys z = z
zip_drop R (suc n) [] [] z = tt
zip_drop R (suc n) [] (y ∷ ys) z = absurd z
zip_drop R (suc n) (x ∷ xs) [] z = absurd z
zip_drop R (suc n) (x ∷ xs) (y ∷ ys) z = zip_drop R n xs ys z.1

-- ---- the weights of single plans

sum_both : (xs ys : ListOf ℕ) → sum (xs ++ ys) ≡ sum xs + sum ys
sum_both xs ys = sum_by-append (λ n. n) xs ys

sum_first : (n : ℕ) (xs : ListOf ℕ) → sum (take n xs) ≤ sum xs
sum_first n xs = sum_by-take-le (λ n. n) xs n

sum_next : (n m : ℕ) (xs : ListOf ℕ) → sum (take (n + m) xs) ≡ sum (take n xs) + sum (take m (drop n xs))
sum_next n m xs = ap (λ (l : ListOf ℕ). sum l) (take-add n m xs) ∙ sum_both (take n xs) (take m (drop n xs))

takes_both : (a b x y z : ℕ) → TakesAtMost a x y → TakesAtMost b y z → TakesAtMost (a + b) x z
takes_both a b x y z first then = omega (arith, first, then)

takes_fewer : (a b x y : ℕ) → a ≤ b → TakesAtMost a x y → TakesAtMost b x y
takes_fewer a b x y le takes = omega (arith, le, takes)

-- ---- groups

abbrev count_of_groups : ℕ → ℕ
count_of_groups n = (n + (GROUP_MAX - 1)) / GROUP_MAX

one_more : (n : ℕ) → 1 ≤ n → count_of_groups n ≡ suc (count_of_groups (n - GROUP_MAX))
one_more n some = omega (arith, some)

pub groups_next : (nodes : ListOf NodeId) → 1 ≤ length nodes → in_groups nodes ≡ take GROUP_MAX nodes ∷ in_groups (drop GROUP_MAX nodes)
groups_next nodes some =
    ap (λ n. groups GROUP_MAX n nodes) (one_more (length nodes) some ∙ ap (λ n. suc (count_of_groups n)) (sym (length-drop GROUP_MAX nodes)))

pub none_left : (nodes : ListOf NodeId) (done : ℕ) → length nodes ≤ done → in_groups (drop done nodes) ≡ []
none_left nodes done le =
    ap (λ n. groups GROUP_MAX n (drop done nodes)) (ap count_of_groups (length-drop done nodes ∙ (let e : length nodes - done ≡ 0 = omega (arith, le) in e)) ∙ (let e : count_of_groups 0 ≡ 0 = omega arith in e))

-- ---- reading

-- what holds in an image holds where it is told
pub some_map : (told : Option (ListOf ℕ)) (P Q : ListOf ℕ → Type 0) → ((image : ListOf ℕ) → P image → Q image) → IfSome told P → IfSome told Q
some_map None P Q f p = tt
some_map (Some image) P Q f p = f image p

pub some_both : (told : Option (ListOf ℕ)) (P Q R : ListOf ℕ → Type 0) → ((image : ListOf ℕ) → P image → Q image → R image) → IfSome told P → IfSome told Q → IfSome told R
some_both None P Q R f p q = tt
some_both (Some image) P Q R f p q = f image p q

pub every_some : (told : Option (ListOf ℕ)) (P : ListOf ℕ → Type 0) → ((image : ListOf ℕ) → P image) → IfSome told P
every_some None P f = tt
every_some (Some image) P f = f image

-- In this image so many of the nodes' sets are read, and so many bytes.
pub record GroupsAreRead (o : Opening) (names : ℕ) (nodes : ListOf NodeId) (done : ℕ) (sets : ListOf (ListOf Element)) (taken then_taken : ℕ) (image : ListOf ℕ) : Type 0 where
  pub whole : AreUndamaged names o image (in_groups (drop done nodes)) → AreUndamaged names o image (in_groups nodes)
  pub damage : (f : RecordFault) → IsFirstOfGroups names o image (in_groups (drop done nodes)) f → IsFirstOfGroups names o image (in_groups nodes) f
  pub led : (rest : ListOf (ListOf Element)) → AreLedByGroups names image o (in_groups (drop done nodes)) rest → AreLedByGroups names image o (in_groups nodes) (sets ++ rest)
  pub sets_are : (z : History) → IsIndexOver z image o names → sets ≡ sets_of z (take done nodes)
  pub most : (z : History) → IsIndexOver z image o names → (singles : ListOf ℕ) → AreSingles (arcs_of (record_edges o)) (Root ∷ []) nodes singles → TakesAtMost (sum (take done singles)) taken then_taken

pub none_read : (o : Opening) (names : ℕ) (nodes : ListOf NodeId) (sets : ListOf (ListOf Element)) (taken : ℕ) → sets ≡ [] → (image : ListOf ℕ) → GroupsAreRead o names nodes 0 sets taken taken image
none_read o names nodes sets taken none image = record {
  whole = λ w. w;
  damage = λ f d. d;
  led = λ rest l. subst (λ (all : ListOf (ListOf Element)). AreLedByGroups names image o (in_groups nodes) all) (λ i. sym none i ++ rest) l;
  sets_are = λ z over. none;
  most = λ z over singles are. omega arith;
}

-- what a call over these groups tells in an image
abbrev pub Gives : Opening → ℕ → ListOf NodeId → ℕ → ℕ → Result (Vec (ListOf Element)) RecordFault → ListOf ℕ → Type 0
Gives o names nodes taken then_taken r image = (z : History) → IsIndexOver z image o names → GivesSetsOver z (record_edges o) nodes taken then_taken r

module _ (o : Opening) (names : ℕ) (nodes : ListOf NodeId) (done : ℕ) (more : done < length nodes) where
  abbrev pub size_next : ℕ
  size_next = min (length nodes - done) GROUP_MAX

  size_is : size_next ≡ min (length (drop done nodes)) GROUP_MAX
  size_is = ap (λ n. min n GROUP_MAX) (sym (length-drop done nodes))

  pub group_is : take size_next (drop done nodes) ≡ take GROUP_MAX (drop done nodes)
  group_is = ap (λ n. take n (drop done nodes)) size_is ∙ take_fewer GROUP_MAX (drop done nodes)

  rest_is : drop (done + size_next) nodes ≡ drop GROUP_MAX (drop done nodes)
  rest_is = sym (drop-drop size_next done nodes) ∙ ap (λ n. drop n (drop done nodes)) size_is ∙ drop_fewer GROUP_MAX (drop done nodes)

  groups_are : in_groups (drop done nodes) ≡ take size_next (drop done nodes) ∷ in_groups (drop (done + size_next) nodes)
  groups_are =
      groups_next (drop done nodes) (omega (arith, length-drop done nodes, more))
      ∙ (λ i. sym group_is i ∷ in_groups (sym rest_is i))

  pub group_long : length (take size_next (drop done nodes)) ≡ size_next
  group_long = length-take size_next (drop done nodes) ∙ (let e : min size_next (length (drop done nodes)) ≡ size_next = omega (arith, length-drop done nodes) in e)

  -- one group more
  pub one_read : (sets all : ListOf (ListOf Element)) (group : Vec (ListOf Element)) (taken middle last : ℕ) (image : ListOf ℕ)
      → GroupsAreRead o names nodes done sets taken middle image → Gives o names (take size_next (drop done nodes)) middle last (Ok group) image
      → AreLedByTree names image o (take size_next (drop done nodes)) group.items → IsUndamaged names (record_edges o) o all_columns (take size_next (drop done nodes)) image → all ≡ sets ++ group.items
      → GroupsAreRead o names nodes (done + size_next) all taken last image
  one_read sets all group taken middle last image r g led undamaged are = record {
    whole = λ rest. r.whole (subst (AreUndamaged names o image) (sym groups_are) (undamaged, rest));
    damage = λ f rest. r.damage f (later f rest);
    led = λ rest l.
        subst (λ (x : ListOf (ListOf Element)). AreLedByGroups names image o (in_groups nodes) x) (sym (append_assoc sets group.items rest) ∙ (λ i. sym are i ++ rest))
        (r.led (group.items ++ rest) (subst (λ (gs : ListOf (ListOf NodeId)). AreLedByGroups names image o gs (group.items ++ rest)) (sym groups_are) (group.items, rest, refl, led, l)));
    sets_are = λ z over.
        are ∙ (λ i. r.sets_are z over i ++ (g z over).sets i) ∙ sym (map-append (set_of z.params (events_of z)) (take done nodes) (take size_next (drop done nodes)))
        ∙ ap (sets_of z) (sym (take-add done size_next nodes));
    most = λ z over singles s.
        let here = (g z over).most (take size_next (drop done singles)) (zip_take _ size_next (drop done nodes) (drop done singles) (zip_drop _ done nodes singles s)) in
        subst (λ n. TakesAtMost n taken last) (sym (sum_next done size_next singles))
        (takes_both (sum (take done singles)) (sum (take size_next (drop done singles))) taken middle last (r.most z over singles s) here);
  }
    where
      later : (f : RecordFault) → IsFirstOfGroups names o image (in_groups (drop (done + size_next) nodes)) f → IsFirstOfGroups names o image (in_groups (drop done nodes)) f
      later fault.Disk rest = tt
      later fault.Memory rest = tt
      later (fault.Damaged key col) rest = subst (λ (gs : ListOf (ListOf NodeId)). IsDamageOfGroups names o image gs key col) (sym groups_are) (inr (undamaged, rest))

  -- the group was not read, or its sets were not kept
  pub none_more_read : (sets : ListOf (ListOf Element)) (r : Result (Vec (ListOf Element)) RecordFault) (f : RecordFault) (taken middle last : ℕ) (image : ListOf ℕ)
      → GroupsAreRead o names nodes done sets taken middle image → Gives o names (take size_next (drop done nodes)) middle last r image → ((z : History) → IsIndexOver z image o names → IsNoDamage f)
      → Gives o names nodes taken last (Err f) image
  none_more_read sets r f taken middle last image read g never z over = record {
    sets = tt;
    most = λ singles s.
        let here = (g z over).most (take size_next (drop done singles)) (zip_take _ size_next (drop done nodes) (drop done singles) (zip_drop _ done nodes singles s)) in
        let both : TakesAtMost (sum (take done singles) + sum (take size_next (drop done singles))) taken last =
        takes_both (sum (take done singles)) (sum (take size_next (drop done singles))) taken middle last (read.most z over singles s) here in
        takes_fewer (sum (take done singles) + sum (take size_next (drop done singles))) (sum singles) taken last
        (omega (arith, sum_next done size_next singles, sum_first (done + size_next) singles)) both;
    never = never z over;
  }

  -- the first damage of the group is the first of all groups
  pub first_damage : (sets : ListOf (ListOf Element)) (taken middle : ℕ) (f : RecordFault) (image : ListOf ℕ) → GroupsAreRead o names nodes done sets taken middle image
      → IsFirstDamage names (record_edges o) o all_columns (take size_next (drop done nodes)) image f → IsFirstOfGroups names o image (in_groups nodes) f
  first_damage sets taken middle fault.Disk image r g = tt
  first_damage sets taken middle fault.Memory image r g = tt
  first_damage sets taken middle (fault.Damaged key col) image r g =
      r.damage (fault.Damaged key col) (subst (λ (gs : ListOf (ListOf NodeId)). IsDamageOfGroups names o image gs key col) (sym groups_are) (inl g))

-- all groups are read
module _ (o : Opening) (names : ℕ) (nodes : ListOf NodeId) (done : ℕ) (sets : Vec (ListOf Element)) (taken then_taken : ℕ) (over : length nodes ≤ done) (image : ListOf ℕ) (r : GroupsAreRead o names nodes done sets.items taken then_taken image) where
  pub all_given : Gives o names nodes taken then_taken (Ok sets) image
  all_given z is = record {
    sets = r.sets_are z is ∙ ap (sets_of z) (take_all done nodes over);
    most = λ singles s. takes_fewer (sum (take done singles)) (sum singles) taken then_taken (sum_first done singles) (r.most z is singles s);
    never = tt;
  }

  pub all_led : AreLedByGroups names image o (in_groups nodes) sets.items
  all_led =
      subst (λ (x : ListOf (ListOf Element)). AreLedByGroups names image o (in_groups nodes) x) (append-nil sets.items)
      (r.led [] (subst (λ (gs : ListOf (ListOf NodeId)). AreLedByGroups names image o gs []) (sym (none_left nodes done over)) refl))

  pub all_whole : AreUndamaged names o image (in_groups nodes)
  all_whole = r.whole (subst (AreUndamaged names o image) (sym (none_left nodes done over)) tt)

-- memory lacked before anything was read
pub lacks_memory : (o : Opening) (names : ℕ) (nodes : ListOf NodeId) (taken : ℕ) (image : ListOf ℕ) → Gives o names nodes taken taken (Err fault.Memory) image
lacks_memory o names nodes taken image z over = record { sets = tt; most = λ singles s. omega arith; never = inr refl }

-- there is nothing to be read
pub none_given : (o : Opening) (names : ℕ) (nodes : ListOf NodeId) (taken : ℕ) (sets : Vec (ListOf Element)) → nodes ≡ [] → sets.items ≡ [] → (image : ListOf ℕ) → Gives o names nodes taken taken (Ok sets) image
none_given o names nodes taken sets none empty image z over = record { sets = empty ∙ ap (sets_of z) (sym none); most = λ singles s. omega arith; never = tt }

pub none_whole : (o : Opening) (names : ℕ) (nodes : ListOf NodeId) → nodes ≡ [] → (image : ListOf ℕ) → AreUndamaged names o image (in_groups nodes)
none_whole o names nodes none image = subst (λ (ns : ListOf NodeId). AreUndamaged names o image (in_groups ns)) (sym none) tt

-- ---- a call, over what it was called with

-- the edges of the planner and the nodes of a call
abbrev pub Called : Type 0
Called = Opening × ListOf Edge × ListOf NodeId

-- what it tells of the sets, and of damage
abbrev pub CallGives : ℕ → ℕ → ℕ → Result (Vec (ListOf Element)) RecordFault → ListOf ℕ → Called → Type 0
CallGives names taken then_taken r image x = (z : History) → IsIndexOver z image x.0 names → GivesSetsOver z x.1 x.2 taken then_taken r

abbrev pub CallDamage : ℕ → Result (Vec (ListOf Element)) RecordFault → ListOf ℕ → Called → Type 0
CallDamage names r image x = TellsDamage names x.1 x.0 all_columns x.2 image r

abbrev pub CallLeads : ℕ → ListOf (ListOf Element) → ListOf ℕ → Called → Type 0
CallLeads names sets image x = AreLedByTree names image x.0 x.2 sets

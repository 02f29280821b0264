-- What the writes of single entries leave.
use Rattle.std.proofs.Common.{◌≡◌, ℕ, ◌+◌, ◌≤◌, Bool, true, false, cond, ◌||◌, ltb, List, [], Option, Some, None, is_some, length, map, Result, Ok, refl, sym, ap, subst, ◌∙◌, arith, length-append}
use Rattle.std.proofs.lemmas.Bool.{true≢false}
use Rattle.std.proofs.lemmas.Map.Made.{is_some-lookup}
use Rattle.std.proofs.lemmas.List.{length-map}
use Rattle.std.proofs.lemmas.List.Sums.{count_by-le-length}
use Rattle.std.specs.List.{count_by}
use Rattle.std.specs.Map.{keys_of, lookup}
use Rattle.std.specs.Option.{option_map_or}
use Rattle.std.specs.Result.{OnOk}
use Rattle.dg_graph.specs.declared.element.Element.{Element}
use Rattle.dg_graph.specs.Elements.{bit}
use Rattle.dg_graph.specs.Graph.{has_needs}
use Rattle.dg_current.specs.declared.element_entry.ElementEntry.{ElementEntry}
use Rattle.dg_current.specs.declared.element_id.ElementId.{ElementId}
use Rattle.dg_current.specs.contracts.element_id.ElementIdPartialEq.TheImpl as of_ids
use Rattle.dg_current.specs.HeldGraph.{element_entry_at, held_at, more_at, fewer_at, has_entry, ids_of, elements_of, KeepsHeld, KeepsUses, HeldGraphIsSound}
use Rattle.dg_current.specs.ElementIds.{element_id_of, at, needs_id, same_id}
use Rattle.dg_current.specs.HeldElements.{element_in}
use Rattle.dg_current.proofs.HeldGraph.{same_id_exact, derived_is, derived_entry, kept_unknown}
use Rattle.dg_current.proofs.HeldGraphUses.{count_fits, length_collected}
use Rattle.dg_current.proofs.ElementIds.{at_lives, needs_live}

-- what a clause says of a call that did not fail
pub from_ok : {T E : Type 0} (r : Result T E) (x : T) (P : Type 0) → r ≡ Ok x → OnOk r P → P
from_ok r x P is h = subst (λ q. OnOk q P) is h

pub has_entry_is : (entries : List (ElementId × ElementEntry)) (p : ElementId) → has_entry entries p ≡ is_some (element_entry_at entries p)
has_entry_is entries p = sym (is_some-lookup (same_id p) entries)

pub lacks_entry : (entries : List (ElementId × ElementEntry)) (p : ElementId) → None ≡ element_entry_at entries p → has_entry entries p ≡ false
lacks_entry entries p e = has_entry_is entries p ∙ ap is_some (sym e)

-- where the id has no entry, there is room for one
pub room_left : (entries : List (ElementId × ElementEntry)) (p : ElementId) (spare : ℕ) → (has_entry entries p || ltb 0 spare) ≡ true → None ≡ element_entry_at entries p → ltb 0 spare ≡ true
room_left entries p spare h e = sym (ap (λ b. b || ltb 0 spare) (lacks_entry entries p e)) ∙ h

-- one entry is written, and the others stay
abbrev pub Writes : List (ElementId × ElementEntry) → List (ElementId × ElementEntry) → ElementId → ElementEntry → Type 0
Writes old new id c = (p : ElementId) → element_entry_at new p ≡ cond (same_id id p) (Some c) (element_entry_at old p)

pub writes_is : (old new : List (ElementId × ElementEntry)) (id : ElementId) (entry : ElementEntry)
    → ((q : ElementId) → lookup ((of_ids.ghosts).eq q) new ≡ cond ((of_ids.ghosts).eq id q) (Some entry) (lookup ((of_ids.ghosts).eq q) old))
    → Writes old new id entry
writes_is old new id entry h =
    λ p. sym (derived_entry new p) ∙ h p ∙ (λ i. cond (derived_is id p i) (Some entry) (derived_entry old p i))

-- what an entry, or none, says, after a write
module _ {X : Type 0} (f : ElementEntry → X) (none : X) where
  read_after : (b : Bool) (c : ElementEntry) (o : Option ElementEntry) → option_map_or f (cond b (Some c) o) none ≡ cond b (f c) (option_map_or f o none)
  read_after true c o = refl
  read_after false c o = refl

module _ (old new : List (ElementId × ElementEntry)) (id : ElementId) (c : ElementEntry) (w : Writes old new id c) where
  -- an id has an entry where it had one, and the id that was written has one
  pub has_after : (p : ElementId) → has_entry new p ≡ (same_id id p || has_entry old p)
  has_after p = has_entry_is new p ∙ ap is_some (w p) ∙ by (same_id id p) ∙ ap (λ b. same_id id p || b) (sym (has_entry_is old p))
    where
      by : (b : Bool) → is_some (cond b (Some c) (element_entry_at old p)) ≡ (b || is_some (element_entry_at old p))
      by true = refl
      by false = refl

  pub has_same : has_entry old id ≡ true → (p : ElementId) → has_entry new p ≡ has_entry old p
  has_same there p = has_after p ∙ by (same_id id p) refl
    where
      by : (b : Bool) → same_id id p ≡ b → (b || has_entry old p) ≡ has_entry old p
      by true s = sym (ap (has_entry old) (sym (same_id_exact id p s)) ∙ there)
      by false s = refl

  pub held_after : (base : List Element) (p : ElementId) → held_at base new p ≡ cond (same_id id p) (element_in id c.held) (held_at base old p)
  held_after base p =
      ap (λ o. option_map_or (λ (d : ElementEntry). element_in p d.held) o (at base p)) (w p)
      ∙ read_after (λ (d : ElementEntry). element_in p d.held) (at base p) (same_id id p) c (element_entry_at old p)
      ∙ by (same_id id p) refl
    where
      by : (b : Bool) → same_id id p ≡ b → cond b (element_in p c.held) (held_at base old p) ≡ cond b (element_in id c.held) (held_at base old p)
      by true s = ap (λ q. element_in q c.held) (sym (same_id_exact id p s))
      by false s = refl

  pub more_after : (p : ElementId) → more_at new p ≡ cond (same_id id p) c.more (more_at old p)
  more_after p =
      ap (λ o. option_map_or (λ (d : ElementEntry). d.more) o 0) (w p)
      ∙ read_after (λ (d : ElementEntry). d.more) 0 (same_id id p) c (element_entry_at old p)

  pub fewer_after : (p : ElementId) → fewer_at new p ≡ cond (same_id id p) c.fewer (fewer_at old p)
  fewer_after p =
      ap (λ o. option_map_or (λ (d : ElementEntry). d.fewer) o 0) (w p)
      ∙ read_after (λ (d : ElementEntry). d.fewer) 0 (same_id id p) c (element_entry_at old p)

-- a value that is kept for the written id is kept for every id
pub kept_everywhere : {X : Type 0} (f : ElementId → X) (id p : ElementId) (x : X) → x ≡ f id → cond (same_id id p) x (f p) ≡ f p
kept_everywhere f id p x e = by (same_id id p) refl
  where
    by : (b : Bool) → same_id id p ≡ b → cond b x (f p) ≡ f p
    by true s = e ∙ ap f (same_id_exact id p s)
    by false s = refl

module _ (old new : List (ElementId × ElementEntry)) (id : ElementId) (c : ElementEntry) (w : Writes old new id c) where
  -- what the entry does not change stays
  pub keeps_held : (base : List Element) → element_in id c.held ≡ held_at base old id → KeepsHeld base old new
  keeps_held base is p = held_after old new id c w base p ∙ kept_everywhere (held_at base old) id p (element_in id c.held) is

  pub keeps_uses : c.more ≡ more_at old id → c.fewer ≡ fewer_at old id → KeepsUses old new
  keeps_uses more fewer = record {
    more = λ p. more_after old new id c w p ∙ kept_everywhere (more_at old) id p c.more more;
    fewer = λ p. fewer_after old new id c w p ∙ kept_everywhere (fewer_at old) id p c.fewer fewer;
  }

  -- one use more, and one less
  pub counts_up : c.more + fewer_at old id ≡ more_at old id + c.fewer + 1 → (p : ElementId)
      → more_at new p + fewer_at old p ≡ more_at old p + fewer_at new p + bit (same_id id p)
  counts_up one p = by (same_id id p) refl (more_after old new id c w p) (fewer_after old new id c w p)
    where
      by : (b : Bool) → same_id id p ≡ b → more_at new p ≡ cond (same_id id p) c.more (more_at old p) → fewer_at new p ≡ cond (same_id id p) c.fewer (fewer_at old p)
          → more_at new p + fewer_at old p ≡ more_at old p + fewer_at new p + bit (same_id id p)
      by true e more fewer =
          let here = same_id_exact id p e in
          let old_more : more_at old id ≡ more_at old p = ap (more_at old) here in
          let old_fewer : fewer_at old id ≡ fewer_at old p = ap (fewer_at old) here in
          let new_more : more_at new p ≡ c.more = more ∙ ap (λ b. cond b c.more (more_at old p)) e in
          let new_fewer : fewer_at new p ≡ c.fewer = fewer ∙ ap (λ b. cond b c.fewer (fewer_at old p)) e in
          let bit_is : bit (same_id id p) ≡ 1 = ap bit e in
          omega arith
      by false e more fewer =
          let new_more : more_at new p ≡ more_at old p = more ∙ ap (λ b. cond b c.more (more_at old p)) e in
          let new_fewer : fewer_at new p ≡ fewer_at old p = fewer ∙ ap (λ b. cond b c.fewer (fewer_at old p)) e in
          let bit_is : bit (same_id id p) ≡ 0 = ap bit e in
          omega arith

  pub counts_down : more_at old id + c.fewer ≡ c.more + fewer_at old id + 1 → (p : ElementId)
      → more_at old p + fewer_at new p ≡ more_at new p + fewer_at old p + bit (same_id id p)
  counts_down one p = by (same_id id p) refl (more_after old new id c w p) (fewer_after old new id c w p)
    where
      by : (b : Bool) → same_id id p ≡ b → more_at new p ≡ cond (same_id id p) c.more (more_at old p) → fewer_at new p ≡ cond (same_id id p) c.fewer (fewer_at old p)
          → more_at old p + fewer_at new p ≡ more_at new p + fewer_at old p + bit (same_id id p)
      by true e more fewer =
          let here = same_id_exact id p e in
          let old_more : more_at old id ≡ more_at old p = ap (more_at old) here in
          let old_fewer : fewer_at old id ≡ fewer_at old p = ap (fewer_at old) here in
          let new_more : more_at new p ≡ c.more = more ∙ ap (λ b. cond b c.more (more_at old p)) e in
          let new_fewer : fewer_at new p ≡ c.fewer = fewer ∙ ap (λ b. cond b c.fewer (fewer_at old p)) e in
          let bit_is : bit (same_id id p) ≡ 1 = ap bit e in
          omega arith
      by false e more fewer =
          let new_more : more_at new p ≡ more_at old p = more ∙ ap (λ b. cond b c.more (more_at old p)) e in
          let new_fewer : fewer_at new p ≡ fewer_at old p = fewer ∙ ap (λ b. cond b c.fewer (fewer_at old p)) e in
          let bit_is : bit (same_id id p) ≡ 0 = ap bit e in
          omega arith

-- what an id's entry says
module _ (base : List Element) (entries : List (ElementId × ElementEntry)) (p : ElementId) where
  pub element_found : (c : ElementEntry) → Some c ≡ element_entry_at entries p → element_in p c.held ≡ held_at base entries p
  element_found c e = ap (λ o. option_map_or (λ (d : ElementEntry). element_in p d.held) o (at base p)) e

  pub element_missing : None ≡ element_entry_at entries p → at base p ≡ held_at base entries p
  element_missing e = ap (λ o. option_map_or (λ (d : ElementEntry). element_in p d.held) o (at base p)) e

module _ (entries : List (ElementId × ElementEntry)) (p : ElementId) where
  pub more_found : (c : ElementEntry) → Some c ≡ element_entry_at entries p → c.more ≡ more_at entries p
  more_found c e = ap (λ o. option_map_or (λ (d : ElementEntry). d.more) o 0) e

  pub fewer_found : (c : ElementEntry) → Some c ≡ element_entry_at entries p → c.fewer ≡ fewer_at entries p
  fewer_found c e = ap (λ o. option_map_or (λ (d : ElementEntry). d.fewer) o 0) e

  pub more_missing : None ≡ element_entry_at entries p → 0 ≡ more_at entries p
  more_missing e = ap (λ o. option_map_or (λ (d : ElementEntry). d.more) o 0) e

  pub fewer_missing : None ≡ element_entry_at entries p → 0 ≡ fewer_at entries p
  fewer_missing e = ap (λ o. option_map_or (λ (d : ElementEntry). d.fewer) o 0) e

-- of an empty start, the ids that an element of the graph needs have entries
pub needs_known : (entries : List (ElementId × ElementEntry)) → HeldGraphIsSound [] entries → (x : Element) → has_needs (elements_of [] entries) x ≡ true
    → (p : ElementId) → needs_id p x ≡ true → has_entry entries p ≡ true
needs_known entries sound x fed p n = by (has_entry entries p) refl
  where
    by : (b : Bool) → has_entry entries p ≡ b → has_entry entries p ≡ true
    by true e = e
    by false e =
        absurd (true≢false (sym (at_lives (elements_of [] entries) p (needs_live (elements_of [] entries) x p fed n)) ∙ ap is_some (kept_unknown [] entries sound.own_ids p e)))

-- there are no more elements than those at the start and one for each entry
pub elements_fit : (base : List Element) (entries : List (ElementId × ElementEntry)) → length (elements_of base entries) ≤ length base + length entries
elements_fit base entries =
    let fits = length_collected (held_at base entries) (ids_of base entries) in
    let all = length-append (map element_id_of base) (keys_of entries) in
    let keys = length-map {A = ElementId × ElementEntry} {B = ElementId} entries (λ e. e.0) in
    let ids = length-map {A = Element} {B = ElementId} base element_id_of in
    omega arith

-- no count is far above the other
module _ (base : List Element) (entries : List (ElementId × ElementEntry)) (sound : HeldGraphIsSound base entries) (p : ElementId) where
  uses_fit : count_by (needs_id p) (elements_of base entries) ≤ length base + length entries
  uses_fit =
      let fits = count_fits (needs_id p) (held_at base entries) (ids_of base entries) in
      let all = length-append (map element_id_of base) (keys_of entries) in
      let keys = length-map {A = ElementId × ElementEntry} {B = ElementId} entries (λ e. e.0) in
      let ids = length-map {A = Element} {B = ElementId} base element_id_of in
      omega arith

  pub more_fits : more_at entries p ≤ fewer_at entries p + (length base + length entries)
  more_fits =
      let counts = sound.uses p in
      let fits = uses_fit in
      omega arith

  pub fewer_fits : fewer_at entries p ≤ more_at entries p + length base
  fewer_fits =
      let counts = sound.uses p in
      let fits = count_by-le-length (needs_id p) base in
      omega arith

-- How the entries of new handles are added, one after another, and how the numbers of handles rise.
use Rattle.std.proofs.Common.{arith, ◌≡◌, ℕ, zero, suc, ◌+◌, ◌<◌, ◌≤◌, List, [], ◌∷◌, ◌++◌, Option, length, map, take, get_or, remove, length-take-le, append_assoc, refl, sym, ap, ◌∙◌, subst}
use Rattle.std.proofs.lemmas.List.{map_more, map_push, take_more}
use Rattle.std.proofs.Math.ListN.{length-map}
use Rattle.dg_graph.specs.declared.element.Columns.{Columns}
use Rattle.dg_handles.specs.declared.entries.Entry.{Entry}
use Rattle.dg_handles.specs.Handles.{RiseWithin, numbered, overlays_on}
use Rattle.dg_handles.proofs.HandleEntries.{Entries, handles_in}
use Rattle.dg_machine.specs.declared.stands.Stands.{Stands}
use Rattle.dg_machine.specs.declared.stands.Shown.TheVariants.{Overlay}
use Rattle.dg_pool.specs.declared.slots.Slot.{Slot}
use Rattle.dg_retrieval.specs.Beginnings.{GraphLead, base_handle}
use Rattle.dg_retrieval.specs.declared.graph_lead.Beginning.{Beginning}
use Rattle.dg_pool.specs.Changes.{numbers_of}

-- ---- overlays, one more

overlays_push : (cols : Columns) (times : List ℕ) (ons : List (Option ℕ)) (t : ℕ) (on : Option ℕ) → length ons ≡ length times
    → overlays_on cols (times ++ t ∷ []) (ons ++ on ∷ []) ≡ overlays_on cols times ons ++ record { what = Overlay t on; cols = cols } ∷ []
overlays_push cols [] [] t on many = refl
overlays_push cols [] (o ∷ ons) t on many = absurd (omega (arith, many))
overlays_push cols (u ∷ times) [] t on many = absurd (omega (arith, many))
overlays_push cols (u ∷ times) (o ∷ ons) t on many = ap (λ l. record { what = Overlay u o; cols = cols } ∷ l) (overlays_push cols times ons t on (omega (arith, many)))

overlays_length : (cols : Columns) (times : List ℕ) (ons : List (Option ℕ)) → length ons ≡ length times → length (overlays_on cols times ons) ≡ length times
overlays_length cols [] ons many = refl
overlays_length cols (t ∷ times) [] many = absurd (omega (arith, many))
overlays_length cols (t ∷ times) (on ∷ ons) many = ap suc (overlays_length cols times ons (omega (arith, many)))

numbered_push : (next : ℕ) (xs : List Stands) (x : Stands) → numbered next (xs ++ x ∷ []) ≡ numbered next xs ++ (next + length xs, x) ∷ []
numbered_push next [] x = ap (λ n. (n, x) ∷ []) (let same : next ≡ next + 0 = omega arith in same)
numbered_push next (y ∷ xs) x =
    let number : next + 1 + length xs ≡ next + length (y ∷ xs) = omega arith in
    ap (λ l. (next, y) ∷ l) (numbered_push (next + 1) xs x) ∙ ap (λ n. (next, y) ∷ (numbered (next + 1) xs ++ (n, x) ∷ [])) number

abbrev pub entry_of : Entry → ℕ × Stands
entry_of e = (e.handle, e.stands)

-- overlays for one instant more
pub overlays_more : (cols : Columns) (times : List ℕ) (begins : List Beginning) (d : Beginning) (on : Option ℕ) (now after : List Stands) (i : ℕ) → i < length times → length begins ≡ length times
    → on ≡ base_handle (get_or begins i d) → after ≡ now ++ record { what = Overlay (get_or times i 0) on; cols = cols } ∷ []
    → now ≡ overlays_on cols (take i times) (map base_handle (take i begins)) → after ≡ overlays_on cols (take (i + 1) times) (map base_handle (take (i + 1) begins))
overlays_more cols times begins d on now after i within many is added so_far =
    let begun : Beginning = get_or begins i d in
    let ons : List (Option ℕ) = map base_handle (take i begins) in
    let beside : length ons ≡ length (take i times) =
    length-map (take i begins) base_handle ∙ length-take-le i begins (omega (arith, within, many)) ∙ sym (length-take-le i times (omega (arith, within))) in
    let ons_more : map base_handle (take (i + 1) begins) ≡ ons ++ base_handle begun ∷ [] = map_more base_handle begins i d (omega (arith, within, many)) in
    added ∙ (λ k. so_far k ++ record { what = Overlay (get_or times i 0) (is k); cols = cols } ∷ [])
    ∙ sym (overlays_push cols (take i times) ons (get_or times i 0) (base_handle begun) beside)
    ∙ (λ k. overlays_on cols (sym (take_more times i 0 within) k) (sym ons_more k))

-- the entries with one more
pub table_more : (next : ℕ) (stands : List Stands) (d : Stands) (first now after : List Entry) (e : Entry) (i : ℕ) → i < length stands
    → entry_of e ≡ (next + i, get_or stands i d) → after ≡ now ++ e ∷ []
    → map entry_of now ≡ map entry_of first ++ numbered next (take i stands) → map entry_of after ≡ map entry_of first ++ numbered next (take (i + 1) stands)
table_more next stands d first now after e i within is added so_far =
    let x : Stands = get_or stands i d in
    ap (map entry_of) added ∙ map_push entry_of now e
    ∙ (λ k. so_far k ++ is k ∷ [])
    ∙ append_assoc (map entry_of first) (numbered next (take i stands)) ((next + i, x) ∷ [])
    ∙ ap (λ n. map entry_of first ++ (numbered next (take i stands) ++ (next + n, x) ∷ [])) (sym (length-take-le i stands (omega (arith, within))))
    ∙ ap (λ l. map entry_of first ++ l) (sym (numbered_push next (take i stands) x) ∙ ap (numbered next) (sym (take_more stands i d within)))

abbrev pub number_of : Entry → ℕ
number_of e = e.slot.0

pub slots_more : (slots : List Slot) (first now after : List Entry) (e : Entry) (i : ℕ) (d : Slot) → i < length slots → e.slot ≡ get_or slots i d
    → after ≡ now ++ e ∷ [] → map number_of now ≡ map number_of first ++ numbers_of (take i slots)
    → map number_of after ≡ map number_of first ++ numbers_of (take (i + 1) slots)
slots_more slots first now after e i d within is added so_far =
    let k : Slot = get_or slots i d in
    ap (map number_of) added ∙ map_push number_of now e
    ∙ (λ j. so_far j ++ (is j).0 ∷ [])
    ∙ append_assoc (map number_of first) (numbers_of (take i slots)) (k.0 ∷ [])
    ∙ ap (λ l. map number_of first ++ l) (sym (map_more (λ (s : Slot). s.0) slots i d within))

-- ---- the numbers of handles

pub numbers_are : (entries : List Entry) → map (λ (e : Entry). e.handle) entries ≡ handles_in (map entry_of entries)
numbers_are [] = refl
numbers_are (e ∷ entries) = ap (λ l. e.handle ∷ l) (numbers_are entries)

rise_lower : (low mid high : ℕ) (xs : List ℕ) → low ≤ mid → RiseWithin mid high xs → RiseWithin low high xs
rise_lower low mid high [] le rises = omega (arith, le, rises)
rise_lower low mid high (x ∷ xs) le rises = (omega (arith, le, rises.0), rises.1)

rise_append : (low mid high : ℕ) (xs ys : List ℕ) → RiseWithin low mid xs → RiseWithin mid high ys → RiseWithin low high (xs ++ ys)
rise_append low mid high [] ys rises more = rise_lower low mid high ys rises more
rise_append low mid high (x ∷ xs) ys rises more = (rises.0, rise_append (x + 1) mid high xs ys rises.1 more)

pub rise_remove : (low high : ℕ) (xs : List ℕ) (i : ℕ) → RiseWithin low high xs → RiseWithin low high (remove xs i)
rise_remove low high [] zero rises = rises
rise_remove low high [] (suc i) rises = rises
rise_remove low high (x ∷ xs) zero rises = rise_lower low (x + 1) high xs (omega (arith, rises.0)) rises.1
rise_remove low high (x ∷ xs) (suc i) rises = (rises.0, rise_remove (x + 1) high xs i rises.1)

rise_numbered : (next : ℕ) (xs : List Stands) → RiseWithin next (next + length xs) (handles_in (numbered next xs))
rise_numbered next [] = omega arith
rise_numbered next (x ∷ xs) =
    let same : next + 1 + length xs ≡ next + length (x ∷ xs) = omega arith in
    (omega arith, subst (λ (high : ℕ). RiseWithin (next + 1) high (handles_in (numbered (next + 1) xs))) same (rise_numbered (next + 1) xs))

handles-append : (table more : Entries) → handles_in (table ++ more) ≡ handles_in table ++ handles_in more
handles-append [] more = refl
handles-append (e ∷ table) more = ap (λ l. e.0 ∷ l) (handles-append table more)

-- the numbers still rise where new ones come behind them
pub rise_more : (entries after : List Entry) (next last : ℕ) (new : List Stands) → RiseWithin 0 next (map (λ (e : Entry). e.handle) entries) → map entry_of after ≡ map entry_of entries ++ numbered next new
    → last ≡ next + length new → RiseWithin 0 last (map (λ (e : Entry). e.handle) after)
rise_more entries after next last new rises is len =
    subst (RiseWithin 0 last) (sym (numbers_are after ∙ ap handles_in is ∙ handles-append (map entry_of entries) (numbered next new)))
    (subst (λ (high : ℕ). RiseWithin 0 high (handles_in (map entry_of entries) ++ handles_in (numbered next new))) (sym len)
    (rise_append 0 next (next + length new) (handles_in (map entry_of entries)) (handles_in (numbered next new))
    (subst (RiseWithin 0 next) (numbers_are entries) rises) (rise_numbered next new)))

-- as many overlays as instants
pub overlays_many : (cols : Columns) (times : List ℕ) (leads : List GraphLead) → length leads ≡ length times → length (overlays_on cols times (map (λ (l : GraphLead). base_handle l.begins) leads)) ≡ length times
overlays_many cols times leads many = overlays_length cols times (map (λ (l : GraphLead). base_handle l.begins) leads) (length-map leads (λ (l : GraphLead). base_handle l.begins) ∙ many)

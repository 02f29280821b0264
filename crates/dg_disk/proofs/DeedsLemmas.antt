-- What a crash may leave of a disk in memory after one deed more.
use Rattle.std.proofs.Common.{◌≡◌, inl, inr, ℕ, ◌+◌, ◌≤◌, List, [], ◌∷◌, ◌++◌, length, take, refl, sym, subst, ap, arith, ◌∙◌, length-append}
use Rattle.std.proofs.Math.Nat.{le_refl}
use Rattle.std.proofs.lemmas.Bool.{cases_eq}
use Rattle.std.proofs.lemmas.List.{take_all, take-append-le}
use Rattle.dg_disk.specs.Crash.{Torn, LeavesTorn, LeavesNoMore, Passes}
use Rattle.dg_disk.specs.Deeds.{Deed, Wrote, Synced, Moment, settled, after, after_all, TornBy, Leaves}
use Rattle.dg_disk.proofs.CrashTorn.{torn_none, torn_whole}

pub after_more : (deeds : List Deed) (deed : Deed) (m : Moment) → after_all (deeds ++ deed ∷ []) m ≡ after deed (after_all deeds m)
after_more [] deed m = refl
after_more (d ∷ deeds) deed m = after_more deeds deed (after d m)

-- the last of several writes that are torn
torn_last : (ranges : List (ℕ × ℕ)) (range : ℕ × ℕ) (bytes c : List ℕ) → TornBy (ranges ++ range ∷ []) bytes c → (d : List ℕ) × TornBy ranges bytes d × Torn range.0 range.1 d c
torn_last [] range bytes c torn = (bytes, refl, subst (λ (x : List ℕ). Torn range.0 range.1 bytes x) (sym torn.2) torn.1)
torn_last (r ∷ ranges) range bytes c torn =
    let rest = torn_last ranges range torn.0 c torn.2 in
    (rest.0, (torn.0, torn.1, rest.1), rest.2)

pub write_tears : (m : Moment) (offset : ℕ) (piece : List ℕ) → offset ≤ length m.image → LeavesTorn offset (length piece) (Leaves m) (Leaves (after (Wrote offset piece) m))
write_tears m offset piece fits c (inl is) =
    (m.image, inl refl, subst (λ (x : List ℕ). Torn offset (length piece) m.image x) (sym is) (torn_whole offset piece m.image fits))
write_tears m offset piece fits c (inr torn) =
    let last = torn_last m.ranges (offset, length piece) m.synced c torn in
    (last.0, inr last.1, last.2)

pub failed_write_tears : (m : Moment) (offset len : ℕ) → LeavesTorn offset len (Leaves m) (Leaves m)
failed_write_tears m offset len c left = (c, left, torn_none offset len c)

-- what is settled is all that a crash leaves
pub settled_alone : (bytes c : List ℕ) → Leaves (settled bytes) c → c ≡ bytes
settled_alone bytes c (inl is) = is
settled_alone bytes c (inr is) = is

pub sync_no_more : (m : Moment) → LeavesNoMore (Leaves m) (Leaves (settled m.image))
sync_no_more m c left = inl (settled_alone m.image c left)

-- what a crash since t might have left, over the deeds of a disk
abbrev pub Since : List ℕ → List Deed → ℕ → List ℕ → Type 0
Since first deeds t c = (k : ℕ) × (t ≤ k) × (k ≤ length deeds) × Leaves (after_all (take k deeds) (settled first)) c

pub passes_same : (first : List ℕ) (deeds : List Deed) → Passes (length deeds) (length deeds) (Since first deeds) (Since first deeds) (Leaves (after_all deeds (settled first)))
passes_same first deeds = record { later = le_refl (length deeds); either = λ t c le left. inl left; earlier = λ t c le left. left }

pub passes_done : (first : List ℕ) (deeds : List Deed) (deed : Deed) → Passes (length deeds) (length (deeds ++ deed ∷ [])) (Since first deeds) (Since first (deeds ++ deed ∷ [])) (Leaves (after_all (deeds ++ deed ∷ []) (settled first)))
passes_done first deeds deed = record {
  later = omega (arith, more);
  either = λ t c le left. elim (cases_eq left.0 (length all)) [
    | inl last ↦ inr (at (take left.0 all) all c (take_all left.0 all (omega (arith, last))) left.3)
    | inr other ↦ inl (left.0, left.1, omega (arith, more, left.2, other), at (take left.0 all) (take left.0 deeds) c (take-append-le left.0 deeds (deed ∷ []) (omega (arith, more, left.2, other))) left.3)
  ];
  earlier = λ t c le left. (left.0, left.1, omega (arith, more, left.2), at (take left.0 deeds) (take left.0 all) c (sym (take-append-le left.0 deeds (deed ∷ []) left.2)) left.3);
}
  where
    all : List Deed
    all = deeds ++ deed ∷ []

    more : length all ≡ length deeds + 1
    more = length-append deeds (deed ∷ [])

    at : (xs ys : List Deed) (c : List ℕ) → xs ≡ ys → Leaves (after_all xs (settled first)) c → Leaves (after_all ys (settled first)) c
    at xs ys c is left = subst (λ (l : List Deed). Leaves (after_all l (settled first)) c) is left

-- one deed more, where the new deeds are given by an equation
module _ (first : List ℕ) (deeds new : List Deed) (deed : Deed) (is : new ≡ deeds ++ deed ∷ []) where
  pub moment_to : after_all new (settled first) ≡ after deed (after_all deeds (settled first))
  moment_to = ap (λ (l : List Deed). after_all l (settled first)) is ∙ after_more deeds deed (settled first)

  pub passes_to : Passes (length deeds) (length new) (Since first deeds) (Since first new) (Leaves (after_all new (settled first)))
  passes_to =
      subst (λ (l : List Deed). Passes (length deeds) (length l) (Since first deeds) (Since first l) (Leaves (after_all l (settled first)))) (sym is) (passes_done first deeds deed)

  pub image_to : (after_all new (settled first)).image ≡ (after deed (after_all deeds (settled first))).image
  image_to = ap (λ (m : Moment). m.image) moment_to

pub torn_to : (first : List ℕ) (deeds new : List Deed) (offset : ℕ) (piece : List ℕ) → new ≡ deeds ++ Wrote offset piece ∷ [] → offset ≤ length (after_all deeds (settled first)).image
    → LeavesTorn offset (length piece) (Leaves (after_all deeds (settled first))) (Leaves (after_all new (settled first)))
torn_to first deeds new offset piece is fits =
    subst (λ (m : Moment). LeavesTorn offset (length piece) (Leaves (after_all deeds (settled first))) (Leaves m)) (sym (moment_to first deeds new (Wrote offset piece) is)) (write_tears (after_all deeds (settled first)) offset piece fits)

pub settled_to : (first : List ℕ) (deeds new : List Deed) → new ≡ deeds ++ Synced ∷ [] → (c : List ℕ) → Leaves (after_all new (settled first)) c → c ≡ (after_all new (settled first)).image
settled_to first deeds new is c left =
    subst (λ (m : Moment). Leaves m c → c ≡ m.image) (sym (moment_to first deeds new Synced is)) (settled_alone (after_all deeds (settled first)).image c) left

pub no_more_to : (first : List ℕ) (deeds new : List Deed) → new ≡ deeds ++ Synced ∷ [] → LeavesNoMore (Leaves (after_all deeds (settled first))) (Leaves (after_all new (settled first)))
no_more_to first deeds new is =
    subst (λ (m : Moment). LeavesNoMore (Leaves (after_all deeds (settled first))) (Leaves m)) (sym (moment_to first deeds new Synced is)) (sync_no_more (after_all deeds (settled first)))

-- What is written of a batch is the segment of it.
use Rattle.std.proofs.Common.{◌≡◌, ℕ, zero, suc, ◌+◌, ◌-◌, ◌*◌, ◌/◌, ◌≤◌, Bool, true, false, List, [], ◌∷◌, ◌++◌, length, map, take, drop, refl, sym, ap, ◌∙◌, arith, subst, add-mul, div-mul-le_self}
use Rattle.std.proofs.lemmas.Bool.{false≢true}
use Rattle.std.proofs.lemmas.Simd.{map-map}
use Rattle.dg_graph.specs.declared.event.Event.{Event}
use Rattle.dg_history.specs.declared.params.Params.{Params}
use Rattle.dg_history.specs.History.{first_time_of, last_time_from}
use Rattle.dg_index.specs.Hierarchy.{numbers, leaves}
use Rattle.dg_index.specs.IndexRecords.{Events, record_among, deltas_due, recent_of}
use Rattle.dg_index.specs.FileOfHistory.{Segment, Stored, StoredList, stored, stored_in, stored_list, segment_of}
use Rattle.dg_index.specs.OpenedIndex.{AreUnheard}
use Rattle.dg_index.proofs.UnheardRecords.{unheard_append}
use Rattle.dg_index.proofs.HierarchyStability.{list_cut, leaves_more}
use Rattle.dg_build.specs.InteriorDeltas.{DiffersInDeltas}
use Rattle.dg_build.specs.SpelledRecords.{stored_cut, written_columns, written_list, written_segment}
use Rattle.dg_build.proofs.SpelledRecordLists.{list_there}
use Rattle.dg_build.proofs.InteriorDeltaHeights.{written_at}

-- ---- lists

shifted : {A : Type 0} (f g : ℕ → A) (a b n : ℕ) → ((i : ℕ) → f (a + i) ≡ g (b + i)) → map f (numbers a n) ≡ map g (numbers b n)
shifted f g a b zero same = refl
shifted f g a b (suc n) same =
    λ i. (ap f (let e : a ≡ a + 0 = omega arith in e) ∙ same 0 ∙ ap g (let e : b + 0 ≡ b = omega arith in e)) i ∷
    shifted f g (a + 1) (b + 1) n (λ j. ap f (let e : a + 1 + j ≡ a + (1 + j) = omega arith in e) ∙ same (1 + j) ∙ ap g (let e : b + (1 + j) ≡ b + 1 + j = omega arith in e)) i

pub lists_are : (messages : Bool) (p : Params) (past more : List Event) (n : ℕ) → 1 ≤ p.l
    → map (list_there messages p.l (recent_of p past ++ more)) (numbers 0 n) ≡ map (λ i. written_list messages (stored_list p (past ++ more) i)) (numbers (leaves p (length past)) n)
lists_are messages p past more n some =
    shifted (list_there messages p.l (recent_of p past ++ more)) (λ i. written_list messages (stored_list p (past ++ more) i)) 0 (leaves p (length past)) n
    (λ i. ap (λ j. stored_cut messages (take p.l (drop (j * p.l) (recent_of p past ++ more)))) (let e : 0 + i ≡ i = omega arith in e)
    ∙ ap (stored_cut messages) (sym (list_cut p past more i (omega (arith, some)))))

-- the closed lists are within the events behind the last leaf
pub lists_within : (l before n : ℕ) → 1 ≤ l → ((before + n) / l - before / l) * l ≤ before - before / l * l + n
lists_within l before n some =
    let more : before / l ≤ (before + n) / l = leaves_more l before n (omega (arith, some)) in
    let e : ((before + n) / l - before / l) + before / l ≡ (before + n) / l = omega (arith, more) in
    omega (arith, ap (λ x. x * l) (sym e), add-mul ((before + n) / l - before / l) (before / l) l, div-mul-le_self (before + n) l, div-mul-le_self before l)

-- ---- the whole

-- a segment with its lists, then its deltas, and then its piece
pub record IsWritten (old new : Segment) (lists : List StoredList) (deltas : List Stored) (piece : Stored) : Type 0 where
  pub is : new ≡ record old { lists = lists; deltas = deltas; piece = piece }

pub written_whole : (old a b new : Segment) (lists : List StoredList) (piece : Stored) → old.lists ≡ [] → a ≡ record old { lists = old.lists ++ lists } → DiffersInDeltas a b → new ≡ record b { piece = piece }
    → IsWritten old new lists b.deltas piece
written_whole old a b new lists piece bare lists_are deltas_are piece_is = record {
  is = piece_is ∙ (λ i. record (deltas_are i) { piece = piece }) ∙ (λ i. record (lists_are i) { deltas = b.deltas; piece = piece }) ∙ (λ i. record old { lists = bare i ++ lists; deltas = b.deltas; piece = piece });
}

-- with the messages of its lists and of its piece, or without
written_as : (messages : Bool) (s t : Segment) (numbers : List ℕ) (list_at : ℕ → StoredList) → t.lists ≡ map list_at numbers
    → s ≡ record t { lists = map (λ i. written_list messages (list_at i)) numbers; piece = written_columns messages t.piece } → s ≡ written_segment messages t
written_as true s t numbers list_at lists is = is ∙ (λ i. record t { lists = sym lists i })
written_as false s t numbers list_at lists is =
    is ∙ (λ i. record t { lists = (sym (map-map (written_list false) list_at numbers) ∙ ap (map (written_list false)) (sym lists)) i; piece = written_columns false t.piece })

pub whole : (messages : Bool) (p : Params) (past more : List Event) (before : ℕ) (tail recent : List Event) (old new : Segment) (deltas : List Stored)
    → 1 ≤ p.l → length past ≡ before → recent ≡ recent_of p past → tail ≡ recent ++ more
    → old.events ≡ length more → old.first ≡ first_time_of more → old.last ≡ last_time_from 0 more
    → IsWritten old new (map (list_there messages p.l tail) (numbers 0 ((before + length more) / p.l - before / p.l))) deltas (written_columns messages (stored (Events (drop ((before + length more) / p.l * p.l - before) more))))
    → deltas ≡ map (written_at p (past ++ more)) (deltas_due p.k (before / p.l) ((before + length more) / p.l))
    → new ≡ written_segment messages (segment_of p past (record { names = old.names; events = more }))
whole messages p past more before tail recent old new deltas some long is_recent is_tail e1 e2 e3 written made =
    let n : ℕ = (before + length more) / p.l - before / p.l in
    let is_lists = ap (λ (l : List Event). map (list_there messages p.l l) (numbers 0 n)) (is_tail ∙ ap (λ (l : List Event). l ++ more) is_recent) ∙ lists_are messages p past more n some in
    written_as messages new (segment_of p past (record { names = old.names; events = more })) (numbers (leaves p (length past)) (leaves p (length past + length more) - leaves p (length past))) (stored_list p (past ++ more)) refl
    (written.is
    ∙ (λ i. record {
      events = e1 i;
      first = e2 i;
      last = e3 i;
      names = old.names;
      lists = is_lists i;
      deltas = made i;
      piece = written_columns messages (stored (Events (drop ((before + length more) / p.l * p.l - before) more)));
    })
    ∙ (λ i. record {
      events = length more;
      first = first_time_of more;
      last = last_time_from 0 more;
      names = old.names;
      lists = map (λ j. written_list messages (stored_list p (past ++ more) j)) (numbers (leaves p (length past)) ((sym long i + length more) / p.l - sym long i / p.l));
      deltas = map (λ k. stored (record_among p (past ++ more) [] k)) (deltas_due p.k (sym long i / p.l) ((sym long i + length more) / p.l));
      piece = written_columns messages (stored (Events (drop ((sym long i + length more) / p.l * p.l - sym long i) more)));
    }))

-- without messages the columns of a segment have none
mute : (l : ℕ) (tail : List Event) (xs : List ℕ) → AreUnheard (map (λ (x : StoredList). x.columns) (map (list_there false l tail) xs))
mute l tail [] = tt
mute l tail (x ∷ xs) = (refl, mute l tail xs)

pub none_heard : (messages : Bool) (l n : ℕ) (tail : List Event) (old new : Segment) (piece : Stored) → IsWritten old new (map (list_there messages l tail) (numbers 0 n)) new.deltas (written_columns messages piece)
    → AreUnheard new.deltas → messages ≡ false → AreUnheard (stored_in new)
none_heard true l n tail old new piece written deltas silent = absurd (false≢true (sym silent))
none_heard false l n tail old new piece written deltas silent =
    subst (λ (s : Segment). AreUnheard (stored_in s)) (sym written.is)
    (unheard_append (map (λ (x : StoredList). x.columns) (map (list_there false l tail) (numbers 0 n))) (new.deltas ++ written_columns false piece ∷ []) (mute l tail (numbers 0 n))
    (unheard_append new.deltas (written_columns false piece ∷ []) deltas (refl, tt)))

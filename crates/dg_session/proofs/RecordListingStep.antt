-- The answer to a listing of the records.
use Rattle.std.proofs.Common.{◌≡◌, ℕ, suc, true, List, [], ◌∷◌, Option, Some, None, length, map, refl, sym, ◌∙◌, ap, subst, arith}
use Rattle.std.specs.Prelude.{is_some}
use Rattle.std.specs.List.{Contains}
use Rattle.std.specs.Map.{lookup}
use Rattle.std.proofs.lemmas.Bool.{false≢true}
use Rattle.dg_history.specs.declared.node.Key.{Key}
use Rattle.dg_history.specs.History.{History, events_of}
use Rattle.dg_history.specs.Keys.{same_key}
use Rattle.dg_history.specs.LegalHistory.{IsLegal}
use Rattle.dg_index.specs.declared.entry.Entry.{Entry}
use Rattle.dg_index.specs.Hierarchy.{leaves}
use Rattle.dg_index.specs.IndexRecords.{keys_of}
use Rattle.dg_index.specs.OpenedIndex.{Opening, event_total, opened_of}
use Rattle.dg_index.proofs.OpenedIndexRecords.{told_at}
use Rattle.dg_machine.specs.declared.command.Command.TheVariants as command
use Rattle.dg_machine.specs.declared.reply.BodyLine.TheVariants as line
use Rattle.dg_machine.specs.declared.reply.Reply.{Reply}
use Rattle.dg_machine.specs.declared.reply.Reply.TheVariants as replied
use Rattle.dg_machine.specs.declared.reply.Head.TheVariants as head
use Rattle.dg_machine.specs.Answer.{is_refusal, record_line, tree_reply}
use Rattle.dg_machine.specs.MachineState.{history_in}
use Rattle.dg_machine.specs.Needs.{needs}
use Rattle.dg_planner.proofs.HistoryLawGraphs.{keys_held}
use Rattle.dg_index.proofs.OpenedLegalHistories.{behind}
use Rattle.dg_ask.proofs.HeldIndexHistory.{count_is}
use Rattle.dg_session.proofs.ReplyNames.{names_stay, record_names}
use Rattle.dg_session.proofs.PartStates.{IsOf, is_of, one_image, opening_of, stands_on}
use Rattle.dg_session.proofs.SessionSteps.{moved}
use Rattle.dg_session.specs.Decided.{Fits}
use Rattle.dg_session.specs.Parts.{Parts}
use Rattle.dg_ask.specs.RecordListing.{held_line, lengths_held, listing_of}
use Rattle.dg_session.specs.Session.{Accepts, refused_by}

-- ---- the lines

-- the same at each element
same_each : {A B : Type 0} (f g : A → B) (xs : List A) → ((x : A) → Contains xs x → f x ≡ g x) → map f xs ≡ map g xs
same_each f g [] each = refl
same_each f g (x ∷ xs) each = λ i. each x (0, omega arith, refl) i ∷ same_each f g xs (λ y c. each y (suc c.0, (let h = c.1 in omega arith), c.2)) i

line_is : (z : History) → IsLegal z → (k : Key) → Contains (keys_of z.params (length (events_of z))) k → held_line (opened_of z).index.records k ≡ record_line z k
line_is z legal k there = by (lookup (same_key k) (opened_of z).index.records) refl (keys_held z legal k there)
  where
    by : (e : Option Entry) → lookup (same_key k) (opened_of z).index.records ≡ e → is_some e ≡ true → held_line (opened_of z).index.records k ≡ record_line z k
    by None is some = absurd (false≢true some)
    by (Some e) is some =
        ap (λ x. line.Sizes k (lengths_held x)) is ∙ ap (line.Sizes k) (told_at z legal k e is).0

listed : (z : History) → IsLegal z → listing_of (opening_of z) (length (events_of z)) ≡ tree_reply z
listed z legal =
    let n : ℕ = length (events_of z) in
    (λ i. let o : Opening = record (opening_of z) { params = (behind z legal).params i } in listing_of o n)
    ∙ ap (replied.Answered (head.Tree z.params.l z.params.k z.params.function n (leaves z.params n) (length (keys_of z.params n))))
    (same_each (held_line (opened_of z).index.records) (record_line z) (keys_of z.params n) (line_is z legal))

-- ---- the answer

pub tree_answers : (p : Parts) (image : Option (List ℕ)) (o : Opening) (reply : Reply) → p.index ≡ Some o → refused_by p 0 (needs command.Tree) ≡ None → reply ≡ listing_of o (event_total o.batches)
    → Accepts command.Tree [] p image p image reply
tree_answers p image o reply there free is = record {
  moves =
      moved command.Tree [] p p image image reply (λ m. refl) free
      (λ m x y a b s none.
      let found = is_of p o x m there s in
      let z : History = found.0 in
      let h : IsOf p o x m z = found.1 in
      let due : reply ≡ tree_reply (history_in m.index) =
      is ∙ (λ i. listing_of (h.opened i) (event_total (h.opened i).batches)) ∙ ap (listing_of (opening_of z)) (count_is z h.stands.legal) ∙ listed z h.stands.legal ∙ sym (ap (λ (i : Option History). tree_reply (history_in i)) h.index) in (
        m,
        (λ i. record { reply = sym due i; state = m }),
        stands_on p p x y m refl (one_image image image x y refl a b) s,
      ));
  accepted = ap is_refusal is;
  free = free;
  fits = subst (Fits command.Tree) (sym is) tt;
  held = λ h. h;
  no_index = λ h. (h, refl);
  quiet = λ h. refl;
  named = record_names (length p.names) o (event_total o.batches) reply is;
  keeps_names = names_stay p.names p.names refl;
}

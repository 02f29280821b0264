-- Reading events one after another, as a loop does.
use Rattle.std.proofs.Common.{◌≡◌, ℕ, suc, ◌-◌, ◌+◌, ◌≤◌, ◌<◌, List, [], ◌∷◌, ◌++◌, Result, Ok, Err, refl, sym, ap, ◌∙◌, append_assoc, arith}
use Rattle.dg_graph.specs.declared.element.Column.{Column}
use Rattle.dg_graph.specs.declared.placed.Placed.{Placed}
use Rattle.dg_graph.specs.ColumnGrammar.{and_read, body_size, end_at, events_at}
use Rattle.dg_columns.specs.declared.fault.ReadFault.{ReadFault}
use Rattle.dg_columns.specs.declared.fault.ReadFault.TheVariants as fault
use Rattle.dg_columns.specs.ReadOutcome.{IsFaultOf}
use Rattle.dg_columns.specs.Fields.{placed_at}
use Rattle.dg_columns.proofs.FieldGroups.{events_after, events_step}

-- what was read before, and what is still read
abbrev pub with_front : {X : Type 0} → List X → Result (List X) ℕ → Result (List X) ℕ
with_front front read = and_read read (λ more. Ok (front ++ more))

pub no_front : {X : Type 0} (read : Result (List X) ℕ) → with_front [] read ≡ read
no_front (Ok xs) = refl
no_front (Err offset) = refl

regroup : {X : Type 0} (front : List X) (x : X) (read : Result (List X) ℕ) → with_front front (and_read read (λ more. Ok (x ∷ more))) ≡ with_front (front ++ x ∷ []) read
regroup front x (Ok more) = ap Ok (sym (append_assoc front (x ∷ []) more))
regroup front x (Err offset) = refl

module _ (front : List Placed) (count i : ℕ) (col : Column) (names : ℕ) (bytes : List ℕ) (at low earliest : ℕ) (total : Result (List Placed) ℕ) where
  abbrev so_far : Type 0
  so_far = with_front front (events_at (count - i) col names bytes at low earliest) ≡ total

  one_more : i < count → with_front front (events_at (count - i) col names bytes at low earliest) ≡ with_front front (and_read (placed_at col names bytes at low earliest) (λ p. and_read (events_after (count - (i + 1)) col names bytes at p) (λ events. Ok (p ∷ events))))
  one_more lt =
      let k : count - i ≡ suc (count - (i + 1)) = omega arith in
      ap (λ n. with_front front (events_at n col names bytes at low earliest)) k ∙ ap (with_front front) (events_step (count - (i + 1)) col names bytes at low earliest)

  pub goes_on : i < count → (p : Placed) (next : ℕ) → next ≡ at + 10 + body_size p.event.body → placed_at col names bytes at low earliest ≡ Ok p → so_far
      → with_front (front ++ p ∷ []) (events_at (count - (i + 1)) col names bytes next (p.at + 1) p.event.time) ≡ total
  goes_on lt p next is h e =
      ap (λ n. with_front (front ++ p ∷ []) (events_at (count - (i + 1)) col names bytes n (p.at + 1) p.event.time)) is
      ∙ sym (regroup front p (events_after (count - (i + 1)) col names bytes at p))
      ∙ ap (λ r. with_front front (and_read r (λ p. and_read (events_after (count - (i + 1)) col names bytes at p) (λ events. Ok (p ∷ events))))) (sym h)
      ∙ sym (one_more lt) ∙ e

  fails_at : i < count → (offset : ℕ) → placed_at col names bytes at low earliest ≡ Err offset → so_far → total ≡ Err offset
  fails_at lt offset h e =
      sym e ∙ one_more lt ∙ ap (λ r. with_front front (and_read r (λ p. and_read (events_after (count - (i + 1)) col names bytes at p) (λ events. Ok (p ∷ events))))) h

  pub stops : i < count → (f : ReadFault) → IsFaultOf f (placed_at col names bytes at low earliest) → so_far → IsFaultOf f total
  stops lt (fault.Damaged offset) h e = fails_at lt offset h e
  stops lt fault.Memory h e = tt

  pub ended : count ≤ i → so_far → total ≡ with_front front (end_at [] bytes at)
  ended le e =
      let k : count - i ≡ 0 = omega arith in
      sym e ∙ ap (λ n. with_front front (events_at n col names bytes at low earliest)) k

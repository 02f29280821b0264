-- The names in each reply are there, and names stay.
use Rattle.std.proofs.Common.{◌≡◌, ℕ, ◌+◌, Bool, true, false, List, [], ◌∷◌, Option, Some, None, if◌then◌else◌, length, take, sym, ◌∙◌, ap, subst, nat_lt}
use Rattle.std.specs.Prelude.{slice_get}
use Rattle.std.specs.List.{All}
use Rattle.std.proofs.lemmas.List.Elements.{All-append, All-cons, All-nil}
use Rattle.std.proofs.Math.Seq.{take-length}
use Rattle.dg_ask.proofs.ReplyNames.{made_names}
use Rattle.dg_ask.specs.RecordListing.{held_line, listing_of}
use Rattle.dg_ask.specs.ReplyNames.{LineNamesAreThere, ReplyNamesAreThere}
use Rattle.dg_graph.specs.declared.element.Element.TheVariants as element
use Rattle.dg_history.specs.declared.node.NodeId.{NodeId}
use Rattle.dg_machine.specs.Answer.{found_reply, handle_lines, headed, plan_reply, potential_line, potential_lines, step_if, step_lines}
use Rattle.dg_machine.specs.declared.reply.BodyLine.TheVariants as line
use Rattle.dg_machine.specs.declared.reply.Head.{Head}
use Rattle.dg_machine.specs.declared.reply.Reply.{Reply}
use Rattle.dg_plan.specs.declared.edge.Edge.{Edge}
use Rattle.dg_session.specs.ReplyNames.{BeginWith}

module _ (n : ℕ) where
  pub head_names : (h : Head) (reply : Reply) → reply ≡ headed h → ReplyNamesAreThere n reply
  head_names h reply is = subst (ReplyNamesAreThere n) (sym is) (All-nil (LineNamesAreThere n))

  pub handle_names : (next : ℕ) (times singles : List ℕ) → All (LineNamesAreThere n) (handle_lines next times singles)
  handle_names next [] singles = All-nil (LineNamesAreThere n)
  handle_names next (t ∷ times) [] = All-nil (LineNamesAreThere n)
  handle_names next (t ∷ times) (s ∷ singles) = All-cons (LineNamesAreThere n) (line.Handle next t s) (handle_lines (next + 1) times singles) tt (handle_names (next + 1) times singles)

  step_names : (i : ℕ) (e : Option Edge) → All (LineNamesAreThere n) (step_if i e)
  step_names i None = All-nil (LineNamesAreThere n)
  step_names i (Some e) = All-cons (LineNamesAreThere n) (line.Step i e.to e.weight) [] tt (All-nil (LineNamesAreThere n))

  all_step_names : (edges : List Edge) (steps : List ℕ) → All (LineNamesAreThere n) (step_lines edges steps)
  all_step_names edges [] = All-nil (LineNamesAreThere n)
  all_step_names edges (i ∷ steps) = All-append (LineNamesAreThere n) (step_if i (slice_get edges i)) (step_lines edges steps) (step_names i (slice_get edges i)) (all_step_names edges steps)

  potential_names : (weight : ℕ) (node : NodeId) (p : ℕ) → All (LineNamesAreThere n) (potential_line weight node p)
  potential_names weight node p = by (nat_lt p weight)
    where
      by : (b : Bool) → All (LineNamesAreThere n) (if b then line.Potential node p ∷ [] else [])
      by true = All-cons (LineNamesAreThere n) (line.Potential node p) [] tt (All-nil (LineNamesAreThere n))
      by false = All-nil (LineNamesAreThere n)

  all_potential_names : (weight : ℕ) (nodes : List NodeId) (potentials : List ℕ) → All (LineNamesAreThere n) (potential_lines weight nodes potentials)
  all_potential_names weight [] potentials = All-nil (LineNamesAreThere n)
  all_potential_names weight (node ∷ nodes) [] = All-nil (LineNamesAreThere n)
  all_potential_names weight (node ∷ nodes) (p ∷ potentials) =
      All-append (LineNamesAreThere n) (potential_line weight node p) (potential_lines weight nodes potentials) (potential_names weight node p) (all_potential_names weight nodes potentials)

  pub plan_names : (edges : List Edge) (nodes : List NodeId) (weight : ℕ) (steps potentials : List ℕ) (reply : Reply) → reply ≡ plan_reply edges nodes weight steps potentials → ReplyNamesAreThere n reply
  plan_names edges nodes weight steps potentials reply is =
      subst (ReplyNamesAreThere n) (sym is)
      (All-append (LineNamesAreThere n) (step_lines edges steps) (potential_lines weight nodes potentials) (all_step_names edges steps) (all_potential_names weight nodes potentials))

  pub record_names : (o : _) (count : ℕ) (reply : Reply) → reply ≡ listing_of o count → ReplyNamesAreThere n reply
  record_names o count reply is = subst (ReplyNamesAreThere n) (sym is) (made_names n (held_line o.records) (λ k. tt) _)

  pub found_names : (ids : List ℕ) (reply : Reply) → reply ≡ found_reply ids → ReplyNamesAreThere n reply
  found_names ids reply is = subst (ReplyNamesAreThere n) (sym is) (made_names n (λ id. line.Element (element.Node id)) (λ id. tt) ids)

-- the same names
pub names_stay : (a b : List (List ℕ)) → b ≡ a → BeginWith a b
names_stay a b same = ap (take (length a)) same ∙ take-length a

-- How plan lines are gathered, one at a time.
use Rattle.std.proofs.Common.{◌≡◌, ℕ, ◌+◌, Bool, true, List, [], ◌∷◌, ◌++◌, Option, length, map, sym, ◌∙◌, ap, arith, length-append}
use Rattle.std.proofs.lemmas.List.{map-append}
use Rattle.dg_text.specs.Lines.{ScriptLine}
use Rattle.dg_io.specs.declared.lines.Line.{Line}
use Rattle.dg_machine.specs.CommandGrammar.{plan_line_in}
use Rattle.dg_plan.specs.declared.certificate.PlanLine.{PlanLine}
use Rattle.dg_batch.specs.BatchLines.{line_read}

-- the lines that were taken so far
pub record Gathering (IsTaken : List ScriptLine → Type 0) (read : ℕ) (whole : Bool) (said : List (Option PlanLine)) : Type 0 where
  pub got : List ScriptLine
  pub taken : IsTaken got
  pub read_is : length got ≡ read
  pub kept : whole ≡ true → said ≡ map plan_line_in got

more : (Now Next : List ScriptLine → Type 0) (read : ℕ) (whole then_whole : Bool) (said then_said : List (Option PlanLine)) (line : Line) (text : List ℕ)
    → (g : Gathering Now read whole said) → ((got : List ScriptLine) → Now got → Next (got ++ line_read line text ∷ []))
    → (then_whole ≡ true → then_said ≡ map plan_line_in (g.got ++ line_read line text ∷ []))
    → Gathering Next (read + 1) then_whole then_said
more Now Next read whole then_whole said then_said line text g takes kept = record {
  got = g.got ++ line_read line text ∷ [];
  taken = takes g.got g.taken;
  read_is = omega (arith, length-append g.got (line_read line text ∷ []), g.read_is);
  kept = kept;
}

-- a line more, and what it says is to be kept
pub gathering_kept : (Now Next : List ScriptLine → Type 0) (read : ℕ) (whole then_whole : Bool) (said then_said : List (Option PlanLine)) (line : Line) (text held : List ℕ)
    → Gathering Now read whole said → whole ≡ true → ((got : List ScriptLine) → Now got → Next (got ++ line_read line held ∷ [])) → text ≡ held
    → (then_whole ≡ true → then_said ≡ said ++ plan_line_in (line_read line text) ∷ [])
    → Gathering Next (read + 1) then_whole then_said
gathering_kept Now Next read whole then_whole said then_said line text held g is_whole takes same keeps =
    more Now Next read whole then_whole said then_said line held g takes
    (λ h. keeps h ∙ ap (λ (t : List ℕ). said ++ plan_line_in (line_read line t) ∷ []) same
    ∙ ap (λ (xs : List (Option PlanLine)). xs ++ plan_line_in (line_read line held) ∷ []) (g.kept is_whole)
    ∙ sym (map-append plan_line_in g.got (line_read line held ∷ [])))

-- a line more, of which nothing is kept
pub gathering_passed : (Now Next : List ScriptLine → Type 0) (read : ℕ) (whole : Bool) (said : List (Option PlanLine)) (line : Line) (text : List ℕ)
    → Gathering Now read whole said → (whole ≡ true → ⊥) → ((got : List ScriptLine) → Now got → Next (got ++ line_read line text ∷ []))
    → Gathering Next (read + 1) whole said
gathering_passed Now Next read whole said line text g unkept takes =
    more Now Next read whole whole said said line text g takes (λ h. absurd (unkept h))

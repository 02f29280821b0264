-- What is owed where a run over a script ends.
use Rattle.std.proofs.Common.{◌≡◌, ℕ, List, [], ◌∷◌, ◌++◌, Option, IfSome, length, take, refl, sym, ◌∙◌, ap, subst, arith, suc, ◌+◌, length-append, true, false, Result, Ok, Err, OnOk, OnErr}
use Rattle.std.specs.Prelude.{IsTrue}
use Rattle.std.specs.Option.{option_map}
use Rattle.std.specs.Result.{is_err}
use Rattle.dg_cuts.specs.TakenLines.{CutsBy, GaveBy}
use Rattle.dg_io.specs.Frame.{Advances}
use Rattle.dg_io.specs.LinesState.{LinesState}
use Rattle.dg_io.specs.Told.{CountRose, GrowsByPart, grown}
use Rattle.dg_machine.specs.CommandGrammar.{Grammar}
use Rattle.dg_machine.specs.Script.{Entry}
use Rattle.dg_turns.specs.declared.end.End.TheVariants as end
use Rattle.dg_turns.specs.declared.machine.Machine as machine
use Rattle.dg_turns.specs.Ends.{Ran, Streams}
use Rattle.dg_turns.specs.Entries.{asked_by}
use Rattle.dg_turns.specs.Runs.{Answers, Turned, last_machine, last_world, turn_text, turn_texts}
use Rattle.dg_turns.specs.Turns.{Breaks}
use Rattle.dg_turns.proofs.LinesStateEnds.{done_within, limit_taken}
use Rattle.dg_turns.proofs.SoFar.{SoFar, grown-append, so_far_on, texts_more}
use Rattle.dg_turns.proofs.TakenRuns.{IsFresh, all_whole, before_others, entries_taken, taken_to_end}

-- what is said of an error, where the test says that it is one
pub at_err : {T E : Type 0} (r : Result T E) (P : Type 0) → is_err r ≡ true → OnErr r P → P
at_err (Ok x) P test says = absurd (cc)
at_err (Err e) P test says = says

pub at_ok : {T E : Type 0} (r : Result T E) (P : Type 0) → is_err r ≡ false → OnOk r P → P
at_ok (Ok x) P test says = says
at_ok (Err e) P test says = absurd (cc)

-- a proper prefix of a piece behind what was due is a proper prefix of all that is due
take_behind : (n : ℕ) (front back : List ℕ) → take (length front + n) (front ++ back) ≡ front ++ take n back
take_behind n [] back = ap (λ k. take k back) (let e : 0 + n ≡ n = omega arith in e)
take_behind n (x ∷ front) back =
    ap (λ k. take k (x ∷ front ++ back)) (let e : length (x ∷ front) + n ≡ suc (length front + n) = omega arith in e)
    ∙ ap (λ (xs : List ℕ). x ∷ xs) (take_behind n front back)

behind_front : (before now after : Option (List ℕ)) (front back all : List ℕ) → now ≡ grown before front → all ≡ front ++ back → GrowsByPart now back after
    → GrowsByPart before all after
behind_front before now after front back all due whole (n, less, is) = (
  length front + n,
  omega (arith, less, length-append front back, ap length whole),
  is ∙ ap (λ (o : Option (List ℕ)). grown o (take n back)) due ∙ grown-append before front (take n back)
      ∙ ap (grown before) (sym (take_behind n front back)) ∙ ap (λ (xs : List ℕ). grown before (take (length front + n) xs)) (sym whole),
)

-- Each of these takes the run so far and the last call: source and sink were `now` before it, and are `later` behind it.
module _ {M W : Type 0} {g : machine.Ghosts M W} {read : Grammar} {m : M} {w : W} {first lines : LinesState} {at_m : M} {at_w : W} where
  -- at the end of the script
  pub ends_done : (limit : ℕ) (start now later : Streams) (then_lines : LinesState) (then_m : M) (then_w : W) → IsFresh first limit
      → SoFar g read first start.left start.written m w lines now.left now.written at_m at_w → later.written ≡ now.written
      → Advances first start.left start.source_faults then_lines later.left later.source_faults → IsTrue then_lines.ended
      → IfSome (asked_by read lines now.left) (λ rest. rest ≡ []) → then_m ≡ at_m → then_w ≡ at_w → Ran g read limit start m w end.Done later then_m then_w
  ends_done limit start now later then_lines then_m then_w fresh r same advances ended none same_m same_w = record {
    entries = r.entries;
    turns = r.turns;
    run = r.run;
    more = asked_by read lines now.left;
    front = r.front;
    gained = same ∙ r.gained;
    takes = taken_to_end read r.entries first then_lines start.left later.left limit _ _ fresh advances ended;
    leaves = (none, same_m ∙ sym r.machine_now, same_w ∙ sym r.world_now);
    ends = done_within limit first then_lines _ _ _ _ advances fresh ended;
  }

  -- where the script was cut
  stays_behind : (left before now written : Option (List ℕ)) (then_m : M) (then_w : W) (r : SoFar g read first left before m w lines now written at_m at_w) → g.stays at_m at_w then_m then_w
      → g.stays (last_machine m r.turns) (last_world w r.turns) then_m then_w
  stays_behind left before now written then_m then_w r stays =
      subst (λ (x : M). g.stays x (last_world w r.turns) then_m then_w) (sym r.machine_now) (subst (λ (y : W). g.stays at_m y then_m then_w) (sym r.world_now) stays)

  pub ends_at_fault : (limit : ℕ) (start now later : Streams) (then_lines : LinesState) (then_m : M) (then_w : W) → IsFresh first limit
      → SoFar g read first start.left start.written m w lines now.left now.written at_m at_w → later.written ≡ now.written
      → (IsTrue lines.ended → IsTrue then_lines.ended) → CutsBy read [] lines now.left then_lines later.left → g.stays at_m at_w then_m then_w
      → CountRose start.source_faults later.source_faults → Ran g read limit start m w end.SourceFault later then_m then_w
  ends_at_fault limit start now later then_lines then_m then_w fresh r same ended cuts stays rose = record {
    entries = r.entries;
    turns = r.turns;
    run = r.run;
    more = asked_by read lines now.left;
    front = r.front;
    gained = same ∙ r.gained;
    takes = all_whole read r.entries first lines then_lines start.left now.left later.left limit fresh ended cuts r.took;
    leaves = stays_behind start.left start.written now.left now.written then_m then_w r stays;
    ends = rose;
  }

  pub ends_at_limit : (limit : ℕ) (start now later : Streams) (then_lines : LinesState) (then_m : M) (then_w : W) → IsFresh first limit
      → SoFar g read first start.left start.written m w lines now.left now.written at_m at_w → later.written ≡ now.written
      → (IsTrue lines.ended → IsTrue then_lines.ended) → CutsBy read [] lines now.left then_lines later.left → g.stays at_m at_w then_m then_w
      → Advances first start.left start.source_faults then_lines later.left later.source_faults → then_lines.taken ≡ then_lines.limit
      → Ran g read limit start m w end.ScriptLimit later then_m then_w
  ends_at_limit limit start now later then_lines then_m then_w fresh r same ended cuts stays advances full = record {
    entries = r.entries;
    turns = r.turns;
    run = r.run;
    more = asked_by read lines now.left;
    front = r.front;
    gained = same ∙ r.gained;
    takes = all_whole read r.entries first lines then_lines start.left now.left later.left limit fresh ended cuts r.took;
    leaves = stays_behind start.left start.written now.left now.written then_m then_w r stays;
    ends = limit_taken limit first then_lines _ _ _ _ advances fresh full;
  }

  -- where the world failed within an entry
  pub ends_broken : (limit : ℕ) (start now later : Streams) (then_lines : LinesState) (then_m : M) (then_w : W) → IsFresh first limit
      → SoFar g read first start.left start.written m w lines now.left now.written at_m at_w → later.written ≡ now.written
      → (IsTrue lines.ended → IsTrue then_lines.ended) → Advances first start.left start.source_faults then_lines later.left later.source_faults
      → (e : Entry) → asked_by read lines now.left ≡ option_map (λ more. e ∷ more) (asked_by read then_lines later.left)
      → GaveBy read [] (e ∷ []) lines now.left then_lines later.left → Breaks g at_m at_w then_m then_w e
      → Ran g read limit start m w end.Broken later then_m then_w
  ends_broken limit start now later then_lines then_m then_w fresh r same ended advances e comes gave breaks = record {
    entries = r.entries;
    turns = r.turns;
    run = r.run;
    more = asked_by read lines now.left;
    front = r.front;
    gained = same ∙ r.gained;
    takes = before_others read r.entries (e ∷ []) first lines then_lines start.left now.left later.left limit _ _ fresh advances ended gave r.took;
    leaves = (
      e,
      asked_by read then_lines later.left,
      comes,
      subst (λ (x : M). Breaks g x (last_world w r.turns) then_m then_w e) (sym r.machine_now)
          (subst (λ (y : W). Breaks g at_m y then_m then_w e) (sym r.world_now) breaks),
    );
    ends = tt;
  }

  -- Where a reply could not be written whole. The run with it, as if it had been, is the run so far.
  pub ends_in_part : (limit : ℕ) (start now later : Streams) (then_lines : LinesState) (then_m : M) (then_w : W) → IsFresh first limit
      → SoFar g read first start.left start.written m w lines now.left now.written at_m at_w
      → (IsTrue lines.ended → IsTrue then_lines.ended) → Advances first start.left start.source_faults then_lines later.left later.source_faults
      → (e : Entry) (t : Turned M W) → t.machine ≡ then_m → t.world ≡ then_w → asked_by read lines now.left ≡ option_map (λ more. e ∷ more) (asked_by read then_lines later.left)
      → GaveBy read [] (e ∷ []) lines now.left then_lines later.left → Answers g read at_m at_w e t
      → GrowsByPart now.written (turn_text g t) later.written → CountRose start.sink_faults later.sink_faults
      → Ran g read limit start m w end.SinkFault later then_m then_w
  ends_in_part limit start now later then_lines then_m then_w fresh r ended advances e t same_m same_w comes gave answers part rose =
      let on = so_far_on g read first start.left start.written m w lines now.left now.written at_m at_w then_lines later.left (grown now.written (turn_text g t)) e t r comes gave ended answers refl in record {
        entries = on.entries;
        turns = on.turns;
        run = on.run;
        more = asked_by read then_lines later.left;
        front = on.front;
        gained = behind_front start.written now.written later.written (turn_texts g r.turns) (turn_text g t) (turn_texts g on.turns) r.gained (texts_more g r.turns t) part;
        takes = entries_taken read on.entries first then_lines start.left later.left limit _ _ fresh advances on.took;
        leaves = (sym same_m ∙ sym on.machine_now, sym same_w ∙ sym on.world_now);
        ends = rose;
      }

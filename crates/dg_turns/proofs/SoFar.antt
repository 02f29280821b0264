-- The run so far, how each turn lengthens it, and what is owed where it ends.
use Rattle.std.proofs.Common.{◌≡◌, ℕ, List, [], ◌∷◌, ◌++◌, Option, Some, None, refl, sym, ◌∙◌, ap, subst, append_assoc, append-nil}
use Rattle.std.specs.Prelude.{IsTrue}
use Rattle.std.specs.Option.{option_map}
use Rattle.std.proofs.lemmas.List.Concat.{flat_map-append}
use Rattle.dg_cuts.specs.TakenLines.{GaveBy}
use Rattle.dg_io.specs.LinesState.{LinesState}
use Rattle.dg_io.specs.Told.{grown}
use Rattle.dg_machine.specs.CommandGrammar.{Grammar}
use Rattle.dg_machine.specs.Script.{Entry, entries_of_by, script_by}
use Rattle.dg_turns.specs.declared.machine.Machine as machine
use Rattle.dg_turns.specs.Entries.{asked_by}
use Rattle.dg_turns.specs.Runs.{Answers, RunOver, Turned, last_machine, last_world, turn_text, turn_texts}
use Rattle.dg_turns.proofs.TakenRuns.{IsFresh, fresh_starts, took_more, took_no_more}

-- ---- runs, one turn more at the end

module _ {M W : Type 0} (g : machine.Ghosts M W) (read : Grammar) where
  pub run_more : (m : M) (w : W) (entries : List Entry) (turns : List (Turned M W)) (e : Entry) (t : Turned M W) → RunOver g read m w entries turns
      → Answers g read (last_machine m turns) (last_world w turns) e t → RunOver g read m w (entries ++ e ∷ []) (turns ++ t ∷ [])
  run_more m w [] [] e t run step = (step, tt)
  run_more m w [] (u ∷ turns) e t run step = absurd run
  run_more m w (x ∷ entries) [] e t run step = absurd run
  run_more m w (x ∷ entries) (u ∷ turns) e t run step = (run.0, run_more u.machine u.world entries turns e t run.1 step)

pub machine_more : {M W : Type 0} (m : M) (turns : List (Turned M W)) (t : Turned M W) → last_machine m (turns ++ t ∷ []) ≡ t.machine
machine_more m [] t = refl
machine_more m (u ∷ turns) t = machine_more u.machine turns t

pub world_more : {M W : Type 0} (w : W) (turns : List (Turned M W)) (t : Turned M W) → last_world w (turns ++ t ∷ []) ≡ t.world
world_more w [] t = refl
world_more w (u ∷ turns) t = world_more u.world turns t

pub texts_more : {M W : Type 0} (g : machine.Ghosts M W) (turns : List (Turned M W)) (t : Turned M W) → turn_texts g (turns ++ t ∷ []) ≡ turn_texts g turns ++ turn_text g t
texts_more g turns t = flat_map-append (turn_text g) turns (t ∷ []) ∙ ap (λ (bytes : List ℕ). turn_texts g turns ++ bytes) (append-nil (turn_text g t))

-- ---- what was written, and what is to come

grown-nil : (o : Option (List ℕ)) → o ≡ grown o []
grown-nil None = refl
grown-nil (Some xs) = ap (λ ys. Some ys) (sym (append-nil xs))

pub grown-append : (o : Option (List ℕ)) (a b : List ℕ) → grown (grown o a) b ≡ grown o (a ++ b)
grown-append None a b = refl
grown-append (Some xs) a b = ap (λ ys. Some ys) (append_assoc xs a b)

map-nothing : {A : Type 0} (o : Option (List A)) → o ≡ option_map (λ rest. [] ++ rest) o
map-nothing None = refl
map-nothing (Some xs) = refl

pub front_more : (o : Option (List Entry)) (entries : List Entry) (e : Entry)
    → option_map (λ rest. entries ++ rest) (option_map (λ rest. e ∷ rest) o) ≡ option_map (λ rest. (entries ++ e ∷ []) ++ rest) o
front_more None entries e = refl
front_more (Some rest) entries e = ap (λ es. Some es) (sym (append_assoc entries (e ∷ []) rest))

-- The run so far, from the first state of the lines, of the source and of the sink.
pub record SoFar {M W : Type 0} (g : machine.Ghosts M W) (read : Grammar) (first : LinesState) (left before : Option (List ℕ)) (m : M) (w : W)
    (lines : LinesState) (now : Option (List ℕ)) (written : Option (List ℕ)) (at_m : M) (at_w : W) : Type 0 where
  pub entries : List Entry
  pub turns : List (Turned M W)
  pub run : RunOver g read m w entries turns
  pub machine_now : last_machine m turns ≡ at_m
  pub world_now : last_world w turns ≡ at_w
  pub front : option_map (script_by read) left ≡ option_map (λ rest. entries ++ rest) (asked_by read lines now)
  pub gained : written ≡ grown before (turn_texts g turns)
  pub took : GaveBy read [] entries first left lines now

-- a cutter of lines that holds nothing has all entries to come
pub asked_first : (read : Grammar) (first : LinesState) (limit : ℕ) (left : Option (List ℕ)) → IsFresh first limit → option_map (script_by read) left ≡ asked_by read first left
asked_first read first limit None fresh = refl
asked_first read first limit (Some bytes) fresh = ap (λ ls. Some (entries_of_by read ls)) (sym (fresh_starts first limit fresh bytes))

-- before the first turn
pub so_far_first : {M W : Type 0} (g : machine.Ghosts M W) (read : Grammar) (first : LinesState) (left before : Option (List ℕ)) (m : M) (w : W)
    → option_map (script_by read) left ≡ asked_by read first left → GaveBy read [] [] first left first left → SoFar g read first left before m w first left before m w
so_far_first g read first left before m w asked gave = record {
  entries = [];
  turns = [];
  run = tt;
  machine_now = refl;
  world_now = refl;
  front = asked ∙ map-nothing (asked_by read first left);
  gained = grown-nil before;
  took = gave;
}

-- a line that comes to no entry
pub so_far_skip : {M W : Type 0} (g : machine.Ghosts M W) (read : Grammar) (first : LinesState) (left before : Option (List ℕ)) (m : M) (w : W)
    (lines : LinesState) (now written : Option (List ℕ)) (at_m : M) (at_w : W) (then_lines : LinesState) (then_now : Option (List ℕ)) (then_m : M) (then_w : W)
    → SoFar g read first left before m w lines now written at_m at_w → asked_by read lines now ≡ asked_by read then_lines then_now
    → GaveBy read [] [] lines now then_lines then_now → (IsTrue lines.ended → IsTrue then_lines.ended) → then_m ≡ at_m → then_w ≡ at_w
    → SoFar g read first left before m w then_lines then_now written then_m then_w
so_far_skip g read first left before m w lines now written at_m at_w then_lines then_now then_m then_w r same gave stays same_m same_w = record {
  entries = r.entries;
  turns = r.turns;
  run = r.run;
  machine_now = r.machine_now ∙ sym same_m;
  world_now = r.world_now ∙ sym same_w;
  front = r.front ∙ ap (option_map (λ rest. r.entries ++ rest)) same;
  gained = r.gained;
  took = took_no_more read r.entries first lines then_lines left now then_now stays gave r.took;
}

-- an entry with its reply
abbrev pub so_far_on : {M W : Type 0} (g : machine.Ghosts M W) (read : Grammar) (first : LinesState) (left before : Option (List ℕ)) (m : M) (w : W)
    (lines : LinesState) (now written : Option (List ℕ)) (at_m : M) (at_w : W) (then_lines : LinesState) (then_now then_written : Option (List ℕ)) (e : Entry) (t : Turned M W)
    → SoFar g read first left before m w lines now written at_m at_w → asked_by read lines now ≡ option_map (λ more. e ∷ more) (asked_by read then_lines then_now)
    → GaveBy read [] (e ∷ []) lines now then_lines then_now → (IsTrue lines.ended → IsTrue then_lines.ended) → Answers g read at_m at_w e t
    → then_written ≡ grown written (turn_text g t)
    → SoFar g read first left before m w then_lines then_now then_written t.machine t.world
so_far_on {M} {W} g read first left before m w lines now written at_m at_w then_lines then_now then_written e t r comes gave stays answers puts = record {
  entries = r.entries ++ e ∷ [];
  turns = r.turns ++ t ∷ [];
  run = run_more g read m w r.entries r.turns e t r.run
      (subst (λ (x : M). Answers g read x (last_world w r.turns) e t) (sym r.machine_now)
      (subst (λ (y : W). Answers g read at_m y e t) (sym r.world_now) answers));
  machine_now = machine_more m r.turns t;
  world_now = world_more w r.turns t;
  front = r.front ∙ ap (option_map (λ rest. r.entries ++ rest)) comes ∙ front_more (asked_by read then_lines then_now) r.entries e;
  gained = puts ∙ ap (λ (o : Option (List ℕ)). grown o (turn_text g t)) r.gained ∙ grown-append before (turn_texts g r.turns) (turn_text g t)
      ∙ ap (grown before) (sym (texts_more g r.turns t));
  took = took_more read r.entries (e ∷ []) first lines then_lines left now then_now stays gave r.took;
}

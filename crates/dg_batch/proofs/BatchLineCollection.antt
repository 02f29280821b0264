-- How the changes of lines are gathered, one line at a time.
use Rattle.std.proofs.Common.{◌≡◌, ℕ, ◌+◌, List, [], ◌∷◌, ◌++◌, Option, Some, None, length, map, take, drop, refl, sym, ◌∙◌, ap, subst, arith, append_assoc, length-append}
use Rattle.std.proofs.Math.Seq.{take-append_seam}
use Rattle.std.proofs.lemmas.List.{map-append, take-append-drop}
use Rattle.dg_io.specs.declared.lines.Line.{Line}
use Rattle.dg_graph.specs.declared.event.Change.{Change}
use Rattle.dg_changes.specs.Batch.{changes_after, names_after}
use Rattle.dg_changes.specs.ChangeGrammar.{ChangeByText, change_by_text_in, named, change_with}
use Rattle.dg_text.specs.Lines.{ScriptLine}
use Rattle.dg_batch.proofs.NamesAfter.{names_both, changes_both}
use Rattle.dg_append.specs.declared.front.Front.{Front}
use Rattle.dg_append.specs.declared.front.Front.TheVariants.{Whole, Form, Unkept}
use Rattle.dg_append.specs.Fronts.{IsFront, lines}
use Rattle.dg_batch.specs.BatchLines.{KeepsChange, NamesGrow, line_read}

-- the changes of these lines so far, and the names with their texts
abbrev pub AreKept : Front → List (List ℕ) → List (List ℕ) → List ScriptLine → List Change → Type 0
AreKept front names new got changes = IsFront front changes (changes_after names (map change_by_text_in got)) × NamesGrow front names new got

-- of no line
pub none_kept : (front : Front) (names : List (List ℕ)) (changes : List Change) → changes ≡ [] → (front ≡ Form → ⊥) → AreKept front names names [] changes
none_kept Whole names changes none other = (ap lines (sym none), refl)
none_kept Form names changes none other = absurd (other refl)
none_kept Unkept names changes none other = (tt, tt)

-- the lines that were taken so far
pub record Gathering (IsTaken : List ScriptLine → Type 0) (read : ℕ) (front : Front) (names new : List (List ℕ)) (changes : List Change) : Type 0 where
  pub got : List ScriptLine
  pub taken : IsTaken got
  pub read_is : length got ≡ read
  pub kept : AreKept front names new got changes

-- the changes and the names with one line more
more_changes : (names : List (List ℕ)) (got : List ScriptLine) (line : ScriptLine)
    → changes_after names (map change_by_text_in (got ++ line ∷ [])) ≡ changes_after names (map change_by_text_in got) ++ changes_after (names_after names (map change_by_text_in got)) (change_by_text_in line ∷ [])
more_changes names got line =
    ap (changes_after names) (map-append change_by_text_in got (line ∷ [])) ∙ changes_both names (map change_by_text_in got) (change_by_text_in line ∷ [])

more_names : (names : List (List ℕ)) (got : List ScriptLine) (line : ScriptLine)
    → names_after names (map change_by_text_in (got ++ line ∷ [])) ≡ names_after (names_after names (map change_by_text_in got)) (change_by_text_in line ∷ [])
more_names names got line =
    ap (names_after names) (map-append change_by_text_in got (line ∷ [])) ∙ names_both names (map change_by_text_in got) (change_by_text_in line ∷ [])

-- a line after those of which each was kept
pub kept_more : (front : Front) (names now new : List (List ℕ)) (got : List ScriptLine) (line : ScriptLine) (changes then_changes : List Change)
    → AreKept Whole names now got changes → KeepsChange front (change_by_text_in line) now new changes then_changes → AreKept front names new (got ++ line ∷ []) then_changes
kept_more Whole names now new got line changes then_changes k h =
    let said : ChangeByText = h.0 in
    let one : changes_after now (change_by_text_in line ∷ []) ≡ Some (change_with now said) ∷ [] = ap (λ (s : Option ChangeByText). changes_after now (s ∷ [])) h.1 in
    let name : names_after now (change_by_text_in line ∷ []) ≡ named now said.asked = ap (λ (s : Option ChangeByText). names_after now (s ∷ [])) h.1 in (
      more_changes names got line
          ∙ ap (λ (cs : List (Option Change)). cs ++ changes_after (names_after names (map change_by_text_in got)) (change_by_text_in line ∷ [])) k.0
          ∙ ap (λ (ns : List (List ℕ)). lines changes ++ changes_after ns (change_by_text_in line ∷ [])) (sym k.1)
          ∙ ap (λ (cs : List (Option Change)). lines changes ++ cs) one
          ∙ sym (ap lines h.2 ∙ map-append (λ (c : Change). Some c) changes (change_with now said ∷ [])),
      h.3 ∙ sym (more_names names got line ∙ ap (λ (ns : List (List ℕ)). names_after ns (change_by_text_in line ∷ [])) (sym k.1) ∙ name),
    )
kept_more Form names now new got line changes then_changes k h =
    let one : changes_after now (change_by_text_in line ∷ []) ≡ None ∷ [] = ap (λ (s : Option ChangeByText). changes_after now (s ∷ [])) h.0 in (
      (
        [],
        more_changes names got line
            ∙ ap (λ (cs : List (Option Change)). cs ++ changes_after (names_after names (map change_by_text_in got)) (change_by_text_in line ∷ [])) k.0
            ∙ ap (λ (ns : List (List ℕ)). lines changes ++ changes_after ns (change_by_text_in line ∷ [])) (sym k.1)
            ∙ ap (λ (cs : List (Option Change)). lines changes ++ cs) one
            ∙ ap (λ (cs : List Change). lines cs ++ None ∷ []) (sym h.1),
      ),
      tt,
    )
kept_more Unkept names now new got line changes then_changes k h = (tt, tt)

-- a line after one that was not kept
pub kept_on : (front : Front) (names now : List (List ℕ)) (got : List ScriptLine) (line : ScriptLine) (changes : List Change)
    → (front ≡ Whole → ⊥) → AreKept front names now got changes → AreKept front names now (got ++ line ∷ []) changes
kept_on Whole names now got line changes other k = absurd (other refl)
kept_on Form names now got line changes other k = (
  (
    k.0.0 ++ changes_after (names_after names (map change_by_text_in got)) (change_by_text_in line ∷ []),
    more_changes names got line
        ∙ ap (λ (cs : List (Option Change)). cs ++ changes_after (names_after names (map change_by_text_in got)) (change_by_text_in line ∷ [])) k.0.1
        ∙ append_assoc (lines changes) (None ∷ k.0.0) (changes_after (names_after names (map change_by_text_in got)) (change_by_text_in line ∷ [])),
  ),
  tt,
)
kept_on Unkept names now got line changes other k = (tt, tt)

gathering_more : (Now Next : List ScriptLine → Type 0) (read : ℕ) (front then_front : Front) (names new then_new : List (List ℕ)) (changes then_changes : List Change) (line : ScriptLine)
    → (g : Gathering Now read front names new changes) → Next (g.got ++ line ∷ [])
    → AreKept then_front names then_new (g.got ++ line ∷ []) then_changes
    → Gathering Next (read + 1) then_front names then_new then_changes
gathering_more Now Next read front then_front names new then_new changes then_changes line g taken kept = record {
  got = g.got ++ line ∷ [];
  taken = taken;
  read_is = omega (arith, length-append g.got (line ∷ []), g.read_is);
  kept = kept;
}

-- names behind those that were there
kept_front : (a b : List (List ℕ)) → take (length a) b ≡ a → b ≡ a ++ drop (length a) b
kept_front a b h = sym (take-append-drop (length a) b) ∙ ap (λ (xs : List (List ℕ)). xs ++ drop (length a) b) h

pub kept_twice : (a b c : List (List ℕ)) → take (length a) b ≡ a → take (length b) c ≡ b → take (length a) c ≡ a
kept_twice a b c h k =
    ap (take (length a))
    (kept_front b c k ∙ ap (λ (xs : List (List ℕ)). xs ++ drop (length b) c) (kept_front a b h) ∙ append_assoc a (drop (length a) b) (drop (length b) c))
    ∙ take-append_seam a (drop (length a) b ++ drop (length b) c)

-- a line more, whose change is to be kept
pub gathering_kept : (Now Next : List ScriptLine → Type 0) (read : ℕ) (front then_front : Front) (names new then_new : List (List ℕ)) (changes then_changes : List Change) (line : Line) (text held : List ℕ)
    → Gathering Now read front names new changes → front ≡ Whole → ((got : List ScriptLine) → Now got → Next (got ++ line_read line held ∷ [])) → text ≡ held
    → KeepsChange then_front (change_by_text_in (line_read line text)) new then_new changes then_changes
    → Gathering Next (read + 1) then_front names then_new then_changes
gathering_kept Now Next read front then_front names new then_new changes then_changes line text held g whole takes same keeps =
    let w : Gathering Now read Whole names new changes = subst (λ (f : Front). Gathering Now read f names new changes) whole g in
    gathering_more Now Next read Whole then_front names new then_new changes then_changes (line_read line text) w
    (subst (λ (t : List ℕ). Next (w.got ++ line_read line t ∷ [])) (sym same) (takes w.got w.taken))
    (kept_more then_front names new then_new w.got (line_read line text) changes then_changes w.kept keeps)

-- a line more, whose change is not kept
pub gathering_passed : (Now Next : List ScriptLine → Type 0) (read : ℕ) (front : Front) (names new : List (List ℕ)) (changes : List Change) (line : Line) (text : List ℕ)
    → Gathering Now read front names new changes → (front ≡ Whole → ⊥) → ((got : List ScriptLine) → Now got → Next (got ++ line_read line text ∷ []))
    → Gathering Next (read + 1) front names new changes
gathering_passed Now Next read front names new changes line text g unkept takes =
    gathering_more Now Next read front front names new new changes changes (line_read line text) g
    (takes g.got g.taken) (kept_on front names new g.got (line_read line text) changes unkept g.kept)

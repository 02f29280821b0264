-- What an opening gives and why there is none, by the law of starts.
use Rattle.std.proofs.Common.{◌≡◌, ◌⊎◌, inl, inr, ℕ, ◌+◌, add_assoc, List, [], Option, Some, None, Result, Ok, Err, length, refl, sym, ◌∙◌, ap, subst, arith}
use Rattle.std.specs.Prelude.{IfSome, MatchOption}
use Rattle.std.specs.List.{All}
use Rattle.std.proofs.lemmas.Bool.{false≢true}
use Rattle.std.proofs.lemmas.List.Elements.{All-nil}
use Rattle.std.proofs.lemmas.Option.{IfSome_then}
use Rattle.dg_disk.specs.Counts.{raised_by}
use Rattle.dg_file.specs.Index.{IndexState, opening_bytes}
use Rattle.dg_file.specs.Images.{taken_after}
use Rattle.dg_file.specs.OpeningBytes.{TakesUpToOpening, blank_bytes}
use Rattle.dg_file.proofs.ImageParts.{opened_blank}
use Rattle.dg_graph.specs.declared.element.Element.{Element}
use Rattle.dg_graph.specs.declared.event.Event.{Event}
use Rattle.dg_history.specs.History.{History}
use Rattle.dg_index.specs.ImageOfHistory.{IsImageOf, StandsAs}
use Rattle.dg_index.specs.OpenedIndex.{Unopened, No_index, Opened, Opening, opened_of, opening}
use Rattle.dg_index.proofs.OpenedIndexHistories.{images_are_opened}
use Rattle.dg_columns.specs.NamesInRange.{NamesFit}
use Rattle.dg_current.specs.Now.{NowState}
use Rattle.dg_records.specs.EventNames.{BodyHasNamesThere, EventNamesAreThere}
use Rattle.dg_retrieval.specs.NamesThere.{NamesAreThere}
use Rattle.dg_retrieval.specs.NodeSets.{IsIndexOver}
use Rattle.dg_retrieval.specs.ValueRange.{ValuesFit}
use Rattle.dg_start.specs.declared.fault.StartFault.{StartFault}
use Rattle.dg_start.specs.declared.fault.StartFault.TheVariants as fault
use Rattle.dg_records.specs.ColumnReads.{TakesOrFails}
use Rattle.dg_start.specs.Calls.{StartsAsItStands, TakesAlongPlan, TakesStart, current_bytes, plan_bytes}
use Rattle.dg_start.specs.SessionStart.{PlansLastLeaf, RefusesStart, Started, Starts, StartsBy, recent_bytes, start_bytes, started_with}
use Rattle.dg_stored.specs.StoredHistory.{AreCounted, IsSoundHistory, KeepsHistory, MayGoOn}
use Rattle.dg_start.proofs.EventSourceBytes.{HandsOn, call_then, fails_with, takes_after, takes_part, takes_raised}
use Rattle.dg_start.proofs.SessionStartSets.{at_most}
use Rattle.dg_index.proofs.OpenedLegalHistories.{behind}
use Rattle.dg_start.proofs.EventSourceOutcomes.{if_told, of_told}

-- ---- a blank image

pub blank_starts : (image : List ℕ) → opening image ≡ Err No_index → Starts image (Ok None)
blank_starts image h = subst (λ (r : Result Opened Unopened). StartsBy image r (Ok None)) (sym h) refl

-- what there is without an index is sound
pub empty_sound : (index : Option Opening) (names : List (List ℕ)) (now : NowState) (recent : List Event) → index ≡ None → now.pending ≡ [] → AreCounted index names now.graph recent → now.graph ≡ [] → recent ≡ []
    → IsSoundHistory index names now recent
empty_sound index names now recent none pending counted graph events = record {
  pending = pending;
  counted = counted;
  values = subst ValuesFit (sym graph) (λ x h. absurd (false≢true h));
  named = subst (NamesAreThere (length names)) (sym graph) (λ x h. absurd (false≢true h));
  recent_named = subst (EventNamesAreThere (length names)) (sym events) (All-nil (λ (e : Event). BodyHasNamesThere (length names) e.body));
  fit = subst (All (λ (e : Event). NamesFit e.body)) (sym events) (All-nil (λ (e : Event). NamesFit e.body));
  goes_on = subst (λ (i : Option Opening). MayGoOn i recent) (sym none) tt;
}

-- ---- what an opening finds

-- what the image is opened as, where an index with these names was found, or none
abbrev pub IsFound : Option IndexState → List (List ℕ) → List ℕ → Type 0
IsFound found names image = MatchOption found (opening image ≡ Err No_index) (λ index. opening image ≡ Ok (record { index = index.opening; names = names }))

pub none_found : (told : Option (List ℕ)) (found : Option IndexState) (names : List (List ℕ)) → found ≡ None → IfSome told (IsFound found names)
    → IfSome told (λ image. opening image ≡ Err No_index)
none_found told found names is h = subst (λ (f : Option IndexState). IfSome told (IsFound f names)) is h

pub index_found : (told : Option (List ℕ)) (found : Option IndexState) (names : List (List ℕ)) (index : IndexState) → found ≡ Some index → IfSome told (IsFound found names)
    → IfSome told (λ image. opening image ≡ Ok (record { index = index.opening; names = names }))
index_found told found names index is h = subst (λ (f : Option IndexState). IfSome told (IsFound f names)) is h

-- what is said of the index that was found
pub of_index : (found : Option IndexState) (index : IndexState) (P : IndexState → Type 0) → found ≡ Some index → IfSome found P → P index
of_index found index P is h = of_told found P index h is

-- ---- by the law

module _ (law : StartsAsItStands) where
  -- the parts that are kept are those of the history for which the image stands, or there is none
  keeps : (z : Option History) (index other : Option Opening) (names names' : List (List ℕ)) (graph graph' : List Element) (recent recent' : List Event)
      → started_with index names graph recent ≡ started_with other names' graph' recent' → (index ≡ None → (names ≡ []) × (graph ≡ []) × (recent ≡ []))
      → KeepsHistory z other names' graph' recent' → KeepsHistory z index names graph recent
  keeps None None None names names' graph graph' recent recent' e none k =
      let empty = none refl in
      (refl, empty.0, empty.1, empty.2)
  keeps (Some z) None None names names' graph graph' recent recent' e none k = (let f = k.index_is in cc)
  keeps z None (Some o) names names' graph graph' recent recent' e none k = cc
  keeps z (Some o) None names names' graph graph' recent recent' e none k = cc
  keeps z (Some o) (Some p) names names' graph graph' recent recent' e none k =
      let s : (let a : Started = record { opened = record { index = o; names = names }; graph = graph; recent = recent } in a)
      ≡ (let b : Started = record { opened = record { index = p; names = names' }; graph = graph'; recent = recent' } in b) = cc in
      subst (λ (x : Started). KeepsHistory z (Some x.opened.index) x.opened.names x.graph x.recent) (sym s) k

  pub keeps_history : (told : Option (List ℕ)) (index : Option Opening) (names : List (List ℕ)) (graph : List Element) (recent : List Event)
      → IfSome told (λ image. Starts image (Ok (started_with index names graph recent))) → (index ≡ None → (names ≡ []) × (graph ≡ []) × (recent ≡ []))
      → IfSome told (λ image. (z : Option History) → StandsAs z image → KeepsHistory z index names graph recent)
  keeps_history told index names graph recent starts none =
      if_told told (λ image. (z : Option History) → StandsAs z image → KeepsHistory z index names graph recent)
      (λ image h z stands.
      let due = law z image stands (Ok (started_with index names graph recent)) (of_told told (λ image. Starts image (Ok (started_with index names graph recent))) image starts h) in
      keeps z index due.0 names due.1 graph due.2 recent due.3 (let e = due.4 in cc) none due.5)

  -- a sound history, with which an image starts
  pub keeps_sound : (told : Option (List ℕ)) (index : Option Opening) (names : List (List ℕ)) (now : NowState) (recent : List Event)
      → IfSome told (λ image. Starts image (Ok (started_with index names now.graph recent))) → IsSoundHistory index names now recent
      → IfSome told (λ image. (z : Option History) → StandsAs z image → KeepsHistory z index names now.graph recent)
  keeps_sound told index names now recent starts sound =
      keeps_history told index names now.graph recent starts (λ none. subst (λ (i : Option Opening). AreCounted i names now.graph recent) none sound.counted)

  -- an image that stands for a history, or for none, is not refused
  never : (z : Option History) (image : List ℕ) → StandsAs z image → (f : StartFault) → RefusesStart f image → (f ≡ fault.Disk) ⊎ (f ≡ fault.Memory)
  never z image stands fault.Disk h = inl refl
  never z image stands fault.Foreign h = (let e = (law z image stands (Err fault.Foreign) h).4 in cc)
  never z image stands (fault.Damaged offset) h = (let e = (law z image stands (Err (fault.Damaged offset)) h).4 in cc)
  never z image stands (fault.BadRecord key col) h = (let e = (law z image stands (Err (fault.BadRecord key col)) h).4 in cc)
  never z image stands fault.NotGraph h = (let e = (law z image stands (Err fault.NotGraph) h).4 in cc)
  never z image stands (fault.BadRecent number) h = (let e = (law z image stands (Err (fault.BadRecent number)) h).4 in cc)
  never z image stands fault.Memory h = inr refl

  pub never_refused : (told : Option (List ℕ)) (f : StartFault) → IfSome told (λ image. RefusesStart f image)
      → IfSome told (λ image. (z : Option History) → StandsAs z image → (f ≡ fault.Disk) ⊎ (f ≡ fault.Memory))
  never_refused told f refused =
      if_told told (λ image. (z : Option History) → StandsAs z image → (f ≡ fault.Disk) ⊎ (f ≡ fault.Memory))
      (λ image h z stands. never z image stands f (of_told told (λ image. RefusesStart f image) image refused h))

-- ---- the bytes read

-- an image of a history is opened as the index of the history
index_over : (z : History) (image : List ℕ) (o : Opening) (names : List (List ℕ)) → IsImageOf z image → opening image ≡ Ok (record { index = o; names = names }) → IsIndexOver z image o (length names)
index_over z image o names stands opened =
    let x : Opened = record { index = o; names = names } in
    let same : x ≡ opened_of z = (let e = images_are_opened z image stands in cc) in
    record {
      stands = stands;
      opened = ap (λ (y : Opened). y.index) same;
      names = ap (λ (y : Opened). length y.names) same ∙ ap length (behind z stands.legal).names_are;
    }

-- no image of a history is without an index
none_of_history : {P : Type 0} (z : History) (image : List ℕ) → IsImageOf z image → opening image ≡ Err No_index → P
none_of_history z image stands e = absurd (let f = images_are_opened z image stands in cc)

-- the answer of a start that does not fail
abbrev pub gives : {A : Type 0} → A → Result A StartFault
gives x = Ok x

-- a start without an index
pub none_taken : {A : Type 0} (told : Option (List ℕ)) (x : A) (before after : ℕ) → IfSome told (λ image. opening image ≡ Err No_index)
    → IfSome told (λ image. after ≡ taken_after (blank_bytes image) before)
    → IfSome told (λ image. TakesStart (gives x) image before after)
none_taken told x before after blank taken =
    if_told told (λ image. TakesStart (gives x) image before after)
    (λ image h.
    let none : opening image ≡ Err No_index = of_told told (λ image. opening image ≡ Err No_index) image blank h in
    let most : after ≡ taken_after (blank_bytes image) before = of_told told (λ image. after ≡ taken_after (blank_bytes image) before) image taken h in
    record {
      history = λ z stands steps plan. none_of_history z image stands none;
      blank = λ b. takes_after (blank_bytes image) before after most;
    })

-- a start that fails as the index is opened
pub opening_fails : {A : Type 0} (told : Option (List ℕ)) (r : Result A StartFault) (f : StartFault) (before after : ℕ) → HandsOn r f → IfSome told (λ image. TakesUpToOpening image before after)
    → IfSome told (λ image. TakesStart r image before after)
opening_fails told r f before after given within =
    IfSome_then told within
    (λ image most. record {
      history = λ z stands steps plan.
          let o : Opening = (opened_of z).index in
          fails_with r f (start_bytes o steps) before after given
          (takes_part (opening_bytes o) (start_bytes o steps) before after (omega arith) (most.index (opened_of z) (images_are_opened z image stands)));
      blank = λ b. fails_with r f (blank_bytes image) before after given (most.blank b);
    })

-- a start over an index
pub open_takes : {A E : Type 0} (s : Result A E) (told : Option (List ℕ)) (o : Opening) (names : List (List ℕ)) (before now after : ℕ) → IfSome told (λ image. opening image ≡ Ok (record { index = o; names = names }))
    → now ≡ raised_by (opening_bytes o) before → IfSome told (λ image. TakesAlongPlan s (current_bytes o) image o (length names) now after)
    → IfSome told (λ image. TakesStart s image before after)
open_takes s told o names before now after opened first later =
    if_told told (λ image. TakesStart s image before after)
    (λ image h.
    let is : opening image ≡ Ok (record { index = o; names = names }) = of_told told (λ image. opening image ≡ Ok (record { index = o; names = names })) image opened h in
    record {
      history = λ z stands steps plan.
          let over : IsIndexOver z image o (length names) = index_over z image o names stands is in
          let more : TakesOrFails s (current_bytes o steps) now after =
          of_told told (λ image. TakesAlongPlan s (current_bytes o) image o (length names) now after) image later h z over steps (subst (λ (p : Opening). PlansLastLeaf p steps) (sym over.opened) plan) in
          let all : TakesOrFails s (opening_bytes o + current_bytes o steps) before after =
          call_then s (opening_bytes o) (current_bytes o steps) before now after (takes_raised (opening_bytes o) before now first) more in
          let sum : opening_bytes o + current_bytes o steps ≡ start_bytes o steps = sym (add_assoc (opening_bytes o) (recent_bytes o) (plan_bytes o steps)) in
          subst (λ (p : Opening). TakesOrFails s (start_bytes p steps) before after) over.opened (subst (λ k. TakesOrFails s k before after) sum all);
      blank = λ b. absurd (let e : opening image ≡ Err No_index = opened_blank image b in cc);
    })

-- a start that fails behind one that read the bytes
pub start_handed : {A B E : Type 0} (told : Option (List ℕ)) (r : Result A StartFault) (f : StartFault) (s : Result B E) (before after : ℕ) → HandsOn r f → IfSome told (λ image. TakesStart s image before after)
    → IfSome told (λ image. TakesStart r image before after)
start_handed told r f s before after given h =
    IfSome_then told h
    (λ image start. record {
      history = λ z stands steps plan. fails_with r f (start_bytes (opened_of z).index steps) before after given (at_most s (start_bytes (opened_of z).index steps) before after (start.history z stands steps plan));
      blank = λ b. fails_with r f (blank_bytes image) before after given (at_most s (blank_bytes image) before after (start.blank b));
    })

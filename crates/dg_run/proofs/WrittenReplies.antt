-- The replies that a run writes, whatever the image is.
use Rattle.std.proofs.Common.{◌≡◌, ℕ, ◌≤◌, Bool, List, [], ◌∷◌, ◌++◌, Option, Some, None, Result, Err, if◌then◌else◌, length, map, take, refl, sym, ◌∙◌, ap, subst, arith}
use Rattle.std.specs.List.{All, flat_map}
use Rattle.std.proofs.lemmas.List.{length-take, take-take}
use Rattle.std.proofs.lemmas.List.Elements.{All-cons, All-nil}
use Rattle.dg_ask.specs.ReplyNames.{ReplyNamesAreThere}
use Rattle.dg_disk.specs.declared.disk.Disk as disk
use Rattle.dg_index.specs.ImageText.{header_in}
use Rattle.dg_index.specs.OpenedIndex.{No_index, Opened, Opening, Unopened, opened_by, opening}
use Rattle.dg_machine.specs.CommandGrammar.{command_of}
use Rattle.dg_machine.specs.ReplyText.{text}
use Rattle.dg_machine.specs.Script.{Entry}
use Rattle.dg_session.proofs.ReplyNames.{names_stay}
use Rattle.dg_session.specs.Parts.{Parts}
use Rattle.dg_session.specs.ReplyNames.{BeginWith}
use Rattle.dg_session.specs.Session.{HoldsImage}
use Rattle.dg_stored.specs.StoredHistory.{IsHeldBy}
use Rattle.dg_turns.specs.declared.machine.Machine as machine
use Rattle.dg_turns.specs.Runs.{RunOver, Turned, turn_texts}
use Rattle.dg_run.specs.declared.status.Status.{Status}
use Rattle.dg_run.specs.GainedReplies.{GainsReplies, NamedReply, NamesGrowFrom, names_opened, names_told}
use Rattle.dg_run.specs.Served.{Gained}
use Rattle.dg_run.proofs.EntryAnswers.{IsSession, answered_entry}

-- the names that were there, and then more
pub begin_then : (a b c : List (List ℕ)) → BeginWith a b → BeginWith b c → BeginWith a c
begin_then a b c first later =
    let long : length a ≤ length b = omega (arith, ap length first, length-take (length a) b) in
    sym (take-take (length a) (length b) c long) ∙ ap (take (length a)) later ∙ first

abbrev IsNamed : NamedReply → Type 0
IsNamed r = ReplyNamesAreThere (length r.0) r.1

abbrev named_text : NamedReply → List ℕ
named_text r = text r.0 r.1

-- the replies of the turns, each with the names of the session behind it
abbrev pub named_replies : {M D : Type 0} → (M → Parts) → List (Turned M D) → List NamedReply
named_replies parts turns = map (λ t. ((parts t.machine).names, t.reply)) turns

module _ {M D : Type 0} {g : machine.Ghosts M D} {d : disk.Ghosts D} {parts : M → Parts} where
  names_grow : IsSession g d parts → (m : M) (at : D) (entries : List Entry) (turns : List (Turned M D)) → RunOver g command_of m at entries turns → NamesGrowFrom (parts m).names (named_replies parts turns)
  names_grow is m at [] [] run = tt
  names_grow is m at [] (t ∷ turns) run = absurd run
  names_grow is m at (e ∷ entries) [] run = absurd run
  names_grow is m at (e ∷ entries) (t ∷ turns) run = ((answered_entry is m at e t run.0).keeps_names, names_grow is t.machine t.world entries turns run.1)

  all_named : IsSession g d parts → (m : M) (at : D) (entries : List Entry) (turns : List (Turned M D)) → RunOver g command_of m at entries turns → All IsNamed (named_replies parts turns)
  all_named is m at [] [] run = All-nil IsNamed
  all_named is m at [] (t ∷ turns) run = absurd run
  all_named is m at (e ∷ entries) [] run = absurd run
  all_named is m at (e ∷ entries) (t ∷ turns) run =
      All-cons IsNamed ((parts t.machine).names, t.reply) (named_replies parts turns) (answered_entry is m at e t run.0).named (all_named is t.machine t.world entries turns run.1)

  named_texts : IsSession g d parts → (turns : List (Turned M D)) → turn_texts g turns ≡ flat_map named_text (named_replies parts turns)
  named_texts is [] = refl
  named_texts is (t ∷ turns) =
      ap (λ (names : List (List ℕ)). text names t.reply ++ turn_texts g turns) (is.texts t.machine)
      ∙ ap (λ (bytes : List ℕ). text (parts t.machine).names t.reply ++ bytes) (named_texts is turns)

  -- what a run writes
  pub replies_gained : IsSession g d parts → (s : Status) (m : M) (at : D) (entries : List Entry) (turns : List (Turned M D)) (before now : Option (List ℕ)) → RunOver g command_of m at entries turns
      → Gained s before (turn_texts g turns) now → GainsReplies s (parts m).names before now
  replies_gained is s m at entries turns before now run gained = record {
    replies = named_replies parts turns;
    grow = names_grow is m at entries turns run;
    named = all_named is m at entries turns run;
    gained = subst (λ (due : List ℕ). Gained s before due now) (named_texts is turns) gained;
  }

-- nothing is written
pub none_gained : (s : Status) (names : List (List ℕ)) (before now : Option (List ℕ)) → Gained s before [] now → GainsReplies s names before now
none_gained s names before now gained = record { replies = []; grow = tt; named = All-nil IsNamed; gained = gained }

-- ---- the names at the start

grow_earlier : (first names : List (List ℕ)) (replies : List NamedReply) → BeginWith first names → NamesGrowFrom names replies → NamesGrowFrom first replies
grow_earlier first names [] begin grow = tt
grow_earlier first names (r ∷ replies) begin grow = (begin_then first names r.0 begin grow.0, grow.1)

-- replies whose names grow from more than these grow from these
pub replies_from : (s : Status) (first names : List (List ℕ)) (before now : Option (List ℕ)) → BeginWith first names → GainsReplies s names before now → GainsReplies s first before now
replies_from s first names before now begin gains = record {
  replies = gains.replies;
  grow = grow_earlier first names gains.replies begin gains.grow;
  named = gains.named;
  gained = gains.gained;
}

-- the names of a session that holds the image begin with those that its directories have
pub names_held : (session : Parts) (image : Option (List ℕ)) → HoldsImage session image → BeginWith (names_told image) session.names
names_held session None holds = refl
names_held session (Some x) holds = by session.index holds
  where
    by : (index : Option Opening) → IsHeldBy index session.names x → BeginWith (names_opened (opening x)) session.names
    by None blank =
        let none : opening x ≡ Err No_index = ap (λ (b : Bool). if b then Err No_index else opened_by x (header_in x)) blank in
        subst (λ (r : Result Opened Unopened). BeginWith (names_opened r) session.names) (sym none) refl
    by (Some o) opens = subst (λ (r : Result Opened Unopened). BeginWith (names_opened r) session.names) (sym opens) (names_stay session.names session.names refl)

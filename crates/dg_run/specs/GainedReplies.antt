-- What is written over any image.
use Rattle.std.specs.Prelude.{ℕ, List, [], ◌∷◌, Option, Some, None, Result, Ok, Err, length}
use Rattle.std.specs.List.{All, flat_map}
use Rattle.dg_ask.specs.ReplyNames.{ReplyNamesAreThere}
use Rattle.dg_index.specs.OpenedIndex.{Opened, Unopened, opening}
use Rattle.dg_machine.specs.declared.reply.Reply.{Reply}
use Rattle.dg_machine.specs.ReplyText.{text}
use Rattle.dg_session.specs.ReplyNames.{BeginWith}
use Rattle.dg_run.specs.declared.status.Status.{Status}
use Rattle.dg_run.specs.Served.{Gained}

-- a reply with the list of names by which it was written
abbrev pub NamedReply : Type 0
NamedReply = List (List ℕ) × Reply

-- The names that the directories of an image have, where the disk tells it and it opens; else none.
abbrev pub names_opened : Result Opened Unopened → List (List ℕ)
names_opened (Ok x) = x.names
names_opened (Err why) = []

abbrev pub names_told : Option (List ℕ) → List (List ℕ)
names_told (Some image) = names_opened (opening image)
names_told None = []

-- The list of names of the first reply begins with these, and that of each later reply with the list of the one before it:
-- once a number is that of a name, it is that name's in all that follows.
abbrev pub NamesGrowFrom : List (List ℕ) → List NamedReply → Type 0
NamesGrowFrom names [] = Unit {0}
NamesGrowFrom names (r ∷ replies) = BeginWith names r.0 × NamesGrowFrom r.0 replies

-- Whatever the image is: what the sink gained is the texts of replies, each with the list of names that there was, among
-- which its names are. These lists begin with the names that there were at the start, and only grow.
pub record GainsReplies (s : Status) (names : List (List ℕ)) (before after : Option (List ℕ)) : Type 0 where
  pub replies : List NamedReply
  pub grow : NamesGrowFrom names replies
  pub named : All (λ (r : NamedReply). ReplyNamesAreThere (length r.0) r.1) replies
  pub gained : Gained s before (flat_map (λ (r : NamedReply). text r.0 r.1) replies) after

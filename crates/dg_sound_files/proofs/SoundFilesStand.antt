-- An image of bytes that is sound is the image of the history of its own events.
use Rattle.std.proofs.Common.{◌≡◌, ℕ, ◌+◌, ◌*◌, ◌≤◌, ◌<◌, true, List, [], ◌∷◌, length, Option, Some, None, Result, Ok, Err, refl, sym, ap, subst, ◌∙◌, append-nil, arith, div-mul-le_self}
use Rattle.std.specs.List.{flat_map}
use Rattle.dg_graph.specs.declared.element.Column.{Column}
use Rattle.dg_graph.specs.declared.event.Event.{Event}
use Rattle.dg_text.specs.Names.{are_new}
use Rattle.dg_history.specs.declared.node.Key.{Key}
use Rattle.dg_history.specs.declared.node.Key.TheVariants as key
use Rattle.dg_history.specs.History.{Batch, events_of, names_of}
use Rattle.dg_history.specs.LegalHistory.{AreLegalAfter, FitsEvent, IsLegal}
use Rattle.dg_index.specs.ImageOfHistory.{IsImageOf}
use Rattle.dg_index.specs.OpenedIndex.{Opened, Directory, bare, event_total}
use Rattle.dg_index.specs.declared.entry.BatchEntry.{BatchEntry}
use Rattle.dg_history.proofs.LegalHistories.{events_among}
use Rattle.dg_index.proofs.IndexRecordColumns.{Each}
use Rattle.dg_index.proofs.OpenedIndexHistories.{large_parameters}
use Rattle.dg_columns.specs.ColumnLaws.{AreBytes, EventsHaveOneSpelling}
use Rattle.dg_columns.specs.ReadFits.{EventsThatAreReadFit}
use Rattle.dg_columns.proofs.Fields.{IsBytes, bytes_from_all}
use Rattle.dg_sound.specs.declared.soundness.Soundness.TheVariants.{Sound}
use Rattle.dg_sound.specs.OwnEvents.{are_completions, list_total, listed_events, own_events, with_pieces}
use Rattle.dg_sound_files.specs.SoundFiles.{SoundFilesStand}
use Rattle.dg_sound.specs.Soundness.{delta_keys, first_wrong, history_of, if_read, judged_events, own_batches, record_total, sound_unless}
use Rattle.dg_sound_files.proofs.OpenedIndexBatches.{chain_few, chain_few_names, chain_follow, chain_named, chain_new}
use Rattle.dg_sound_files.proofs.OpenedIndexFiles.{IsOpened, is_opened, stands_as_file}
use Rattle.dg_sound_files.proofs.SoundnessBatches.{HaveEnds, own_agree, own_events_whole, own_names_whole}
use Rattle.dg_sound_files.proofs.SoundnessDueDeltas.{IsRightDelta, all_right}
use Rattle.dg_sound_files.proofs.OwnEventsRead.{AreRightPieces, AreSound, IsRightList, ListsRead, lists_read, no_events, pieces_read}
use Rattle.dg_sound_files.proofs.OwnEventLegality.{legal_after}
use Rattle.dg_sound_files.proofs.SoundnessRecords.{IsGood, PieceColumns, all_kept, good_deltas, good_list}
use Rattle.dg_sound_files.proofs.OpenedIndexDirectories.{Turn, batch_entries, chain_batches, chain_names, directories_in, new_names}
use Rattle.dg_sound_files.proofs.OwnEventColumns.{and_then_is}
use Rattle.dg_sound_files.proofs.OpenedIndexSegments.{Agree, IsFront, all_written}

-- ---- what is read of a sound image

none_wrong : (total n : ℕ) (wrong : Option (Key × Column)) → sound_unless total wrong ≡ Sound n → wrong ≡ None
none_wrong total n None e = refl
none_wrong total n (Some wrong) e = absurd cc

judged_is : (image : List ℕ) (x : Opened) (n : ℕ) (r : Result (List Event) (Key × Column)) → judged_events image x r ≡ Sound n → (events : List Event) × (r ≡ Ok events) × (first_wrong image x events (delta_keys x.index.params (event_total x.index.batches)) ≡ None)
judged_is image x n (Err wrong) e = absurd cc
judged_is image x n (Ok events) e =
    (events, refl, none_wrong (record_total x.index.params (event_total x.index.batches)) n (first_wrong image x events (delta_keys x.index.params (event_total x.index.batches))) e)

-- ---- what is known of the events that are read

pub record AreRead (spelled : EventsHaveOneSpelling) (fit : EventsThatAreReadFit) (image : List ℕ) (x : Opened) (all : AreBytes image) (pos : 0 < x.index.params.l) (events : List Event) : Type 0 where
  pub size : length events ≡ event_total x.index.batches
  pub sound : AreSound x events
  pub lists : (j : ℕ) → j < list_total x.index → IsRightList spelled fit image x all pos j events
  pub pieces : AreRightPieces spelled fit image x all pos 0 0 x.index.batches events

module _ (spelled : EventsHaveOneSpelling) (fit : EventsThatAreReadFit) (image : List ℕ) (x : Opened) (all : AreBytes image) (pos : 0 < x.index.params.l) where
  are_read_by : (listed events : List Event) → ListsRead spelled fit image x all pos 0 (list_total x.index) [] listed → with_pieces image x listed 0 0 x.index.batches ≡ Ok events → AreRead spelled fit image x all pos events
  are_read_by listed events lists e =
      let count : length listed ≡ list_total x.index * x.index.params.l = lists.count ∙ ap (λ m. m * x.index.params.l) (let e : 0 + list_total x.index ≡ list_total x.index = omega arith in e) in
      let pieces = pieces_read spelled fit image x all pos 0 0 x.index.batches listed events (omega arith) (omega (arith, count)) lists.sound e in
      record {
        size = omega (arith, pieces.size, div-mul-le_self (event_total x.index.batches) x.index.params.l);
        sound = pieces.sound;
        lists = λ j lt. subst (IsRightList spelled fit image x all pos j) pieces.is (lists.right j (omega arith) (omega (arith, lt)) pieces.more);
        pieces = subst (AreRightPieces spelled fit image x all pos 0 0 x.index.batches) (append-nil events) (pieces.right []);
      }

  are_read : (events : List Event) → own_events image x ≡ Ok events → AreRead spelled fit image x all pos events
  are_read events e =
      let a = and_then_is (listed_events image x) (λ listed. with_pieces image x listed 0 0 x.index.batches) events e in
      let lists = lists_read spelled fit image x all pos 0 (list_total x.index) [] a.0 (let e : 0 ≡ 0 * x.index.params.l = omega arith in e) (no_events x) a.1 in
      are_read_by a.0 events lists a.2

  module _ (two : 2 ≤ x.index.params.k) (events : List Event) (whole : events_of (history_of x events) ≡ events) where
    piece_columns : (number count : ℕ) (batches : List BatchEntry) → AreRightPieces spelled fit image x all pos number count batches events → PieceColumns image x events pos two whole number count batches
    piece_columns number count [] right = tt
    piece_columns number count (b ∷ batches) right = (right.0.columns, piece_columns (number + 1) (count + b.events) batches right.1)

    batch_ends : (number count : ℕ) (batches : List BatchEntry) → AreRightPieces spelled fit image x all pos number count batches events → HaveEnds count batches events
    batch_ends number count [] right = tt
    batch_ends number count (b ∷ batches) right = (right.0.ends, batch_ends (number + 1) (count + b.events) batches right.1)

  -- ---- the history of these events

  history_stands : (fits : IsBytes image) (o : IsOpened image x) (two : 2 ≤ x.index.params.k) (events : List Event) → AreRead spelled fit image x all pos events
      → Each (IsRightDelta image x events) (delta_keys x.index.params (event_total x.index.batches)) → IsImageOf (history_of x events) image
  history_stands fits o two events read right =
      let ts : List Turn = o.turns in
      let ds : List Directory = directories_in o.turns in
      let start : Opened = bare o.form x.index.params in
      let whole : events_of (history_of x events) ≡ events = own_events_whole x.names events x.index.batches read.size in
      -- the directories
      let batches_are : x.index.batches ≡ batch_entries ds = chain_batches image ts start x o.chain in
      let names_are : x.names ≡ new_names ds = chain_names image ts start x o.chain in
      let named = chain_named image ts start x fits o.chain in
      let total : 0 + event_total (batch_entries ds) ≡ event_total x.index.batches = omega (arith, ap event_total batches_are) in
      let ends : HaveEnds 0 (batch_entries ds) events = subst (λ (l : List BatchEntry). HaveEnds 0 l events) batches_are (batch_ends two events whole 0 0 x.index.batches read.pieces) in
      let agree : Agree ds (history_of x events).batches =
      subst (λ (l : List (List ℕ)). Agree ds (own_batches l events x.index.batches)) (sym names_are)
      (subst (λ (l : List BatchEntry). Agree ds (own_batches (new_names ds) events l)) (sym batches_are) (own_agree 0 events ds named (omega (arith, total, read.size)) ends)) in
      -- the records
      let columns : PieceColumns image x events pos two whole 0 0 (batch_entries ds) = subst (PieceColumns image x events pos two whole 0 0) batches_are (piece_columns two events whole 0 0 x.index.batches read.pieces) in
      let lists : (j : ℕ) → j < list_total x.index → IsGood image x events pos two whole (key.List j) = λ j lt. good_list image x events pos two whole j (read.lists j lt).columns (read.lists j lt).ends in
      let deltas = good_deltas image x events pos two whole (event_total x.index.batches) right in
      let so : IsFront (history_of x events) start [] = record { params = refl; count = refl; number = refl } in
      let kept = all_kept image x events pos two whole fits lists deltas ts start [] (history_of x events).batches refl so refl total agree columns o.chain tt tt in
      -- its file
      let written = all_written (history_of x events) image fits pos (omega (arith, two)) x kept.0 kept.1 ts start [] (history_of x events).batches refl so (omega arith) o.long agree o.chain
      (record { stands = o.begins.stands; form = o.begins.form; silent = o.begins.silent }) in
      -- its legality
      let names_whole : names_of (history_of x events) ≡ x.names = (λ i. flat_map (λ (b : Batch). b.names) (own_batches (names_are i) events (batches_are i))) ∙ own_names_whole events ds named ∙ sym names_are in
      let come : are_completions x.names [] 0 (events_among (history_of x events).batches) ≡ true = ap (are_completions x.names [] 0) whole ∙ read.sound.follow in
      let fitting : Each (FitsEvent (length x.names)) (events_among (history_of x events).batches) = subst (Each (FitsEvent (length x.names))) (sym whole) read.sound.fit in
      let batches : AreLegalAfter x.names [] (history_of x events).batches = legal_after x.names ds (history_of x events).batches 0 [] agree (chain_follow image ts start x o.chain) come fitting in
      let legal : IsLegal (history_of x events) = record {
        parameters = o.begins.right;
        function = o.begins.function;
        form = written.form;
        silent = written.silent;
        batches = subst (λ (l : List (List ℕ)). AreLegalAfter l [] (history_of x events).batches) (sym names_whole) batches;
        names = ap (are_new []) (names_whole ∙ names_are) ∙ chain_new image ts start x o.chain;
        few_names = omega (arith, ap length names_whole, chain_few_names image ts start x (omega arith) o.chain);
        few = omega (arith, ap length whole, read.size, chain_few image ts start x (omega arith) o.chain);
      } in
      stands_as_file (history_of x events) image x o refl written legal

-- ---- the law

pub sound_files_stand : EventsHaveOneSpelling → EventsThatAreReadFit → SoundFilesStand
sound_files_stand spelled fit = λ image x n all opened sound.
    let fits : IsBytes image = bytes_from_all image all in
    let o = is_opened image x fits opened in
    let large = large_parameters x.index.params.l x.index.params.k o.begins.right in
    let pos : 0 < x.index.params.l = omega (arith, large.0) in
    let j = judged_is image x n (own_events image x) sound in
    let right = all_right image x j.0 (delta_keys x.index.params (event_total x.index.batches)) j.2 in
    (history_of x j.0, ap (if_read x) j.1, history_stands spelled fit image x all pos fits o large.1 j.0 (are_read spelled fit image x all pos j.0 j.1) right)

-- A column of a list of an index: that it is there, what its events name, and what a call that reads it answers.
use Rattle.std.proofs.Common.{◌≡◌, ℕ, ◌<◌, true, List, [], ◌∷◌, Option, Some, None, Result, Ok, Err, refl, ap, ◌∙◌, arith}
use Rattle.std.specs.Prelude.{IfSome, IsErr, IsErrAnd, is_some}
use Rattle.std.specs.Map.{lookup}
use Rattle.std.specs.Option.{ForSome}
use Rattle.std.proofs.lemmas.Bool.{lt-ltb}
use Rattle.std.proofs.lemmas.List.Elements.{All-cons, All-nil}
use Rattle.dg_columns.specs.Ranges.{BodyFits, EventsFit}
use Rattle.dg_graph.specs.declared.element.Column.{Column}
use Rattle.dg_graph.specs.declared.event.Body.{Body}
use Rattle.dg_graph.specs.declared.event.Body.TheVariants as body
use Rattle.dg_graph.specs.declared.event.Event.{Event}
use Rattle.dg_heard.specs.Heard.{list_total}
use Rattle.dg_heard.specs.ListColumns.{TakesColumn, bytes_at}
use Rattle.dg_history.specs.declared.node.Key.TheVariants as key
use Rattle.dg_history.specs.History.{are_parameters}
use Rattle.dg_history.specs.Keys.{same_key}
use Rattle.dg_history.proofs.ParameterRanges.{in_range}
use Rattle.dg_index.specs.IndexKeys.{AreKept, among}
use Rattle.dg_index.specs.OpenedIndex.{Opening}
use Rattle.dg_index.proofs.IndexKeyRecords.{exists_held, found}
use Rattle.dg_records.specs.ColumnReads.{Takes, TakesAtMost}
use Rattle.dg_records.specs.EventNames.{BodyHasNamesThere, EventNamesAreThere}
use Rattle.dg_records.specs.declared.fault.RecordFault.{RecordFault}

-- ---- the record

pub list_held : (o : Opening) (i : ℕ) → are_parameters o.params.l o.params.k ≡ true → AreKept o → i < list_total o → is_some (lookup (same_key (key.List i)) o.records) ≡ true
list_held o i parameters kept lt =
    let range = in_range o.params.l o.params.k parameters in
    found o.records (key.List i)
    (ap (among (key.List i)) kept ∙ exists_held o.params range.list_some range.arity_two o.batches (key.List i) (lt-ltb i (list_total o) lt))

-- ---- the events

body_named : (names : ℕ) (b : Body) → BodyFits names b → BodyHasNamesThere names b
body_named names (body.NodeAdded id) h = tt
body_named names (body.NodeRemoved id) h = tt
body_named names (body.EdgeAdded directed id src dst) h = tt
body_named names (body.EdgeRemoved directed id src dst) h = tt
body_named names (body.NodeAttr key id old new) h = (h.key_fits, h.old_fits, h.new_fits)
body_named names (body.EdgeAttr key id old new) h = (h.key_fits, h.old_fits, h.new_fits)
body_named names (body.Message src dst value) h = h.2

pub events_named : (names earliest : ℕ) (events : List Event) → EventsFit names earliest events → EventNamesAreThere names events
events_named names earliest [] h = All-nil (λ (e : Event). BodyHasNamesThere names e.body)
events_named names earliest (e ∷ events) h =
    All-cons (λ (e : Event). BodyHasNamesThere names e.body) e events (body_named names e.body h.0.fits) (events_named names e.time events h.1)

-- ---- the bytes read

-- what a call answers that hands on a fault
pub list_failed : {A : Type 0} (told : Option (List ℕ)) (o : Opening) (i : ℕ) (col : Column) (before after : ℕ) (r : Result A RecordFault) (f : RecordFault) → IsErr r × IsErrAnd r (λ e. e ≡ f)
    → ForSome told (λ image. TakesAtMost (bytes_at o i col) before after) → IfSome told (λ image. TakesColumn o i col before after r)
list_failed None o i col before after r f given h = tt
list_failed (Some image) o i col before after (Ok x) f given h = absurd given.1
list_failed (Some image) o i col before after (Err e) f given h = record { takes = tt; most = h image refl }

pub takes_less : (n a b : ℕ) → Takes n a b → TakesAtMost n a b
takes_less n a b h = omega (arith, h)

-- ---- what a disk tells

-- a fact of it, where two are known
pub both_told : {A : Type 0} (o : Option A) (P Q R : A → Type 0) → ((x : A) → P x → Q x → R x) → IfSome o P → IfSome o Q → IfSome o R
both_told None P Q R f p q = tt
both_told (Some x) P Q R f p q = f x p q

-- what follows from one
pub told_so : {A : Type 0} (o : Option A) (P Q : A → Type 0) → ((x : A) → P x → Q x) → IfSome o P → IfSome o Q
told_so None P Q f p = tt
told_so (Some x) P Q f p = f x p

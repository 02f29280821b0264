use Rattle.std.proofs.Common.{◌≡◌, ◌+◌, ◌-◌, Some, None, sym, ◌∙◌, arith, rules}
use Rattle.std.proofs.lemmas.Bool.{false≢true}
use Rattle.dg_current.specs.declared.element_entry.ElementEntry.{ElementEntry}
use Rattle.dg_current.specs.HeldGraph.{element_entry_at, more_at, fewer_at}
use Rattle.dg_current.proofs.HeldGraph.{derived_entry}
use Rattle.dg_current.proofs.HeldGraphWrites.{Writes, writes_is, keeps_held, counts_up, element_found, more_found, fewer_found, lacks_entry}
use Rattle.dg_current.proofs.element_entry.count_up.Goals as goal
use Rattle.dg_current.proofs.element_entry.count_up.Goals.{In-Some}

-- the entry that was there
found : (c : In-Some) → Some c.in-Some.entry.now ≡ element_entry_at c.args.elements.now.entries c.args.id
found c = c.in-Some.ensures.value ∙ derived_entry c.args.elements.now.entries c.args.id

more : (c : In-Some) → c.in-Some.entry.now.more ≡ more_at c.args.elements.now.entries c.args.id
more c = more_found c.args.elements.now.entries c.args.id c.in-Some.entry.now (found c)

fewer : (c : In-Some) → c.in-Some.entry.now.fewer ≡ fewer_at c.args.elements.now.entries c.args.id
fewer c = fewer_found c.args.elements.now.entries c.args.id c.in-Some.entry.now (found c)

writes : (c : In-Some) (entry : ElementEntry) → Writes c.args.elements.now.entries (c.get_mut.follows.lender entry).entries c.args.id entry
writes c entry =
    writes_is c.args.elements.now.entries (c.get_mut.follows.lender entry).entries c.args.id entry ((c.get_mut.follows.holds entry).3 (search rules)).0

pub overflow_add-entry : goal.overflow_add-entry
overflow_add-entry c =
    let old_more = more (goal.at.overflow_add-entry c).In-Some in
    let old_fewer = fewer (goal.at.overflow_add-entry c).In-Some in
    let fits = c.requires.fits in
    omega arith

pub returns-then-entry-gt0-clause-held : goal.returns-then-entry-gt0-clause-held
returns-then-entry-gt0-clause-held c = λ base.
    let at = (goal.at.returns-then-entry-gt0-clause-held c).In-Some in
    keeps_held _ _ c.args.id _ (writes at _) base (element_found base c.args.elements.now.entries c.args.id c.in-Some.entry.now (found at))

pub returns-else-entry-gt0-clause-held : goal.returns-else-entry-gt0-clause-held
returns-else-entry-gt0-clause-held c = λ base.
    let at = (goal.at.returns-else-entry-gt0-clause-held c).In-Some in
    keeps_held _ _ c.args.id _ (writes at _) base (element_found base c.args.elements.now.entries c.args.id c.in-Some.entry.now (found at))

pub returns-then-entry-gt0-clause-uses : goal.returns-then-entry-gt0-clause-uses
returns-then-entry-gt0-clause-uses c =
    let at = (goal.at.returns-then-entry-gt0-clause-uses c).In-Some in
    let entry : ElementEntry = record { held = c.in-Some.entry.now.held; more = c.in-Some.entry.now.more; fewer = c.in-Some.entry.now.fewer - 1 } in
    let old_more = more at in
    let old_fewer = fewer at in
    counts_up c.args.elements.now.entries (c.get_mut.follows.lender entry).entries c.args.id entry (writes at entry) (omega arith)

pub returns-else-entry-gt0-clause-uses : goal.returns-else-entry-gt0-clause-uses
returns-else-entry-gt0-clause-uses c =
    let at = (goal.at.returns-else-entry-gt0-clause-uses c).In-Some in
    let entry : ElementEntry = record { held = c.in-Some.entry.now.held; more = c.in-Some.entry.now.more + 1; fewer = c.in-Some.entry.now.fewer } in
    let old_more = more at in
    let old_fewer = fewer at in
    counts_up c.args.elements.now.entries (c.get_mut.follows.lender entry).entries c.args.id entry (writes at entry) (omega arith)

pub returns-in_default-clause-uses : goal.returns-in_default-clause-uses
returns-in_default-clause-uses c =
    let none : None ≡ element_entry_at c.args.elements.now.entries c.args.id = c.in_default.ensures.value ∙ derived_entry c.args.elements.now.entries c.args.id in
    absurd (false≢true (sym (lacks_entry c.args.elements.now.entries c.args.id none) ∙ c.requires.there))

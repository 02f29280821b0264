use Rattle.std.proofs.Common.{◌≡◌, ◌+◌, ◌≤◌, [], ◌∷◌, ◌++◌, ap, subst, sym, ◌∙◌, arith}
use Rattle.indexmap.proofs.CallerLemmas.{insert_entry-new}
use Rattle.dg_index.specs.declared.entry.Entry.{Entry}
use Rattle.dg_index.specs.IndexGrowth.{columns_in}
use Rattle.dg_index.specs.OpenedIndex.{total}
use Rattle.dg_catalogue.specs.declared.catalogue.TheConstants.{BYTES_MAX}
use Rattle.dg_catalogue.specs.Entries.{Holdings}
use Rattle.dg_catalogue.proofs.EntryRecords.{from_ok, look_up_is, still_sound, added_held, added_others, added_bytes}
use Rattle.dg_catalogue.proofs.catalogue.Catalogue.add.Goals as goal

-- the record that is added
abbrev added : (c : goal.After-self-1) → Entry
added c = record { lengths = c.args.lengths; offset = c.args.offset; ends = c.args.ends }

-- it stands last
last : (c : goal.After-self-1) → c.insert.new.self.entries ≡ c.self.inside.records.entries ++ (c.args.key, added c) ∷ []
last c =
    from_ok c.insert.result c.unwrap.result _ c.unwrap.ensures c.insert.ensures.entries
    ∙ insert_entry-new _ c.self.inside.records c.args.key (added c)
    (look_up_is c.self.inside.records.entries c.args.self.now c.args.key (ap (λ (h : Holdings). h.entries) c.self.view_is) ∙ c.requires.lacks)

pub invariant_of-self : goal.invariant_of-self
invariant_of-self c =
    let bytes = subst (λ (h : Holdings). columns_in h.entries + total c.args.lengths ≤ BYTES_MAX) (sym c.self.view_is) c.requires.bytes in
    let sound = still_sound _ _ c.args.key (added c) (last c) c.self.invariant.0 bytes c.requires.in_range c.requires.numbered c.requires.ends in
    (sound, omega (arith, c.insert.ensures.spare, c.self.invariant.1))

put_last : (c : goal.After-self-1) → c.insert.new.self.entries ≡ c.args.self.now.entries ++ (c.args.key, added c) ∷ []
put_last c = last c ∙ ap (λ (h : Holdings). h.entries ++ (c.args.key, added c) ∷ []) c.self.view_is

pub returns-clause-entries : goal.returns-clause-entries
returns-clause-entries c = put_last c

pub returns-clause-held : goal.returns-clause-held
returns-clause-held c = added_held c.args.self.now.entries _ c.args.key (added c) (put_last c) c.requires.lacks

pub returns-clause-others : goal.returns-clause-others
returns-clause-others c = added_others c.args.self.now.entries _ c.args.key (added c) (put_last c)

pub returns-clause-bytes : goal.returns-clause-bytes
returns-clause-bytes c = added_bytes c.args.self.now.entries _ c.args.key (added c) (put_last c)

use Rattle.std.proofs.Common.{◌≡◌, ℕ, ◌≤◌, ◌<◌, List, ◌++◌, Some, length, take, drop, sym, ap, subst, ◌∙◌, arith}
use Rattle.std.specs.Map.{lookup}
use Rattle.dg_catalogue.specs.Entries.{offset_in}
use Rattle.dg_disk.specs.Image.{HasRange, IsRangeOf}
use Rattle.dg_file.specs.Images.{IsOpenedAs}
use Rattle.dg_file.proofs.ImageColumns.{column_there, front_there}
use Rattle.dg_file.proofs.ImageParts.{range_filled}
use Rattle.dg_history.specs.declared.node.Key.{Key}
use Rattle.dg_history.specs.Keys.{same_key}
use Rattle.dg_index.specs.declared.entry.Entry.{Entry}
use Rattle.dg_index.specs.OpenedIndex.{column_at, entry_at}
use Rattle.dg_records.specs.ColumnReads.{Takes}
use Rattle.dg_records.specs.DeltaFronts.{read_of_delta}
use Rattle.dg_records.proofs.DeltaReads.{fit_long, fit_read, least_read, short_read, short_takes, unfit_read}
use Rattle.dg_records.proofs.KeptColumns.{fails_with, in_image}
use Rattle.dg_records.proofs.delta.read_delta.Given.{Over}
use Rattle.dg_records.proofs.delta.read_delta.Goals as goal
use Rattle.dg_records.proofs.delta.read_delta.Goals.{After-column_length-len, After-read_at}

-- ---- the column

held_there : (g : Over) (c : After-column_length-len g) → lookup (same_key c.args.key) c.args.index.now.opening.records ≡ Some c.unwrap-entry.result
held_there g c = ap (λ (es : List (Key × Entry)). lookup (same_key c.args.key) es) (sym c.catalogue.ensures.entries) ∙ sym c.entry.ensures.entry ∙ c.unwrap-entry.ensures

opened : (g : Over) (c : After-column_length-len g) (image : List ℕ) → g.D.Disk.image c.args.disk.now ≡ Some image → IsOpenedAs image c.args.index.now.opening
opened g c = in_image (g.D.Disk.image c.args.disk.now) (λ image. IsOpenedAs image c.args.index.now.opening) c.requires.image

-- ---- a short one

pub returns-then-len-le-DELTA_FRONT-clause-bytes : goal.returns-then-len-le-DELTA_FRONT-clause-bytes
returns-then-len-le-DELTA_FRONT-clause-bytes g c =
    let here = (goal.at.returns-then-len-le-DELTA_FRONT-clause-bytes g c).After-column_length-len in
    short_read c.args.index.now.opening c.args.key c.args.col c.requires.held c.unwrap-entry.result (held_there g here) c.column_length-len.result c.column_length-len.ensures
    c.fetch.result (g.D.Disk.image c.args.disk.now) c.if-len-le-DELTA_FRONT.true (opened g here) c.fetch.ensures.bytes

pub returns-then-len-le-DELTA_FRONT-clause-takes : goal.returns-then-len-le-DELTA_FRONT-clause-takes
returns-then-len-le-DELTA_FRONT-clause-takes g c =
    let here = (goal.at.returns-then-len-le-DELTA_FRONT-clause-takes g c).After-column_length-len in
    short_takes c.args.index.now.opening c.args.key c.args.col c.requires.held c.unwrap-entry.result (held_there g here) c.column_length-len.result c.column_length-len.ensures
    c.fetch.result (g.D.Disk.image c.args.disk.now) (g.D.Disk.taken c.args.disk.now) (g.D.Disk.taken c.fetch.new.disk) c.fetch.ensures.taken c.fetch.ensures.none_taken
    (short_read c.args.index.now.opening c.args.key c.args.col c.requires.held c.unwrap-entry.result (held_there g here) c.column_length-len.result c.column_length-len.ensures
    c.fetch.result (g.D.Disk.image c.args.disk.now) c.if-len-le-DELTA_FRONT.true (opened g here) c.fetch.ensures.bytes)

-- ---- another's first bytes

-- the column is there
range_there : (g : Over) (c : After-column_length-len g) (offset : ℕ) → offset ≡ offset_in c.unwrap-entry.result c.args.col → HasRange (g.D.Disk.image c.args.disk.now) offset c.column_length-len.result
range_there g c offset at =
    let told = g.D.Disk.image c.args.disk.now in
    let e : Entry = c.unwrap-entry.result in
    subst (λ n. HasRange told n c.column_length-len.result) (sym at)
    (subst (λ m. HasRange told (offset_in e c.args.col) m) (sym c.column_length-len.ensures) (column_there told c.args.index.now.opening c.args.key c.args.col e (held_there g c) c.requires.image))

pub read_at-requires : goal.read_at-requires
read_at-requires g c =
    let here = (goal.at.read_at-requires g c).After-column_length-len in
    front_there (g.D.Disk.image c.args.disk.now) c.column_offset-offset.result c.column_length-len.result 8 (omega (arith, c.if-len-le-DELTA_FRONT.false))
    (range_there g here c.column_offset-offset.result c.column_offset-offset.ensures)

-- ---- what was read

-- eight bytes were read first
short : (g : Over) (c : After-read_at g) → length c.read_at.new.into ≡ 8
short g c = omega (arith, c.read_at.auto.into)

abbrev column : (g : Over) → After-column_length-len g → List ℕ → List ℕ
column g c image = column_at image (entry_at c.args.index.now.opening c.args.key) c.args.col

-- and no less are to be read
least : (g : Over) (c : After-column_length-len g) (offset : ℕ) → offset ≡ offset_in c.unwrap-entry.result c.args.col → 8 < c.column_length-len.result → (image : List ℕ) → g.D.Disk.image c.args.disk.now ≡ Some image → 8 ≤ length (read_of_delta (column g c image))
least g c offset at more image is =
    least_read c.args.index.now.opening c.args.key c.args.col c.requires.held c.unwrap-entry.result (held_there g c) c.column_length-len.result c.column_length-len.ensures offset at more image (opened g c image is)

pub returns-in_err-to_vec-clause-takes : goal.returns-in_err-to_vec-clause-takes
returns-in_err-to_vec-clause-takes g c image is =
    let here = (goal.at.returns-in_err-to_vec-clause-takes g c).After-column_length-len in
    let few = least g here c.column_offset-offset.result c.column_offset-offset.ensures (omega (arith, c.if-len-le-DELTA_FRONT.false)) image is in
    let eight = short g (goal.at.returns-in_err-to_vec-clause-takes g c).After-read_at in
    fails_with c.from_residual-in_err-to_vec.result _ (length (read_of_delta (column g here image))) (g.D.Disk.taken c.args.disk.now) (g.D.Disk.taken c.read_at.new.self) c.from_residual-in_err-to_vec.ensures
    (omega (arith, c.in_ok-read_at.ensures.taken, few, eight))

pub returns-in_err-bytes-clause-takes : goal.returns-in_err-bytes-clause-takes
returns-in_err-bytes-clause-takes g c image is =
    let here = (goal.at.returns-in_err-bytes-clause-takes g c).After-column_length-len in
    let few = least g here c.column_offset-offset.result c.column_offset-offset.ensures (omega (arith, c.if-len-le-DELTA_FRONT.false)) image is in
    let eight = short g (goal.at.returns-in_err-bytes-clause-takes g c).After-read_at in
    fails_with c.from_residual-in_err-bytes.result _ (length (read_of_delta (column g here image))) (g.D.Disk.taken c.args.disk.now) (g.D.Disk.taken c.read_at.new.self) c.from_residual-in_err-bytes.ensures
    (omega (arith, c.in_ok-read_at.ensures.taken, few, eight))

pub returns-in_err-read_rest-clause-takes : goal.returns-in_err-read_rest-clause-takes
returns-in_err-read_rest-clause-takes g c image is =
    let here = (goal.at.returns-in_err-read_rest-clause-takes g c).After-column_length-len in
    let few = least g here c.column_offset-offset.result c.column_offset-offset.ensures (omega (arith, c.if-len-le-DELTA_FRONT.false)) image is in
    let eight = short g (goal.at.returns-in_err-read_rest-clause-takes g c).After-read_at in
    fails_with c.from_residual-in_err-read_rest.result _ (length (read_of_delta (column g here image))) (g.D.Disk.taken c.args.disk.now) (g.D.Disk.taken c.read_rest.new.disk) c.from_residual-in_err-read_rest.ensures
    (omega (arith, c.in_ok-read_at.ensures.taken, c.in_err-read_rest.ensures.none_taken, few, eight))

pub returns-then-not-counts_fit-clause-bytes : goal.returns-then-not-counts_fit-clause-bytes
returns-then-not-counts_fit-clause-bytes g c image is =
    let here = (goal.at.returns-then-not-counts_fit-clause-bytes g c).After-column_length-len in
    let range : IsRangeOf (Some image) c.column_offset-offset.result c.read_at.new.into = subst (λ t. IsRangeOf t c.column_offset-offset.result c.read_at.new.into) is c.in_ok-read_at.ensures.read in
    c.in_ok-to_vec.ensures.items_if_clones_equal (λ x y same. same)
    ∙ unfit_read c.args.index.now.opening c.args.key c.args.col c.requires.held c.unwrap-entry.result (held_there g here) c.column_length-len.result c.column_length-len.ensures
    c.column_offset-offset.result c.column_offset-offset.ensures (omega (arith, c.if-len-le-DELTA_FRONT.false)) image (opened g here image is)
    c.read_at.new.into (short g (goal.at.returns-then-not-counts_fit-clause-bytes g c).After-read_at) range (sym c.counts_fit.ensures ∙ c.if-not-counts_fit.true)

pub returns-then-not-counts_fit-clause-takes : goal.returns-then-not-counts_fit-clause-takes
returns-then-not-counts_fit-clause-takes g c image is =
    let here = (goal.at.returns-then-not-counts_fit-clause-takes g c).After-column_length-len in
    let range : IsRangeOf (Some image) c.column_offset-offset.result c.read_at.new.into = subst (λ t. IsRangeOf t c.column_offset-offset.result c.read_at.new.into) is c.in_ok-read_at.ensures.read in
    let same = unfit_read c.args.index.now.opening c.args.key c.args.col c.requires.held c.unwrap-entry.result (held_there g here) c.column_length-len.result c.column_length-len.ensures
    c.column_offset-offset.result c.column_offset-offset.ensures (omega (arith, c.if-len-le-DELTA_FRONT.false)) image (opened g here image is)
    c.read_at.new.into (short g (goal.at.returns-then-not-counts_fit-clause-takes g c).After-read_at) range (sym c.counts_fit.ensures ∙ c.if-not-counts_fit.true) in
    subst (λ n. Takes n (g.D.Disk.taken c.args.disk.now) (g.D.Disk.taken c.read_at.new.self)) (ap length same) (omega (arith, c.in_ok-read_at.ensures.taken))

-- ---- the rest

pub read_rest-requires-clause-range : goal.read_rest-requires-clause-range
read_rest-requires-clause-range g c =
    let here = (goal.at.read_rest-requires-clause-range g c).After-column_length-len in
    subst (λ t. HasRange t c.column_offset-offset.result (length c.deref_mut.result.now)) (sym c.read_at.ensures.frame.same_image)
    (subst (λ n. HasRange (g.D.Disk.image c.args.disk.now) c.column_offset-offset.result n) (sym (c.deref_mut.ensures.len ∙ c.in_ok-bytes.ensures.len)) (range_there g here c.column_offset-offset.result c.column_offset-offset.ensures))

pub returns-clause-bytes : goal.returns-clause-bytes
returns-clause-bytes g c image is =
    let here = (goal.at.returns-clause-bytes g c).After-column_length-len in
    let offset = c.column_offset-offset.result in
    let len = c.column_length-len.result in
    let told = g.D.Disk.image c.args.disk.now in
    let range : IsRangeOf (Some image) offset c.read_at.new.into = subst (λ t. IsRangeOf t offset c.read_at.new.into) is c.in_ok-read_at.ensures.read in
    let long : length c.read_rest.new.into ≡ len = omega (arith, c.read_rest.auto.into, c.deref_mut.ensures.len, c.in_ok-bytes.ensures.len) in
    let filled =
    range_filled told c.read_rest.new.into c.in_ok-bytes.bytes.items offset len c.in_ok-bytes.bytes.len long c.in_ok-bytes.ensures.len
    (subst (λ t. IsRangeOf t offset c.read_rest.new.into) c.read_at.ensures.frame.same_image c.in_ok-read_rest.ensures.read) in
    fit_read c.args.index.now.opening c.args.key c.args.col c.requires.held c.unwrap-entry.result (held_there g here) len c.column_length-len.ensures
    offset c.column_offset-offset.ensures (omega (arith, c.if-len-le-DELTA_FRONT.false)) image (opened g here image is)
    c.read_at.new.into _ (short g (goal.at.returns-clause-bytes g c).After-read_at) range (sym c.counts_fit.ensures ∙ c.if-not-counts_fit.false)
    (in_image told (λ image. take c.in_ok-bytes.bytes.len (c.read_rest.new.into ++ drop (length c.read_rest.new.into) c.in_ok-bytes.bytes.items) ≡ take len (drop offset image)) filled image is)

pub returns-clause-takes : goal.returns-clause-takes
returns-clause-takes g c image is =
    let here = (goal.at.returns-clause-takes g c).After-column_length-len in
    let offset = c.column_offset-offset.result in
    let len = c.column_length-len.result in
    let more : 8 < len = omega (arith, c.if-len-le-DELTA_FRONT.false) in
    let range : IsRangeOf (Some image) offset c.read_at.new.into = subst (λ t. IsRangeOf t offset c.read_at.new.into) is c.in_ok-read_at.ensures.read in
    let eight = short g (goal.at.returns-clause-takes g c).After-read_at in
    let all =
    fit_long c.args.index.now.opening c.args.key c.args.col c.requires.held c.unwrap-entry.result (held_there g here) len c.column_length-len.ensures
    offset c.column_offset-offset.ensures more image (opened g here image is) c.read_at.new.into eight range (sym c.counts_fit.ensures ∙ c.if-not-counts_fit.false) in
    let room : length c.deref_mut.result.now ≡ len = omega (arith, c.deref_mut.ensures.len, c.in_ok-bytes.ensures.len) in
    subst (λ n. Takes n (g.D.Disk.taken c.args.disk.now) (g.D.Disk.taken c.read_rest.new.disk)) (sym all) (omega (arith, c.in_ok-read_at.ensures.taken, c.in_ok-read_rest.ensures.taken, eight, room, more))

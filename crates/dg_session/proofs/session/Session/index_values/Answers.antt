use Rattle.std.proofs.Common.{◌≡◌, [], None, Some, Err, refl, sym, ◌∙◌, ap, subst, arith}
use Rattle.dg_batch.specs.declared.halt.Halt.TheVariants as halt
use Rattle.dg_batch.specs.Halt.{retrieval_halt}
use Rattle.dg_machine.specs.declared.command.Command.{Command}
use Rattle.dg_machine.specs.declared.command.Command.TheVariants as command
use Rattle.dg_machine.specs.declared.reply.Refusal.TheVariants as refusal
use Rattle.dg_machine.specs.declared.reply.Reply.{Reply}
use Rattle.dg_machine.specs.declared.reply.Reply.TheVariants as replied
use Rattle.dg_machine.specs.Needs.{needs}
use Rattle.dg_machine.specs.ValueIndex.{key_text}
use Rattle.dg_session.proofs.DamageStep.{damage_in, none_met, tells_no_damage}
use Rattle.dg_session.proofs.SessionIndexStep.{index_answers, index_fails, index_most_of, index_never_of, index_said_of, index_taken_of, index_there}
use Rattle.dg_session.proofs.SessionRetrievals.{reads_exactly, reads_failing, reads_unasked, retrieval_failed}
use Rattle.dg_session.proofs.SessionSteps.{handed_out, lacking_denies, refused_denies, refused_not_read}
use Rattle.dg_session.specs.Damage.{DamageIn, DamageIs, MeetsNone, reads_for, value_readings}
use Rattle.dg_session.specs.Parts.{Parts}
use Rattle.dg_session.specs.Reads.{Reads, ReadsIn}
use Rattle.dg_session.specs.Session.{Accepts, ComesTo, index_needs, refused_by}
use Rattle.dg_session.specs.SessionState.{SessionState}
use Rattle.dg_text.specs.Names.{number_of}
use Rattle.dg_session.proofs.session.Session.index_values.Goals as goal
use Rattle.dg_session.proofs.session.Session.index_values.Given.{Over}
use Rattle.dg_session.proofs.session.Session.index_values.Goals.{After-make_room}

-- with room for one index more the session is as it was
same : (g : Over) (c : After-make_room g) → c.make_room.new.self.parts ≡ c.args.self.now.parts
same g c = ap (λ (x : SessionState). x.parts) c.make_room.ensures

-- nothing refuses it
none : (g : Over) (c : After-make_room g) → refused_by c.args.self.now.parts 0 (index_needs (key_text c.args.key)) ≡ None
none g c = ap (λ text. refused_by c.args.self.now.parts 0 (index_needs text)) (sym c.key_text.ensures) ∙ c.in_ok-number.ensures.free

free : (g : Over) (c : After-make_room g) → refused_by c.make_room.new.self.parts 0 (index_needs (key_text c.args.key)) ≡ None
free g c = ap (λ (x : Parts). refused_by x 0 (index_needs (key_text c.args.key))) (same g c) ∙ none g c

pub values_bytes-weight-requires : goal.values_bytes-weight-requires
values_bytes-weight-requires g c =
    let here = (goal.at.values_bytes-weight-requires g c).After-make_room in
    index_there c.make_room.new.self.parts (key_text c.args.key) (free g here)

pub read_values-requires-clause-there : goal.read_values-requires-clause-there
read_values-requires-clause-there g c =
    let here = (goal.at.read_values-requires-clause-there g c).After-make_room in
    index_there c.make_room.new.self.parts (key_text c.args.key) (free g here)

pub returns-in_err-number-clause-comes : goal.returns-in_err-number-clause-comes
returns-in_err-number-clause-comes g c =
    let p : Parts = c.args.self.now.parts in
    let image = g.D.Disk.image c.args.disk.now in
    let done : Command = command.Index c.args.key in
    let r = c.in_err-number.field-0.0 in
    handed_out c.from_residual.result (halt.Refusal r) (ComesTo done [] p image p image) c.from_residual.ensures
    (refused_denies done [] p p image image r refl refl (ap (λ text. refused_by p 0 (index_needs text)) (sym c.key_text.ensures) ∙ c.in_err-number.ensures.refused))

pub returns-in_err-make_room-clause-comes : goal.returns-in_err-make_room-clause-comes
returns-in_err-make_room-clause-comes g c =
    let p : Parts = c.args.self.now.parts in
    let image = g.D.Disk.image c.args.disk.now in
    let done : Command = command.Index c.args.key in
    let here = (goal.at.returns-in_err-make_room-clause-comes g c).After-make_room in
    handed_out c.from_residual-in_err-make_room.result (halt.Refusal refusal.OutOfMemory) (ComesTo done [] p image c.make_room.new.self.parts image) c.from_residual-in_err-make_room.ensures
    (lacking_denies done [] p c.make_room.new.self.parts image image (same g here) refl refl (none g here))

pub returns-in_err-values-clause-comes : goal.returns-in_err-values-clause-comes
returns-in_err-values-clause-comes g c =
    let p : Parts = c.make_room.new.self.parts in
    let image = g.D.Disk.image c.args.disk.now in
    let then_image = g.D.Disk.image c.read_values.new.disk in
    let done : Command = command.Index c.args.key in
    let here = (goal.at.returns-in_err-values-clause-comes g c).After-make_room in
    let f = c.in_err-values.field-0.0 in
    handed_out c.from_residual-in_err-values.result (retrieval_halt f) (ComesTo done [] c.args.self.now.parts image p then_image) c.from_residual-in_err-values.ensures
    (subst (λ (x : Parts). ComesTo done [] x image p then_image (Err (retrieval_halt f))) (same g here)
    (retrieval_failed done p p image then_image f refl refl (λ m. refl) (free g here) refl c.read_values.ensures.disk.same_image
    (index_never_of p c.in_ok-number.number image (g.D.Disk.taken c.args.disk.now) (g.D.Disk.taken c.read_values.new.disk) f c.in_err-values.ensures.over)))

pub returns-in_err-keep-clause-comes : goal.returns-in_err-keep-clause-comes
returns-in_err-keep-clause-comes g c =
    let image = g.D.Disk.image c.args.disk.now in
    let then_image = g.D.Disk.image c.read_values.new.disk in
    let done : Command = command.Index c.args.key in
    let here = (goal.at.returns-in_err-keep-clause-comes g c).After-make_room in
    handed_out c.from_residual-in_err-keep.result (halt.Refusal refusal.OutOfMemory) (ComesTo done [] c.args.self.now.parts image c.keep.new.self.parts then_image) c.from_residual-in_err-keep.ensures
    (lacking_denies done [] c.args.self.now.parts c.keep.new.self.parts image then_image (ap (λ (x : SessionState). x.parts) c.in_err-keep.ensures.err ∙ same g here) c.read_values.ensures.disk.same_image refl (none g here))

pub returns-clause-comes : goal.returns-clause-comes
returns-clause-comes g c =
    let p : Parts = c.make_room.new.self.parts in
    let image = g.D.Disk.image c.args.disk.now in
    let then_image = g.D.Disk.image c.read_values.new.disk in
    let here = (goal.at.returns-clause-comes g c).After-make_room in
    let key = c.in_ok-number.number in
    let aux = c.in_ok-values.values in
    let named : number_of p.names (key_text c.args.key) ≡ Some key =
    (λ i. number_of (same g here i).names (sym c.key_text.ensures i)) ∙ c.in_ok-number.ensures.key in
    subst (λ (x : Parts). Accepts (command.Index c.args.key) [] x image c.keep.new.self.parts then_image c.headed.result) (same g here)
    (index_answers p c.args.key key named (free g here) c.law_turns_add_as_their_events.ensures c.keep.new.self.parts image then_image c.values_bytes-weight.result c.spans-spans.result aux c.headed.result
    c.read_values.ensures.disk.same_image c.values_bytes-weight.ensures
    (index_said_of p key image (g.D.Disk.taken c.args.disk.now) (g.D.Disk.taken c.read_values.new.disk) aux c.in_ok-values.ensures.over)
    c.spans-spans.ensures c.in_ok-keep.ensures.kept c.headed.ensures)

pub returns-in_err-number-clause-file : goal.returns-in_err-number-clause-file
returns-in_err-number-clause-file g c =
    let p : Parts = c.args.self.now.parts in
    let image = g.D.Disk.image c.args.disk.now in
    let done : Command = command.Index c.args.key in
    let r = c.in_err-number.field-0.0 in
    let taken = g.D.Disk.taken c.args.disk.now in
    record {
      damaged = handed_out c.from_residual.result (halt.Refusal r) (λ x. DamageIn done p image x) c.from_residual.ensures
          (tells_no_damage done p image r (refused_not_read p 0 (needs done) r (ap (λ text. refused_by p 0 (index_needs text)) (sym c.key_text.ensures) ∙ c.in_err-number.ensures.refused)));
      undamaged = none_met c.from_residual.result (MeetsNone (reads_for done) p image) c.from_residual.ensures.0;
      reads = handed_out c.from_residual.result (halt.Refusal r) (λ x. ReadsIn done p image x taken taken) c.from_residual.ensures (reads_unasked done p image r taken (λ m got plan planned. omega arith));
    }

pub returns-in_err-make_room-clause-file : goal.returns-in_err-make_room-clause-file
returns-in_err-make_room-clause-file g c =
    let p : Parts = c.args.self.now.parts in
    let image = g.D.Disk.image c.args.disk.now in
    let done : Command = command.Index c.args.key in
    let taken = g.D.Disk.taken c.args.disk.now in
    record {
      damaged = handed_out c.from_residual-in_err-make_room.result (halt.Refusal refusal.OutOfMemory) (λ x. DamageIn done p image x) c.from_residual-in_err-make_room.ensures tt;
      undamaged = none_met c.from_residual-in_err-make_room.result (MeetsNone (reads_for done) p image) c.from_residual-in_err-make_room.ensures.0;
      reads = handed_out c.from_residual-in_err-make_room.result (halt.Refusal refusal.OutOfMemory) (λ x. ReadsIn done p image x taken taken) c.from_residual-in_err-make_room.ensures
          (reads_unasked done p image refusal.OutOfMemory taken (λ m got plan planned. omega arith));
    }

pub returns-in_err-values-clause-file : goal.returns-in_err-values-clause-file
returns-in_err-values-clause-file g c =
    let p : Parts = c.make_room.new.self.parts in
    let image = g.D.Disk.image c.args.disk.now in
    let done : Command = command.Index c.args.key in
    let here = (goal.at.returns-in_err-values-clause-file g c).After-make_room in
    let f = c.in_err-values.field-0.0 in
    let before = g.D.Disk.taken c.args.disk.now in
    let after = g.D.Disk.taken c.read_values.new.disk in
    record {
      damaged = handed_out c.from_residual-in_err-values.result (retrieval_halt f) (λ x. DamageIn done c.args.self.now.parts image x) c.from_residual-in_err-values.ensures
          (subst (λ (x : Parts). DamageIn done x image (Err (retrieval_halt f))) (same g here) (damage_in done value_readings p image f refl c.in_err-values.ensures.damage));
      undamaged = none_met c.from_residual-in_err-values.result (MeetsNone (reads_for done) c.args.self.now.parts image) c.from_residual-in_err-values.ensures.0;
      reads = handed_out c.from_residual-in_err-values.result (retrieval_halt f) (λ x. ReadsIn done c.args.self.now.parts image x before after) c.from_residual-in_err-values.ensures
          (subst (λ (x : Parts). ReadsIn done x image (Err (retrieval_halt f)) before after) (same g here)
          (reads_failing done p image f before after
          (λ h refuses late. index_fails p c.args.key (free g here) image h before after refuses late
          (index_most_of p c.in_ok-number.number image before after c.read_values.result c.read_values.ensures.over))));
    }

pub returns-in_err-keep-clause-file : goal.returns-in_err-keep-clause-file
returns-in_err-keep-clause-file g c =
    let p : Parts = c.make_room.new.self.parts in
    let image = g.D.Disk.image c.args.disk.now in
    let done : Command = command.Index c.args.key in
    let here = (goal.at.returns-in_err-keep-clause-file g c).After-make_room in
    let before = g.D.Disk.taken c.args.disk.now in
    let after = g.D.Disk.taken c.read_values.new.disk in
    record {
      damaged = handed_out c.from_residual-in_err-keep.result (halt.Refusal refusal.OutOfMemory) (λ x. DamageIn done c.args.self.now.parts image x) c.from_residual-in_err-keep.ensures tt;
      undamaged = none_met c.from_residual-in_err-keep.result (MeetsNone (reads_for done) c.args.self.now.parts image) c.from_residual-in_err-keep.ensures.0;
      reads = handed_out c.from_residual-in_err-keep.result (halt.Refusal refusal.OutOfMemory) (λ x. ReadsIn done c.args.self.now.parts image x before after) c.from_residual-in_err-keep.ensures
          (subst (λ (x : Parts). Reads done x image (replied.Refused refusal.OutOfMemory) before after) (same g here)
          (index_fails p c.args.key (free g here) image (replied.Refused refusal.OutOfMemory) before after refl refl
          (index_most_of p c.in_ok-number.number image before after c.read_values.result c.read_values.ensures.over)));
    }

pub returns-clause-file : goal.returns-clause-file
returns-clause-file g c =
    let p : Parts = c.make_room.new.self.parts in
    let image = g.D.Disk.image c.args.disk.now in
    let done : Command = command.Index c.args.key in
    let here = (goal.at.returns-clause-file g c).After-make_room in
    let before = g.D.Disk.taken c.args.disk.now in
    let after = g.D.Disk.taken c.read_values.new.disk in
    record {
      damaged = subst (DamageIs done c.args.self.now.parts image) (sym c.headed.ensures) tt;
      undamaged = subst (λ (x : Parts). MeetsNone (reads_for done) x image) (same g here) c.in_ok-values.ensures.damage;
      reads = subst (λ (x : Parts). Reads done x image c.headed.result before after) (same g here)
          (subst (λ (x : Reply). Reads done p image x before after) (sym c.headed.ensures)
          (reads_exactly done p image _ before after refl refl (λ m got takes. takes)
          (index_taken_of p c.in_ok-number.number image before after c.in_ok-values.values c.values_bytes-weight.result c.values_bytes-weight.ensures c.in_ok-values.ensures.over)));
    }

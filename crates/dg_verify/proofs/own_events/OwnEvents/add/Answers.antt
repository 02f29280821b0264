use Rattle.std.proofs.Common.{◌≡◌, ℕ, [], ◌∷◌, ◌++◌, length, ◌∙◌, ap, arith}
use Rattle.dg_verify.specs.declared.own_events.OwnEvents.{OwnEvents}
use Rattle.dg_verify.proofs.EventTestRecords.{one_record, read_more, record_of}
use Rattle.dg_verify.proofs.own_events.OwnEvents.add.Goals as goal

pub returns-clause-read : goal.returns-clause-read
returns-clause-read c name_count read named =
    let after : OwnEvents = record { events = c.extend_from_slice.new.self; records = c.push.new.self } in
    let many : c.len-end.result ≡ length c.extend_from_slice.new.self.items = omega (arith, c.len-end.ensures, c.extend_from_slice.new.self.ok) in
    read_more c.args.self.now after c.args.key c.args.events.now c.requires.stand c.in_ok-extend_from_slice.ensures.items
    (c.in_ok-push.ensures.items ∙ ap (λ (n : ℕ). c.args.self.now.records.items ++ record_of c.args.key n ∷ []) many) name_count read c.requires.fit named c.requires.timed

pub returns-clause-behind : goal.returns-clause-behind
returns-clause-behind c names right =
    let after : OwnEvents = record { events = c.extend_from_slice.new.self; records = c.push.new.self } in
    let many : c.len-end.result ≡ length c.extend_from_slice.new.self.items = omega (arith, c.len-end.ensures, c.extend_from_slice.new.self.ok) in
    one_record c.args.self.now after c.args.key c.args.events.now c.requires.stand c.in_ok-extend_from_slice.ensures.items
    (c.in_ok-push.ensures.items ∙ ap (λ (n : ℕ). c.args.self.now.records.items ++ record_of c.args.key n ∷ []) many) names right

use Rattle.std.proofs.Common.{sym, ◌∙◌}
use Rattle.dg_segment.proofs.DirectoryTexts.{text_to, name_short, no_name, fresh_name, name_taken, name_stale, name_lacks}
use Rattle.dg_segment.proofs.names_read.read_name.Goals as goal

pub insert-requires-clause-short : goal.insert-requires-clause-short
insert-requires-clause-short c = name_short _ (sym c.is_name.ensures ∙ c.if-not-is_name.false)

pub returns-in_default-clause-broken : goal.returns-in_default-clause-broken
returns-in_default-clause-broken c = λ _. name_lacks c.args.bytes.now c.args.at c.args.names.now c.in_default.ensures.end

pub returns-then-not-is_name-clause-broken : goal.returns-then-not-is_name-clause-broken
returns-then-not-is_name-clause-broken c = λ _. name_stale c.args.bytes.now c.args.at c.args.names.now c.in-Some.end c.in-Some.ensures.end (no_name c.args.names.now (text_to c.args.bytes.now c.args.at c.args.names.now c.in-Some.end) (sym c.is_name.ensures ∙ c.if-not-is_name.true))

pub returns-then-not-is_new-clause-broken : goal.returns-then-not-is_new-clause-broken
returns-then-not-is_new-clause-broken c = λ _. name_stale c.args.bytes.now c.args.at c.args.names.now c.in-Some.end c.in-Some.ensures.end (fresh_name c.args.names.now (text_to c.args.bytes.now c.args.at c.args.names.now c.in-Some.end) _ (sym c.is_name.ensures ∙ c.if-not-is_name.false) c.in_ok-is_new.ensures.new ∙ c.if-not-is_new.true)

pub returns-clause-taken : goal.returns-clause-taken
returns-clause-taken c = name_taken c.args.bytes.now c.args.at c.args.names.now c.in-Some.end _ c.in-Some.ensures.end (fresh_name c.args.names.now (text_to c.args.bytes.now c.args.at c.args.names.now c.in-Some.end) _ (sym c.is_name.ensures ∙ c.if-not-is_name.false) c.in_ok-is_new.ensures.new ∙ c.if-not-is_new.false) c.in_ok-is_new.ensures.added

use Rattle.std.proofs.Common.{◌≡◌, ◌+◌, ◌-◌, None, Ok, [], ap, sym, ◌∙◌, arith}
use Rattle.dg_graph.specs.ColumnGrammar.{element_size, elements_at}
use Rattle.dg_columns.specs.Fields.{next_element_at}
use Rattle.dg_columns.proofs.ColumnGrammarDeltas.{next_beside}
use Rattle.dg_columns.proofs.SoundEnds.{one_before, none_left}
use Rattle.dg_columns.proofs.sound_elements.end_here.Goals as goal

pub loop-init : goal.loop-init
loop-init c =
    let all : c.args.count - 0 ≡ c.args.count = omega arith in
    record {
      goes_on = λ p e. (p.0, ap (λ n. elements_at n c.args.col c.args.name_count c.args.bytes.now c.args.others.now c.args.start None) (sym all) ∙ e);
      within = c.requires;
    }

pub loop-preserved : goal.loop-preserved
loop-preserved c =
    let x = c.in_ok-element.element in
    let bytes = c.args.bytes.now in
    let others = c.args.others.now in
    let last = c.loop.last in
    let next : c.loop.offset + c.element_size-offset.result ≡ c.loop.offset + element_size x = omega (arith, c.element_size-offset.ensures) in
    let alone : next_element_at c.args.col c.args.name_count bytes [] c.loop.offset last ≡ Ok x =
    ap (next_element_at c.args.col c.args.name_count bytes [] c.loop.offset) (sym c.as_ref.ensures.value) ∙ c.in_ok-element.ensures.element in
    let read = next_beside c.args.col c.args.name_count bytes others c.loop.offset last x alone (c.is_new.ensures c.if-not-is_new.false) in
    record {
      goes_on = λ p e.
          let whole = c.loop.invariant.goes_on (_, p.1) (one_before c.args.col c.args.name_count bytes others c.args.count c.loop.counter c.loop.offset last c.loop-test.true x _ next read p e) in
          (whole.0, whole.1);
      within = omega (arith, c.in_ok-element.ensures.fits, c.element_size-offset.ensures);
    }

pub returns-clause-elements : goal.returns-clause-elements
returns-clause-elements c =
    c.loop.invariant.goes_on ([], c.loop.offset) (none_left c.args.count c.loop.counter c.args.col c.args.name_count c.args.bytes.now c.args.others.now c.loop.offset c.loop.last c.loop-test.false)

use Rattle.std.proofs.Common.{◌≡◌, max, Bor, List, [], subst, true, arith, rules}
use Rattle.std.specs.List.{list_all}
use Rattle.std.proofs.lemmas.List.{get_or-map, length-map, take_all}
use Rattle.dg_grammar.specs.declared.grammar.Symbol.{Symbol}
use Rattle.dg_grammar.specs.Prefixes.{IsLongestPrefix}
use Rattle.dg_grammar.specs.Symbols.{Terminal, IsLineOf, IsLineOfOne, is_well_formed, row_of, rows_of}
use Rattle.dg_grammar.proofs.ListElements.{any_none, passes_at}
use Rattle.dg_grammar.proofs.Prefixes.{no_prefix}
use Rattle.dg_grammar.proofs.Symbols.{rows_more}
use Rattle.dg_grammar.proofs.grammar.longest_prefix.Goals as goal

pub loop-row-init : goal.loop-row-init
loop-row-init c = no_prefix (IsLineOfOne []) c.args.line.now (λ line. any_none (λ (row : List Terminal). IsLineOf row line))

pub row_prefix-requires : goal.row_prefix-requires
row_prefix-requires c =
    let rows = c.args.rows.now in
    let i = c.loop-row.row-index in
    let size = length-map rows (λ (row : Bor (List Symbol)). row_of row.now) in
    let passes = passes_at (list_all is_well_formed) (rows_of rows) i [] c.requires (omega arith) in
    subst (λ (row : List Terminal). list_all is_well_formed row ≡ true) (get_or-map (λ (row : Bor (List Symbol)). row_of row.now) rows i _ [] (omega arith)) passes

pub loop-row-preserved : goal.loop-row-preserved
loop-row-preserved c =
    let rows = c.args.rows.now in
    let i = c.loop-row.row-index in
    let size = length-map rows (λ (row : Bor (List Symbol)). row_of row.now) in
    let is : c.max-longest.result ≡ max c.loop-row.longest c.row_prefix.result = search rules in
    rows_more (rows_of rows) i _ c.args.line.now c.loop-row.longest c.row_prefix.result c.max-longest.result (omega arith)
    (get_or-map (λ (row : Bor (List Symbol)). row_of row.now) rows i _ [] (omega arith)) c.loop-row.invariant c.row_prefix.ensures is

pub returns : goal.returns
returns c =
    let rows = rows_of c.args.rows.now in
    let size = length-map c.args.rows.now (λ (row : Bor (List Symbol)). row_of row.now) in
    subst (λ (rs : List (List Terminal)). IsLongestPrefix (IsLineOfOne rs) c.args.line.now c.loop-row.longest) (take_all c.loop-row.row-index rows (omega arith)) c.loop-row.invariant

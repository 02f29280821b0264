use Rattle.std.proofs.Common.{◌≡◌, ◌⊎◌, inl, inr, ◌<◌, ◌+◌, ◌-◌, ◌∷◌, [], ℕ, zero, suc, List, ap, arith, drop, get_or, length, map, sym, subst, ◌∙◌}
use Rattle.std.specs.List.{Contains}
use Rattle.std.proofs.lemmas.Bool.{true≢false}
use Rattle.std.proofs.lemmas.List.{drop_more}
use Rattle.std.proofs.lemmas.List.Elements.{Contains-append_cases}
use Rattle.std.proofs.lemmas.Result.{IfOk-weaker}
use Rattle.dg_graph.specs.declared.element.Column.{Column}
use Rattle.dg_history.specs.declared.node.Key.{Key}
use Rattle.dg_fold.specs.declared.part.Part.{Part}
use Rattle.dg_fold.specs.Parts.{bytes_in}
use Rattle.dg_fold.proofs.fetch.held.Goals as goal

pub returns-then-is_same : goal.returns-then-is_same
returns-then-is_same c =
    let part : Part = c.index-parts-i.result in
    IfOk-weaker c.copied.result (λ b. (col : Column) → bytes_in b col ≡ bytes_in part.bytes col)
    (λ b. (p : Part) × Contains c.args.parts.now p × (p.key ≡ c.args.key) × ((col : Column) → bytes_in b col ≡ bytes_in p.bytes col))
    (λ b same. (part, (c.loop-i.i - 1, (let a = c.loop-i.auto.i in let t = c.loop-i-test.true in omega arith), sym c.index-parts-i.is), c.is_same.ensures.same c.if-is_same.true, same)) c.copied.ensures

alone : (x y : Key) (k : ℕ) → k < 1 → get_or (x ∷ []) k y ≡ y → x ≡ y
alone x y zero less is = is
alone x y (suc k) less is = absurd (omega arith)

-- no part from the next on has the key
none_there : (parts : List Part) (i j : ℕ) (key : Key) (d : Part) → i < length parts → j ≡ i + 1 → (Contains (map (λ (p : Part). p.key) (drop j parts)) key → ⊥)
    → ((get_or parts i d).key ≡ key → ⊥) → Contains (map (λ (p : Part). p.key) (drop i parts)) key → ⊥
none_there parts i j key d less next none other there =
    by (Contains-append_cases ((get_or parts i d).key ∷ []) (map (λ (p : Part). p.key) (drop (i + 1) parts)) key
    (subst (λ l. Contains (map (λ (p : Part). p.key) l) key) (drop_more parts i d less) there))
  where
    by : Contains ((get_or parts i d).key ∷ []) key ⊎ Contains (map (λ (p : Part). p.key) (drop (i + 1) parts)) key → ⊥
    by (inl first) = other (alone (get_or parts i d).key key first.0 first.1 first.2)
    by (inr later) = none (subst (λ k. Contains (map (λ (p : Part). p.key) (drop k parts)) key) (sym next) later)

pub loop-i-preserved : goal.loop-i-preserved
loop-i-preserved c =
    let part : Part = c.index-parts-i.result in
    let a = c.loop-i.auto.i in
    let t = c.loop-i-test.true in
    none_there c.args.parts.now (c.loop-i.i - 1) c.loop-i.i c.args.key part (omega arith) (omega arith) c.loop-i.invariant
    (λ e. true≢false (sym (c.is_same.ensures.all (ap (λ (p : Part). p.key) c.index-parts-i.is ∙ e)) ∙ c.if-is_same.false))

pub unreachable-requires : goal.unreachable-requires
unreachable-requires c =
    let none : c.loop-i.i ≡ 0 = (let t = c.loop-i-test.false in omega arith) in
    c.loop-i.invariant (subst (λ i. Contains (map (λ (p : Part). p.key) (drop i c.args.parts.now)) c.args.key) (sym none) c.requires)

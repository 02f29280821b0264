use Rattle.std.proofs.Common.{List, false, ◌≡◌, ℕ, ◌+◌, ◌<◌, ◌≤◌, length, Some, refl, sym, ap, subst, ◌∙◌, arith, inl, inr}
use Rattle.std.specs.Prelude.{slice_get, slice_index_or, ◌⊎◌}
use Rattle.std.proofs.lemmas.Bool.{cases_order, false≢true}
use Rattle.std.proofs.lemmas.Option.{slice_get-get_or, slice_get_within, same_Some}
use Rattle.dg_path.specs.declared.search.Link.{Link}
use Rattle.dg_path.specs.declared.search.Cost.{Cost as Label}
use Rattle.dg_path.specs.Search.{IsNext, Meets}
use Rattle.dg_path.proofs.SearchLinks.{next_here}
use Rattle.dg_path.proofs.plan.best.Goals as goal

abbrev none : Link
none = record { tail = 0; head = 0; weight = 0 }

-- no link before `at` meets, and one does: so `at` is a link
within : (links : List Link) (costs : List Label) (node at : ℕ) → ((k : ℕ) (m : Link) → k < at → slice_get links k ≡ Some m → m.head ≡ node → Meets costs m → ⊥)
    → (k : ℕ) × (l : Link) × (slice_get links k ≡ Some l) × (l.head ≡ node) × Meets costs l → at < length links
within links costs node at before some = by (cases_order some.0 at)
  where
    by : (some.0 ≡ at) ⊎ ((some.0 < at) ⊎ (at < some.0)) → at < length links
    by (inl e) = let h = slice_get_within links some.0 some.1 some.2 in omega arith
    by (inr (inl below)) = absurd (before some.0 some.1 below some.2 some.3 some.4)
    by (inr (inr above)) = let h = slice_get_within links some.0 some.1 some.2 in omega arith

-- no link before the next one meets either
still : (links : List Link) (costs : List Label) (node at r : ℕ) (link : Link) → slice_get links at ≡ Some link → (Meets costs link → ⊥) → IsNext false links node (at + 1) r
    → ((k : ℕ) (m : Link) → k < at → slice_get links k ≡ Some m → m.head ≡ node → Meets costs m → ⊥) → (k : ℕ) (m : Link) → k < r → slice_get links k ≡ Some m → m.head ≡ node → Meets costs m → ⊥
still links costs node at r link there fails next before k m below is enters meets = by (cases_order k at)
  where
    by : (k ≡ at) ⊎ ((k < at) ⊎ (at < k)) → ⊥
    by (inl e) = fails (subst (Meets costs) (same_Some _ _ (sym is ∙ (ap (slice_get links) e ∙ there))) meets)
    by (inr (inl earlier)) = before k m earlier is enters meets
    by (inr (inr later)) = next.skipped k m (omega arith) below is enters

pub loop-edge-preserved : goal.loop-edge-preserved
loop-edge-preserved c =
    let links = c.args.links.now in
    let at = c.loop-edge.edge in
    let link = slice_index_or links at none in
    let there : slice_get links at ≡ Some link = slice_get-get_or links at none (within links c.args.costs.now c.args.node at c.loop-edge.invariant.1 c.requires.some) in
    let enters : link.head ≡ c.args.node = c.loop-edge.invariant.0.there link there in
    let next : IsNext false links c.args.node (at + 1) (slice_index_or c.args.next.now at 0) =
    subst (λ n. IsNext false links n (at + 1) (slice_index_or c.args.next.now at 0)) enters (c.requires.adjacent.next_is at link (omega arith) there) in (
      next_here false links c.args.node (at + 1) _ next,
      still links c.args.costs.now c.args.node at _ link there (λ meets. false≢true (c.loop-edge-test.ensures.1 meets)) next c.loop-edge.invariant.1,
    )

pub returns : goal.returns
returns c =
    let links = c.args.links.now in
    let at = c.loop-edge.edge in
    let link = slice_index_or links at none in
    let there : slice_get links at ≡ Some link = slice_get-get_or links at none (within links c.args.costs.now c.args.node at c.loop-edge.invariant.1 c.requires.some) in
    record {
      link = link;
      there = there;
      enters = c.loop-edge.invariant.0.there link there;
      meets = c.loop-edge-test.ensures.0 refl;
      first = λ k l is enters meets. by links c.args.costs.now c.args.node at k l is enters meets c.loop-edge.invariant.1 (cases_order k at);
    }
  where
    by : (links : List Link) (costs : List Label) (node at k : ℕ) (l : Link) → slice_get links k ≡ Some l → l.head ≡ node → Meets costs l
        → ((k : ℕ) (m : Link) → k < at → slice_get links k ≡ Some m → m.head ≡ node → Meets costs m → ⊥) → (k ≡ at) ⊎ ((k < at) ⊎ (at < k)) → at ≤ k
    by links costs node at k l is enters meets before (inl e) = omega arith
    by links costs node at k l is enters meets before (inr (inl below)) = absurd (before k l below is enters meets)
    by links costs node at k l is enters meets before (inr (inr above)) = omega arith
